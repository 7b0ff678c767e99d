use Rattle.std.proofs.lemmas.Result.{err_from_is_err_and}
use Rattle.reader.proofs.Storing.{fill-room, fill-accepted, fill-refused}
use mathlib.Core.Path.{refl}
use native.Mathlib.Omega.{arith}
use Rattle.extract.proofs.extract_sized.Goals as goal

pub fill-requires : goal.fill-requires
fill-requires g c = fill-room _ _ _ c.args.table.now _ refl _ c.extract_notes.ensures _ c.in_ok-sizes.was

pub returns-in_err-sizes : goal.returns-in_err-sizes
returns-in_err-sizes g c =
    let p = err_from_is_err_and c.from_residual.result c.from_residual.ensures.1 in
    rw (p.1, p.2) (fill-refused _ _ _ _ _ refl _ c.extract_notes.ensures _ c.in_err-sizes.was)

pub returns : goal.returns
returns g c = fill-accepted _ _ _ _ _ refl _ c.extract_notes.ensures _ c.in_ok-sizes.was _ c.fill.ensures
