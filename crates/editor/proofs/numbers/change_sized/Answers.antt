use Rattle.std.proofs.lemmas.Result.{err_from_is_err_and}
use mathlib.Core.Path.{refl}
use Rattle.editor.proofs.Retelling.{numbers-retellable, numbers-accepted, numbers-refused}
use native.Mathlib.Omega.{arith}
use Rattle.editor.proofs.numbers.change_sized.Goals as goal

pub retell-requires : goal.retell-requires
retell-requires g c =
    numbers-retellable _ _ _ _ _ _ _ _ _ c.own_notes-own.ensures _ refl _ _ _ c.change_by.ensures _ c.in_ok-sizes.was

pub returns : goal.returns
returns g c = search (numbers-accepted, c.in_ok-sizes.was, arith)

pub returns-in_err-sizes : goal.returns-in_err-sizes
returns-in_err-sizes g c =
    let p = err_from_is_err_and c.from_residual.result c.from_residual.ensures.1 in
    rw (p.1, p.2) (search (numbers-refused, c.in_err-sizes.was, arith))
