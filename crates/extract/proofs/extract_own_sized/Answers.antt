use Rattle.std.proofs.lemmas.Result.{err_from_is_err_and}
use Rattle.extract.proofs.Giving.{kept-notes, owned-judged, own-puts}
use Rattle.reader.proofs.Storing.{fill-room, fill-accepted, fill-refused}
use mathlib.Core.Path.{refl}
use native.Mathlib.Omega.{arith}
use Rattle.extract.proofs.extract_own_sized.Goals as goal

pub give-requires-clause-judged : goal.give-requires-clause-judged
give-requires-clause-judged g c = search (owned-judged, arith)

pub give-requires-clause-noteable : goal.give-requires-clause-noteable
give-requires-clause-noteable g c = search (kept-notes, arith)

pub fill-requires : goal.fill-requires
fill-requires g c = fill-room _ _ _ c.args.table.now _ refl _ (own-puts _ _ _ _ _ _ c.own_notes-own.ensures _ _ _ _ _ c.give.ensures) _ c.in_ok-sizes.was

pub returns-in_err-sizes : goal.returns-in_err-sizes
returns-in_err-sizes g c =
    let p = err_from_is_err_and c.from_residual.result c.from_residual.ensures.1 in
    rw (p.1, p.2) (fill-refused _ _ _ _ _ refl _ (own-puts _ _ _ _ _ _ c.own_notes-own.ensures _ _ _ _ _ c.give.ensures) _ c.in_err-sizes.was)

pub returns : goal.returns
returns g c = fill-accepted _ _ _ _ _ refl _ (own-puts _ _ _ _ _ _ c.own_notes-own.ensures _ _ _ _ _ c.give.ensures) _ c.in_ok-sizes.was _ c.fill.ensures
