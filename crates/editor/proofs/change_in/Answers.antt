use Rattle.std.proofs.lemmas.Result.{err_from_is_err_and}
use Rattle.editor.proofs.Placing.{change-none, change-placeable, change-noteable, change-placed}
use native.Mathlib.Omega.{arith}
use Rattle.editor.proofs.change_in.Goals as goal

pub place-requires-clause-placeable : goal.place-requires-clause-placeable
place-requires-clause-placeable c =
    let args = c.args in
    change-placeable _ _ _ c.requires.takeable args.canonical.now args.old args.held args.records args.own args.asked _ _ _ _ c.take.ensures _ c.in_ok-sizes.was c.requires.asked_value

pub place-requires-clause-noteable : goal.place-requires-clause-noteable
place-requires-clause-noteable c = search (change-noteable, c.in_ok-sizes.was, arith)

pub returns : goal.returns
returns c =
    change-placed _ _ _ c.requires.takeable _ _ _ _ _ _ _ _ _ _ c.take.ensures _ c.in_ok-sizes.was c.requires.asked_value _ _ _ c.place.ensures

pub returns-in_err-sizes : goal.returns-in_err-sizes
returns-in_err-sizes c =
    let p = err_from_is_err_and c.from_residual.result c.from_residual.ensures.1 in
    rw (p.1, p.2) (change-none _ _ _ c.requires.takeable _ _ _ _ _ _ _ _ _ _ c.take.ensures _ c.in_err-sizes.was _)
