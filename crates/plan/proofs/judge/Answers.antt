use Rattle.std.proofs.lemmas.Result.{err_from_is_err_and}
use Rattle.plan.proofs.Planning.{plan-findable, plan-resizable, plan-misfit, plan-fits, plan-unfound}
use native.Mathlib.Omega.{arith}
use Rattle.plan.proofs.judge.Goals as goal

pub find-requires : goal.find-requires
find-requires c = search (plan-findable, arith)

pub resize-to-requires : goal.resize-to-requires
resize-to-requires c = search (plan-resizable, c.in_ok-spot.was, arith)

pub returns-in_err-spot : goal.returns-in_err-spot
returns-in_err-spot c =
    let p = err_from_is_err_and c.from_residual.result c.from_residual.ensures.1 in
    rw (p.1, p.2) (plan-unfound _ _ _ _ _ _ _ c.requires.known _ c.requires.small _ c.find.ensures _ c.in_err-spot.was)

pub returns-in_err-room : goal.returns-in_err-room
returns-in_err-room c =
    let p = err_from_is_err_and c.from_residual-in_err-room.result c.from_residual-in_err-room.ensures.1 in
    rw (p.1, p.2)
    (plan-misfit _ _ _ _ _ _ _ c.requires.known _ c.requires.small _ c.find.ensures _ c.in_ok-spot.was _ c.resize-to.ensures _ c.room.ensures _ c.in_err-room.was)

pub returns : goal.returns
returns c = search (plan-fits, c.in_ok-spot.was, c.in_ok-room.was, arith)
