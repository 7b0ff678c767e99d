use Rattle.std.proofs.lemmas.Result.{err_from_is_err_and}
use Rattle.editor.proofs.Placing.{place-misfit, place-gap, place-source, place-room, place-octets, place-renotable, place_end, place-accepted}
use native.Mathlib.Omega.{arith}
use Rattle.editor.proofs.place.Goals as goal

pub gap-requires : goal.gap-requires
gap-requires c = search (place-gap, c.in_ok-plan.was, arith)

pub copy-requires : goal.copy-requires
copy-requires c = (search (place-source, c.in_ok-plan.was, arith), search (place-room, c.in_ok-plan.was, arith))

pub slice_bounds-octets-end : goal.slice_bounds-octets-end
slice_bounds-octets-end c = search (place-octets, c.in_ok-plan.was, arith)

pub renote-requires : goal.renote-requires
renote-requires c =
    place-renotable _ _ _ _ _ _ _ _ _ c.requires.placeable _ c.judge.ensures _ c.in_ok-plan.was c.requires.known c.requires.noteable

pub end-requires : goal.end-requires
end-requires c =
    place_end _ _ _ _ _ _ c.args.notes.now _ _ c.requires.placeable _ c.judge.ensures _ c.in_ok-plan.was _ c.gap.ensures _ _ c.copy.ensures

pub returns : goal.returns
returns c =
    place-accepted _ _ _ _ _ _ _ _ _ c.requires.placeable _ c.judge.ensures _ c.in_ok-plan.was _ c.gap.ensures _ _ c.copy.ensures
    c.requires.known c.requires.noteable _ c.renote.ensures _ _ c.end.ensures

pub returns-in_err-plan : goal.returns-in_err-plan
returns-in_err-plan c =
    let p = err_from_is_err_and c.from_residual.result c.from_residual.ensures.1 in
    rw (p.1, p.2) (place-misfit _ _ _ _ _ _ _ _ _ c.requires.placeable _ c.judge.ensures _ c.in_err-plan.was)
