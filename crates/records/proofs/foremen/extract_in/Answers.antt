use Rattle.std.proofs.lemmas.Result.{err_from_is_err_and}
use Rattle.records.proofs.Tabling.{put-tells, put-told, put-refused}
use Rattle.records.proofs.foremen.extract_in.Goals as goal

pub tell-requires : goal.tell-requires
tell-requires c = put-tells _ _ _ _ _ c.extract_notes.ensures _ c.in_ok-sizes.was

pub returns-in_err-sizes : goal.returns-in_err-sizes
returns-in_err-sizes c =
    let p = err_from_is_err_and c.from_residual.result c.from_residual.ensures.1 in
    rw (p.1, p.2) (put-refused _ _ _ _ _ c.extract_notes.ensures _ c.in_err-sizes.was)

pub returns : goal.returns
returns c = put-told _ _ _ _ _ c.extract_notes.ensures _ c.in_ok-sizes.was _ c.tell.ensures
