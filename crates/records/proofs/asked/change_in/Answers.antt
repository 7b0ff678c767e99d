use Rattle.std.proofs.lemmas.Result.{err_from_is_err_and}
use Rattle.records.proofs.Owning.{owned-known, owned-lends}
use Rattle.records.proofs.Tabling.{give-tells, give-told, give-refused}
use Rattle.records.proofs.asked.change_in.Goals as goal

pub change_by-requires-clause-known : goal.change_by-requires-clause-known
change_by-requires-clause-known c = owned-known _ _ _ _ _ _ c.own_by-own.ensures

pub tell-requires : goal.tell-requires
tell-requires c = give-tells _ _ _ _ _ _ _ c.change_by.ensures _ c.in_ok-sizes.was

pub returns-in_err-sizes : goal.returns-in_err-sizes
returns-in_err-sizes c =
    let p = err_from_is_err_and c.from_residual.result c.from_residual.ensures.1 in
    rw (p.1, p.2) (give-refused _ _ _ _ _ _ _ c.change_by.ensures (owned-lends _ _ _ _ _ _ c.own_by-own.ensures) _ c.in_err-sizes.was)

pub returns : goal.returns
returns c = give-told _ _ _ _ _ _ _ c.change_by.ensures _ c.in_ok-sizes.was (owned-lends _ _ _ _ _ _ c.own_by-own.ensures) _ c.tell.ensures
