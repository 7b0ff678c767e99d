use Rattle.shifts.proofs.Answered.{owned-known}
use Rattle.records.proofs.Owning.{owned-owning}
use Rattle.rosters.proofs.value_in.Goals as goal

pub value_by-requires : goal.value_by-requires
value_by-requires c = owned-known _ _ _ _ _ _ c.own_by-own.ensures

pub returns : goal.returns
returns c = c.value_by.ensures.is _ _ (owned-owning _ _ _ _ _ _ c.own_by-own.ensures)
