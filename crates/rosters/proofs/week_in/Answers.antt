use Rattle.shifts.proofs.Answered.{owned-known}
use Rattle.records.proofs.Owning.{owned-owning}
use Rattle.rosters.proofs.week_in.Goals as goal

pub week_by-requires : goal.week_by-requires
week_by-requires c = owned-known _ _ _ _ _ _ c.own_by-own.ensures

pub returns : goal.returns
returns c = c.week_by.ensures.is _ _ (owned-owning _ _ _ _ _ _ c.own_by-own.ensures)
