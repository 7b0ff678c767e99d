use Rattle.shifts.proofs.Answered.{owned-known}
use Rattle.records.proofs.Owning.{owned-owning}
use Rattle.rosters.proofs.line_in.Goals as goal

pub line_by-requires : goal.line_by-requires
line_by-requires c = owned-known _ _ _ _ _ _ c.own_by-own.ensures

pub returns : goal.returns
returns c = c.line_by.ensures.is _ _ (owned-owning _ _ _ _ _ _ c.own_by-own.ensures)
