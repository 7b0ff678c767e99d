use Rattle.records.proofs.Showing.{hint-in, hint-placed, shows-hint}
use Rattle.records.proofs.hint.Goals as goal

pub shown_or-requires : goal.shown_or-requires
shown_or-requires c = hint-in _ _ _ _ _ _ (hint-placed c.place-p.result c.args.canonical.now c.args.length _ c.args.nodes c.args.node c.place-p.ensures)

pub returns : goal.returns
returns c = shows-hint c.place-p.result _ _ _ _ _ c.shown_or.result _ _ _ c.place-p.ensures c.shown_or.ensures
