use Rattle.records.proofs.Showing.{data-in, data-placed, shows-data}
use Rattle.records.proofs.data.Goals as goal

pub shown-requires : goal.shown-requires
shown-requires c = data-in _ _ _ _ _ _ (data-placed c.place-p.result c.args.canonical.now c.args.length _ c.args.nodes c.args.node c.place-p.ensures)

pub returns : goal.returns
returns c = shows-data c.place-p.result _ _ _ _ _ c.shown.result _ _ c.place-p.ensures c.shown.ensures
