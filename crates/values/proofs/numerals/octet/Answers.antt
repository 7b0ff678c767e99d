use Rattle.values.proofs.Putting.{octet-turned}
use Rattle.values.proofs.numerals.octet.Goals as goal

pub returns-then-turn : goal.returns-then-turn
returns-then-turn c = octet-turned _ c.args.d c.if-turn.true
