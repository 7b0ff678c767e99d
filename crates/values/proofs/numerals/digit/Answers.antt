use Rattle.values.proofs.Numeral.{turned-yes}
use Rattle.values.proofs.numerals.digit.Goals as goal

pub returns-then-turn : goal.returns-then-turn
returns-then-turn c = turned-yes c.args.turn c.args.b c.if-turn.true
