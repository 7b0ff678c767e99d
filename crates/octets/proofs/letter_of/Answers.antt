use borrow.Author.Rules.{rules}
use Rattle.octets.proofs.Agreement.{letter_table, lettered}
use Rattle.octets.proofs.letter_of.Goals as goal

pub returns : goal.returns
unfolding letter_table
returns c = lettered.at c.args.b (search rules)
