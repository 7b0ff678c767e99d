use borrow.Author.Rules.{rules}
use Rattle.letters.proofs.Letters.{letter_table, lettered}
use Rattle.letters.proofs.letter_from.Goals as goal

pub returns : goal.returns
unfolding letter_table
returns c = lettered.at c.args.v (search rules)
