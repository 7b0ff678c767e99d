use borrow.Author.Rules.{rules}
use Rattle.octets.proofs.Agreement.{class_table, classed}
use Rattle.octets.proofs.class_of.Goals as goal

pub returns : goal.returns
unfolding class_table
returns c = classed.at c.args.b (search rules)
