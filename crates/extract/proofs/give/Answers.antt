use Rattle.extract.proofs.Giving.{give-sheeted, showable, showable-long, give-shown, give-7}
use borrow.Author.Rules.{rules}
use native.Mathlib.Omega.{arith}
use Rattle.extract.proofs.give.Goals as goal

pub show_sized-requires-clause-showable : goal.show_sized-requires-clause-showable
show_sized-requires-clause-showable c = search (showable, give-sheeted, arith)

pub returns-then-octets-le-SHORT : goal.returns-then-octets-le-SHORT
returns-then-octets-le-SHORT c = search (give-shown, arith)

pub show_sized-requires-then-octets-le-MIDDLE-clause-showable : goal.show_sized-requires-then-octets-le-MIDDLE-clause-showable
show_sized-requires-then-octets-le-MIDDLE-clause-showable c = search (showable, give-sheeted, arith)

pub returns-then-octets-le-MIDDLE : goal.returns-then-octets-le-MIDDLE
returns-then-octets-le-MIDDLE c = search (give-shown, arith)

pub show_sized-requires-then-own-clause-showable : goal.show_sized-requires-then-own-clause-showable
show_sized-requires-then-own-clause-showable c =
    showable-long _ _ _ _ _ (search (give-sheeted, arith)) (search rules) (omega arith)

pub returns-then-own : goal.returns-then-own
returns-then-own c = search (give-shown, arith)

pub returns : goal.returns
returns c = search (give-7, arith)
