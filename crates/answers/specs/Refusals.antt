-- The number of a refusal, and the place that is told with it (S 7.1, 7.3, 7.4).
use Rattle.std.specs.Prelude.{ℕ}
use Rattle.model.specs.Limits.{refusal_form, refusal_source_size, refusal_syntax, refusal_depth, refusal_nodes, refusal_size, refusal_not_own, refusal_no_node, refusal_no_place}
use Rattle.answers.specs.declared.refusal.Refusal.{Refusal}
use Rattle.answers.specs.declared.refusal.Refusal.TheVariants.{Form, SourceSize, Syntax, Depth, Nodes, Size, NotOwn, NoNode, NoPlace, Damaged, NotTyped, NotLine}

-- S 7.1: the row's number
abbrev pub number_of : Refusal → ℕ
number_of Form = refusal_form
number_of SourceSize = refusal_source_size
number_of (Syntax p) = refusal_syntax
number_of Depth = refusal_depth
number_of Nodes = refusal_nodes
number_of Size = refusal_size
number_of NotOwn = refusal_not_own
number_of NoNode = refusal_no_node
number_of NoPlace = refusal_no_place
number_of Damaged = 10
number_of NotTyped = 11
number_of NotLine = 12

-- S 7.3: a place is told with row 3 alone
abbrev pub place_in : Refusal → ℕ
place_in Form = 0
place_in SourceSize = 0
place_in (Syntax p) = p
place_in Depth = 0
place_in Nodes = 0
place_in Size = 0
place_in NotOwn = 0
place_in NoNode = 0
place_in NoPlace = 0
place_in Damaged = 0
place_in NotTyped = 0
place_in NotLine = 0
