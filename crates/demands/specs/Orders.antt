-- Two clerks, one sheet (S 12.1): what a clerk asks for, and one thing after another.
use Rattle.std.specs.Prelude.{ℕ, List}
use Rattle.model.specs.Answers.{Outcome, replacing}
use Rattle.model.specs.Corrections.{inserting, removing}

-- S 1.6, a correction: a node replaced, an insertion into a node, a removal
pub data Errand : Type 0 where
  -- form, text
  replacement : ℕ → List ℕ → Errand
  -- form, text, the place in the list
  insertion : ℕ → List ℕ → ℕ → Errand
  removal : Errand

-- what the entry answers to it, and leaves: of the sheet and table lent, with their length and count, and a node
unfoldable pub correcting : Errand → List ℕ → List ℕ → ℕ → ℕ → ℕ → Outcome
correcting (replacement form text) canonical table len count node = replacing form text canonical table len count node
correcting (insertion form text k) canonical table len count node = inserting form text canonical table len count node k
correcting removal canonical table len count node = removing canonical table len count node

-- another on the sheet and table that one has left
abbrev pub then : Outcome → Errand → ℕ → Outcome
then o c node = correcting c o.canonical o.table o.octets o.count node
