-- An answer but for the table, which the notes tell.
use Rattle.std.specs.Prelude.{ℕ, ◌+◌, ◌*◌, ◌≤◌, min, ◌≡◌, Bool, List}
use Rattle.std.proofs.Math.Option.{Option}
use Rattle.model.specs.Limits.{most_nodes}
use Rattle.model.specs.Table.{width, table_of}
use Rattle.model.specs.Tree.{Tree}
use Rattle.model.specs.Answers.{Outcome, settled, place_of, telling}
use Rattle.model.specs.Decode.{decode}
use Rattle.answers.specs.Cases.{outcome}
use Rattle.answers.specs.Cases.{Reading, accepted}
use Rattle.std.specs.Prelude.{Ok, Err}
use Rattle.tables.specs.Told.{Holds}
use Rattle.plan.specs.Planned.{Lends}
use Rattle.plan.specs.Asked.{change_tree, changing}
use Rattle.plan.specs.declared.Asked.{Asked}

-- notes for every tree of at most `more` nodes beside those of a sheet
pub record Noteable (count more room : ℕ) : Type 0 where
  pub enough : min (count + more) most_nodes ≤ room

-- accepted: the notes are a tree's, which has room in n records where `old` were in use, and with its table, and zeros past it, the answer
-- is the one told
pub record Giving (Lent : List ℕ → Type 0) (answer : List ℕ → Outcome) (c : List ℕ) (n : ℕ) (notes : List ℕ) (old len count : ℕ) : Type 0 where
  pub tree : Tree
  pub held : Holds notes count tree
  pub recorded : (count ≤ n) × (old ≤ n)
  pub few : (count ≤ most_nodes) × (old ≤ most_nodes)
  pub is : (table : List ℕ) → Lent table → outcome (accepted len count) c (settled table (width * old) (table_of tree)) ≡ answer table

-- the answer for every table that is spoken of
unfoldable pub Gives : (List ℕ → Type 0) → (List ℕ → Outcome) → List ℕ → ℕ → List ℕ → ℕ → Reading → Type 0
Gives Lent answer c n notes old (Ok s) = Giving Lent answer c n notes old s.length s.nodes
Gives Lent answer c n notes old (Err f) = (table : List ℕ) → Lent table → outcome (Err f) c table ≡ answer table

-- that of a change, of the tree that a text means
abbrev pub GivesTree : Asked → Option Tree → List ℕ → ℕ → ℕ → ℕ → Bool → List ℕ → List ℕ → Reading → Type 0
GivesTree a o c len count n own c' notes' r = Gives (Lends c len count n own) (λ (table : List ℕ). change_tree a o c len table count) c' n notes' count r

-- of what a text means, with the place that is told where it means nothing
abbrev pub GivesMeant : Asked → ℕ → List ℕ → List ℕ → ℕ → ℕ → ℕ → Bool → List ℕ → List ℕ → Reading → Type 0
GivesMeant a form text c len count n own c' notes' r =
    Gives (Lends c len count n own) (λ (table : List ℕ). telling (place_of form text) (change_tree a (decode form text) c len table count)) c' n notes' count r

-- and of a text
abbrev pub GivesText : Asked → ℕ → List ℕ → List ℕ → ℕ → ℕ → ℕ → Bool → List ℕ → List ℕ → Reading → Type 0
GivesText a form text c len count n own c' notes' r = Gives (Lends c len count n own) (λ (table : List ℕ). changing a form text c table len count) c' n notes' count r
