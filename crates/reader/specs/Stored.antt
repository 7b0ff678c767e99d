-- Reading by steps: what a text's tree, if it has one, gives.
use Rattle.std.specs.Prelude.{ℕ, ◌*◌, ◌≤◌, ◌≡◌, List, ◌∷◌, Ok, Err}
use Rattle.std.proofs.Math.Option.{Option}
use Rattle.std.proofs.lemmas.List.Edits.{sets}
use Rattle.base.specs.Choice.{is_none}
use Rattle.model.specs.Tree.{Tree}
use Rattle.model.specs.Table.{records, table_of}
use Rattle.model.specs.Limits.{most_nodes, refusal_syntax}
use Rattle.model.specs.Answers.{Outcome, when, judged, the, room_checks, filled, unchanged, telling}
use Rattle.answers.specs.Cases.{Reading, accepted, outcome}
use Rattle.tables.specs.Told.{Holds}
use Rattle.texts.specs.Texts.{Takeable}

-- rows 3 to 6, and what is written, of the tree that a text means, if it means one, else the place p that is told
unfoldable pub read_tree : Option Tree → ℕ → List ℕ → List ℕ → Outcome
read_tree o p canonical table =
    telling p
    (judged (when refusal_syntax (is_none o) ∷ room_checks (the o) canonical table)
    (filled (the o) 0 0 canonical table)
    (λ n. unchanged n canonical table))

-- notes for every tree that fits and that a text of n octets can mean
pub data Noteable (n room : ℕ) : Type 0 where
  halved : 3 * n ≤ 2 * room → Noteable n room
  most : most_nodes ≤ room → Noteable n room

-- local space for a text of n octets
pub record Spaced (form n scratch notes : ℕ) : Type 0 where
  pub takes : Takeable form n scratch
  pub room : Noteable n notes

-- accepted, but for the table: the notes are a tree's, it has room in n records, and with its table the answer is the one told
pub record Accepting (answer : List ℕ → Outcome) (canonical : List ℕ) (n : ℕ) (notes : List ℕ) (len count : ℕ) : Type 0 where
  pub tree : Tree
  pub held : Holds notes count tree
  pub recorded : count ≤ n
  pub few : count ≤ most_nodes
  pub is : (table : List ℕ) → records table ≡ n → outcome (accepted len count) canonical (sets table 0 (table_of tree)) ≡ answer table

-- the answer for every table of n records, filled from notes where the answer is an acceptance
unfoldable pub Puts : (List ℕ → Outcome) → List ℕ → ℕ → List ℕ → Reading → Type 0
Puts answer canonical n notes (Ok s) = Accepting answer canonical n notes s.length s.nodes
Puts answer canonical n notes (Err f) = (table : List ℕ) → records table ≡ n → outcome (Err f) canonical table ≡ answer table
