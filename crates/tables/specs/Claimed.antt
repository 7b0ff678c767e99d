-- The note that a record claims, and what it takes to be one that a note tells.
use Rattle.std.specs.Prelude.{ℕ, ◌+◌, ◌*◌, ◌-◌, ◌≤◌, ◌<◌, ◌≡◌, List, get_or, eqb, Option, Some, None}
use Rattle.base.specs.Choice.{pick}
use Rattle.model.specs.Limits.{max_source}
use Rattle.model.specs.Table.{recorded}
use Rattle.sheets.specs.Notes.{list_mark, note_by}
use Rattle.sheets.specs.Places.{shift, span_by}
use Rattle.tables.specs.Told.{row_by, Sound, start_part, end_part, third_part, parent_part}

-- the record that a note tells
abbrev pub record_by : ℕ → List ℕ
record_by m = recorded (row_by (start_part m) (end_part m) (third_part m)) (parent_part m)

-- the number in which a record's places, its kind and its parent stand
unfoldable pub note_from : List ℕ → ℕ
note_from r = note_by (span_by (get_or r 6 0) (get_or r 7 0)) (pick (eqb (get_or r 0 0) 2) (list_mark + get_or r 3 0) (get_or r 4 0)) (get_or r 8 0)

-- a note, of four parts of 16 bits, tells the record
pub record Claim (r : List ℕ) (m : ℕ) : Type 0 where
  pub small : m < shift * shift * shift * shift
  pub sound : Sound (start_part m) (end_part m) (third_part m)
  pub told : r ≡ record_by m

-- it, or None where no note does
pub record Claimed (r : List ℕ) (o : Option ℕ) : Type 0 where
  pub yes : (m : ℕ) → o ≡ Some m → Claim r m
  pub no : o ≡ None → (x : ℕ) → Claim r x → ⊥

-- a string's octets, so few that their number has one digit
pub record Short (a b : ℕ) : Type 0 where
  pub bodied : a ≤ b
  pub ends : b ≤ max_source
  pub digit : b - a < 10
