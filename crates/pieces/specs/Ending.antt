-- The end of a text that came in pieces (S 13.4).
use Rattle.std.specs.Prelude.{ℕ, ◌≤◌, ◌≡◌, false, List, length, take, leb, ltb, Ok, Err}
use Rattle.base.specs.Choice.{pick}
use Rattle.model.specs.Answers.{Outcome, unchanged_at, unchanged, reading}
use Rattle.model.specs.Limits.{max_source, refusal_source_size, refusal_syntax, refusal_size, refusal_not_own}
use Rattle.model.specs.Table.{records}
use Rattle.walk.specs.Extent.{Measured}
use Rattle.answers.specs.Cases.{outcome}
use Rattle.answers.specs.Cases.{Reading}
use Rattle.rooms.specs.Rooms.{room_verdict}
use Rattle.reader.specs.Stored.{Noteable}
use Rattle.pieces.specs.Capped.{extent}
use Rattle.pieces.specs.Tracks.{meant}
use Rattle.pieces.specs.Feeding.{space, InTurn, same_sizes}
use Rattle.pieces.specs.declared.state.State.{State}

-- ---- what is promised

-- S 13.4, a refused end restores nothing: an answer, with the sheet as the pieces left it
abbrev pub in_sheet : List ℕ → Outcome → Outcome
in_sheet sheet o = record { accepted = o.accepted; number = o.number; place = o.place; octets = o.octets; count = o.count; canonical = sheet; table = o.table }

-- the end, in a state, with a sheet and a table; with the table afterwards, and the answer
pub record End (x : State) (sheet : List ℕ) (lent : ℕ) (table table' : List ℕ) (r : Reading) : Type 0 where
  -- S 13.2, whatever the state is: another size gets 7, with counts 0, and nothing changes
  pub resized : same_sizes x (length sheet) lent ≡ false → outcome r sheet table' ≡ unchanged refusal_not_own sheet table
  -- S 13.4, the answer of reading the whole in form 1: s is the whole, and the sheet first held `first`. That an accepted reading leaves
  -- this sheet: `accepted-sheet`
  pub ends : (first s : List ℕ) → InTurn first lent s x sheet → outcome r sheet table' ≡ in_sheet sheet (reading 1 s first table)

-- ---- what the code does, whatever the state is

-- the row of a text that went past the sheet. It is never accepted: no state that was handed back says that it has room
unfoldable pub past_row : Measured → ℕ → ℕ → ℕ
past_row (Ok x) room n = pick (ltb 0 (room_verdict x.depth x.nodes x.len room n)) (room_verdict x.depth x.nodes x.len room n) refusal_size
past_row (Err p) room n = refusal_syntax

-- S 13.4: with 3, the place of S 7.3
unfoldable pub past_place : Measured → ℕ
past_place (Ok x) = 0
past_place (Err p) = p.place

unfoldable pub ended_by : State → List ℕ → ℕ → List ℕ → Outcome
ended_by x sheet lent table =
    pick (same_sizes x (length sheet) lent)
    (pick (ltb max_source x.fed) (unchanged refusal_source_size sheet table)
    (pick (leb x.fed (space (length sheet))) (reading 1 (take x.fed sheet) sheet table)
    (unchanged_at (past_row (extent (meant x.track)) (length sheet) (records table)) (past_place (extent (meant x.track))) sheet table)))
    (unchanged refusal_not_own sheet table)

-- octets that the sheet holds, and notes for whatever they are
pub record Held (fed room notes : ℕ) : Type 0 where
  pub inside : fed ≤ space room
  pub notable : Noteable fed notes
