-- What a C entry for texts in pieces answers. A state is ten numbers (`state_in`, `state_numbers` of crate pieces).
use Rattle.std.specs.Prelude.{ℕ, ◌≡◌, false, List, ◌++◌, length}
use Rattle.model.specs.Limits.{no_refusal, refusal_not_own}
use Rattle.model.specs.Answers.{unchanged, reading}
use Rattle.pieces.specs.Coded.{state_in, state_numbers}
use Rattle.pieces.specs.Ending.{in_sheet}
use Rattle.pieces.specs.Feeding.{sheet_after, state_after, InTurn, same_sizes}
use Rattle.pieces.specs.declared.state.State.{State}
use Rattle.records.specs.Numbers.{numbers}
use Rattle.records.specs.declared.Record.{Record}
use Rattle.etglavino_c.specs.Pointers.{outcome_at}

-- the numbers of the state, the sheet, the refusal's number and the octets told
pub record PieceAt : Type 0 where
  pub state : List ℕ
  pub sheet : List ℕ
  pub number : ℕ
  pub octets : ℕ

abbrev pub piece_at : List ℕ → List ℕ → ℕ → ℕ → PieceAt
piece_at state sheet n octets = record { state = state; sheet = sheet; number = n; octets = octets }

-- `Piece` of crate pieces, with the state as numbers. S 13.2: another size gets 7, and nothing changes, the state included
pub record PieceOut (before piece sheet : List ℕ) (lent : ℕ) (sheet' after : List ℕ) (n octets : ℕ) : Type 0 where
  pub resized : same_sizes (state_in before) (length sheet) lent ≡ false → piece_at after sheet' n octets ≡ piece_at before sheet refusal_not_own 0
  pub goes_on : (first s : List ℕ) → InTurn first lent s (state_in before) sheet
      → piece_at after sheet' n octets ≡ piece_at (state_numbers (state_after (length first) lent (s ++ piece))) (sheet_after first (s ++ piece)) no_refusal (state_after (length first) lent (s ++ piece)).fed

-- `End` of crate pieces
pub record EndOut (x : State) (sheet : List ℕ) (lent : ℕ) (table table' : List ℕ) (n p len count : ℕ) : Type 0 where
  pub resized : same_sizes x (length sheet) lent ≡ false → outcome_at n p len count sheet table' ≡ unchanged refusal_not_own sheet table
  pub ends : (first s : List ℕ) → InTurn first lent s x sheet → outcome_at n p len count sheet table' ≡ in_sheet sheet (reading 1 s first table)

-- S 13.1, the size of a table: one that is lent as numbers has as many as are lent
abbrev pub EndNumbers : State → List ℕ → List ℕ → List ℕ → ℕ → ℕ → ℕ → ℕ → Type 0
EndNumbers x sheet table table' n p len count = EndOut x sheet (length table) table table' n p len count

-- and one that is lent as records, its records
abbrev pub EndRecords : State → List ℕ → List Record → List Record → ℕ → ℕ → ℕ → ℕ → Type 0
EndRecords x sheet rows rows' n p len count = EndOut x sheet (length rows) (numbers rows) (numbers rows') n p len count
