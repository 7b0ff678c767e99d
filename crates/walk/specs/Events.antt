-- The rows of a tree's nodes as a loop over its canonical octets meets them: a string's where it begins, a list's where it ends.
use Rattle.std.specs.Prelude.{ℕ, ◌+◌, ◌*◌, ◌-◌, List, [], ◌∷◌, take, drop}
use Rattle.model.specs.Lexemes.{Lexeme, opening, closing, atom, hinting}
use Rattle.model.specs.Table.{Row, width, plain_row, hinted_row, list_row, body_start, body_end}

-- a node's number, its row, and the number of the list around it
pub record Event : Type 0 where
  pub number : ℕ
  pub row : Row
  pub parent : ℕ

abbrev pub event : ℕ → Row → ℕ → Event
event n r p = record { number = n; row = r; parent = p }

-- where a list that is open began, and its number
pub record Frame : Type 0 where
  pub start : ℕ
  pub number : ℕ

abbrev pub frame : ℕ → ℕ → Frame
frame s n = record { start = s; number = n }

-- the number of the innermost list that is open; 0 where none is
unfoldable pub above : List Frame → ℕ
above [] = 0
above (f ∷ st) = f.number

-- where the octets of a string with a hint end
abbrev pub hint_end : ℕ → List ℕ → ℕ
hint_end at h = body_end (at + 1) h

abbrev pub string_row : ℕ → List ℕ → Row
string_row at d = plain_row at (body_start at d) (body_end at d)

abbrev pub hint_row : ℕ → List ℕ → List ℕ → Row
hint_row at h d = hinted_row at (body_start (at + 1) h) (hint_end at h) (body_start (hint_end at h + 1) d) (body_end (hint_end at h + 1) d)

-- from a place on, with the number of the next node and the lists that are open, the innermost first
unfoldable pub events : List Lexeme → ℕ → ℕ → List Frame → List Event
events [] at n st = []
events (opening ∷ ls) at n st = events ls (at + 1) (n + 1) (frame at n ∷ st)
events (closing ∷ ls) at n [] = []
events (closing ∷ ls) at n (f ∷ st) = event f.number (list_row f.start (at + 1) (n - f.number)) (above st) ∷ events ls (at + 1) n st
events (atom d ∷ ls) at n st = event n (string_row at d) (above st) ∷ events ls (body_end at d) (n + 1) st
events (hinting h d ∷ ls) at n st = event n (hint_row at h d) (above st) ∷ events ls (body_end (hint_end at h + 1) d) (n + 1) st

-- the record of a number
abbrev pub record_at : List ℕ → ℕ → List ℕ
record_at table n = take width (drop (width * n) table)
