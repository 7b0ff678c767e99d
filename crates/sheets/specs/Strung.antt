-- The note of a string that was just written.
use Rattle.std.specs.Prelude.{ℕ, ◌+◌, ◌≤◌, ◌<◌, ◌≡◌, List, length, set}
use Rattle.model.specs.Lexemes.{Lexeme, opening, closing, atom, hinting}
use Rattle.model.specs.Limits.{max_source}
use Rattle.model.specs.Table.{Row, plain_row, body_start}
use Rattle.model.specs.Tree.{verbatim}
use Rattle.walk.specs.Events.{string_row, hint_row}
use Rattle.sheets.specs.Places.{shift}
use Rattle.sheets.specs.Notes.{note_of}

-- a verbatim string stands from `pos` to `end`
pub record Verbatim (d : List ℕ) (pos end : ℕ) : Type 0 where
  pub long : end ≡ pos + length (verbatim d)
  pub few : length d ≤ max_source

pub record Bodied (pos end : ℕ) : Type 0 where
  pub octets : List ℕ
  pub is : Verbatim octets pos end
  pub small : end < shift

-- its octets begin at r
pub record BodyFrom (pos end r : ℕ) : Type 0 where
  pub is : (d : List ℕ) → Verbatim d pos end → r ≡ body_start pos d
  pub below : r ≤ end

-- a string's lexeme stands from `pos` to `end`: a verbatim string, or one behind another in brackets, which ends at `mid`
pub data Strung (l : Lexeme) (pos mid end : ℕ) : Type 0 where
  plainly : (d : List ℕ) → l ≡ atom d → mid ≡ 0 → Verbatim d pos end → Strung l pos mid end
  hintedly : (h d : List ℕ) (to : ℕ) → l ≡ hinting h d → mid ≡ to + 1 → Verbatim h (pos + 1) to → Verbatim d mid end → Strung l pos mid end

-- a string's row; the others have none here
unfoldable pub string_row_of : ℕ → Lexeme → Row
string_row_of at (atom d) = string_row at d
string_row_of at (hinting h d) = hint_row at h d
string_row_of at opening = plain_row 0 0 0
string_row_of at closing = plain_row 0 0 0

pub record Keepable (pos mid end up : ℕ) : Type 0 where
  pub lexeme : Lexeme
  pub is : Strung lexeme pos mid end
  pub small : end < shift
  pub ups : up < shift

pub record KeptString (node pos mid end up : ℕ) (before after : List ℕ) : Type 0 where
  pub long : length after ≡ length before
  pub kept : (l : Lexeme) → Strung l pos mid end → after ≡ set before node (note_of (string_row_of pos l) up)
