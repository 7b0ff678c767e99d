-- Octets and claimed notes gone through side by side: where a loop over them stands, and what a turn of it does.
use Rattle.std.specs.Prelude.{ℕ, ◌+◌, ◌*◌, ◌-◌, ◌≤◌, ◌<◌, ◌≡◌, Bool, true, false, List, [], ◌∷◌, length, drop, get_or, eqb, Option, Some, None}
use Rattle.base.specs.Choice.{both}
use Rattle.model.specs.Count.{shut_by}
use Rattle.model.specs.Lexemes.{Lexeme, opening, closing, atom, hinting, strict_lexeme}
use Rattle.model.specs.Strings.{got}
use Rattle.model.specs.Limits.{max_depth, max_source, max_canonical, most_nodes}
use Rattle.model.specs.Table.{list_row, recorded, body_end}
use Rattle.model.specs.Tree.{Tree}
use Rattle.walk.specs.Events.{hint_row, hint_end}
use Rattle.sheets.specs.Notes.{list_mark, note_of}
use Rattle.sheets.specs.Places.{shift, StringAt}
use Rattle.tables.specs.Told.{start_part, end_part, third_part, parent_part}
use Rattle.owned.specs.Owned.{told, Own, Checkable}
use Rattle.owned.specs.Wanted.{over, Ends, Wants}

-- a list that is open: it began before node k, and its record is a list's
pub record Opened (R : ℕ → List ℕ) (k u : ℕ) (us : List ℕ) : Type 0 where
  pub start : ℕ
  pub end : ℕ
  pub count : ℕ
  pub is : R u ≡ recorded (list_row start end count) (over us)
  pub before : u < k

-- and all that are
unfoldable pub Open : (ℕ → List ℕ) → ℕ → List ℕ → Type 0
Open R k [] = Unit {0}
Open R k (u ∷ us) = Opened R k u us × Open R k us

-- what is wanted: where the tree is whole, the end
unfoldable pub Goes : (ℕ → List ℕ) → ℕ → Bool → List ℕ → List ℕ → ℕ → ℕ → Type 0
Goes R n true st s at k = Ends R n st s at k
Goes R n false st s at k = Wants R n st s at k

-- k nodes begin before a place, so many lists are open, and `up` is the innermost of them: the notes tell the tree's records where octets
-- and records go on as wanted
pub record Going (src notes : List ℕ) (n at up opened k : ℕ) : Type 0 where
  pub given : Checkable src notes n
  pub inside : at ≤ length src
  pub few : k ≤ n
  pub st : List ℕ
  pub deep : length st ≡ opened
  pub low : opened ≤ max_depth
  pub top : over st ≡ up
  pub lists : Open (told notes) k st
  pub to : (t : Tree) → Own src notes n t → Goes (told notes) n (shut_by opened k) st (drop at src) at k
  pub from : Goes (told notes) n (shut_by opened k) st (drop at src) at k → Wants (told notes) n [] src 0 0

-- ---- the innermost list ends

pub record Closable (notes : List ℕ) (up at k : ℕ) : Type 0 where
  pub inside : up < length notes
  pub before : up ≤ k
  pub few : k ≤ max_source

-- its note tells this place and its nodes so far
pub record Closes (notes : List ℕ) (up at k : ℕ) (r : Bool) : Type 0 where
  pub is : r ≡ both (eqb (end_part (get_or notes up 0)) at) (eqb (third_part (get_or notes up 0)) (list_mark + (k - up)))

-- ---- a node is met

-- it has octets, and the list around it a number
pub record Meetable (at up len : ℕ) : Type 0 where
  pub inside : at < len
  pub short : len ≤ max_canonical
  pub few : up ≤ most_nodes

-- a string without a hint stands there, and this is its note
pub record Nearly (src : List ℕ) (m at up : ℕ) : Type 0 where
  pub span : ℕ
  pub reads : StringAt src at (Some span)
  pub is : m ≡ span + up * (shift * shift * shift)

-- it is so where it is told; of other nodes nothing is said
pub record Near (src : List ℕ) (m at up : ℕ) (so : Bool) : Type 0 where
  pub on : so ≡ true → Nearly src m at up

-- its note is that of a list, in the list around
pub record Begins (m at up opened : ℕ) : Type 0 where
  pub deep : opened < max_depth
  pub above : parent_part m ≡ up
  pub start : start_part m ≡ at + 1
  pub marked : list_mark ≤ third_part m

-- whether it is so
pub record Begun (m at up opened : ℕ) (so : Bool) : Type 0 where
  pub yes : so ≡ true → Begins m at up opened
  pub no : so ≡ false → Begins m at up opened → ⊥

-- neither a parenthesis nor a string without a hint
pub record Unread (src : List ℕ) (at : ℕ) : Type 0 where
  pub unopened : get_or src at 0 ≡ 40 → ⊥
  pub unshut : get_or src at 0 ≡ 41 → ⊥
  pub none : StringAt src at None

-- no other lexeme stands there, and of one the note is another
unfoldable pub Unmet : Lexeme → ℕ → ℕ → ℕ → Type 0
Unmet opening m at up = ⊥
Unmet closing m at up = ⊥
Unmet (atom d) m at up = ⊥
Unmet (hinting h d) m at up = m ≡ note_of (hint_row at h d) up → ⊥

-- a string with a hint up to a place, with the note given
pub record Hinting (src : List ℕ) (m at up next : ℕ) : Type 0 where
  pub hint : List ℕ
  pub octets : List ℕ
  pub reads : strict_lexeme (drop at src) ≡ got (hinting hint octets) (drop next src)
  pub ends : next ≡ body_end (hint_end at hint + 1) octets
  pub further : at < next
  pub within : next ≤ length src
  pub is : m ≡ note_of (hint_row at hint octets) up

pub record Hints (src : List ℕ) (m at up : ℕ) (r : Option ℕ) : Type 0 where
  pub on : (next : ℕ) → r ≡ Some next → Hinting src m at up next
  pub off : r ≡ None → (l : Lexeme) (rest : List ℕ) → strict_lexeme (drop at src) ≡ got l rest → Unmet l m at up
