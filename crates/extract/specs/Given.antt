-- An extract given by the notes of a sheet, and its table filled (S 11.2).
use Rattle.std.specs.Prelude.{ℕ, ◌/◌, ◌≤◌, ◌≡◌, Bool, true, false, not, List, length, Option, Some, None}
use Rattle.std.proofs.Math.Option.{Option as Maybe, some}
use Rattle.base.specs.Choice.{is_none}
use Rattle.model.specs.Answers.{Outcome, sheet_tree}
use Rattle.model.specs.Table.{width}
use Rattle.model.specs.Tree.{Tree}
use Rattle.tables.specs.Told.{Holds}
use Rattle.answers.specs.Cases.{outcome}
use Rattle.answers.specs.Cases.{Reading}
use Rattle.reader.specs.Stored.{Noteable, Puts}
use Rattle.extracts.specs.Extracting.{extract_of}

-- a truth value that tells whether there is a sheet, with its own table if one is lent; and where there is, the notes are its own
pub record Judges (o : Maybe Tree) (sheet : List ℕ) (len : ℕ) (notes : List ℕ) (n : ℕ) (own : Bool) : Type 0 where
  pub tells : own ≡ not (is_none o)
  pub sheeted : (t : Tree) → o ≡ some t → sheet_tree sheet len ≡ some t
  pub held : (t : Tree) → o ≡ some t → Holds notes n t

-- the first octets are a sheet with so many notes, or none
unfoldable pub Sheets : List ℕ → ℕ → List ℕ → Option ℕ → Type 0
Sheets sheet len notes (Some n) = Judges (sheet_tree sheet len) sheet len notes n true
Sheets sheet len notes None = Judges (sheet_tree sheet len) sheet len notes 0 false

-- it tells so of some sheet
pub record Judged (sheet : List ℕ) (len : ℕ) (notes : List ℕ) (n : ℕ) (own : Bool) : Type 0 where
  pub found : Maybe Tree
  pub judges : Judges found sheet len notes n own

-- the extract of that sheet, but for the table
pub record Gives (sheet : List ℕ) (len : ℕ) (before : List ℕ) (n : ℕ) (own : Bool) (canonical canonical' : List ℕ) (records : ℕ) (notes : List ℕ) (r : Reading) : Type 0 where
  pub is : (o : Maybe Tree) → Judges o sheet len before n own → Puts (extract_of o canonical) canonical' records notes r

-- the first octets are a sheet, and these are its notes
pub record Sheeted (sheet : List ℕ) (len : ℕ) (notes : List ℕ) (n : ℕ) : Type 0 where
  pub tree : Tree
  pub is : sheet_tree sheet len ≡ some tree
  pub held : Holds notes n tree

-- with room for so many octets, and notes for its extract
pub record Showable (sheet : List ℕ) (len : ℕ) (notes : List ℕ) (n room : ℕ) : Type 0 where
  pub sheeted : Sheeted sheet len notes n
  pub fits : len ≤ room
  pub noteable : Noteable len (length notes)

-- its extract, but for the table
pub record ShowsExtract (sheet : List ℕ) (len : ℕ) (before : List ℕ) (n : ℕ) (canonical canonical' : List ℕ) (records : ℕ) (notes : List ℕ) (r : Reading) : Type 0 where
  pub is : (t : Tree) → sheet_tree sheet len ≡ some t → Holds before n t → Puts (extract_of (some t) canonical) canonical' records notes r
