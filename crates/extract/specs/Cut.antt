-- An extract's octets by the rows of a sheet: all of its octets but what stands between the parentheses of private lists.
use Rattle.std.specs.Prelude.{ℕ, zero, suc, ◌-◌, ◌≤◌, ◌<◌, ◌≡◌, Bool, false, List, [], ◌∷◌, ◌++◌, length, take, drop, ltb, eqb}
use Rattle.base.specs.Choice.{pick, both, equal}
use Rattle.model.specs.Table.{Row, rows, row_of}
use Rattle.model.specs.Tree.{Tree, canon}
use Rattle.tables.specs.Told.{Holds}
use Rattle.scan.specs.Writes.{Wrote}
use Rattle.extracts.specs.Extract.{word, extract}

-- the octets from one place to another
abbrev pub part : List ℕ → ℕ → ℕ → List ℕ
part src a e = take (e - a) (drop a src)

-- the first of the rows is that of the unhinted `private`
unfoldable pub begins : List ℕ → List Row → Bool
begins src [] = false
begins src (r ∷ rs) = both (eqb r.kind 0) (equal (part src r.data_start r.data_end) word)

-- a row is that of a list that begins so; the rows after it are given
unfoldable pub private : List ℕ → Row → List Row → Bool
private src r rs = both (eqb r.kind 2) (both (ltb 1 r.count) (begins src rs))

-- what is left of the octets from a place on; so many rows are hopped over first, which stand in a private list
unfoldable pub cut : List ℕ → List Row → ℕ → ℕ → List ℕ
cut src [] hop from = drop from src
cut src (r ∷ rs) (suc hop) from = cut src rs hop from
cut src (r ∷ rs) zero from = pick (private src r rs) (part src from r.data_start ++ cut src rs (r.count - 1) r.data_end) (cut src rs zero from)

-- ---- the code

-- the octets are a tree's canonical form, and these are its notes
pub record Sheet (src notes : List ℕ) (n : ℕ) : Type 0 where
  pub tree : Tree
  pub is : src ≡ canon tree
  pub held : Holds notes n tree

-- a node of it
pub record Node (src notes : List ℕ) (n k : ℕ) : Type 0 where
  pub sheet : Sheet src notes n
  pub there : k < n

-- whether it is a private list
pub record Tells (src notes : List ℕ) (n k : ℕ) (b : Bool) : Type 0 where
  pub is : (t : Tree) → src ≡ canon t → Holds notes n t → b ≡ private src (row_of t k) (drop (suc k) (rows t 0))

-- the octets have room
pub record Cuttable (src notes : List ℕ) (n room : ℕ) : Type 0 where
  pub sheet : Sheet src notes n
  pub fits : length src ≤ room

-- the extract's octets were written from the front
pub record Cuts (src notes : List ℕ) (n : ℕ) (before after : List ℕ) (r : ℕ) : Type 0 where
  pub wrote : (t : Tree) → src ≡ canon t → Holds notes n t → Wrote (canon (extract t)) 0 before after r
