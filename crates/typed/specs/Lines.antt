-- A node's value, a line and a list of lines, by the rows of a sheet's tree (S 10.2 to 10.4).
use Rattle.std.specs.Prelude.{ℕ, zero, suc, ◌+◌, List, [], ◌∷◌, ltb, eqb, Float, Some, None}
use Rattle.std.proofs.Math.Option.{Option, none, some}
use Rattle.std.proofs.Math.Seq.{slice}
use Rattle.base.specs.Choice.{pick, both}
use Rattle.model.specs.Table.{Row, row_of}
use Rattle.model.specs.Tree.{Tree}
use Rattle.typed.specs.Typed.{Typing, kind_of, value_at}
use Rattle.typed.specs.Quarters.{Count, quarters_of}
use Rattle.typed.specs.declared.Value.{Value}
use Rattle.typed.specs.declared.Value.TheVariants.{Single, Double, Whole, Raw}
use Rattle.typed.specs.declared.Line.{Line}

-- the kind of a string, by the octets of its hint in the sheet; one without a hint is raw
unfoldable pub row_kind : List ℕ → Row → ℕ
row_kind c r = pick (eqb r.kind 1) (kind_of (slice r.hint_start r.hint_end c)) 0

-- S 10.2: a list has no value, and a string that of its hint
unfoldable pub typed_row : List ℕ → Row → Typing
typed_row c r = pick (eqb r.kind 2) None (value_at (row_kind c r) c r.data_start r.data_end)

abbrev pub double_in : Value → Option Float
double_in (Single x) = none
double_in (Double x) = some x
double_in (Whole x) = none
double_in (Raw s e) = none

-- an `f64` string's double
abbrev pub amount_in : Typing → Option Float
amount_in (Some v) = double_in v
amount_in None = none

abbrev pub three : Option Float → Option Float → Option Float → Option Line
three (some x) (some y) (some z) = some (record { ordinary = x; night = y; holiday = z })
three (some x) (some y) none = none
three (some x) none r = none
three none q r = none

abbrev pub row_amount : List ℕ → Tree → ℕ → Option Float
row_amount c t k = amount_in (typed_row c (row_of t k))

-- S 10.3, a list of exactly three `f64` strings: a list of four nodes, itself counted, of which the next three are such strings, so that
-- they are its elements
unfoldable pub hours_at : List ℕ → Tree → ℕ → Option Line
hours_at c t k =
    pick (both (eqb (row_of t k).kind 2) (eqb (row_of t k).count 4))
    (three (row_amount c t (k + 1)) (row_amount c t (k + 2)) (row_amount c t (k + 3)))
    none

-- the quarters of what may be a line
abbrev pub quarters_in : Option Line → Count
quarters_in none = None
quarters_in (some h) = quarters_of h

-- the quarters of a node's line
unfoldable pub line_count : List ℕ → Tree → ℕ → Count
line_count c t k = quarters_in (hours_at c t k)

abbrev pub kept_if : Option Line → Count → Option Line
kept_if o (Some n) = o
kept_if o None = none

-- S 10.3, in whole quarters: a line is kept where there is a count
unfoldable pub line_at : List ℕ → Tree → ℕ → Option Line
line_at c t k = kept_if (hours_at c t k) (line_count c t k)

-- ---- a list of lines (S 10.4)

-- the node numbers of a list's elements from `at` on, up to `stop`; each counts its own nodes; f bounds them
unfoldable pub elements_up_to : Tree → ℕ → ℕ → ℕ → List ℕ
elements_up_to t zero at stop = []
elements_up_to t (suc f) at stop = pick (ltb at stop) (at ∷ elements_up_to t f (at + (row_of t at).count) stop) []

unfoldable pub elements : Tree → ℕ → List ℕ
elements t k = elements_up_to t (row_of t k).count (k + 1) (k + (row_of t k).count)

-- a plain sum: how many lines, and their quarters; or the first node that is no line
pub data Sum : Type 0 where
  lines : ℕ → ℕ → Sum
  bad : ℕ → Sum

abbrev pub added : ℕ → Sum → Sum
added q (lines n m) = lines (suc n) (q + m)
added q (bad k) = bad k

abbrev pub added_by : ℕ → Count → Sum → Sum
added_by k (Some q) s = added q s
added_by k None s = bad k

unfoldable pub sum_of : List ℕ → Tree → List ℕ → Sum
sum_of c t [] = lines 0 0
sum_of c t (k ∷ ks) = added_by k (line_count c t k) (sum_of c t ks)

-- the sum of a node: a string is no list of lines
unfoldable pub sum_at : List ℕ → Tree → ℕ → Sum
sum_at c t k = pick (eqb (row_of t k).kind 2) (sum_of c t (elements t k)) (bad k)
