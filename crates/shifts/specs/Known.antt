-- What the code over notes needs, and what it answers for every tree of which they are the notes.
use Rattle.std.specs.Prelude.{ℕ, ◌≤◌, ◌<◌, ◌≡◌, Bool, true, List, length, Float, Some, None, Result, Ok, Err}
use Rattle.std.proofs.Math.Option.{Option, none, some}
use Rattle.model.specs.Limits.{most_nodes}
use Rattle.model.specs.Table.{Row, row_of}
use Rattle.model.specs.Tree.{Tree, canon}
use Rattle.answers.specs.declared.refusal.Refusal.TheVariants.{NotLine}
use Rattle.tables.specs.Told.{Holds}
use Rattle.tables.specs.declared.rows.Row as coded
use Rattle.lookup.specs.Noted.{Owning}
use Rattle.typed.specs.Typed.{Typing}
use Rattle.typed.specs.Quarters.{Count}
use Rattle.typed.specs.Lines.{typed_row, row_amount, hours_at, line_count, Sum, lines, bad, sum_at}
use Rattle.typed.specs.Cases.{Valuing, valued, Lining, lined, Summing, summed}
use Rattle.typed.specs.Asked.{valuing, lining, summing}
use Rattle.typed.specs.declared.Line.{Line}
use Rattle.typed.specs.declared.Misfit.{Misfit}
use Rattle.shifts.specs.declared.lines.Added.{Added}

-- ---- a record

-- the model's row with the numbers of the code's
abbrev pub row_for : coded.Row → Row
row_for r =
    record {
      kind = r.kind;
      start = r.start;
      end = r.end;
      count = r.nodes;
      hint_start = r.hint_start;
      hint_end = r.hint_end;
      data_start = r.data_start;
      data_end = r.data_end;
    }

-- its places lie in n octets
pub record Spans (r : coded.Row) (n : ℕ) : Type 0 where
  pub hint_ordered : r.hint_start ≤ r.hint_end
  pub hint_ended : r.hint_end ≤ n
  pub ordered : r.data_start ≤ r.data_end
  pub ended : r.data_end ≤ n

-- ---- notes

-- the notes are those of a tree that stands in the octets
pub record Known (c notes : List ℕ) (count : ℕ) : Type 0 where
  pub tree : Tree
  pub held : Holds notes count tree
  pub within : length (canon tree) ≤ length c
  pub many : count ≤ most_nodes

-- and it has a node of this number
pub record KnownAt (c notes : List ℕ) (count node : ℕ) : Type 0 where
  pub known : Known c notes count
  pub inside : node < count

-- so they are, where it is said so
pub record KnownIf (c notes : List ℕ) (count : ℕ) (own : Bool) : Type 0 where
  pub known : own ≡ true → Known c notes count

pub record TypedAt (c notes : List ℕ) (count node : ℕ) (r : Typing) : Type 0 where
  pub is : (t : Tree) → Holds notes count t → r ≡ typed_row c (row_of t node)

-- the double of a string, if it is one
abbrev pub Amount : Type 0
Amount = Rattle.std.specs.Prelude.Option Float

unfoldable pub amount_of : Amount → Option Float
amount_of (Some x) = some x
amount_of None = none

pub record AmountAt (c notes : List ℕ) (count node : ℕ) (r : Amount) : Type 0 where
  pub is : (t : Tree) → Holds notes count t → amount_of r ≡ row_amount c t node

-- the hours of a list of three such strings, if it is one
abbrev pub Found : Type 0
Found = Rattle.std.specs.Prelude.Option Line

unfoldable pub hours_of : Found → Option Line
hours_of (Some h) = some h
hours_of None = none

pub record HoursAt (c notes : List ℕ) (count node : ℕ) (r : Found) : Type 0 where
  pub is : (t : Tree) → Holds notes count t → hours_of r ≡ hours_at c t node

pub record CountAt (c notes : List ℕ) (count node : ℕ) (r : Count) : Type 0 where
  pub is : (t : Tree) → Holds notes count t → r ≡ line_count c t node

-- lines added up, or the first node that is none
abbrev pub Adding : Type 0
Adding = Result Added Misfit

abbrev pub all_lines : ℕ → ℕ → Adding
all_lines n q = Ok (record { lines = n; quarters = q })

abbrev pub no_line : ℕ → Adding
no_line k = Err (record { refusal = NotLine; node = k })

unfoldable pub sum_for : Adding → Sum
sum_for (Ok s) = lines s.lines s.quarters
sum_for (Err m) = bad m.node

pub record SumAt (c notes : List ℕ) (count node : ℕ) (r : Adding) : Type 0 where
  pub is : (t : Tree) → Holds notes count t → sum_for r ≡ sum_at c t node
  pub row : (m : Misfit) → r ≡ Err m → m.refusal ≡ NotLine

-- ---- answers, in every sheet and table of which the truth value tells

pub record Values (c notes : List ℕ) (count node : ℕ) (own : Bool) (r : Valuing) : Type 0 where
  pub is : (len : ℕ) (table : List ℕ) → Owning c len table count notes own → valued r ≡ valuing c len table count node

pub record HasLine (c notes : List ℕ) (count node : ℕ) (own : Bool) (r : Lining) : Type 0 where
  pub is : (len : ℕ) (table : List ℕ) → Owning c len table count notes own → lined r ≡ lining c len table count node

pub record Sums (c notes : List ℕ) (count node : ℕ) (own : Bool) (r : Summing) : Type 0 where
  pub is : (len : ℕ) (table : List ℕ) → Owning c len table count notes own → summed r ≡ summing c len table count node
