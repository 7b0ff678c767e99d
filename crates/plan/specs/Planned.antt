-- A change by steps: its spot, the sizes of the new tree, and what rows 7, 8, 9 and 4 to 6 say of it.
use Rattle.std.specs.Prelude.{ℕ, ◌+◌, ◌-◌, ◌≤◌, ◌≡◌, Bool, true, not, List, length, Result, Ok, Err}
use Rattle.std.proofs.Math.Option.{some}
use Rattle.base.specs.Choice.{is_none}
use Rattle.model.specs.Tree.{Tree, Forest, canon, canons, nodes, nodess, depth, depths}
use Rattle.model.specs.Table.{records}
use Rattle.model.specs.Limits.{max_depth, most_nodes, max_canonical}
use Rattle.model.specs.Answers.{sheet_tree, own_tree, filled, unchanged_at}
use Rattle.lookup.specs.Noted.{Sheet}
use Rattle.plan.specs.Asked.{changed, given, change_tree}
use Rattle.plan.specs.Spots.{SpotOf}
use Rattle.plan.specs.declared.Asked.{Asked}
use Rattle.walk.specs.declared.Extent.{Extent}
use Rattle.plan.specs.declared.Plan.{Plan}
use Rattle.answers.specs.Refusals.{number_of, place_in}
use Rattle.answers.specs.declared.refusal.Refusal.{Refusal}

-- ---- what is lent: a sheet, its notes, and a table that is known by its records' number and a truth value

-- where the truth value says that sheet and table are good, these are the sheet's notes, and n records are enough for it
pub record Known (c : List ℕ) (len count n : ℕ) (notes : List ℕ) (own : Bool) : Type 0 where
  pub sheet : own ≡ true → Sheet c len count n notes

-- a table that it speaks of
pub record Lends (c : List ℕ) (len count n : ℕ) (own : Bool) (table : List ℕ) : Type 0 where
  pub recorded : records table ≡ n
  pub tells : own ≡ not (is_none (own_tree c len table count))

-- ---- sizes

pub record Sized (g : Forest) (s : Extent) : Type 0 where
  pub long : s.len ≡ length (canons g)
  pub counted : s.nodes ≡ nodess g
  pub deepest : s.depth ≡ depths g

-- the sizes of what a text means
pub record Small (s : Extent) : Type 0 where
  pub len : s.len ≤ 98304
  pub nodes : s.nodes ≤ 98304
  pub depth : s.depth ≤ 98304

-- ---- the sizes of a tree of which a part of n nodes, under so many lists, gives way to one of the sizes given

pub record Resizable (len count start end n level : ℕ) (text : Extent) : Type 0 where
  pub ordered : start ≤ end
  pub ended : end ≤ len
  pub fewer : n ≤ count
  pub short : len ≤ max_canonical
  pub few : count ≤ most_nodes
  pub low : level ≤ most_nodes
  pub small : Small text

abbrev pub resized : ℕ → ℕ → ℕ → ℕ → ℕ → ℕ → Extent → Extent
resized len count start end n level text = record { len = len - (end - start) + text.len; nodes = count - n + text.nodes; depth = level + text.depth }

-- ---- the plan

-- the spot of a change of a tree t that fits, of len octets and count nodes
pub record AtSpot (len count first n start end level : ℕ) (a : Asked) (t : Tree) : Type 0 where
  pub long : len ≡ length (canon t)
  pub short : len ≤ max_canonical
  pub shallow : depth t ≤ max_depth
  pub counted : count ≡ nodes t
  pub few : count ≤ most_nodes
  pub spot : SpotOf first n start end level a t

-- t' takes the place of the sheet, where n records are lent
pub record Taking (t' : Tree) (c : List ℕ) (n len' count' : ℕ) : Type 0 where
  pub long : len' ≡ length (canon t')
  pub counted : count' ≡ nodes t'
  pub shallow : depth t' ≤ max_depth
  pub recorded : count' ≤ n
  pub few : count' ≤ most_nodes
  pub short : len' ≤ max_canonical
  pub lent : len' ≤ length c

pub record Fitting (c : List ℕ) (len count n : ℕ) (own : Bool) (a : Asked) (text : Extent) (first start end len' count' : ℕ) : Type 0 where
  pub good : own ≡ true
  pub number : ℕ
  pub level : ℕ
  pub tree : Tree
  pub is : sheet_tree c len ≡ some tree
  pub at : AtSpot len count first number start end level a tree
  pub recorded : count ≤ n
  pub grows : count' ≤ count + text.nodes
  pub takes : (u : Tree) → Sized (given a u) text → Taking (changed a tree u) c n len' count'
  pub answer : (table : List ℕ) → Lends c len count n own table → (u : Tree) → Sized (given a u) text
      → change_tree a (some u) c len table count ≡ filled (changed a tree u) len count c table

-- a row applies to everything of these sizes
pub record Misfitting (c : List ℕ) (len count n : ℕ) (own : Bool) (a : Asked) (text : Extent) (f : Refusal) : Type 0 where
  pub answer : (table : List ℕ) → Lends c len count n own table → (u : Tree) → Sized (given a u) text → change_tree a (some u) c len table count ≡ unchanged_at (number_of f) (place_in f) c table

unfoldable pub Plans : List ℕ → ℕ → ℕ → ℕ → Bool → Asked → Extent → Result Plan Refusal → Type 0
Plans c len count n own a text (Ok p) = Fitting c len count n own a text p.first p.start p.end p.length p.nodes
Plans c len count n own a text (Err f) = Misfitting c len count n own a text f
