-- Lines and lists of them, as trees (S 10.3, 10.4).
use Rattle.std.specs.Prelude.{ℕ, suc, ◌+◌, ◌≤◌, ◌≡◌, false, List, Float, Some}
use Rattle.std.specs.Float.Ieee.Exact.{HasValue}
use Rattle.model.specs.Edit.{join}
use Rattle.model.specs.Tree.{Tree, hinted, list, Forest, nil, cons, nodess}
use Rattle.typed.specs.Typed.{double_of}
use Rattle.typed.specs.declared.Line.{Line}
use Rattle.typed.specs.declared.Total.{Total}
use Rattle.typed.specs.declared.Value.TheVariants.{Double}
use Rattle.typed.proofs.Exact.{Exactly}
use Rattle.demands.specs.Values.{f64}

-- S 10.3, a list of exactly three `f64` strings, ordinary, night and holiday hours: the tree is such a list, and the doubles are those of h
pub record Three (x : Tree) (h : Line) : Type 0 where
  pub first : List ℕ
  pub second : List ℕ
  pub third : List ℕ
  pub is : x ≡ list (cons (hinted f64 first) (cons (hinted f64 second) (cons (hinted f64 third) nil)))
  pub ordinary : double_of first ≡ Some (Double h.ordinary)
  pub night : double_of second ≡ Some (Double h.night)
  pub holiday : double_of third ≡ Some (Double h.holiday)

-- S 10.3, 0 to 24 in whole quarters with the sign clear: the double is exactly n quarters
pub record Hours (x : Float) (n : ℕ) : Type 0 where
  pub quarters : Exactly n x
  pub day : n ≤ 96

-- S 10.3, the count of quarters: the hours of h are good, and n quarters together
pub record Quartered (h : Line) (n : ℕ) : Type 0 where
  pub a : ℕ
  pub b : ℕ
  pub c : ℕ
  pub ordinary : Hours h.ordinary a
  pub night : Hours h.night b
  pub holiday : Hours h.holiday c
  pub sum : n ≡ a + b + c

-- the tree is the shift line h, of n quarters
pub record ShiftLine (x : Tree) (h : Line) (n : ℕ) : Type 0 where
  pub three : Three x h
  pub quartered : Quartered h n

-- S 10.3, the double that is exactly a quarter of the count: of the bits, and of the number that they stand for
pub record QuarterOf (s : Total) : Type 0 where
  pub bits : Exactly s.quarters s.hours
  pub number : HasValue s.hours false s.quarters 4

-- S 10.4: every element is a line: n of them, of q quarters together
pub data AllLines : Forest → ℕ → ℕ → Type 0 where
  no_line : AllLines nil 0 0
  a-line : {x : Tree} {f : Forest} {h : Line} {m n q : ℕ} → ShiftLine x h m → AllLines f n q → AllLines (cons x f) (suc n) (m + q)

-- S 10.4: x is the first element that is no line: k nodes stand before it
pub record FirstBad (f : Forest) (k : ℕ) (x : Tree) : Type 0 where
  pub good : Forest
  pub rest : Forest
  pub is : f ≡ join good (cons x rest)
  pub count : ℕ
  pub quarters : ℕ
  pub lines : AllLines good count quarters
  pub not_line : (h : Line) (n : ℕ) → ShiftLine x h n → ⊥
  pub before : k ≡ nodess good
