-- S 10.3: a list of exactly three `f64` strings has their doubles as its hours, and where a tree that stands in a sheet has hours it is
-- such a list.
use Prim.Native.Nat.{ℕ, suc, ◌+◌}
use native.Mathlib.Omega.{arith}
use mathlib.Core.Path.{◌≡◌, refl, sym, ap, ◌∙◌, subst}
use mathlib.Core.Bool.{true}
use mathlib.Core.Option.{Option, none, some}
use mathlib.Core.List.{List, ◌++◌, append_assoc}
use lib.Dec.{eqb}
use lib.Ieee.{Float}
use borrow.Author.Tests.{eq-eqb, eqb-true}
use Rattle.std.specs.Prelude.{Some, None}
use Rattle.base.specs.Choice.{both, equal}
use Rattle.base.proofs.Cases.{picked, pick-cases, true-both, both_true, none-some, some_same}
use Rattle.model.specs.Table.{Row, rows, row_of}
use Rattle.model.specs.Tree.{Tree, plain, hinted, list, Forest, nil, cons, canons, nodes, nodess}
use Rattle.edits.proofs.Find.{nodes-pos}
use Rattle.typed.specs.Typed.{kind_of, value_at, double_of, Typing}
use Rattle.typed.specs.Lines.{row_kind, typed_row, amount_in, three, row_amount, hours_at}
use Rattle.typed.specs.declared.Line.{Line}
use Rattle.typed.specs.declared.Value.{Value}
use Rattle.typed.specs.declared.Value.TheVariants.{Single, Double, Whole, Raw}
use Rattle.demands.specs.Lines.{Three}
use Rattle.demands.specs.Values.{f64, ValueOf, single, double, whole, other, bare}
use Rattle.demands.proofs.Typed.{typed-hinted, hinted_as}
use Rattle.demands.proofs.Valued.{value_by, double-made, value-says}
use Rattle.demands.proofs.Standing.{Stands, past, inside, first-row, first-list, first_count}

-- ---- amounts

-- an amount is a double's
amount-double : (r : Typing) (x : Float) → amount_in r ≡ some x → r ≡ Some (Double x)
amount-double (Some (Single y)) x e = none-some e
amount-double (Some (Double y)) x e = some_same (λ (z : Float). Some (Double y) ≡ Some (Double z)) e refl
amount-double (Some (Whole y)) x e = none-some e
amount-double (Some (Raw s t)) x e = none-some e
amount-double None x e = none-some e

-- the tree is an `f64` string with the double x
pub record Amount (y : Tree) (x : Float) : Type 0 where
  pub octets : List ℕ
  pub is : y ≡ hinted f64 octets
  pub double : double_of octets ≡ Some (Double x)

double-string : {s e : ℕ} {y : Tree} {v : Value} (x : Float) → ValueOf s e y v → v ≡ Double x → Amount y x
double-string x (single l f) e = let z : ◌≡◌ {A = ℕ} 0 1 = cc in absurd (omega arith)
double-string x (double {d} l f) e = record { octets = d; is = refl; double = double-made d l f ∙ ap (λ (x : Value). Some x) e }
double-string x (whole l f) e = let z : ◌≡◌ {A = ℕ} 0 1 = cc in absurd (omega arith)
double-string x (other a b c) e = let z : ◌≡◌ {A = ℕ} 0 1 = cc in absurd (omega arith)
double-string x bare e = let z : ◌≡◌ {A = ℕ} 0 1 = cc in absurd (omega arith)

module _ (canonical : List ℕ) (len : ℕ) (t : Tree) where
  abbrev Here : Forest → ℕ → Type 0
  Here = Stands canonical len t

  -- the value of a tree that stands in the sheet
  pub typed_at : (x : Tree) (f : Forest) (k : ℕ) → Here (cons x f) k
      → typed_row canonical (row_of t k) ≡ value_by (row_of t k).data_start (row_of t k).data_end x
  unfolding rows canons typed_row row_kind value_at
  typed_at (plain d) f k s =
      let r = first-row canonical len t (plain d) f k s in
      ap (typed_row canonical) r ∙ ap (λ (z : Row). Some (Raw z.data_start z.data_end)) (sym r)
  typed_at (hinted g d) f k s =
      let r = first-row canonical len t (hinted g d) f k s in
      ap (typed_row canonical) r
      ∙ typed-hinted canonical len s.pre (canons f ++ s.post) g d (s.octets ∙ simp append_assoc) _ refl
      ∙ ap (λ (z : Row). hinted_as g d (Some (Raw z.data_start z.data_end))) (sym r)
  typed_at (list g) f k s = ap (typed_row canonical) (first-row canonical len t (list g) f k s)

  amount-is : (x : Tree) (f : Forest) (k : ℕ) → Here (cons x f) k → (a : Float) → row_amount canonical t k ≡ some a → Amount x a
  amount-is x f k s a e = double-string a (value-says _ _ x (Double a) (sym (typed_at x f k s) ∙ amount-double _ a e)) refl

  amount-of : (d : List ℕ) (f : Forest) (k : ℕ) → Here (cons (hinted f64 d) f) k → row_amount canonical t k ≡ amount_in (double_of d)
  unfolding kind_of equal
  amount-of d f k s = ap amount_in (typed_at (hinted f64 d) f k s)

  -- ---- hours

  pub hours-here : (a b c : List ℕ) (f : Forest) (k : ℕ) → Here (cons (list (cons (hinted f64 a) (cons (hinted f64 b) (cons (hinted f64 c) nil)))) f) k
      → hours_at canonical t k ≡ three (amount_in (double_of a)) (amount_in (double_of b)) (amount_in (double_of c))
  unfolding hours_at nodes
  hours-here a b c f k s =
      let row = first-list canonical len t _ f k s in
      let first = inside canonical len t _ f k s in
      let second = past canonical len t (hinted f64 a) _ (k + 1) first in
      let third = past canonical len t (hinted f64 b) _ (k + 1 + 1) second in
      let two : k + 2 ≡ k + 1 + 1 = omega arith in
      let three' : k + 3 ≡ k + 1 + 1 + 1 = omega arith in
      picked _ _ (true-both (eq-eqb _ _ (ap (λ (r : Row). r.kind) row)) (eq-eqb _ _ (ap (λ (r : Row). r.count) row)))
      ∙ rw (two, three', amount-of a _ (k + 1) first, amount-of b _ (k + 1 + 1) second, amount-of c _ (k + 1 + 1 + 1) third)

three-cases : {G : Type 0} (o p q : Option Float) (h : Line) → three o p q ≡ some h
    → (o ≡ some h.ordinary → p ≡ some h.night → q ≡ some h.holiday → G) → G
three-cases none p q h e g = none-some e
three-cases (some x) none q h e g = none-some e
three-cases (some x) (some y) none h e g = none-some e
three-cases {G = G} (some x) (some y) (some z) h e g =
    some_same (λ (l : Line). (some x ≡ some l.ordinary → some y ≡ some l.night → some z ≡ some l.holiday → G) → G) e
    (λ f. f refl refl refl) g

-- the first of the trees is an `f64` string with the double a, and m nodes are left after it
record Next (canonical : List ℕ) (len : ℕ) (t : Tree) (g : Forest) (k : ℕ) (a : Float) (m : ℕ) : Type 0 where
  pub octets : List ℕ
  pub rest : Forest
  pub is : g ≡ cons (hinted f64 octets) rest
  pub double : double_of octets ≡ Some (Double a)
  pub stands : Stands canonical len t rest (k + 1)
  pub left : nodess rest ≡ m

next : (canonical : List ℕ) (len : ℕ) (t : Tree) (g : Forest) (k : ℕ) (a : Float) (m : ℕ) → Stands canonical len t g k
    → nodess g ≡ suc m → row_amount canonical t k ≡ some a
    → Next canonical len t g k a m
unfolding nodes
next canonical len t nil k a m s n e = absurd (omega arith)
next canonical len t (cons x g) k a m s n e =
    let w : Amount x a = amount-is canonical len t x g k s a e in
    let one : nodes x ≡ 1 = ap nodes w.is in
    record {
      octets = w.octets;
      rest = g;
      is = ap (λ (y : Tree). cons y g) w.is;
      double = w.double;
      stands = subst (λ (j : ℕ). Stands canonical len t g (k + j)) one (past canonical len t x g k s);
      left = omega arith;
    }

none_left : (f : Forest) → nodess f ≡ 0 → f ≡ nil
unfolding nodess
none_left nil e = refl
none_left (cons x f) e = absurd (omega (arith, nodes-pos x))

module _ (canonical : List ℕ) (len : ℕ) (t : Tree) (h : Line) where
  abbrev Sheet : Forest → ℕ → Type 0
  Sheet = Stands canonical len t

  pub from-three : (x : Tree) (f : Forest) (k : ℕ) (w : Three x h) → Sheet (cons x f) k → hours_at canonical t k ≡ some h
  from-three x f k w s =
      hours-here canonical len t w.first w.second w.third f k (subst (λ (y : Tree). Sheet (cons y f) k) w.is s)
      ∙ rw (w.ordinary, w.night, w.holiday)

  by-nexts : {g : Forest} {i j k : ℕ} (x : Next canonical len t g i h.ordinary 2) (y : Next canonical len t x.rest j h.night 1)
      (z : Next canonical len t y.rest k h.holiday 0)
      → Three (list g) h
  by-nexts x y z =
      let e : z.rest ≡ nil = none_left z.rest z.left in
      record { first = x.octets; second = y.octets; third = z.octets; is = cc; ordinary = x.double; night = y.double; holiday = z.double }

  by-amounts : (g : Forest) (k : ℕ) → Sheet g (k + 1) → nodess g ≡ 3 → row_amount canonical t (k + 1) ≡ some h.ordinary
      → row_amount canonical t (k + 2) ≡ some h.night → row_amount canonical t (k + 3) ≡ some h.holiday → Three (list g) h
  by-amounts g k s n a b c =
      let two : k + 2 ≡ k + 1 + 1 = omega arith in
      let third : k + 3 ≡ k + 1 + 1 + 1 = omega arith in
      let x = next canonical len t g (k + 1) h.ordinary 2 s n a in
      let y = next canonical len t x.rest (k + 1 + 1) h.night 1 x.stands x.left (ap (row_amount canonical t) (sym two) ∙ b) in
      by-nexts x y (next canonical len t y.rest (k + 1 + 1 + 1) h.holiday 0 y.stands y.left (ap (row_amount canonical t) (sym third) ∙ c))

  kind-two : (r : Row) → both (eqb r.kind 2) (eqb r.count 4) ≡ true → (r.kind ≡ 2) × (r.count ≡ 4)
  kind-two r e = let w : (eqb r.kind 2 ≡ true) × (eqb r.count 4 ≡ true) = both_true e in (eqb-true _ _ w.0, eqb-true _ _ w.1)

  by_row : (x : Tree) (f : Forest) (k : ℕ) → Sheet (cons x f) k → (row_of t k).kind ≡ 2 → (row_of t k).count ≡ 4
      → three (row_amount canonical t (k + 1)) (row_amount canonical t (k + 2)) (row_amount canonical t (k + 3)) ≡ some h → Three x h
  unfolding rows nodes
  by_row (plain d) f k s a b e =
      let z : ◌≡◌ {A = ℕ} 0 2 = sym (ap (λ (r : Row). r.kind) (first-row canonical len t (plain d) f k s)) ∙ a in absurd (omega arith)
  by_row (hinted g d) f k s a b e =
      let z : ◌≡◌ {A = ℕ} 1 2 = sym (ap (λ (r : Row). r.kind) (first-row canonical len t (hinted g d) f k s)) ∙ a in absurd (omega arith)
  by_row (list g) f k s a b e =
      let n : 1 + nodess g ≡ 4 = sym (first_count canonical len t (list g) f k s) ∙ b in
      three-cases _ _ _ h e (λ x y z. by-amounts g k (inside canonical len t g f k s) (omega arith) x y z)

  pub to-three : (x : Tree) (f : Forest) (k : ℕ) → Sheet (cons x f) k → hours_at canonical t k ≡ some h → Three x h
  unfolding hours_at
  to-three x f k s e =
      pick-cases (both (eqb (row_of t k).kind 2) (eqb (row_of t k).count 4)) _ _ e
      (λ a b. let w : ((row_of t k).kind ≡ 2) × ((row_of t k).count ≡ 4) = kind-two (row_of t k) a in by_row x f k s w.0 w.1 b)
      (λ a b. none-some b)
