-- The value of a string by its hint (S 10.1), told both ways: a value is given exactly where the definitions over trees have one.
use Prim.Native.Nat.{ℕ, ◌≤◌}
use native.Mathlib.Omega.{arith}
use mathlib.Core.Path.{◌≡◌, refl, sym, ap, ◌∙◌, subst}
use mathlib.Core.Bool.{Bool, true, false, ◌&&◌}
use mathlib.Core.List.{List}
use lib.Dec.{leb, eqb}
use lib.ListN.{length}
use lib.Ieee.{binary32, binary64, of_bits}
use borrow.Author.Tests.{eq-eqb, eqb-true, le-leb, leb-true}
use Rattle.std.specs.Prelude.{Some, None}
use Rattle.base.specs.Choice.{pick, equal}
use Rattle.base.proofs.Cases.{by_bool, picked, unpicked, untrue, differ}
use Rattle.base.proofs.Lists.{equal-true, equal-same}
use Rattle.model.specs.Tree.{Tree, plain, hinted, list}
use Rattle.typed.specs.Octets.{be, signed, shortest}
use Rattle.typed.specs.Typed.{finite, kind_of, float_of, single_of, double_of, whole_of, Typing}
use Rattle.typed.specs.declared.Value.{Value}
use Rattle.typed.specs.declared.Value.TheVariants.{Single, Double, Whole, Raw}
use Rattle.demands.specs.Values.{f32, f64, int, ValueOf, single, double, whole, other, bare}
use Rattle.demands.proofs.Typed.{hinted_as}

-- ---- the kind tells the hint

both-are : (t u : Bool) → (t && u) ≡ true → (t ≡ true) × (u ≡ true)
both-are true u e = (refl, e)
both-are false u e = untrue e

pub kind-cases : {G : Type 0} (g : List ℕ) → (g ≡ f32 → kind_of g ≡ 1 → G) → (g ≡ f64 → kind_of g ≡ 2 → G) → (g ≡ int → kind_of g ≡ 3 → G)
    → ((g ≡ f32 → ⊥) → (g ≡ f64 → ⊥) → (g ≡ int → ⊥) → kind_of g ≡ 0 → G) → G
unfolding kind_of
kind-cases g one two three else =
    by_bool (equal g f32) (λ a. one (equal-true g f32 a) (picked _ _ a))
    (λ a. by_bool (equal g f64) (λ b. two (equal-true g f64 b) (unpicked _ _ a ∙ picked _ _ b))
    (λ b. by_bool (equal g int) (λ c. three (equal-true g int c) (unpicked _ _ a ∙ unpicked _ _ b ∙ picked _ _ c))
    (λ c. else (apart f32 a) (apart f64 b) (apart int c) (unpicked _ _ a ∙ unpicked _ _ b ∙ unpicked _ _ c))))
  where
    apart : (h : List ℕ) → equal g h ≡ false → g ≡ h → ⊥
    apart h n e = differ (ap (λ (x : List ℕ). equal x h) e ∙ equal-same h) n

-- ---- what a hint's octets stand for

module _ (d : List ℕ) (s e : ℕ) where
  abbrev raw : Typing
  raw = Some (Raw s e)

  pub as-single : (g : List ℕ) → kind_of g ≡ 1 → hinted_as g d raw ≡ single_of d
  as-single g k = rw (k, eqb)

  pub as-double : (g : List ℕ) → kind_of g ≡ 2 → hinted_as g d raw ≡ double_of d
  as-double g k = rw (k, eqb)

  pub as-whole : (g : List ℕ) → kind_of g ≡ 3 → hinted_as g d raw ≡ whole_of d
  as-whole g k = rw (k, eqb)

  pub as-raw : (g : List ℕ) → kind_of g ≡ 0 → hinted_as g d raw ≡ raw
  as-raw g k = rw (k, eqb)

-- what is made where a test holds
made : {G : Type 0} (t : Bool) (u v : Value) → pick t (Some u) None ≡ Some v → (t ≡ true → u ≡ v → G) → G
made true u v e f = f refl (let w : u ≡ v = cc in w)
made false u v e f = let z : ◌≡◌ {A = ℕ} 0 1 = cc in absurd (omega arith)

module _ (s e : ℕ) (d : List ℕ) (v : Value) where
  same-value : {u : Value} → Some u ≡ Some v → u ≡ v
  same-value {u} w = cc

  singles : single_of d ≡ Some v → ValueOf s e (hinted f32 d) v
  unfolding float_of
  singles w = made (eqb (length d) 4 && finite binary32 (be 0 d)) (Single (of_bits binary32 (be 0 d))) v w (λ t u.
      let b : (eqb (length d) 4 ≡ true) × (finite binary32 (be 0 d) ≡ true) = both-are _ _ t in
      subst (ValueOf s e (hinted f32 d)) u (single (eqb-true _ _ b.0) b.1))

  doubles : double_of d ≡ Some v → ValueOf s e (hinted f64 d) v
  unfolding float_of
  doubles w = made (eqb (length d) 8 && finite binary64 (be 0 d)) (Double (of_bits binary64 (be 0 d))) v w (λ t u.
      let b : (eqb (length d) 8 ≡ true) × (finite binary64 (be 0 d) ≡ true) = both-are _ _ t in
      subst (ValueOf s e (hinted f64 d)) u (double (eqb-true _ _ b.0) b.1))

  wholes : whole_of d ≡ Some v → ValueOf s e (hinted int d) v
  unfolding whole_of
  wholes w = made (leb (length d) 8 && shortest d) (Whole (signed d)) v w (λ t u.
      let b : (leb (length d) 8 ≡ true) × (shortest d ≡ true) = both-are _ _ t in
      subst (ValueOf s e (hinted int d)) u (whole (leb-true _ _ b.0) b.1))

  -- S 10.1: a string with a value is as its hint tells
  pub hint-says : (g : List ℕ) → hinted_as g d (Some (Raw s e)) ≡ Some v → ValueOf s e (hinted g d) v
  hint-says g w =
      kind-cases g
      (λ h k. subst (λ (x : List ℕ). ValueOf s e (hinted x d) v) (sym h) (singles (sym (as-single d s e g k) ∙ w)))
      (λ h k. subst (λ (x : List ℕ). ValueOf s e (hinted x d) v) (sym h) (doubles (sym (as-double d s e g k) ∙ w)))
      (λ h k. subst (λ (x : List ℕ). ValueOf s e (hinted x d) v) (sym h) (wholes (sym (as-whole d s e g k) ∙ w)))
      (λ a b c k. subst (ValueOf s e (hinted g d)) (same-value (sym (as-raw d s e g k) ∙ w)) (other a b c))

two-true : {t u : Bool} → t ≡ true → u ≡ true → (t && u) ≡ true
two-true a b = rw (a, b)

single-made : (d : List ℕ) → length d ≡ 4 → finite binary32 (be 0 d) ≡ true → single_of d ≡ Some (Single (of_bits binary32 (be 0 d)))
unfolding float_of
single-made d l f = picked _ _ (two-true (eq-eqb _ _ l) f)

pub double-made : (d : List ℕ) → length d ≡ 8 → finite binary64 (be 0 d) ≡ true → double_of d ≡ Some (Double (of_bits binary64 (be 0 d)))
unfolding float_of
double-made d l f = picked _ _ (two-true (eq-eqb _ _ l) f)

whole-made : (d : List ℕ) → length d ≤ 8 → shortest d ≡ true → whole_of d ≡ Some (Whole (signed d))
unfolding whole_of
whole-made d l f = picked _ _ (two-true (le-leb _ _ l) f)

-- what a tree's value is, by its string
abbrev pub value_by : ℕ → ℕ → Tree → Typing
value_by s e (plain d) = Some (Raw s e)
value_by s e (hinted g d) = hinted_as g d (Some (Raw s e))
value_by s e (list f) = None

module _ (s e : ℕ) where
  pub value-says : (x : Tree) (v : Value) → value_by s e x ≡ Some v → ValueOf s e x v
  value-says (plain d) v w = subst (ValueOf s e (plain d)) (same-value s e d v w) bare
  value-says (hinted g d) v w = hint-says s e d v g w
  value-says (list f) v w = let z : ◌≡◌ {A = ℕ} 0 1 = cc in absurd (omega arith)

  -- and a string as its hint tells has the value
  pub value-is : (x : Tree) (v : Value) → ValueOf s e x v → value_by s e x ≡ Some v
  unfolding kind_of equal
  value-is x v (single {d} l f) = as-single d s e f32 refl ∙ single-made d l f
  value-is x v (double {d} l f) = as-double d s e f64 refl ∙ double-made d l f
  value-is x v (whole {d} l f) = as-whole d s e int refl ∙ whole-made d l f
  value-is x v (other {g} {d} a b c) = as-raw d s e g (kind-cases g (λ h k. absurd (a h)) (λ h k. absurd (b h)) (λ h k. absurd (c h)) (λ i j m k. k))
  value-is x v bare = refl
