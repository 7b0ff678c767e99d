-- Case splits on tests, choices and what may be missing.
use Prim.Native.Nat.{ℕ, ◌≤◌, ◌<◌}
use native.Mathlib.Omega.{arith}
use mathlib.Core.Path.{◌≡◌, refl, ◌∙◌, subst}
use mathlib.Core.Bool.{Bool, true, false, not}
use mathlib.Core.Option.{Option, none, some}
use lib.Dec.{leb, eqb}
use borrow.Author.Tests.{le-leb, eqb-true, eqb-false, leb-true, leb-false}
use Rattle.base.specs.Choice.{pick, both, either, among, chain}

pub by_bool : {G : Type 0} (t : Bool) → (t ≡ true → G) → (t ≡ false → G) → G
by_bool true f g = f refl
by_bool false f g = g refl

pub by_le : {G : Type 0} (a b : ℕ) → (a ≤ b → G) → (b < a → G) → G
by_le a b f g = by_bool (leb a b) (λ e. f (leb-true a b e)) (λ e. g (leb-false a b e))

pub by-eq : {G : Type 0} (a b : ℕ) → (a ≡ b → G) → ((a ≡ b → ⊥) → G) → G
by-eq a b f g = by_bool (eqb a b) (λ e. f (eqb-true a b e)) (λ e. g (eqb-false a b e))

-- a test is not both
pub untrue : {G : Type 0} → false ≡ true → G
untrue e = let z : ◌≡◌ {A = ℕ} 0 1 = cc in absurd (omega arith)

pub differ : {G : Type 0} {t : Bool} → t ≡ true → t ≡ false → G
differ e f = let z : ◌≡◌ {A = ℕ} 0 1 = cc in absurd (omega arith)

-- ---- choices

-- what a choice came from
pub pick-cases : {A G : Type 0} {r : A} (t : Bool) (x y : A) → pick t x y ≡ r → (t ≡ true → x ≡ r → G) → (t ≡ false → y ≡ r → G) → G
pick-cases true x y h f g = f refl h
pick-cases false x y h f g = g refl h

pub picked : {A : Type 0} {t : Bool} (x y : A) → t ≡ true → pick t x y ≡ x
picked x y e = rw e

pub unpicked : {A : Type 0} {t : Bool} (x y : A) → t ≡ false → pick t x y ≡ y
unpicked x y e = rw e

pub both_true : {t u : Bool} → both t u ≡ true → (t ≡ true) × (u ≡ true)
both_true {t} {u} e = pick-cases t u false e (λ a b. (a, b)) (λ a b. untrue b)

pub true-both : {t u : Bool} → t ≡ true → u ≡ true → both t u ≡ true
true-both {t} {u} a b = picked u false a ∙ b

pub not-false : {t : Bool} → not t ≡ false → t ≡ true
not-false {t} e = pick-cases t false true e (λ a b. a) (λ a b. differ refl b)

pub not-true : {t : Bool} → not t ≡ true → t ≡ false
not-true {t} e = pick-cases t false true e (λ a b. differ b refl) (λ a b. a)

pub either-cases : {G : Type 0} (t u : Bool) → either t u ≡ true → (t ≡ true → G) → (u ≡ true → G) → G
either-cases t u e f g = pick-cases t true u e (λ a b. f a) (λ a b. g b)

pub neither : (t u : Bool) → either t u ≡ false → (t ≡ false) × (u ≡ false)
neither t u e = pick-cases t true u e (λ a b. differ refl b) (λ a b. (a, b))

-- ---- ranges

pub among-true : (lo hi b : ℕ) → among lo hi b ≡ true → (lo ≤ b) × (b ≤ hi)
among-true lo hi b e = let w : (leb lo b ≡ true) × (leb b hi ≡ true) = both_true e in (leb-true lo b w.0, leb-true b hi w.1)

pub among_in : (lo hi b : ℕ) → lo ≤ b → b ≤ hi → among lo hi b ≡ true
among_in lo hi b h k = true-both (le-leb lo b h) (le-leb b hi k)

pub among-low : (lo hi b : ℕ) → b < lo → among lo hi b ≡ false
among-low lo hi b h = by_bool (among lo hi b) (λ t. let w : (lo ≤ b) × (b ≤ hi) = among-true lo hi b t in absurd (omega arith)) (λ t. t)

pub among-high : (lo hi b : ℕ) → hi < b → among lo hi b ≡ false
among-high lo hi b h = by_bool (among lo hi b) (λ t. let w : (lo ≤ b) × (b ≤ hi) = among-true lo hi b t in absurd (omega arith)) (λ t. t)

-- ---- what may be missing

pub some_same : {A : Type 0} {a a' : A} (P : A → Type 0) → some a ≡ some a' → P a → P a'
some_same {A} {a} {a'} P e p = let u : a ≡ a' = cc in subst P u p

pub none-some : {A G : Type 0} {a : A} → none ≡ some a → G
none-some e = let z : ◌≡◌ {A = ℕ} 0 1 = cc in absurd (omega arith)

pub chain-cases : {A B G : Type 0} {b : B} (o : Option A) (f : A → Option B) → chain o f ≡ some b → ((a : A) → o ≡ some a → f a ≡ some b → G) → G
unfolding chain
chain-cases none f h g = none-some h
chain-cases (some a) f h g = g a refl h
