-- Lists: equality by a test, and fronts.
use Prim.Native.Nat.{ℕ, ◌≤◌}
use mathlib.Core.Path.{◌≡◌, refl, sym, ap, ap₂, ◌∙◌}
use mathlib.Core.Bool.{Bool, true}
use mathlib.Core.List.{List, [], ◌∷◌}
use lib.ListN.{length, take}
use lib.Seq.{length-take-le}
use lib.Dec.{eqb}
use borrow.Author.Tests.{eq-eqb, eqb-true}
use Rattle.base.specs.Choice.{member, every, equal}
use Rattle.base.proofs.Cases.{untrue, pick-cases, both_true, true-both, either-cases}

-- the front of a list
pub front_length : {A : Type 0} (l : List A) (n : ℕ) → n ≤ length l → n ≡ length (take n l)
front_length l n h = sym (length-take-le n l h)

pub equal-true : (x y : List ℕ) → equal x y ≡ true → x ≡ y
unfolding equal
equal-true [] [] e = refl
equal-true [] (b ∷ y) e = untrue e
equal-true (a ∷ x) [] e = untrue e
equal-true (a ∷ x) (b ∷ y) e = let w : (eqb a b ≡ true) × (equal x y ≡ true) = both_true e in ap₂ ◌∷◌ (eqb-true a b w.0) (equal-true x y w.1)

pub equal-same : (x : List ℕ) → equal x x ≡ true
unfolding equal
equal-same [] = refl
equal-same (a ∷ x) = true-both (eq-eqb a a refl) (equal-same x)

pub same-equal : (x y : List ℕ) → x ≡ y → equal x y ≡ true
same-equal x y e = ap (equal x) (sym e) ∙ equal-same x

pub every-cases : {G : Type 0} (P : ℕ → Bool) (b : ℕ) (s : List ℕ) → every P (b ∷ s) ≡ true → (P b ≡ true → every P s ≡ true → G) → G
unfolding every
every-cases P b s e g = pick-cases (P b) _ _ e (λ t h. g t h) (λ t h. untrue h)

-- what holds of each element holds of a member
pub member-every : (P : ℕ → Bool) (l : List ℕ) (b : ℕ) → every P l ≡ true → member l b ≡ true → P b ≡ true
unfolding member
member-every P [] b e m = untrue m
member-every P (a ∷ l) b e m =
    every-cases P a l e
    (λ h k. either-cases (eqb b a) (member l b) m (λ z. ap P (eqb-true b a z) ∙ h) (λ z. member-every P l b k z))
