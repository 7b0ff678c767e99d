-- The first of the lexemes that are still to be read, where it is known that they walk through a tree.
use Prim.Native.Nat.{ℕ, zero, suc, ◌+◌, ◌-◌, ◌≤◌, ◌<◌}
use native.Mathlib.Omega.{arith}
use native.Mathlib.Numerals.{add-one}
use mathlib.Core.Path.{◌≡◌, refl, ap₂}
use mathlib.Core.Bool.{false}
use mathlib.Core.Option.{some}
use mathlib.Core.List.{List, [], ◌∷◌}
use lib.ListN.{length, get_or, set}
use lib.Seq.{get_or-set_same, get_or-set_other}
use lib.Dec.{eqb}
use borrow.Author.Tests.{eqb-false}
use Rattle.base.proofs.Cases.{pick-cases, some_same, none-some, chain-cases}
use Rattle.model.specs.Lexemes.{Lexeme, closing}
use Rattle.model.specs.Count.{Count, count, shut, step, walk}
use Rattle.walk.specs.Events.{Frame, frame}

-- the stack of open lists, as two arrays have it
unfoldable pub frames_of : List ℕ → List ℕ → ℕ → List Frame
frames_of s n zero = []
frames_of s n (suc k) = frame (get_or s k 0) (get_or n k 0) ∷ frames_of s n k

frames-below : (s n : List ℕ) (k i a b : ℕ) → k ≤ i → frames_of (set s i a) (set n i b) k ≡ frames_of s n k
unfolding frames_of
frames-below s n zero i a b h = refl
frames-below s n (suc k) i a b h =
    ap₂ ◌∷◌
    (ap₂ frame (get_or-set_other s i k a 0 (λ e. omega arith)) (get_or-set_other n i k b 0 (λ e. omega arith)))
    (frames-below s n k i a b (omega arith))

-- a list opens
pub frames-push : (s n : List ℕ) (k a b : ℕ) → k < length s → k < length n → frames_of (set s k a) (set n k b) (k + 1) ≡ frame a b ∷ frames_of s n k
unfolding frames_of
frames-push s n k a b h i = rw (add-one k) (ap₂ ◌∷◌ (ap₂ frame (get_or-set_same s k a 0 h) (get_or-set_same n k b 0 i)) (frames-below s n k k a b (omega arith)))

-- a list closes
pub frames-pop : (s n : List ℕ) (k : ℕ) → 0 < k → frames_of s n k ≡ frame (get_or s (k - 1) 0) (get_or n (k - 1) 0) ∷ frames_of s n (k - 1)
unfolding frames_of
frames-pop s n zero h = absurd (omega arith)
frames-pop s n (suc k) h = let e : suc k - 1 ≡ k = omega arith in rw e

-- the first lexeme of a walk
pub walk-front : {G : Type 0} (l : Lexeme) (ls : List Lexeme) (c r : Count) → walk (l ∷ ls) c ≡ some r → ((x : Count) → shut c ≡ false → step l c ≡ some x → walk ls x ≡ some r → G) → G
unfolding walk
walk-front l ls c r e g =
    pick-cases (shut c) _ _ e (λ t h. none-some h) (λ t h. chain-cases (step l c) _ h (λ x i j. g x t i j))

-- a list closes only where one is open
pub close-opened : (c x : Count) → step closing c ≡ some x → 0 < c.opened
unfolding step
close-opened c x e = pick-cases (eqb c.opened 0) _ _ e (λ t h. none-some h) (λ t h. let z : c.opened ≡ 0 → ⊥ = eqb-false _ _ t in omega arith)

pub close-step-is : (c x : Count) → step closing c ≡ some x → x ≡ count (c.opened - 1) c.deepest c.seen
unfolding step
close-step-is c x e = pick-cases (eqb c.opened 0) _ _ e (λ t h. none-some h) (λ t h. some_same (λ (y : Count). y ≡ count (c.opened - 1) c.deepest c.seen) h refl)
