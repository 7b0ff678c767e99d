-- Choices and tests that the definitions are written with.
use Rattle.std.specs.Prelude.{ℕ, Bool, true, false, List, [], ◌∷◌, leb, eqb}
use Rattle.std.proofs.Math.Option.{Option, none, some}

-- a choice by a test
abbrev pub pick {ℓ} : {A : Type ℓ} → Bool → A → A → A
pick t a b = elim t [ true ↦ a | false ↦ b ]

-- both tests, one test at least
abbrev pub both : Bool → Bool → Bool
both t u = pick t u false

abbrev pub either : Bool → Bool → Bool
either t u = pick t true u

-- b is one of lo .. hi
abbrev pub among : ℕ → ℕ → ℕ → Bool
among lo hi b = both (leb lo b) (leb b hi)

-- b is in the list
unfoldable pub member : List ℕ → ℕ → Bool
member [] b = false
member (a ∷ as') b = either (eqb b a) (member as' b)

-- the test holds of each element
unfoldable pub every : (ℕ → Bool) → List ℕ → Bool
every P [] = true
every P (b ∷ s) = elim (P b) [ true ↦ every P s | false ↦ false ]

-- the two lists are the same
unfoldable pub equal : List ℕ → List ℕ → Bool
equal [] [] = true
equal [] (b ∷ y) = false
equal (a ∷ x) [] = false
equal (a ∷ x) (b ∷ y) = both (eqb a b) (equal x y)

-- go on with what there is
unfoldable pub chain : {A B : Type 0} → Option A → (A → Option B) → Option B
chain none f = none
chain (some a) f = f a

unfoldable pub is_none : {A : Type 0} → Option A → Bool
is_none none = true
is_none (some a) = false
