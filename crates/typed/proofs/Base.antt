-- Case splits on numbers.
use Prim.Native.Nat.{ℕ, ◌≤◌, ◌<◌}
use mathlib.Core.Path.{◌≡◌, refl}
use mathlib.Core.Bool.{Bool, true, false, ◌&&◌}
use lib.Dec.{leb, eqb}
use borrow.Author.Tests.{leb-true, leb-false, eqb-true, eqb-false}
use Rattle.base.specs.Choice.{pick}

pub by_le : {G : Type 0} (a b : ℕ) → (a ≤ b → G) → (b < a → G) → G
by_le {G} a b f g = by (leb a b) refl
  where
    by : (t : Bool) → leb a b ≡ t → G
    by true e = f (leb-true a b e)
    by false e = g (leb-false a b e)

pub by-eq : {G : Type 0} (a b : ℕ) → (a ≡ b → G) → ((a ≡ b → ⊥) → G) → G
by-eq {G} a b f g = by (eqb a b) refl
  where
    by : (t : Bool) → eqb a b ≡ t → G
    by true e = f (eqb-true a b e)
    by false e = g (eqb-false a b e)

pub by_bool : {G : Type 0} (t : Bool) → (t ≡ true → G) → (t ≡ false → G) → G
by_bool true f g = f refl
by_bool false f g = g refl

pub pick_yes : {A : Type 0} (t : Bool) (a b : A) → t ≡ true → pick t a b ≡ a
pick_yes t a b e = rw e

pub pick_no : {A : Type 0} (t : Bool) (a b : A) → t ≡ false → pick t a b ≡ b
pick_no t a b e = rw e

pub and_yes : (a b : Bool) → a ≡ true → b ≡ true → (a && b) ≡ true
and_yes a b p q = rw (p, q)

pub and-no-l : (a b : Bool) → a ≡ false → (a && b) ≡ false
and-no-l a b p = rw p

pub and-no-r : (a b : Bool) → b ≡ false → (a && b) ≡ false
and-no-r true b p = p
and-no-r false b p = refl
