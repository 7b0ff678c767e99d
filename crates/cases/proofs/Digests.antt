-- The loop over a buffer's elements.
use Prim.Native.Nat.{ℕ, ◌+◌, ◌≤◌, ◌<◌}
use native.Mathlib.Omega.{arith}
use native.Mathlib.Nat.{mod-lt}
use native.Mathlib.Numerals.{add-one}
use mathlib.Core.Path.{◌≡◌, refl, sym, ap, ◌∙◌}
use mathlib.Core.List.{List}
use lib.ListN.{length, drop, get_or, drop_of_length-le}
use lib.Seq.{drop-cons}
use Rattle.cases.specs.Digest.{stepped, digested}

-- going on from here gives the whole
pub record Digesting (l : List ℕ) (h i : ℕ) : Type 0 where
  pub in-it : i ≤ length l
  pub small : h < 4294967291
  pub same : digested h (drop i l) ≡ digested 0 l

pub digest-start : (l : List ℕ) → Digesting l 0 0
digest-start l = record { in-it = omega arith; small = omega arith; same = refl }

pub digest-on : (l : List ℕ) (h i r : ℕ) → Digesting l h i → i < length l → r ≡ stepped h (get_or l i 0) → Digesting l r (i + 1)
unfolding digested
digest-on l h i r g k e =
    record {
      in-it = omega arith;
      small = rw e (mod-lt _ (omega arith));
      same = rw (e, add-one i) (sym (ap (digested h) (drop-cons l i 0 k)) ∙ g.same);
    }

pub digest-end : (l : List ℕ) (h i : ℕ) → Digesting l h i → length l ≤ i → h ≡ digested 0 l
unfolding digested
digest-end l h i g k = sym (ap (digested h) (drop_of_length-le l k)) ∙ g.same
