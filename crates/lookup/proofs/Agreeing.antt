-- Octets compared.
use Prim.Native.Nat.{ℕ, ◌+◌, ◌-◌, ◌≤◌, ◌<◌}
use native.Mathlib.Omega.{arith}
use mathlib.Core.Path.{◌≡◌, sym, ap, ◌∙◌}
use mathlib.Core.Bool.{Bool, true, false}
use mathlib.Core.List.{List}
use lib.ListN.{length, take, get_or}
use lib.Seq.{ext_get_or}
use lib.Dec.{eqb}
use borrow.Author.Tests.{eq-eqb, ne_eqb, eqb-true, eqb-false}
use Rattle.base.specs.Choice.{both, equal}
use Rattle.base.proofs.Cases.{by_bool, by-eq, by_le, untrue, picked, unpicked, both_true}
use Rattle.base.proofs.Lists.{equal-true, same-equal}
use Rattle.lookup.specs.Agreed.{Agree, Block, Copied}

unequal : (a b : List ℕ) → (a ≡ b → ⊥) → false ≡ equal a b
unequal a b n = by_bool (equal a b) (λ t. absurd (n (equal-true a b t))) (λ t. sym t)

module _ (a b : List ℕ) where
  pub agree-longer : (length a ≡ length b → ⊥) → false ≡ equal a b
  agree-longer n = unequal a b (λ e. n (ap length e))

  pub agree-start : length a ≡ length b → Agree a b 0
  agree-start e = record { long = e; inside = omega arith; each = λ k h. absurd (omega arith) }

  module _ (i : ℕ) (w : Agree a b i) where
    pub agree-end : length a ≤ i → true ≡ equal a b
    agree-end h = sym (same-equal a b (ext_get_or 0 a b w.long (λ k l. w.each k (omega arith))))

    module _ (h : i < length a) where
      pub agree-in : i < length b
      agree-in = omega (arith, w.long)

      pub agree_differ : (get_or a i 0 ≡ get_or b i 0 → ⊥) → false ≡ equal a b
      agree_differ n = unequal a b (λ e. n (ap (λ (l : List ℕ). get_or l i 0) e))

      pub agree_on : get_or a i 0 ≡ get_or b i 0 → Agree a b (i + 1)
      agree_on e =
          record {
            long = w.long;
            inside = omega arith;
            each = λ k l. by-eq k i (λ z. ap (λ (x : ℕ). get_or a x 0) z ∙ e ∙ ap (λ (x : ℕ). get_or b x 0) (sym z)) (λ z. w.each k (omega arith));
          }

-- ---- blocks

pub still-on : (x y : ℕ) (so : Bool) → x ≡ y → so ≡ both (eqb x y) so
still-on x y so e = sym (picked _ _ (eq-eqb x y e))

pub still-off : (x y : ℕ) (so : Bool) → (x ≡ y → ⊥) → false ≡ both (eqb x y) so
still-off x y so n = sym (unpicked _ _ (ne_eqb x y n))

pub block_none : (a b : List ℕ) (at : ℕ) → Block a b at 0 true
block_none a b at = record { yes = λ e k f l. absurd (omega arith); no = λ e. untrue (sym e) }

pub block_on : (a b : List ℕ) (at n : ℕ) (so : Bool) → Block a b at n so → (r : Bool) → r ≡ both (eqb (get_or a (at + n) 0) (get_or b (at + n) 0)) so → Block a b at (n + 1) r
block_on a b at n so w r e =
    record {
      yes = λ y k f l.
          let p : (eqb (get_or a (at + n) 0) (get_or b (at + n) 0) ≡ true) × (so ≡ true) = both_true (sym e ∙ y) in
          by-eq k (at + n) (λ z. rw z (eqb-true _ _ p.0)) (λ z. w.yes p.1 k f (omega arith));
      no = λ y.
          by_bool (eqb (get_or a (at + n) 0) (get_or b (at + n) 0))
          (λ t. w.no (sym (picked _ _ t) ∙ sym e ∙ y))
          (λ t z. eqb-false _ _ t (ap (λ (l : List ℕ). get_or l (at + n) 0) z));
    }

pub block-end : (a b : List ℕ) (at k n : ℕ) (so : Bool) → k ≤ n → n ≤ k → Block a b at k so → Block a b at n so
block-end a b at k n so h l w = let z : k ≡ n = omega arith in rw z at w

module _ (a b : List ℕ) (i : ℕ) (w : Agree a b i) (so : Bool) (f : Block a b i 16 so) where
  pub block_same : 16 ≤ length a - i → so ≡ true → Agree a b (i + 16)
  block_same h y =
      record {
        long = w.long;
        inside = omega arith;
        each = λ k l. by_le i k (λ g. f.yes y k g l) (λ g. w.each k g);
      }

  pub block-differs : so ≡ false → false ≡ equal a b
  block-differs y = unequal a b (f.no y)

-- ---- a sheet that stands in both

module _ (a : List ℕ) (n : ℕ) (b : List ℕ) (m : ℕ) where
  pub copied-not : Copied a n b m false
  copied-not = record { lent = λ e. untrue e; same = λ e. untrue e }

  pub copied-by : m ≤ length b → (so : Bool) → so ≡ equal (take n a) (take m b) → Copied a n b m so
  copied-by h so e = record { lent = λ y. h; same = λ y. equal-true (take n a) (take m b) (sym e ∙ y) }
