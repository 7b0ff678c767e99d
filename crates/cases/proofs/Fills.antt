-- Lent buffers: their elements, and the loop that fills them.
use Prim.Native.Nat.{ℕ, ◌+◌, ◌*◌, ◌/◌, ◌%◌, ◌≤◌, ◌<◌}
use native.Mathlib.Omega.{arith}
use native.Mathlib.Nat.{add-mod-mod}
use mathlib.Core.Path.{◌≡◌, refl, sym, ap, ◌∙◌}
use mathlib.Core.List.{List}
use lib.ListN.{length, get_or, set, length-set}
use lib.Seq.{get_or-set_same, get_or-set_other}
use borrow.Author.Tests.{lt-ltb, le-ltb}
use Rattle.base.proofs.Cases.{picked, unpicked, by-eq}
use Rattle.cases.specs.Wire.{number4_at, lent_octet, lent_number, Filled}
use Rattle.cases.proofs.Numbers.{number4-here}

pub octet-given : (given : List ℕ) (fill i : ℕ) → i < length given → get_or given i 0 ≡ lent_octet given fill i
unfolding lent_octet
octet-given given fill i h = sym (picked _ _ (lt-ltb i (length given) h))

-- the code takes the remainder of the place first, so that no sum can wrap
pub octet-filled : (given : List ℕ) (fill i : ℕ) → length given ≤ i → (fill + i % 251) % 251 ≡ lent_octet given fill i
unfolding lent_octet
octet-filled given fill i h = add-mod-mod fill i 251 ∙ sym (unpicked _ _ (le-ltb i (length given) h))

pub number-given : (given : List ℕ) (fill i r : ℕ) → i < length given / 4 → r ≡ number4_at given (4 * i) → r ≡ lent_number given fill i
unfolding lent_number
number-given given fill i r h e = e ∙ number4-here given (4 * i) (omega arith) ∙ sym (picked _ _ (lt-ltb i (length given / 4) h))

pub number-filled : (given : List ℕ) (fill i : ℕ) → length given / 4 ≤ i → (fill + i % 251) % 251 ≡ lent_number given fill i
unfolding lent_number
number-filled given fill i h = add-mod-mod fill i 251 ∙ sym (unpicked _ _ (le-ltb i (length given / 4) h))

-- ---- the loop
pub record Filling (f : ℕ → ℕ) (l₀ l : List ℕ) (i : ℕ) : Type 0 where
  pub in-it : i ≤ length l
  pub long : length l ≡ length l₀
  pub each : (k : ℕ) → k < i → get_or l k 0 ≡ f k

pub fill_start : (f : ℕ → ℕ) (l : List ℕ) → Filling f l l 0
fill_start f l = record { in-it = omega arith; long = refl; each = λ k h. absurd (omega arith) }

pub fill_on : (f : ℕ → ℕ) (l₀ l : List ℕ) (i v : ℕ) → Filling f l₀ l i → i < length l₀ → v ≡ f i → Filling f l₀ (set l i v) (i + 1)
fill_on f l₀ l i v g h e =
    record {
      in-it = omega (arith, length-set l i v, g.long);
      long = length-set l i v ∙ g.long;
      each = λ k m.
          by-eq k i
          (λ z. ap (λ (n : ℕ). get_or (set l i v) n 0) z ∙ get_or-set_same l i v 0 (omega (arith, g.long)) ∙ e ∙ ap f (sym z))
          (λ z. get_or-set_other l i k v 0 z ∙ g.each k (omega arith));
    }

pub fill-long : (f : ℕ → ℕ) (l₀ l : List ℕ) (i : ℕ) → Filling f l₀ l i → length l ≡ length l₀
fill-long f l₀ l i g = g.long

pub fill_end : (f : ℕ → ℕ) (l₀ l : List ℕ) (i : ℕ) → Filling f l₀ l i → length l₀ ≤ i → Filled f l
fill_end f l₀ l i g h = record { each = λ k m. g.each k (omega (arith, g.long)) }

-- ---- what is filled from a part of a case
pub filled-by : (f : List ℕ → ℕ → ℕ → ℕ) (x y : List ℕ) (fill : ℕ) (l : List ℕ) → x ≡ y → Filled (f x fill) l → Filled (f y fill) l
filled-by f x y fill l e h = rw e at h
