-- Octets by their class, from a place on.
use Prim.Native.Nat.{ℕ, zero, suc, ◌+◌, ◌-◌, ◌≤◌, ◌<◌}
use native.Mathlib.Omega.{arith}
use mathlib.Core.Path.{◌≡◌, subst}
use mathlib.Core.List.{List}
use lib.ListN.{get_or}
use Rattle.base.proofs.Cases.{by_le, by-eq}
use Rattle.octets.specs.Classes.{Class}
use Rattle.scan.specs.Runs.{AtLeast, Reach}

-- those up to i
pub record Reaching (src : List ℕ) (at end low i : ℕ) : Type 0 where
  pub from : at ≤ i
  pub within : i ≤ end
  pub all : (k : ℕ) → at ≤ k → k < i → AtLeast low (get_or src k 0)

pub reach-none : (src : List ℕ) (at end low : ℕ) → at ≤ end → Reaching src at end low at
reach-none src at end low h = record { from = omega arith; within = h; all = λ k f l. absurd (omega arith) }

module _ (src : List ℕ) (at end low i : ℕ) (t : Reaching src at end low i) where
  pub reach-end : end ≤ i → Reach src at end low i
  reach-end h = record { from = t.from; within = t.within; all = t.all; stop = λ l. absurd (omega arith) }

  -- and from there on
  pub reach-on : (r : ℕ) → Reach src i end low r → Reach src at end low r
  reach-on r n =
      record {
        from = omega (arith, t.from, n.from);
        within = n.within;
        all = λ k f l. by_le i k (λ g. n.all k g l) (λ g. t.all k f g);
        stop = n.stop;
      }

  module _ (c : ℕ) (k : Class (get_or src i 0) c) where
    pub reach-stop : c < low → Reach src at end low i
    reach-stop l = record { from = t.from; within = t.within; all = t.all; stop = λ h. record { class = c; is = k; under = l } }

    here : low ≤ c → (j : ℕ) → j ≡ i → AtLeast low (get_or src j 0)
    here l j e = rw e (record { class = c; is = k; over = l })

    pub reach-more : i < end → low ≤ c → Reaching src at end low (i + 1)
    reach-more h l =
        record {
          from = omega (arith, t.from);
          within = omega arith;
          all = λ j f g. by-eq j i (λ e. here l j e) (λ n. t.all j f (omega arith));
        }

-- ---- by fours

module _ (src : List ℕ) (at end low i : ℕ) (t : Reaching src at end low i) (h : 4 ≤ end - i) (a : ℕ) (p : Class (get_or src i 0) a) (k : low ≤ a) where
  first : Reaching src at end low (i + 1)
  first = reach-more src at end low i t a p (omega arith) k

  module _ (b : ℕ) (q : Class (get_or src (i + 1) 0) b) where
    pub stop-second : b < low → Reach src at end low (i + 1)
    stop-second l = reach-stop src at end low (i + 1) first b q l

    module _ (m : low ≤ b) where
      second : Reaching src at end low (i + 2)
      second = let z : i + 1 + 1 ≡ i + 2 = omega arith in rw z at (reach-more src at end low (i + 1) first b q (omega arith) m)

      module _ (c : ℕ) (s : Class (get_or src (i + 2) 0) c) where
        pub stop-third : c < low → Reach src at end low (i + 2)
        stop-third l = reach-stop src at end low (i + 2) second c s l

        module _ (n : low ≤ c) where
          third : Reaching src at end low (i + 3)
          third = let z : i + 2 + 1 ≡ i + 3 = omega arith in rw z at (reach-more src at end low (i + 2) second c s (omega arith) n)

          module _ (d : ℕ) (u : Class (get_or src (i + 3) 0) d) where
            pub stop-fourth : d < low → Reach src at end low (i + 3)
            stop-fourth l = reach-stop src at end low (i + 3) third d u l

            pub reach-four : low ≤ d → Reaching src at end low (i + 4)
            reach-four l = let z : i + 3 + 1 ≡ i + 4 = omega arith in rw z at (reach-more src at end low (i + 3) third d u (omega arith) l)

-- ---- what holds at the start, and goes on with each of them, holds at the end
module _ (P : ℕ → Type 0) (src : List ℕ) (at end low r : ℕ) (w : Reach src at end low r) (start : P at)
    (on : (i : ℕ) → at ≤ i → i < r → AtLeast low (get_or src i 0) → P i → P (i + 1)) where
  steps : (n : ℕ) → at + n ≤ r → P (at + n)
  steps zero h = let z : at ≡ at + 0 = omega arith in subst P z start
  steps (suc n) h =
      let z : at + n + 1 ≡ at + suc n = omega arith in
      subst P z (on (at + n) (omega arith) (omega arith) (w.all (at + n) (omega arith) (omega arith)) (steps n (omega arith)))

  pub reach-by : P r
  reach-by = let z : at + (r - at) ≡ r = omega (arith, w.from) in subst P z (steps (r - at) (omega (arith, w.from)))
