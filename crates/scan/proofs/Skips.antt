-- Whitespace at a place of a source.
use Prim.Native.Nat.{ℕ, ◌+◌, ◌≤◌, ◌<◌}
use native.Mathlib.Omega.{arith}
use mathlib.Core.Path.{◌≡◌, refl, sym, ap, ◌∙◌}
use mathlib.Core.Bool.{false}
use mathlib.Core.List.{List}
use lib.ListN.{length, drop, get_or, drop_of_length-le}
use Rattle.base.proofs.Cases.{picked, unpicked, among_in, among-low, among-high}
use Rattle.model.specs.Octets.{is_whitespace}
use Rattle.model.specs.Strings.{skip}
use Rattle.octets.specs.Classes.{Class}
use Rattle.scan.specs.Runs.{Skipped}
use Rattle.scan.proofs.Places.{one-here}

-- whitespace so far
pub record Skipping (src : List ℕ) (at i : ℕ) : Type 0 where
  pub from : at ≤ i
  pub within : i ≤ length src
  pub same : skip (drop i src) ≡ skip (drop at src)

pub skip-none : (src : List ℕ) (at : ℕ) → at ≤ length src → Skipping src at at
skip-none src at h = record { from = omega arith; within = h; same = refl }

-- no whitespace is skipped where there is none
pub skip-here : (src : List ℕ) (at : ℕ) → at < length src → is_whitespace (get_or src at 0) ≡ false → Skipped src at at
unfolding skip
skip-here src at h e =
    record { from = omega arith; within = omega arith; reads = ap skip (one-here src at h) ∙ unpicked _ _ e ∙ sym (one-here src at h) }

module _ (src : List ℕ) (at i : ℕ) (s : Skipping src at i) where
  stops : skip (drop i src) ≡ drop i src → Skipped src at i
  stops e = record { from = s.from; within = s.within; reads = sym s.same ∙ e }

  pub skip-end : length src ≤ i → Skipped src at i
  unfolding skip
  skip-end h = stops (ap skip (drop_of_length-le src h) ∙ sym (drop_of_length-le src h))

  module _ (c : ℕ) (h : i < length src) (k : Class (get_or src i 0) c) where
    pub skip-more : 3 ≤ c → c ≤ 4 → Skipping src at (i + 1)
    unfolding skip
    skip-more l u =
        record {
          from = omega (arith, s.from);
          within = omega arith;
          same = sym (ap skip (one-here src i h) ∙ picked _ _ (k.whitespace ∙ among_in 3 4 c l u)) ∙ s.same;
        }

    pub skip-low : c < 3 → Skipped src at i
    skip-low l = stops (skip-here src i h (k.whitespace ∙ among-low 3 4 c l)).reads

    pub skip-high : 4 < c → Skipped src at i
    skip-high l = stops (skip-here src i h (k.whitespace ∙ among-high 3 4 c l)).reads
