-- A run of token octets at a place of a source.
use Prim.Native.Nat.{ℕ, ◌+◌, ◌-◌, ◌≤◌, ◌<◌}
use native.Mathlib.Omega.{arith}
use mathlib.Core.Path.{◌≡◌, sym, ap, ◌∙◌}
use mathlib.Core.List.{List, [], ◌∷◌, ◌++◌, append_assoc, append-nil}
use lib.ListN.{length, take, drop, get_or, drop_of_length-le}
use borrow.Author.Tests.{le-leb, lt-leb}
use Rattle.base.proofs.Cases.{by_le, picked, unpicked}
use Rattle.model.specs.Strings.{got, bind, run}
use Rattle.octets.specs.Classes.{Class}
use Rattle.scan.specs.Runs.{Ran, Under, Reach}
use Rattle.scan.proofs.Places.{one-here, part-more}
use Rattle.scan.proofs.Reaching.{reach-by}

-- what was taken so far, before what the rest gives
record Taken (src : List ℕ) (at i : ℕ) : Type 0 where
  from : at ≤ i
  within : i ≤ length src
  so_far : (d k : List ℕ) → run (drop i src) ≡ got d k → run (drop at src) ≡ got (take (i - at) (drop at src) ++ d) k

taken_none : (src : List ℕ) (at : ℕ) → at ≤ length src → Taken src at at
taken_none src at h = record { from = omega arith; within = h; so_far = λ d k e. let z : at - at ≡ 0 = omega arith in rw z e }

module _ (src : List ℕ) (at i : ℕ) (t : Taken src at i) where
  ran : run (drop i src) ≡ got [] (drop i src) → Ran src at i
  ran e = record { from = t.from; within = t.within; reads = t.so_far [] (drop i src) e ∙ ap (λ (x : List ℕ). got x (drop i src)) (append-nil _) }

  ran-end : length src ≤ i → Ran src at i
  unfolding run
  ran-end h = ran (ap run (drop_of_length-le src h) ∙ ap (got []) (sym (drop_of_length-le src h)))

  module _ (c : ℕ) (h : i < length src) (k : Class (get_or src i 0) c) where
    taken_more : 14 ≤ c → Taken src at (i + 1)
    unfolding run bind
    taken_more l =
        record {
          from = omega (arith, t.from);
          within = omega arith;
          so_far = λ d r g.
              t.so_far (get_or src i 0 ∷ d) r (ap run (one-here src i h) ∙ picked _ _ (k.token_octet ∙ le-leb 14 c l) ∙ rw g)
              ∙ ap (λ (x : List ℕ). got x r) (sym (append_assoc (take (i - at) (drop at src)) (get_or src i 0 ∷ []) d) ∙ ap (λ (x : List ℕ). x ++ d) (part-more src at i t.from h));
        }

    ran-stop : c < 14 → Ran src at i
    unfolding run
    ran-stop l = ran (ap run (one-here src i h) ∙ unpicked _ _ (k.token_octet ∙ lt-leb 14 c l) ∙ ap (got []) (sym (one-here src i h)))

pub ran-reach : (src : List ℕ) (at r : ℕ) → at ≤ length src → Reach src at (length src) 14 r → Ran src at r
ran-reach src at r h w =
    let t : Taken src at r =
    reach-by (Taken src at) src at (length src) 14 r w (taken_none src at h) (λ i f l a p. taken_more src at i p a.class (omega (arith, w.within)) a.is a.over) in
    by_le (length src) r
    (λ e. ran-end src at r t e)
    (λ l. let u : Under 14 (get_or src r 0) = w.stop l in ran-stop src at r t u.class l u.is u.under)
