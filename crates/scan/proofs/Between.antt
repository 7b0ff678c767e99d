-- What stands between marks, read at a place of a source: whitespace is passed over, and the next octet is the mark or is taken.
use Prim.Native.Nat.{ℕ, ◌+◌, ◌≤◌, ◌<◌}
use native.Mathlib.Omega.{arith}
use mathlib.Core.Path.{◌≡◌, refl, sym, ap, ◌∙◌}
use mathlib.Core.Bool.{false}
use mathlib.Core.Option.{Option, none}
use mathlib.Core.List.{List, [], ◌∷◌, ◌++◌}
use lib.ListN.{length, drop, get_or, drop_of_length-le}
use Rattle.base.proofs.Cases.{by_bool, differ, picked, unpicked}
use Rattle.model.specs.Octets.{is_whitespace}
use Rattle.model.specs.Strings.{Read, got, refused, bind, skip, upto, decoded}
use Rattle.model.proofs.Streams.{between, between_none, between-mark, between-white, between-other}
use Rattle.scan.specs.Runs.{Skipped}
use Rattle.scan.proofs.Places.{one-here}

between-skip : (m : ℕ) (dec : List ℕ → Option (List ℕ)) (p s : List ℕ) → is_whitespace m ≡ false → between m dec p s ≡ between m dec p (skip s)
unfolding skip
between-skip m dec p [] n = refl
between-skip m dec p (b ∷ s) n =
    by_bool (is_whitespace b)
    (λ e. between-white m dec p b s (λ z. differ (ap is_whitespace (sym z) ∙ e) n) e ∙ between-skip m dec p s n ∙ ap (between m dec p) (sym (picked _ _ e)))
    (λ e. ap (between m dec p) (sym (unpicked _ _ e)))

-- no whitespace stands after whitespace
skip-head : (s : List ℕ) (b : ℕ) (k : List ℕ) → skip s ≡ b ∷ k → is_whitespace b ≡ false
unfolding skip
skip-head [] b k e = let z : ◌≡◌ {A = ℕ} 0 1 = cc in absurd (omega arith)
skip-head (a ∷ s) b k e =
    by_bool (is_whitespace a)
    (λ t. skip-head s b k (sym (picked _ _ t) ∙ e))
    (λ t. let z : a ≡ b = cc (sym (unpicked _ _ t) ∙ e) in ap is_whitespace (sym z) ∙ t)

module _ (m : ℕ) (dec : List ℕ → Option (List ℕ)) (p : List ℕ) (src : List ℕ) (at i : ℕ) (n : is_whitespace m ≡ false) (s : Skipped src at i) where
  place-skip : between m dec p (drop at src) ≡ between m dec p (drop i src)
  place-skip = between-skip m dec p (drop at src) n ∙ ap (between m dec p) s.reads

  pub place_none : length src ≤ i → between m dec p (drop at src) ≡ refused
  place_none h = place-skip ∙ ap (between m dec p) (drop_of_length-le src h) ∙ between_none m dec p

  pub place-mark : i < length src → get_or src i 0 ≡ m → between m dec p (drop at src) ≡ decoded (dec p) (drop (i + 1) src)
  place-mark h z = place-skip ∙ ap (between m dec p) (one-here src i h) ∙ between-mark m dec p (get_or src i 0) (drop (i + 1) src) z

  pub place_other : i < length src → (get_or src i 0 ≡ m → ⊥) → between m dec p (drop at src) ≡ between m dec (p ++ (get_or src i 0 ∷ [])) (drop (i + 1) src)
  place_other h z =
      place-skip ∙ ap (between m dec p) (one-here src i h)
      ∙ between-other m dec p (get_or src i 0) (drop (i + 1) src) z (skip-head (drop at src) _ _ (s.reads ∙ one-here src i h))

-- what was read gives nothing, whatever follows
pub lost : (m : ℕ) (dec : List ℕ → Option (List ℕ)) (p s : List ℕ) → ((l : List ℕ) → dec (p ++ l) ≡ none) → between m dec p s ≡ refused
unfolding bind decoded
lost m dec p s h = by (upto m s)
  where
    by : (r : Read (List ℕ)) → bind r (λ l k. decoded (dec (p ++ l)) k) ≡ refused
    by (got l k) = ap (λ (o : Option (List ℕ)). decoded o k) (h l)
    by refused = refl
