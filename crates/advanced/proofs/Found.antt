-- What is read at a place of a source: nothing, or octets that stand as they are.
use Prim.Native.Nat.{ℕ, suc, ◌+◌, ◌-◌, ◌≤◌, ◌<◌}
use native.Mathlib.Omega.{arith}
use mathlib.Core.Path.{◌≡◌, refl, sym, ap, ap₂, ◌∙◌}
use mathlib.Core.Bool.{true}
use mathlib.Core.List.{List, [], ◌∷◌}
use lib.ListN.{length, take, drop, get_or, length-drop, drop_of_length-le}
use lib.Seq.{drop-drop}
use lib.Dec.{eqb}
use borrow.Author.Tests.{le-leb, lt-leb, eq-eqb, ne_eqb}
use Rattle.base.proofs.Cases.{by_bool, picked, unpicked, among_in}
use Rattle.model.specs.Octets.{is_digit}
use Rattle.model.specs.Grammar.{rules}
use Rattle.model.specs.Strings.{Read, got, refused, bind, first, marked, sized, after_number, simple}
use Rattle.model.proofs.Simples.{marked-sound}
use Rattle.model.proofs.Sizes.{marked-size}
use Rattle.octets.specs.Classes.{Class}
use Rattle.scan.specs.Runs.{Ran}
use Rattle.scan.proofs.Places.{one-here}
use Rattle.decimal.specs.Numbers.{Huge, Numbered}
use Rattle.std.specs.Prelude.{None}

-- ---- between marks

pub marked-none : (src : List ℕ) (at : ℕ) → (get_or src at 0 ≡ 34 → ⊥) → (get_or src at 0 ≡ 35 → ⊥) → (get_or src at 0 ≡ 124 → ⊥) → marked rules (get_or src at 0) (drop (at + 1) src) ≡ refused
unfolding marked
marked-none src at a b c = unpicked _ _ (ne_eqb _ _ a) ∙ unpicked _ _ (ne_eqb _ _ b) ∙ unpicked _ _ (ne_eqb _ _ c)

-- ---- after a number

-- a string between marks has no more octets than it takes up, so no length beyond the source's fits what follows it
too_long : (n b : ℕ) (s : List ℕ) → length s < n → bind (marked rules b s) (sized n) ≡ refused
unfolding bind sized
too_long n b s h = by (marked rules b s) refl
  where
    by : (x : Read (List ℕ)) → marked rules b s ≡ x → bind x (sized n) ≡ refused
    by (got d k) e = unpicked _ _ (ne_eqb (length d) n (λ z. omega (arith, marked-size (marked-sound b s e))))
    by refused e = refl

after-huge : (n : ℕ) (s : List ℕ) → length s < n → after_number rules n s ≡ refused
unfolding after_number first
after-huge n [] h = refl
after-huge n (b ∷ s) h =
    by_bool (eqb b 58)
    (λ t. picked _ _ t ∙ unpicked _ _ (lt-leb n (length s) (omega arith)))
    (λ t. unpicked _ _ t ∙ too_long n b s (omega arith))

pub counted-huge : (src : List ℕ) (at : ℕ) (y : Read ℕ) → Numbered src y at None → bind y (after_number rules) ≡ refused
unfolding Numbered bind
counted-huge src at y w = let u : Huge src y = w in rw u.reads (after-huge u.value u.rest (omega (arith, u.large, u.short)))

module _ (src : List ℕ) (at n : ℕ) where
  pub after-end : length src ≤ at → after_number rules n (drop at src) ≡ refused
  unfolding after_number
  after-end h = ap (after_number rules n) (drop_of_length-le src h)

  module _ (h : at < length src) (e : get_or src at 0 ≡ 58) where
    verbatim : after_number rules n (drop at src) ≡ first n (drop (at + 1) src)
    unfolding after_number
    verbatim = ap (after_number rules n) (one-here src at h) ∙ picked _ _ (eq-eqb _ _ e)

    pub after-short : length src - (at + 1) < n → after_number rules n (drop at src) ≡ refused
    unfolding first
    after-short k = verbatim ∙ unpicked _ _ (lt-leb n (length (drop (at + 1) src)) (omega (arith, length-drop (at + 1) src)))

    pub after-verbatim : n ≤ length src - (at + 1) → after_number rules n (drop at src) ≡ got (take n (drop (at + 1) src)) (drop (at + 1 + n) src)
    unfolding first
    after-verbatim k =
        let l : n ≤ length (drop (at + 1) src) = omega (arith, length-drop (at + 1) src) in
        verbatim ∙ picked _ _ (le-leb _ _ l) ∙ ap (got (take n (drop (at + 1) src))) (drop-drop n (at + 1) src)

-- ---- any

module _ (src : List ℕ) (at : ℕ) where
  pub simple-end : length src ≤ at → simple rules (drop at src) ≡ refused
  unfolding simple
  simple-end h = ap (simple rules) (drop_of_length-le src h)

  module _ (h : at < length src) (c : ℕ) (k : Class (get_or src at 0) c) where
    pub digit-here : 17 < c → is_digit (get_or src at 0) ≡ true
    digit-here l = k.digit ∙ le-leb 18 c (omega arith)

    pub token-here : (end : ℕ) → 14 ≤ c → c ≤ 17 → Ran src (at + 1) end → simple rules (drop at src) ≡ got (take (end - at) (drop at src)) (drop end src)
    unfolding simple bind
    token-here end p q r =
        let z : end - at ≡ suc (end - (at + 1)) = omega (arith, r.from) in
        let t : take (end - at) (drop at src) ≡ get_or src at 0 ∷ take (end - (at + 1)) (drop (at + 1) src) = ap₂ take z (one-here src at h) in
        ap (simple rules) (one-here src at h)
        ∙ unpicked _ _ (k.digit ∙ lt-leb 18 c (omega arith))
        ∙ picked _ _ (k.token_start ∙ among_in 14 17 c p q)
        ∙ rw r.reads (ap (λ (d : List ℕ). got d (drop end src)) (sym t))
