-- A pair of hexadecimal digits at a place of a source.
use Prim.Native.Nat.{ℕ, ◌+◌, ◌*◌, ◌-◌, ◌/◌, ◌%◌, ◌≤◌, ◌<◌}
use native.Mathlib.Omega.{arith}
use mathlib.Core.Path.{◌≡◌, refl, sym, ◌∙◌}
use mathlib.Core.Bool.{false}
use mathlib.Core.Option.{none}
use mathlib.Core.List.{List, [], ◌∷◌}
use lib.ListN.{length, drop, get_or}
use borrow.Author.Tests.{le-ltb, le-leb, ltb-true}
use Rattle.base.specs.Choice.{among, member}
use Rattle.base.proofs.Cases.{by_bool, by-eq, picked, unpicked, among-true}
use Rattle.model.specs.Octets.{is_whitespace, hexval}
use Rattle.model.specs.Grammar.{rules}
use Rattle.model.specs.Strings.{unhex, decoded, marked}
use Rattle.model.proofs.Classes.{hex-unwhite}
use Rattle.model.proofs.Streams.{between, hex-group, hex-bad₂}
use Rattle.octets.specs.Classes.{Class}
use Rattle.octets.specs.Values.{Value}
use Rattle.scan.specs.Marks.{Chunk}
use Rattle.scan.specs.Runs.{Skipped}
use Rattle.scan.proofs.Between.{place_none, place-mark, place_other, lost}
use Rattle.scan.proofs.Skips.{skip-here}
use Rattle.std.specs.Prelude.{Some, None}
use Rattle.hexadecimal.specs.Pairs.{Pairs, Digit}
use Rattle.hexadecimal.specs.declared.Pair.TheVariants.{Two, Hash}

hash-unwhite : is_whitespace 35 ≡ false
unfolding is_whitespace member
hash-unwhite = refl

hash-no-digit : (b : ℕ) → hexval b < 16 → b ≡ 35 → ⊥
unfolding hexval
hash-no-digit b h e = let w : hexval 35 < 16 = rw e at h in omega arith

unhex-bad : (a : ℕ) (l : List ℕ) → 16 ≤ hexval a → unhex (a ∷ l) ≡ none
unfolding unhex
unhex-bad a [] h = refl
unhex-bad a (b ∷ l) h = unpicked _ _ (le-ltb (hexval a) 16 h)

module _ (src : List ℕ) (at i : ℕ) (s : Skipped src at i) where
  pub pair-cut : length src ≤ i → Pairs src at None
  unfolding Pairs marked
  pair-cut h = place_none 35 unhex [] src at i hash-unwhite s h

  module _ (h : i < length src) (p : ℕ) (is : p ≡ get_or src i 0) where
    pub pair-hash : p ≡ 35 → Pairs src at (Some (Hash (i + 1)))
    unfolding Pairs marked unhex decoded
    pair-hash z = record { on = omega (arith, s.from); within = omega arith; ends = place-mark 35 unhex [] src at i hash-unwhite s h (sym is ∙ z) }

    module _ (n : p ≡ 35 → ⊥) where
      first : marked rules 35 (drop at src) ≡ between 35 unhex (p ∷ []) (drop (i + 1) src)
      unfolding marked
      first = rw is (place_other 35 unhex [] src at i hash-unwhite s h (λ z. n (is ∙ z)))

      pub pair-bad : Value 16 (hexval p) None → Pairs src at None
      unfolding Pairs
      pair-bad k = first ∙ lost 35 unhex (p ∷ []) (drop (i + 1) src) (λ l. unhex-bad p l (omega arith))

      module _ (a : ℕ) (x : Value 16 (hexval p) (Some a)) (j : ℕ) (s₂ : Skipped src (i + 1) j) where
        pub pair-cut₂ : length src ≤ j → Pairs src at None
        unfolding Pairs
        pair-cut₂ h₂ = first ∙ place_none 35 unhex (p ∷ []) src (i + 1) j hash-unwhite s₂ h₂

        module _ (h₂ : j < length src) (q : ℕ) (is₂ : q ≡ get_or src j 0) where
          second : (q ≡ 35 → ⊥) → marked rules 35 (drop at src) ≡ between 35 unhex (p ∷ q ∷ []) (drop (j + 1) src)
          second z = first ∙ rw is₂ (place_other 35 unhex (p ∷ []) src (i + 1) j hash-unwhite s₂ h₂ (λ y. z (is₂ ∙ y)))

          pub pair-bad₂ : Value 16 (hexval q) None → Pairs src at None
          unfolding Pairs decoded unhex
          pair-bad₂ l =
              by-eq q 35
              (λ z. first ∙ place-mark 35 unhex (p ∷ []) src (i + 1) j hash-unwhite s₂ h₂ (sym is₂ ∙ z))
              (λ z. second z ∙ hex-bad₂ 35 p q (drop (j + 1) src) (omega (arith, x)) (omega arith))

          pub pair-two : (b : ℕ) → Value 16 (hexval q) (Some b) → Pairs src at (Some (Two (a * 16 + b) (j + 1)))
          unfolding Pairs marked
          pair-two b y =
              record {
                on = omega (arith, s.from, s₂.from);
                few = omega (arith, s.from, s₂.from);
                within = omega arith;
                more = second (hash-no-digit _ (omega (arith, y))) ∙ rw (x.0, y.0) (hex-group 35 p q (drop (j + 1) src) (omega (arith, x)) (omega (arith, y)));
              }

-- two digits side by side
pub pair-here : (src : List ℕ) (at a b : ℕ) → 2 ≤ length src - at → a ≡ hexval (get_or src at 0) → a < 16 → b ≡ hexval (get_or src (at + 1) 0) → b < 16
    → Chunk (marked rules 35) src at ((a * 16 + b) ∷ []) (at + 2)
unfolding Pairs
pair-here src at a b h x k y l =
    let s₁ : Skipped src at at = skip-here src at (omega arith) (hex-unwhite _ (omega arith)) in
    let s₂ : Skipped src (at + 1) (at + 1) = skip-here src (at + 1) (omega arith) (hex-unwhite _ (omega arith)) in
    let z : at + 1 + 1 ≡ at + 2 = omega arith in
    rw z at (pair-two src at at s₁ (omega arith) _ refl (hash-no-digit _ (omega arith)) a (x, k) (at + 1) s₂ (omega arith) _ refl b (y, l))

-- a digit by its class
pub digit-by-class : (b c : ℕ) → Class b c → 17 ≤ c → hexval b < 16
digit-by-class b c k h = ltb-true (hexval b) 16 (k.hexdig ∙ le-leb 17 c h)

-- a digit's value, computed
value-is : (b : ℕ) → hexval b < 16 → b % 16 + b / 64 * 9 ≡ hexval b
unfolding hexval
value-is b h =
    by_bool (among 48 57 b)
    (λ t. let v : hexval b ≡ b - 48 = picked _ _ t in omega (arith, among-true 48 57 b t))
    (λ t. by_bool (among 65 70 b)
    (λ u. let v : hexval b ≡ b - 55 = unpicked _ _ t ∙ picked _ _ u in omega (arith, among-true 65 70 b u))
    (λ u. by_bool (among 97 102 b)
    (λ w. let v : hexval b ≡ b - 87 = unpicked _ _ t ∙ unpicked _ _ u ∙ picked _ _ w in omega (arith, among-true 97 102 b w))
    (λ w. let v : hexval b ≡ 16 = unpicked _ _ t ∙ unpicked _ _ u ∙ unpicked _ _ w in absurd (omega arith))))

pub value-digit : (b : ℕ) → hexval b < 16 → Digit b (b % 16 + b / 64 * 9)
value-digit b h = record { is = value-is b h; low = omega (arith, value-is b h) }

-- the closing mark, with no whitespace before it
pub hash-here : (src : List ℕ) (at : ℕ) → at < length src → get_or src at 0 ≡ 35 → Pairs src at (Some (Hash (at + 1)))
hash-here src at h z = pair-hash src at at (skip-here src at h (rw z hash-unwhite)) h _ refl z
