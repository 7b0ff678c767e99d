-- A letter, a pad or the closing mark at a place of a source.
use Prim.Native.Nat.{ℕ, ◌+◌, ◌≤◌, ◌<◌}
use native.Mathlib.Omega.{arith}
use mathlib.Core.Path.{◌≡◌, sym, ◌∙◌, subst}
use mathlib.Core.List.{List, [], ◌∷◌, ◌++◌}
use lib.ListN.{length, drop, get_or}
use Rattle.model.specs.Octets.{letter}
use Rattle.model.specs.Grammar.{rules}
use Rattle.model.specs.Strings.{refused, unbase}
use Rattle.model.proofs.Streams.{between}
use Rattle.model.proofs.Stripped.{Base64}
use Rattle.scan.specs.Runs.{Skipped}
use Rattle.scan.proofs.Between.{place_none, place-mark, place_other}
use Rattle.std.specs.Prelude.{Some, None}
use Rattle.radix64.specs.Steps.{Closing, OneMore, Closed, Letters}
use Rattle.radix64.proofs.Ends.{base-bad, base-lost, unclosed}
use Rattle.radix64.specs.declared.steps.Letter.{Letter}
use Rattle.radix64.specs.declared.steps.Letter.TheVariants.{Char, Pad, End}

module _ (m : ℕ) (k : Closing m) (src : List ℕ) (at i : ℕ) (s : Skipped src at i) where
  pub letter-cut : length src ≤ i → Letters m src at None
  unfolding Letters
  letter-cut h p = place_none m (unbase rules) p src at i k.no-white s h

  module _ (h : i < length src) (x : ℕ) (is : x ≡ get_or src i 0) where
    pub letter-end : x ≡ m → Letters m src at (Some (End (i + 1)))
    unfolding Letters
    letter-end z = record { on = omega (arith, s.from); within = omega arith; moves = λ p. place-mark m (unbase rules) p src at i k.no-white s h (sym is ∙ z) }

    module _ (n : x ≡ m → ⊥) where
      pub one_more : OneMore m src at x (i + 1)
      one_more = record { on = omega (arith, s.from); within = omega arith; moves = λ p. rw is (place_other m (unbase rules) p src at i k.no-white s h (λ z. n (is ∙ z))) }

      pub letter-pad : x ≡ 61 → Letters m src at (Some (Pad (i + 1)))
      unfolding Letters
      letter-pad z = subst (λ (q : ℕ). OneMore m src at q (i + 1)) z one_more

      module _ (o : x ≡ 61 → ⊥) (v : ℕ) (y : v ≡ letter x) where
        pub letter-bad : 64 ≤ v → Letters m src at None
        unfolding Letters
        letter-bad l p = one_more.moves p ∙ base-lost m (p ++ (x ∷ [])) (drop (i + 1) src) (λ r d q. base-bad p x r d (omega arith) o q)

        pub letter-char : v < 64 → Letters m src at (Some (Char x (i + 1)))
        unfolding Letters
        letter-char l = (omega arith, one_more)

-- ---- what a letter at a place says
pub to_none : (m : ℕ) (src : List ℕ) (at : ℕ) → Letters m src at None → (p : List ℕ) → between m (unbase rules) p (drop at src) ≡ refused
unfolding Letters
to_none m src at w p = w p

module _ (m : ℕ) (src : List ℕ) (at : ℕ) (r : Letter) (w : Letters m src at (Some r)) where
  pub to-char : (v next : ℕ) → r ≡ Char v next → (letter v < 64) × OneMore m src at v next
  unfolding Letters
  to-char v next e = subst (λ (l : Letter). Letters m src at (Some l)) e w

  pub to_end : (next : ℕ) → r ≡ End next → Closed m src at next
  unfolding Letters
  to_end next e = subst (λ (l : Letter). Letters m src at (Some l)) e w

  pub to-pad : (next : ℕ) → r ≡ Pad next → OneMore m src at 61 next
  unfolding Letters
  to-pad next e = subst (λ (l : Letter). Letters m src at (Some l)) e w

  pub pad-place : (next : ℕ) → r ≡ Pad next → next ≤ length src
  pad-place next e = (to-pad next e).within

  pub char-place : (v next : ℕ) → r ≡ Char v next → next ≤ length src
  char-place v next e = (to-char v next e).1.within

  pub char-low : (v next : ℕ) → r ≡ Char v next → letter v < 64
  char-low v next e = (to-char v next e).0

  -- refusals, over what was read before
  pub no_end : (p : List ℕ) (next : ℕ) → r ≡ End next → ((d : List ℕ) → Base64 rules p d → ⊥) → between m (unbase rules) p (drop at src) ≡ refused
  no_end p next e n = (to_end next e).moves p ∙ unclosed p (drop next src) n

  pub no-pads : (p : List ℕ) (next : ℕ) → r ≡ Pad next → ((l d : List ℕ) → Base64 rules ((p ++ (61 ∷ [])) ++ l) d → ⊥) → between m (unbase rules) p (drop at src) ≡ refused
  no-pads p next e n = (to-pad next e).moves p ∙ base-lost m (p ++ (61 ∷ [])) (drop next src) n

  pub no_char : (p : List ℕ) (v next : ℕ) → r ≡ Char v next → ((l d : List ℕ) → letter v < 64 → Base64 rules ((p ++ (v ∷ [])) ++ l) d → ⊥) → between m (unbase rules) p (drop at src) ≡ refused
  no_char p v next e n = (to-char v next e).1.moves p ∙ base-lost m (p ++ (v ∷ [])) (drop next src) (λ l d x. n l d (to-char v next e).0 x)
