-- Groups of four letters side by side.
use Prim.Native.Nat.{ℕ, ◌+◌, ◌-◌, ◌≤◌, ◌<◌}
use native.Mathlib.Omega.{arith}
use mathlib.Core.Path.{◌≡◌, refl, ◌∙◌}
use mathlib.Core.List.{List, [], ◌∷◌}
use lib.ListN.{length, drop, get_or}
use Rattle.model.specs.Octets.{letter}
use Rattle.model.specs.Grammar.{rules}
use Rattle.model.specs.Strings.{unbase}
use Rattle.model.proofs.Classes.{letter-unwhite}
use Rattle.model.proofs.Streams.{between, base-group}
use Rattle.scan.specs.Marks.{Chunk}
use Rattle.scan.proofs.Skips.{skip-here}
use Rattle.radix64.specs.Bits.{three_octets}
use Rattle.std.specs.Prelude.{Some}
use Rattle.radix64.specs.Steps.{Closing, OneMore, Letters}
use Rattle.radix64.specs.declared.steps.Letter.TheVariants.{Char}
use Rattle.radix64.proofs.LetterSteps.{one_more}
use Rattle.radix64.proofs.Marks.{pad-no-letter, mark-no-letter}

module _ (m : ℕ) (k : Closing m) (src : List ℕ) where
  still : (i j : ℕ) → i < length src → letter (get_or src i 0) < 64 → i + 1 ≡ j → OneMore m src i (get_or src i 0) j
  still i j h l z = rw z at (one_more m k src i i (skip-here src i h (letter-unwhite _ l)) h _ refl (mark-no-letter m k _ l))

  pub letter-here : (at x : ℕ) → at < length src → x ≡ get_or src at 0 → letter x < 64 → Letters m src at (Some (Char x (at + 1)))
  unfolding Letters
  letter-here at x h is l = let n : letter (get_or src at 0) < 64 = rw is at l in rw is (n, still at (at + 1) h n refl)

  pub group-here : (at a b c e : ℕ) → 4 ≤ length src - at → a ≡ letter (get_or src at 0) → a < 64 → b ≡ letter (get_or src (at + 1) 0) → b < 64
      → c ≡ letter (get_or src (at + 2) 0) → c < 64 → e ≡ letter (get_or src (at + 3) 0) → e < 64 → Chunk (between m (unbase rules) []) src at (three_octets a b c e) (at + 4)
  group-here at a b c e h xa ha xb hb xc hc xe he =
      record {
        on = omega arith;
        few = omega arith;
        within = omega arith;
        more =
            (still at (at + 1) (omega arith) (omega arith) refl).moves []
            ∙ (still (at + 1) (at + 2) (omega arith) (omega arith) (omega arith)).moves (get_or src at 0 ∷ [])
            ∙ (still (at + 2) (at + 3) (omega arith) (omega arith) (omega arith)).moves (get_or src at 0 ∷ get_or src (at + 1) 0 ∷ [])
            ∙ (still (at + 3) (at + 4) (omega arith) (omega arith) (omega arith)).moves (get_or src at 0 ∷ get_or src (at + 1) 0 ∷ get_or src (at + 2) 0 ∷ [])
            ∙ rw (xa, xb, xc, xe) (base-group m _ _ _ _ (drop (at + 4) src) (omega arith) (omega arith) (omega arith) (omega arith) (pad-no-letter _ (omega arith)));
      }
