-- The grammar's simple strings as the decoder takes them: whitespace between marks left out first, and numbers by their digits.
-- proofs/Rules says that these are the RFC's rules.
use Prim.Native.Nat.{ℕ, suc, ◌+◌, ◌*◌, ◌%◌, ◌<◌}
use mathlib.Core.Path.{◌≡◌}
use mathlib.Core.Bool.{true, false}
use mathlib.Core.List.{List, [], ◌∷◌, ◌++◌}
use lib.ListN.{length}
use Rattle.model.specs.Grammar.{Quotables, Run, octet₁, octet₂, octet₃, Rules}
use Rattle.model.specs.Octets.{is_whitespace, is_token_start, hexval, letter}
use Rattle.model.specs.Tree.{digits, verbatim}

-- what stands before a closing mark, whitespace left out
pub data Upto (mark : ℕ) : List ℕ → List ℕ → List ℕ → Type 0 where
  upto-mark : {k : List ℕ} → Upto mark (mark ∷ k) [] k
  upto-white : {b : ℕ} {s l k : List ℕ} → is_whitespace b ≡ true → Upto mark s l k → Upto mark (b ∷ s) l k
  upto-other : {b : ℕ} {s l k : List ℕ} → is_whitespace b ≡ false → (b ≡ mark → ⊥) → Upto mark s l k → Upto mark (b ∷ s) (b ∷ l) k

pub data Hex : List ℕ → List ℕ → Type 0 where
  no-hex : Hex [] []
  two-hex : {a b : ℕ} {s d : List ℕ} → hexval a < 16 → hexval b < 16 → Hex s d → Hex (a ∷ b ∷ s) ((hexval a * 16 + hexval b) ∷ d)

-- at most so many "="
pub data Pads : ℕ → List ℕ → Type 0 where
  no-pad : {n : ℕ} → Pads n []
  a-pad : {n : ℕ} {s : List ℕ} → Pads n s → Pads (suc n) (61 ∷ s)

pub data Base64 (ρ : Rules) : List ℕ → List ℕ → Type 0 where
  no-letter : Base64 ρ [] []
  four : {a b c e : ℕ} {s d : List ℕ} → letter a < 64 → letter b < 64 → letter c < 64 → letter e < 64 → Base64 ρ s d
      → Base64 ρ (a ∷ b ∷ c ∷ e ∷ s) (octet₁ a b ∷ octet₂ b c ∷ octet₃ c e ∷ d)
  three : {a b c : ℕ} {p : List ℕ} → letter a < 64 → letter b < 64 → letter c < 64 → ρ.leftover (letter c % 4) ≡ true → Pads 1 p → Base64 ρ (a ∷ b ∷ c ∷ p) (octet₁ a b ∷ octet₂ b c ∷ [])
  two : {a b : ℕ} {p : List ℕ} → letter a < 64 → letter b < 64 → ρ.leftover (letter b % 16) ≡ true → Pads 2 p → Base64 ρ (a ∷ b ∷ p) (octet₁ a b ∷ [])

-- quoted, hexadecimal or base-64, with no length
pub data Marked (ρ : Rules) : List ℕ → List ℕ → List ℕ → Type 0 where
  in-quotes : {s d k : List ℕ} → Quotables ρ s d k → Marked ρ (34 ∷ s) d k
  in-hashes : {s l d k : List ℕ} → Upto 35 s l k → Hex l d → Marked ρ (35 ∷ s) d k
  in-bars : {s l d k : List ℕ} → Upto 124 s l k → Base64 ρ l d → Marked ρ (124 ∷ s) d k

pub data Simple (ρ : Rules) : List ℕ → List ℕ → List ℕ → Type 0 where
  simple-verbatim : (d k : List ℕ) → Simple ρ (verbatim d ++ k) d k
  simple-token : {b : ℕ} {s d k : List ℕ} → is_token_start b ≡ true → Run s d k → Simple ρ (b ∷ s) (b ∷ d) k
  unmeasured : {s d k : List ℕ} → Marked ρ s d k → Simple ρ s d k
  measured : {s d k : List ℕ} → Marked ρ s d k → Simple ρ (digits (length d) ++ s) d k
