-- What is written in form 2 is read again.
use Prim.Native.Nat.{ℕ, ◌+◌, ◌*◌, ◌/◌, ◌%◌, ◌<◌}
use native.Mathlib.Omega.{arith}
use mathlib.Core.Path.{◌≡◌, refl, ap, ap₂, ◌∙◌, subst}
use mathlib.Core.Bool.{true}
use mathlib.Core.Option.{some}
use mathlib.Core.List.{List, [], ◌∷◌, ◌++◌}
use lib.Dec.{eqb}
use borrow.Author.Tests.{eqb-true}
use Rattle.base.specs.Choice.{member, chain}
use Rattle.base.proofs.Below.{below, below_at}
use Rattle.model.specs.Decode.{unbrace, decode₂}
use Rattle.model.specs.Grammar.{octet₁, octet₂, octet₃, rules}
use Rattle.model.specs.Octets.{is_whitespace, letter, leftover}
use Rattle.model.specs.Strings.{lastly}
use Rattle.model.specs.Tree.{Tree, canon, Bytes, no_byte, a_byte}
use Rattle.model.specs.Write.{letter_of, base_all, basic}
use Rattle.model.proofs.Classes.{letter-unwhite}
use Rattle.model.proofs.Exact.{canon-complete}
use Rattle.model.proofs.Marks.{upto-complete, base-complete}
use Rattle.model.proofs.Rules.{pad-unwhite}
use Rattle.model.proofs.Stripped.{Upto, upto-mark, upto-other, no-pad, a-pad, Base64, no-letter, four, three, two}

letter-tested : below 64 (λ n. eqb (letter (letter_of n)) n) ≡ true
unfolding below letter letter_of
letter-tested = refl

value_of : (n : ℕ) → n < 64 → letter (letter_of n) ≡ n
value_of n h = eqb-true _ _ (below_at 64 (λ n. eqb (letter (letter_of n)) n) letter-tested n h)

letter-unmark : (a : ℕ) → letter a < 64 → a ≡ 125 → ⊥
unfolding letter
letter-unmark a h e = let w : letter 125 < 64 = rw e at h in omega arith

letter-upto : (n : ℕ) {s l k : List ℕ} → n < 64 → Upto 125 s l k → Upto 125 (letter_of n ∷ s) (letter_of n ∷ l) k
letter-upto n h u = let v : letter (letter_of n) ≡ n = value_of n h in upto-other (letter-unwhite (letter_of n) (omega arith)) (letter-unmark (letter_of n) (omega arith)) u

pad-mark : ◌≡◌ {A = ℕ} 61 125 → ⊥
pad-mark e = omega arith

pad-upto : {s l k : List ℕ} → Upto 125 s l k → Upto 125 (61 ∷ s) (61 ∷ l) k
pad-upto u = upto-other pad-unwhite pad-mark u

base-upto : (d : List ℕ) → Bytes d → Upto 125 (base_all d ++ 125 ∷ []) (base_all d) []
unfolding base_all
base-upto [] no_byte = upto-mark
base-upto (a ∷ []) (a_byte h no_byte) = letter-upto (a / 4) (omega arith) (letter-upto (a % 4 * 16) (omega arith) (pad-upto (pad-upto upto-mark)))
base-upto (a ∷ b ∷ []) (a_byte h (a_byte i no_byte)) =
    letter-upto (a / 4) (omega arith) (letter-upto (a % 4 * 16 + b / 16) (omega arith) (letter-upto (b % 16 * 4) (omega arith) (pad-upto upto-mark)))
base-upto (a ∷ b ∷ c ∷ d) (a_byte h (a_byte i (a_byte j x))) =
    letter-upto (a / 4) (omega arith) (letter-upto (a % 4 * 16 + b / 16) (omega arith) (letter-upto (b % 16 * 4 + c / 64) (omega arith) (letter-upto (c % 64) (omega arith) (base-upto d x))))

-- the last letter's spare bits are written as zeros
no-leftover : leftover 0 ≡ true
unfolding leftover
no-leftover = refl

leftover-zero : (n : ℕ) → n ≡ 0 → leftover n ≡ true
leftover-zero n e = ap leftover e ∙ no-leftover

base-shown : (d : List ℕ) → Bytes d → Base64 rules (base_all d) d
unfolding base_all
base-shown [] no_byte = no-letter
base-shown (a ∷ []) (a_byte h no_byte) =
    let p : letter (letter_of (a / 4)) ≡ a / 4 = value_of (a / 4) (omega arith) in
    let q : letter (letter_of (a % 4 * 16)) ≡ a % 4 * 16 = value_of (a % 4 * 16) (omega arith) in
    subst (λ (x : ℕ). Base64 rules (letter_of (a / 4) ∷ letter_of (a % 4 * 16) ∷ 61 ∷ 61 ∷ []) (x ∷ [])) (omega arith) (two (omega arith) (omega arith) (leftover-zero _ (omega arith)) (a-pad (a-pad no-pad)))
base-shown (a ∷ b ∷ []) (a_byte h (a_byte i no_byte)) =
    let p : letter (letter_of (a / 4)) ≡ a / 4 = value_of (a / 4) (omega arith) in
    let q : letter (letter_of (a % 4 * 16 + b / 16)) ≡ a % 4 * 16 + b / 16 = value_of (a % 4 * 16 + b / 16) (omega arith) in
    let r : letter (letter_of (b % 16 * 4)) ≡ b % 16 * 4 = value_of (b % 16 * 4) (omega arith) in
    let u : octet₁ (letter_of (a / 4)) (letter_of (a % 4 * 16 + b / 16)) ≡ a = omega arith in
    let v : octet₂ (letter_of (a % 4 * 16 + b / 16)) (letter_of (b % 16 * 4)) ≡ b = omega arith in
    subst (Base64 rules _) (ap₂ (λ (x y : ℕ). x ∷ y ∷ []) u v) (three (omega arith) (omega arith) (omega arith) (leftover-zero _ (omega arith)) (a-pad no-pad))
base-shown (a ∷ b ∷ c ∷ d) (a_byte h (a_byte i (a_byte j x))) =
    let p : letter (letter_of (a / 4)) ≡ a / 4 = value_of (a / 4) (omega arith) in
    let q : letter (letter_of (a % 4 * 16 + b / 16)) ≡ a % 4 * 16 + b / 16 = value_of (a % 4 * 16 + b / 16) (omega arith) in
    let r : letter (letter_of (b % 16 * 4 + c / 64)) ≡ b % 16 * 4 + c / 64 = value_of (b % 16 * 4 + c / 64) (omega arith) in
    let t : letter (letter_of (c % 64)) ≡ c % 64 = value_of (c % 64) (omega arith) in
    let u : octet₁ (letter_of (a / 4)) (letter_of (a % 4 * 16 + b / 16)) ≡ a = omega arith in
    let v : octet₂ (letter_of (a % 4 * 16 + b / 16)) (letter_of (b % 16 * 4 + c / 64)) ≡ b = omega arith in
    let w : octet₃ (letter_of (b % 16 * 4 + c / 64)) (letter_of (c % 64)) ≡ c = omega arith in
    subst (Base64 rules _) (ap (λ (x : ℕ). x ∷ b ∷ c ∷ d) u)
    (subst (Base64 rules _) (ap₂ (λ (x y : ℕ). octet₁ (letter_of (a / 4)) (letter_of (a % 4 * 16 + b / 16)) ∷ x ∷ y ∷ d) v w) (four (omega arith) (omega arith) (omega arith) (omega arith) (base-shown d x)))

pub round-trip₂ : (t : Tree) → Bytes (canon t) → decode₂ rules (basic t) ≡ some t
unfolding basic decode₂ unbrace chain lastly is_whitespace member
round-trip₂ t x = rw (upto-complete 125 refl (base-upto (canon t) x), base-complete (base-shown (canon t) x)) (canon-complete t)
