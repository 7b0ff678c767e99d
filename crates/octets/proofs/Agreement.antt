-- The list agrees with the grammar's ranges at each octet, by one computed test.
use Prim.Native.Nat.{ℕ, zero, suc}
use mathlib.Core.Path.{◌≡◌, refl, sym, ◌∙◌}
use mathlib.Core.Bool.{Bool, true, not}
use mathlib.Core.List.{List, [], ◌∷◌}
use lib.ListN.{get_or}
use lib.Dec.{leb, ltb, eqb}
use borrow.Author.Tests.{eqb-true}
use Rattle.base.specs.Choice.{pick, both, among, member}
use Rattle.base.proofs.Below.{below, below_at}
use Rattle.base.proofs.Cases.{pick-cases, both_true, not-true}
use Rattle.model.specs.Octets.{is_whitespace, is_digit, is_alpha, is_simple_punc, is_token_start, is_token_octet, is_printable, hexval, letter}
use Rattle.octets.specs.Classes.{Class, Classed, Lettered}

unfoldable pub class_table : List ℕ
class_table =
    0 ∷ 0 ∷ 0 ∷ 0 ∷ 0 ∷ 0 ∷ 0 ∷ 0 ∷ 0 ∷ 3 ∷ 3 ∷ 3 ∷ 3 ∷ 3 ∷ 0 ∷ 0
    ∷ 0 ∷ 0 ∷ 0 ∷ 0 ∷ 0 ∷ 0 ∷ 0 ∷ 0 ∷ 0 ∷ 0 ∷ 0 ∷ 0 ∷ 0 ∷ 0 ∷ 0 ∷ 0
    ∷ 4 ∷ 5 ∷ 1 ∷ 10 ∷ 5 ∷ 5 ∷ 5 ∷ 5 ∷ 6 ∷ 7 ∷ 14 ∷ 15 ∷ 5 ∷ 14 ∷ 14 ∷ 15
    ∷ 18 ∷ 18 ∷ 18 ∷ 18 ∷ 18 ∷ 18 ∷ 18 ∷ 18 ∷ 18 ∷ 18 ∷ 14 ∷ 5 ∷ 5 ∷ 14 ∷ 5 ∷ 5
    ∷ 5 ∷ 17 ∷ 17 ∷ 17 ∷ 17 ∷ 17 ∷ 17 ∷ 16 ∷ 16 ∷ 16 ∷ 16 ∷ 16 ∷ 16 ∷ 16 ∷ 16 ∷ 16
    ∷ 16 ∷ 16 ∷ 16 ∷ 16 ∷ 16 ∷ 16 ∷ 16 ∷ 16 ∷ 16 ∷ 16 ∷ 16 ∷ 8 ∷ 2 ∷ 9 ∷ 5 ∷ 14
    ∷ 5 ∷ 17 ∷ 17 ∷ 17 ∷ 17 ∷ 17 ∷ 17 ∷ 16 ∷ 16 ∷ 16 ∷ 16 ∷ 16 ∷ 16 ∷ 16 ∷ 16 ∷ 16
    ∷ 16 ∷ 16 ∷ 16 ∷ 16 ∷ 16 ∷ 16 ∷ 16 ∷ 16 ∷ 16 ∷ 16 ∷ 16 ∷ 12 ∷ 11 ∷ 13 ∷ 5 ∷ 0
    ∷ 0 ∷ 0 ∷ 0 ∷ 0 ∷ 0 ∷ 0 ∷ 0 ∷ 0 ∷ 0 ∷ 0 ∷ 0 ∷ 0 ∷ 0 ∷ 0 ∷ 0 ∷ 0
    ∷ 0 ∷ 0 ∷ 0 ∷ 0 ∷ 0 ∷ 0 ∷ 0 ∷ 0 ∷ 0 ∷ 0 ∷ 0 ∷ 0 ∷ 0 ∷ 0 ∷ 0 ∷ 0
    ∷ 0 ∷ 0 ∷ 0 ∷ 0 ∷ 0 ∷ 0 ∷ 0 ∷ 0 ∷ 0 ∷ 0 ∷ 0 ∷ 0 ∷ 0 ∷ 0 ∷ 0 ∷ 0
    ∷ 0 ∷ 0 ∷ 0 ∷ 0 ∷ 0 ∷ 0 ∷ 0 ∷ 0 ∷ 0 ∷ 0 ∷ 0 ∷ 0 ∷ 0 ∷ 0 ∷ 0 ∷ 0
    ∷ 0 ∷ 0 ∷ 0 ∷ 0 ∷ 0 ∷ 0 ∷ 0 ∷ 0 ∷ 0 ∷ 0 ∷ 0 ∷ 0 ∷ 0 ∷ 0 ∷ 0 ∷ 0
    ∷ 0 ∷ 0 ∷ 0 ∷ 0 ∷ 0 ∷ 0 ∷ 0 ∷ 0 ∷ 0 ∷ 0 ∷ 0 ∷ 0 ∷ 0 ∷ 0 ∷ 0 ∷ 0
    ∷ 0 ∷ 0 ∷ 0 ∷ 0 ∷ 0 ∷ 0 ∷ 0 ∷ 0 ∷ 0 ∷ 0 ∷ 0 ∷ 0 ∷ 0 ∷ 0 ∷ 0 ∷ 0
    ∷ 0 ∷ 0 ∷ 0 ∷ 0 ∷ 0 ∷ 0 ∷ 0 ∷ 0 ∷ 0 ∷ 0 ∷ 0 ∷ 0 ∷ 0 ∷ 0 ∷ 0 ∷ 0 ∷ []

unfoldable same_bool : Bool → Bool → Bool
same_bool t u = pick t u (not u)

same_bool_lem : (t u : Bool) → same_bool t u ≡ true → t ≡ u
unfolding same_bool
same_bool_lem t u e = pick-cases t u (not u) e (λ a b. a ∙ sym b) (λ a b. a ∙ sym (not-true b))

-- the tests that a class number answers, each beside the grammar's
unfoldable answers : ℕ → ℕ → List (Bool × Bool)
answers b c =
    (is_whitespace b, among 3 4 c)
    ∷ (is_printable b, leb 4 c)
    ∷ (is_token_start b, among 14 17 c)
    ∷ (is_token_octet b, leb 14 c)
    ∷ (ltb (letter b) 64, leb 15 c)
    ∷ (ltb (hexval b) 16, leb 17 c)
    ∷ (is_digit b, leb 18 c)
    ∷ (eqb b 34, eqb c 1)
    ∷ (eqb b 92, eqb c 2)
    ∷ (eqb b 40, eqb c 6)
    ∷ (eqb b 41, eqb c 7)
    ∷ (eqb b 91, eqb c 8)
    ∷ (eqb b 93, eqb c 9)
    ∷ (eqb b 35, eqb c 10)
    ∷ (eqb b 124, eqb c 11)
    ∷ (eqb b 123, eqb c 12)
    ∷ (eqb b 125, eqb c 13)
    ∷ []

unfoldable agree : List (Bool × Bool) → Bool
agree [] = true
agree (p ∷ ps) = both (same_bool p.0 p.1) (agree ps)

-- the k-th of them
unfoldable nth : List (Bool × Bool) → ℕ → Bool × Bool
nth [] k = (true, true)
nth (p ∷ ps) zero = p
nth (p ∷ ps) (suc k) = nth ps k

agree_at : (ps : List (Bool × Bool)) (k : ℕ) → agree ps ≡ true → (nth ps k).0 ≡ (nth ps k).1
unfolding agree nth
agree_at [] k e = refl
agree_at (p ∷ ps) zero e = same_bool_lem p.0 p.1 (both_true {t = same_bool p.0 p.1} {u = agree ps} e).0
agree_at (p ∷ ps) (suc k) e = agree_at ps k (both_true {t = same_bool p.0 p.1} {u = agree ps} e).1

tested : below 256 (λ b. agree (answers b (get_or class_table b 0))) ≡ true
unfolding below class_table same_bool answers agree is_whitespace is_printable is_token_start is_token_octet is_alpha is_simple_punc member letter hexval
tested = refl

class : (b c : ℕ) → agree (answers b c) ≡ true → Class b c
unfolding answers nth
class b c e =
    record {
      whitespace = agree_at (answers b c) 0 e;
      printable = agree_at (answers b c) 1 e;
      token_start = agree_at (answers b c) 2 e;
      token_octet = agree_at (answers b c) 3 e;
      letter = agree_at (answers b c) 4 e;
      hexdig = agree_at (answers b c) 5 e;
      digit = agree_at (answers b c) 6 e;
      quote = agree_at (answers b c) 7 e;
      backslash = agree_at (answers b c) 8 e;
      opening = agree_at (answers b c) 9 e;
      closing = agree_at (answers b c) 10 e;
      hint_opening = agree_at (answers b c) 11 e;
      hint_closing = agree_at (answers b c) 12 e;
      hash = agree_at (answers b c) 13 e;
      bar = agree_at (answers b c) 14 e;
      brace_opening = agree_at (answers b c) 15 e;
      brace_closing = agree_at (answers b c) 16 e;
    }

pub classed : Classed class_table
classed = record { at = λ b h. class b (get_or class_table b 0) (below_at 256 (λ b. agree (answers b (get_or class_table b 0))) tested b h) }

unfoldable pub letter_table : List ℕ
letter_table =
    64 ∷ 64 ∷ 64 ∷ 64 ∷ 64 ∷ 64 ∷ 64 ∷ 64 ∷ 64 ∷ 64 ∷ 64 ∷ 64 ∷ 64 ∷ 64 ∷ 64 ∷ 64
    ∷ 64 ∷ 64 ∷ 64 ∷ 64 ∷ 64 ∷ 64 ∷ 64 ∷ 64 ∷ 64 ∷ 64 ∷ 64 ∷ 64 ∷ 64 ∷ 64 ∷ 64 ∷ 64
    ∷ 64 ∷ 64 ∷ 64 ∷ 64 ∷ 64 ∷ 64 ∷ 64 ∷ 64 ∷ 64 ∷ 64 ∷ 64 ∷ 62 ∷ 64 ∷ 64 ∷ 64 ∷ 63
    ∷ 52 ∷ 53 ∷ 54 ∷ 55 ∷ 56 ∷ 57 ∷ 58 ∷ 59 ∷ 60 ∷ 61 ∷ 64 ∷ 64 ∷ 64 ∷ 64 ∷ 64 ∷ 64
    ∷ 64 ∷ 0 ∷ 1 ∷ 2 ∷ 3 ∷ 4 ∷ 5 ∷ 6 ∷ 7 ∷ 8 ∷ 9 ∷ 10 ∷ 11 ∷ 12 ∷ 13 ∷ 14
    ∷ 15 ∷ 16 ∷ 17 ∷ 18 ∷ 19 ∷ 20 ∷ 21 ∷ 22 ∷ 23 ∷ 24 ∷ 25 ∷ 64 ∷ 64 ∷ 64 ∷ 64 ∷ 64
    ∷ 64 ∷ 26 ∷ 27 ∷ 28 ∷ 29 ∷ 30 ∷ 31 ∷ 32 ∷ 33 ∷ 34 ∷ 35 ∷ 36 ∷ 37 ∷ 38 ∷ 39 ∷ 40
    ∷ 41 ∷ 42 ∷ 43 ∷ 44 ∷ 45 ∷ 46 ∷ 47 ∷ 48 ∷ 49 ∷ 50 ∷ 51 ∷ 64 ∷ 64 ∷ 64 ∷ 64 ∷ 64
    ∷ 64 ∷ 64 ∷ 64 ∷ 64 ∷ 64 ∷ 64 ∷ 64 ∷ 64 ∷ 64 ∷ 64 ∷ 64 ∷ 64 ∷ 64 ∷ 64 ∷ 64 ∷ 64
    ∷ 64 ∷ 64 ∷ 64 ∷ 64 ∷ 64 ∷ 64 ∷ 64 ∷ 64 ∷ 64 ∷ 64 ∷ 64 ∷ 64 ∷ 64 ∷ 64 ∷ 64 ∷ 64
    ∷ 64 ∷ 64 ∷ 64 ∷ 64 ∷ 64 ∷ 64 ∷ 64 ∷ 64 ∷ 64 ∷ 64 ∷ 64 ∷ 64 ∷ 64 ∷ 64 ∷ 64 ∷ 64
    ∷ 64 ∷ 64 ∷ 64 ∷ 64 ∷ 64 ∷ 64 ∷ 64 ∷ 64 ∷ 64 ∷ 64 ∷ 64 ∷ 64 ∷ 64 ∷ 64 ∷ 64 ∷ 64
    ∷ 64 ∷ 64 ∷ 64 ∷ 64 ∷ 64 ∷ 64 ∷ 64 ∷ 64 ∷ 64 ∷ 64 ∷ 64 ∷ 64 ∷ 64 ∷ 64 ∷ 64 ∷ 64
    ∷ 64 ∷ 64 ∷ 64 ∷ 64 ∷ 64 ∷ 64 ∷ 64 ∷ 64 ∷ 64 ∷ 64 ∷ 64 ∷ 64 ∷ 64 ∷ 64 ∷ 64 ∷ 64
    ∷ 64 ∷ 64 ∷ 64 ∷ 64 ∷ 64 ∷ 64 ∷ 64 ∷ 64 ∷ 64 ∷ 64 ∷ 64 ∷ 64 ∷ 64 ∷ 64 ∷ 64 ∷ 64
    ∷ 64 ∷ 64 ∷ 64 ∷ 64 ∷ 64 ∷ 64 ∷ 64 ∷ 64 ∷ 64 ∷ 64 ∷ 64 ∷ 64 ∷ 64 ∷ 64 ∷ 64 ∷ 64 ∷ []

letters-tested : below 256 (λ b. eqb (get_or letter_table b 0) (letter b)) ≡ true
unfolding below letter_table letter
letters-tested = refl

pub lettered : Lettered letter_table
lettered = record { at = λ b h. eqb-true _ _ (below_at 256 (λ b. eqb (get_or letter_table b 0) (letter b)) letters-tested b h) }
