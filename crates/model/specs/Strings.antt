-- Simple strings decoded (S 3.6). Each function reads what the grammar's rule of its kind names; the laws (proofs/Exact) say that
-- the two agree. Like the grammar's, they are over what requests change about strings.
use Rattle.std.specs.Prelude.{ℕ, zero, suc, ◌+◌, ◌*◌, ◌-◌, ◌%◌, true, false, List, [], ◌∷◌, ◌++◌, length, take, drop, leb, ltb, eqb}
use Rattle.std.proofs.Math.Option.{Option, none, some}
use Rattle.base.specs.Choice.{pick}
use Rattle.model.specs.Octets.{is_whitespace, is_digit, is_token_start, is_token_octet, is_printable, hexval, octval, letter}
use Rattle.model.specs.Grammar.{Rules, octet₁, octet₂, octet₃}

-- what was read, and the rest; or it is not in the language
pub data Read (A : Type 0) : Type 0 where
  got : A → List ℕ → Read A
  refused : Read A

unfoldable pub bind : {A B : Type 0} → Read A → (A → List ℕ → Read B) → Read B
bind (got a k) f = f a k
bind refused f = refused

-- *whitespace
unfoldable pub skip : List ℕ → List ℕ
skip [] = []
skip (b ∷ s) = elim (is_whitespace b) [ true ↦ skip s | false ↦ b ∷ s ]

-- ---- lengths (S 2.3): numbers of any size

-- *DIGIT, after digits that say v
unfoldable pub number : ℕ → List ℕ → Read ℕ
number v [] = got v []
number v (b ∷ s) = elim (is_digit b) [ true ↦ number (v * 10 + (b - 48)) s | false ↦ got v (b ∷ s) ]

-- decimal, whose first digit is b
unfoldable pub decimal : ℕ → List ℕ → Read ℕ
decimal b s = elim (eqb b 48) [ true ↦ got 0 s | false ↦ number (b - 48) s ]

-- the first n octets, where there are as many
unfoldable pub first : ℕ → List ℕ → Read (List ℕ)
first n s = pick (leb n (length s)) (got (take n s) (drop n s)) refused

-- ---- the rest of a token: the longest run (S 3.7)
unfoldable pub run : List ℕ → Read (List ℕ)
run [] = got [] []
run (b ∷ s) = elim (is_token_octet b) [ true ↦ bind (run s) (λ d k. got (b ∷ d) k) | false ↦ got [] (b ∷ s) ]

-- ---- quoted strings (S 3.8)

-- past an octet c, where the text begins with one
unfoldable pub past : ℕ → List ℕ → List ℕ
past c [] = []
past c (b ∷ s) = pick (eqb b c) s (b ∷ s)

unfoldable pub hex_of : List ℕ → Read (List ℕ)
hex_of [] = refused
hex_of (a ∷ []) = refused
hex_of (a ∷ b ∷ s) = pick (ltb (hexval a) 16) (pick (ltb (hexval b) 16) (got ((hexval a * 16 + hexval b) ∷ []) s) refused) refused

-- three octal digits, by their values
unfoldable pub octal_by : ℕ → ℕ → ℕ → List ℕ → Read (List ℕ)
octal_by a b c s =
    pick (ltb a 8)
    (pick (ltb b 8) (pick (ltb c 8) (pick (leb (a * 64 + b * 8 + c) 255) (got ((a * 64 + b * 8 + c) ∷ []) s) refused) refused) refused)
    refused

unfoldable pub octal_of : ℕ → List ℕ → Read (List ℕ)
octal_of a [] = refused
octal_of a (b ∷ []) = refused
octal_of a (b ∷ c ∷ s) = octal_by (octval a) (octval b) (octval c) s

-- what stands after a backslash
unfoldable pub escaped : Rules → List ℕ → Read (List ℕ)
escaped ρ [] = refused
escaped ρ (e ∷ s) =
    pick (ltb (ρ.escape e) 256) (got (ρ.escape e ∷ []) s)
    (pick (eqb e 120) (hex_of s)
    (pick (eqb e 13) (got [] (past 10 s))
    (pick (eqb e 10) (got [] (past 13 s)) (octal_of e s))))

-- printable / escaped
unfoldable pub piece_of : Rules → List ℕ → Read (List ℕ)
piece_of ρ [] = refused
piece_of ρ (b ∷ s) = pick (eqb b 92) (escaped ρ s) (pick (is_printable b) (got (b ∷ []) s) refused)

-- up to the closing quotation mark; the first number bounds how many pieces are read
unfoldable pub quoted_by : Rules → ℕ → List ℕ → Read (List ℕ)
quoted_by ρ zero s = refused
quoted_by ρ (suc f) [] = refused
quoted_by ρ (suc f) (b ∷ s) = elim (eqb b 34) [ true ↦ got [] s | false ↦ bind (piece_of ρ (b ∷ s)) (λ p r. bind (quoted_by ρ f r) (λ d k. got (p ++ d) k)) ]

-- ---- hexadecimal and base-64 (S 3.9, 3.10): first what stands before the closing mark, whitespace left out; then its meaning

unfoldable pub upto : ℕ → List ℕ → Read (List ℕ)
upto m [] = refused
upto m (b ∷ s) = elim (eqb b m) [ true ↦ got [] s | false ↦ elim (is_whitespace b) [ true ↦ upto m s | false ↦ bind (upto m s) (λ l k. got (b ∷ l) k) ] ]

unfoldable pub also : List ℕ → Option (List ℕ) → Option (List ℕ)
also d none = none
also d (some e) = some (d ++ e)

unfoldable pub unhex : List ℕ → Option (List ℕ)
unhex [] = some []
unhex (a ∷ []) = none
unhex (a ∷ b ∷ s) = elim (ltb (hexval a) 16) [ true ↦ elim (ltb (hexval b) 16) [ true ↦ also ((hexval a * 16 + hexval b) ∷ []) (unhex s) | false ↦ none ] | false ↦ none ]

-- two letters at the end
unfoldable pub two_of : Rules → ℕ → ℕ → Option (List ℕ)
two_of ρ a b = pick (ltb (letter a) 64) (pick (ltb (letter b) 64) (pick (ρ.leftover (letter b % 16)) (some (octet₁ a b ∷ [])) none) none) none

-- at the end, two letters and a pad, or three letters
unfoldable pub three_of : Rules → ℕ → ℕ → ℕ → Option (List ℕ)
three_of ρ a b c =
    pick (eqb c 61) (two_of ρ a b)
    (pick (ltb (letter a) 64) (pick (ltb (letter b) 64) (pick (ltb (letter c) 64) (pick (ρ.leftover (letter c % 4)) (some (octet₁ a b ∷ octet₂ b c ∷ [])) none) none) none) none)

-- a meaning, where nothing is left
unfoldable pub lastly : Option (List ℕ) → List ℕ → Option (List ℕ)
lastly o [] = o
lastly o (b ∷ s) = none

unfoldable pub four_of : ℕ → ℕ → ℕ → ℕ → Option (List ℕ)
four_of a b c e =
    pick (ltb (letter a) 64)
    (pick (ltb (letter b) 64) (pick (ltb (letter c) 64) (pick (ltb (letter e) 64) (some (octet₁ a b ∷ octet₂ b c ∷ octet₃ c e ∷ [])) none) none) none)
    none

unfoldable pub joined : Option (List ℕ) → Option (List ℕ) → Option (List ℕ)
joined none o = none
joined (some d) o = also d o

unfoldable pub unbase : Rules → List ℕ → Option (List ℕ)
unbase ρ [] = some []
unbase ρ (a ∷ []) = none
unbase ρ (a ∷ b ∷ []) = two_of ρ a b
unbase ρ (a ∷ b ∷ c ∷ []) = three_of ρ a b c
unbase ρ (a ∷ b ∷ c ∷ e ∷ s) = elim (eqb e 61) [ true ↦ lastly (three_of ρ a b c) s | false ↦ joined (four_of a b c e) (unbase ρ s) ]

unfoldable pub decoded : Option (List ℕ) → List ℕ → Read (List ℕ)
decoded none k = refused
decoded (some d) k = got d k

-- ---- simple strings

-- after the opening mark m: quoted, hexadecimal or base-64
unfoldable pub marked : Rules → ℕ → List ℕ → Read (List ℕ)
marked ρ m s =
    elim (eqb m 34) [
      | true ↦ quoted_by ρ (length s) s
      | false ↦
          elim (eqb m 35) [
            | true ↦ bind (upto 35 s) (λ l k. decoded (unhex l) k)
            | false ↦
                elim (eqb m 124) [ true ↦ bind (upto 124 s) (λ l k. decoded (unbase ρ l) k) | false ↦ refused ]
          ]
    ]

-- data of the length that stood before the mark (S 3.11)
unfoldable pub sized : ℕ → List ℕ → List ℕ → Read (List ℕ)
sized n d k = pick (eqb (length d) n) (got d k) refused

-- after a decimal
unfoldable pub after_number : Rules → ℕ → List ℕ → Read (List ℕ)
after_number ρ n [] = refused
after_number ρ n (b ∷ s) = elim (eqb b 58) [ true ↦ first n s | false ↦ bind (marked ρ b s) (sized n) ]

-- simple-string
unfoldable pub simple : Rules → List ℕ → Read (List ℕ)
simple ρ [] = refused
simple ρ (b ∷ s) =
    elim (is_digit b) [
      | true ↦ bind (decimal b s) (after_number ρ)
      | false ↦
          elim (is_token_start b) [ true ↦ bind (run s) (λ d k. got (b ∷ d) k) | false ↦ marked ρ b s ]
    ]

-- ---- the strings of form 1: verbatim only

unfoldable pub after_length : ℕ → List ℕ → Read (List ℕ)
after_length n [] = refused
after_length n (b ∷ s) = pick (eqb b 58) (first n s) refused

unfoldable pub verbatim_of : List ℕ → Read (List ℕ)
verbatim_of [] = refused
verbatim_of (b ∷ s) = elim (is_digit b) [ true ↦ bind (decimal b s) after_length | false ↦ refused ]
