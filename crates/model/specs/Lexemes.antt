-- A text cut into lexemes: parentheses, strings, strings with a hint (S 3.5).
use Rattle.std.specs.Prelude.{ℕ, zero, suc, true, false, List, [], ◌∷◌, length, eqb}
use Rattle.std.proofs.Math.Option.{Option, none, some}
use Rattle.model.specs.Grammar.{Rules}
use Rattle.model.specs.Strings.{Read, got, refused, bind, skip, simple, verbatim_of}

pub data Lexeme : Type 0 where
  opening : Lexeme
  closing : Lexeme
  -- the data
  atom : List ℕ → Lexeme
  -- the hint, the data
  hinting : List ℕ → List ℕ → Lexeme

-- ---- form 3

-- after a hint: *whitespace was skipped, then "]" *whitespace simple-string
unfoldable pub close_hint : Rules → List ℕ → List ℕ → Read Lexeme
close_hint ρ h [] = refused
close_hint ρ h (b ∷ s) = elim (eqb b 93) [ true ↦ bind (simple ρ (skip s)) (λ d k. got (hinting h d) k) | false ↦ refused ]

unfoldable pub lexeme : Rules → List ℕ → Read Lexeme
lexeme ρ [] = refused
lexeme ρ (b ∷ s) =
    elim (eqb b 40) [
      | true ↦ got opening s
      | false ↦
          elim (eqb b 41) [
            | true ↦ got closing s
            | false ↦
                elim (eqb b 91) [ true ↦ bind (simple ρ (skip s)) (λ h k. close_hint ρ h (skip k)) | false ↦ bind (simple ρ (b ∷ s)) (λ d k. got (atom d) k) ]
          ]
    ]

-- ---- form 1: no whitespace, and verbatim strings only

abbrev pub stay : List ℕ → List ℕ
stay s = s

unfoldable pub close_strict : List ℕ → List ℕ → Read Lexeme
close_strict h [] = refused
close_strict h (b ∷ s) = elim (eqb b 93) [ true ↦ bind (verbatim_of s) (λ d k. got (hinting h d) k) | false ↦ refused ]

unfoldable pub strict_lexeme : List ℕ → Read Lexeme
strict_lexeme [] = refused
strict_lexeme (b ∷ s) =
    elim (eqb b 40) [
      | true ↦ got opening s
      | false ↦
          elim (eqb b 41) [
            | true ↦ got closing s
            | false ↦
                elim (eqb b 91) [ true ↦ bind (verbatim_of s) close_strict | false ↦ bind (verbatim_of (b ∷ s)) (λ d k. got (atom d) k) ]
          ]
    ]

-- ---- all lexemes of a text, each after what is skipped; the number bounds how many there are

unfoldable pub before : Lexeme → Option (List Lexeme) → Option (List Lexeme)
before l none = none
before l (some ls) = some (l ∷ ls)

unfoldable pub lexemes_by : (List ℕ → List ℕ) → (List ℕ → Read Lexeme) → ℕ → List ℕ → Option (List Lexeme)
lexemes_by over lex zero s = none
lexemes_by over lex (suc f) s = elim (over s) [ [] ↦ some [] | b ∷ r ↦ elim (lex (b ∷ r)) [ got l k ↦ before l (lexemes_by over lex f k) | refused ↦ none ] ]

unfoldable pub strict_lexemes : List ℕ → Option (List Lexeme)
strict_lexemes s = lexemes_by stay strict_lexeme (suc (length s)) s
