-- Form 3 lexeme by lexeme (S 5.2): one space between elements, none inside a parenthesis's edge.
use Rattle.std.specs.Prelude.{ℕ, Bool, true, false, List, [], ◌∷◌, ◌++◌}
use Rattle.model.specs.Lexemes.{Lexeme, opening, closing, atom, hinting}
use Rattle.model.specs.Write.{shown}

-- a space, where one is due
unfoldable pub gap : Bool → List ℕ
gap true = 32 ∷ []
gap false = []

-- a hint
abbrev pub bracketed : List ℕ → List ℕ
bracketed h = 91 ∷ shown h ++ 93 ∷ []

unfoldable pub spelled_one : Bool → Lexeme → List ℕ
spelled_one due opening = gap due ++ 40 ∷ []
spelled_one due closing = 41 ∷ []
spelled_one due (atom d) = gap due ++ shown d
spelled_one due (hinting h d) = gap due ++ (bracketed h ++ shown d)

-- none is due before the first element of a list
unfoldable pub due_after : Lexeme → Bool
due_after opening = false
due_after closing = true
due_after (atom d) = true
due_after (hinting h d) = true

unfoldable pub spelled_all : Bool → List Lexeme → List ℕ
spelled_all due [] = []
spelled_all due (l ∷ ls) = spelled_one due l ++ spelled_all (due_after l) ls
