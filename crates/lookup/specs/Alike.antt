-- Two trees compared lexeme by lexeme, side by side.
use Rattle.std.specs.Prelude.{ℕ, Bool, true, false, List, [], ◌∷◌, eqb}
use Rattle.base.specs.Choice.{both, equal}
use Rattle.model.specs.Lexemes.{Lexeme, opening, closing, atom, hinting}

-- 0 an opening parenthesis, 1 a closing one, 2 a string
unfoldable pub kind_of : Lexeme → ℕ
kind_of opening = 0
kind_of closing = 1
kind_of (atom d) = 2
kind_of (hinting h d) = 2

-- S 8.4: a missing hint counts as the default
unfoldable pub hint_or : List ℕ → Lexeme → List ℕ
hint_or x opening = []
hint_or x closing = []
hint_or x (atom d) = x
hint_or x (hinting h d) = h

unfoldable pub data_of : Lexeme → List ℕ
data_of opening = []
data_of closing = []
data_of (atom d) = d
data_of (hinting h d) = d

-- two lexemes: the same kind, hint and data
unfoldable pub matches : List ℕ → Lexeme → Lexeme → Bool
matches x l k = both (eqb (kind_of l) (kind_of k)) (both (equal (hint_or x l) (hint_or x k)) (equal (data_of l) (data_of k)))

unfoldable pub alikes : List ℕ → List Lexeme → List Lexeme → Bool
alikes x [] [] = true
alikes x [] (k ∷ ks) = false
alikes x (l ∷ ls) [] = false
alikes x (l ∷ ls) (k ∷ ks) = both (matches x l k) (alikes x ls ks)
