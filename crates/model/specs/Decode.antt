-- The forms decoded (S 3.1 to 3.3): lexemes below, their nesting above. No limit of depth, nodes or octets plays a part (S 3.12).
use Rattle.std.specs.Prelude.{ℕ, suc, Bool, true, false, List, [], ◌∷◌, ◌++◌, length, eqb}
use Rattle.std.proofs.Math.Option.{Option, none, some}
use Rattle.base.specs.Choice.{pick, both, chain}
use Rattle.model.specs.Grammar.{Rules, rules}
use Rattle.model.specs.Tree.{Tree, plain, hinted, list, Forest, nil, cons}
use Rattle.model.specs.Strings.{Read, got, refused, bind, skip, upto, unbase, decoded, lastly}
use Rattle.model.specs.Lexemes.{Lexeme, opening, closing, atom, hinting, lexeme, lexemes_by, strict_lexemes}

-- ---- nesting, from the last lexeme to the first: the trees up to each closing parenthesis that has not met its opening one

unfoldable pub onto : Tree → List Forest → Option (List Forest)
onto t [] = none
onto t (f ∷ fs) = some (cons t f ∷ fs)

unfoldable pub enclose : List Forest → Option (List Forest)
enclose [] = none
enclose (f ∷ fs) = onto (list f) fs

unfoldable pub place : Lexeme → List Forest → Option (List Forest)
place opening st = enclose st
place closing st = some (nil ∷ st)
place (atom d) st = onto (plain d) st
place (hinting h d) st = onto (hinted h d) st

unfoldable pub place_in : Lexeme → Option (List Forest) → Option (List Forest)
place_in l none = none
place_in l (some st) = place l st

unfoldable pub nestings : List Lexeme → Option (List Forest)
nestings [] = some (nil ∷ [])
nestings (l ∷ ls) = place_in l (nestings ls)

-- exactly one tree, and no closing parenthesis left
unfoldable pub only_tree : Forest → Option Tree
only_tree nil = none
only_tree (cons t nil) = some t
only_tree (cons t (cons u f)) = none

unfoldable pub only_in : List Forest → Option Tree
only_in [] = none
only_in (f ∷ []) = only_tree f
only_in (f ∷ g ∷ fs) = none

unfoldable pub nest : List Lexeme → Option Tree
nest ls = chain (nestings ls) only_in

-- ---- the forms

unfoldable pub decode₁ : List ℕ → Option Tree
decode₁ s = chain (strict_lexemes s) nest

-- nothing may stand after the closing brace
unfoldable pub unbrace : Rules → Read (List ℕ) → Option (List ℕ)
unbrace ρ refused = none
unbrace ρ (got l k) = lastly (unbase ρ l) k

unfoldable pub decode₂ : Rules → List ℕ → Option Tree
decode₂ ρ [] = none
decode₂ ρ (b ∷ s) = elim (eqb b 123) [ true ↦ chain (unbrace ρ (upto 125 s)) decode₁ | false ↦ decode₁ (b ∷ s) ]

-- ---- forms 3 and 4: whether braces may stand where a value may is β

-- the octets in braces, after the opening one, where they are one canonical tree
unfoldable pub canonical_of : List ℕ → List ℕ → Read (List ℕ)
canonical_of d k = elim (decode₁ d) [ some t ↦ got d k | none ↦ refused ]

unfoldable pub braces : Rules → List ℕ → Read (List ℕ)
braces ρ s = bind (bind (upto 125 s) (λ l k. decoded (unbase ρ l) k)) canonical_of

-- S 3.3: the octets in braces take their place
unfoldable pub lexeme_in : Rules → Bool → List ℕ → Read Lexeme
lexeme_in ρ β [] = refused
lexeme_in ρ β (b ∷ s) = pick (both β (eqb b 123)) (bind (braces ρ s) (λ d k. lexeme ρ (d ++ k))) (lexeme ρ (b ∷ s))

unfoldable pub lexemes : Rules → Bool → List ℕ → Option (List Lexeme)
lexemes ρ β s = lexemes_by skip (lexeme_in ρ β) (suc (length s)) s

unfoldable pub decode₃ : Rules → Bool → List ℕ → Option Tree
decode₃ ρ β s = chain (lexemes ρ β s) nest

-- the tree that a text means in a form under these rules, if it is in that form's language
unfoldable pub decode_under : Rules → ℕ → List ℕ → Option Tree
decode_under ρ form s = pick (eqb form 1) (decode₁ s) (pick (eqb form 2) (decode₂ ρ s) (pick (eqb form 3) (decode₃ ρ false s) (pick (eqb form 4) (decode₃ ρ true s) none)))

-- under those in force, which every promise means
unfoldable pub decode : ℕ → List ℕ → Option Tree
unfolding decode_under
decode form s = decode_under rules form s
