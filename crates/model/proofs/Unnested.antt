-- The lexemes of a tree tell the tree, and where they end.
use mathlib.Core.Path.{◌≡◌, refl, sym, ap, ◌∙◌}
use mathlib.Core.Option.{Option, none, some}
use mathlib.Core.List.{List, [], ◌∷◌, ◌++◌, append_assoc, append_cancel_left}
use Rattle.base.proofs.Cases.{none-some}
use Rattle.model.specs.Lexemes.{Lexeme, opening, closing, atom, hinting}
use Rattle.model.specs.Tree.{Tree, plain, hinted, list, Forest, nil, cons}
use Rattle.model.proofs.Nesting.{unnest, unnests}
use Rattle.model.proofs.Strict.{octets_of_lexemes, unnest-octets}
use Rattle.model.proofs.Unique.{tree-inj}

mutual
  unfolding unnest

  pub unnest-split : (t : Tree) (ls : List Lexeme) → unnest t ls ≡ unnest t [] ++ ls
  unnest-split (plain d) ls = refl
  unnest-split (hinted h d) ls = refl
  unnest-split (list f) ls = ap (λ (x : List Lexeme). opening ∷ x) (unnests-split f (closing ∷ ls) ∙ sym (ap (λ (x : List Lexeme). x ++ ls) (unnests-split f (closing ∷ [])) ∙ append_assoc (unnests f []) (closing ∷ []) ls))

  unnests-split : (f : Forest) (ls : List Lexeme) → unnests f ls ≡ unnests f [] ++ ls
  unnests-split nil ls = refl
  unnests-split (cons t f) ls =
      unnest-split t (unnests f ls) ∙ ap (λ (x : List Lexeme). unnest t [] ++ x) (unnests-split f ls)
      ∙ sym (append_assoc (unnest t []) (unnests f []) ls) ∙ ap (λ (x : List Lexeme). x ++ ls) (sym (unnest-split t (unnests f [])))

pub unnest-inj : (t u : Tree) (ls ms : List Lexeme) → unnest t ls ≡ unnest u ms → (t ≡ u) × (ls ≡ ms)
unnest-inj t u ls ms e =
    let i : t ≡ u = (tree-inj t u (octets_of_lexemes ls) (octets_of_lexemes ms) (sym (unnest-octets t ls) ∙ ap octets_of_lexemes e ∙ unnest-octets u ms)).0 in
    let j : unnest t ls ≡ unnest t ms = e ∙ ap (λ (x : Tree). unnest x ms) (sym i) in
    (i, append_cancel_left (unnest t []) ls ms (sym (unnest-split t ls) ∙ j ∙ unnest-split t ms))

abbrev pub leads : List Lexeme → Option Lexeme
leads [] = none
leads (l ∷ ls) = some l

-- a closing parenthesis begins no tree, and neither does nothing
abbrev started : List Lexeme → Option Lexeme
started [] = none
started (closing ∷ ls) = none
started (opening ∷ ls) = some opening
started (atom d ∷ ls) = some opening
started (hinting h d ∷ ls) = some opening

starts : (t : Tree) (ls : List Lexeme) → started (unnest t ls) ≡ some opening
unfolding unnest
starts (plain d) ls = refl
starts (hinted h d) ls = refl
starts (list f) ls = refl

pub unclosed : (t : Tree) (ls ms : List Lexeme) → closing ∷ ms ≡ unnest t ls → ⊥
unclosed t ls ms e = none-some (ap started e ∙ starts t ls)

pub unempty : (t : Tree) (ls : List Lexeme) → unnest t ls ≡ [] → ⊥
unempty t ls e = none-some (sym (ap started e) ∙ starts t ls)
