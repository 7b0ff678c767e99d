-- Nesting is exact: the lexemes of a tree, and of no other, nest to it.
use Prim.Native.Nat.{ℕ}
use mathlib.Core.Path.{◌≡◌, refl, sym, ap, ap₂, ◌∙◌}
use mathlib.Core.Option.{Option, none, some}
use mathlib.Core.List.{List, [], ◌∷◌}
use Rattle.base.specs.Choice.{chain}
use Rattle.base.proofs.Cases.{some_same, none-some, chain-cases}
use Rattle.model.specs.Decode.{onto, enclose, place, place_in, nestings, only_tree, only_in, nest}
use Rattle.model.specs.Lexemes.{Lexeme, opening, closing, atom, hinting}
use Rattle.model.specs.Tree.{Tree, plain, hinted, list, Forest, nil, cons}

-- the lexemes of a tree, before others
unfoldable mutual
  pub unnest : Tree → List Lexeme → List Lexeme
  unnest (plain d) ls = atom d ∷ ls
  unnest (hinted h d) ls = hinting h d ∷ ls
  unnest (list f) ls = opening ∷ unnests f (closing ∷ ls)

  pub unnests : Forest → List Lexeme → List Lexeme
  unnests nil ls = ls
  unnests (cons t f) ls = unnest t (unnests f ls)

-- the lexemes of what is in the lists that are not yet opened
unfoldable pub unnested : Forest → List Forest → List Lexeme
unnested f [] = unnests f []
unnested f (g ∷ gs) = unnests f (closing ∷ unnested g gs)

pub record Nested (ls : List Lexeme) (st : List Forest) : Type 0 where
  pub first : Forest
  pub others : List Forest
  pub stack : st ≡ first ∷ others
  pub is : ls ≡ unnested first others

unnested-cons : (t : Tree) (f : Forest) (fs : List Forest) → unnest t (unnested f fs) ≡ unnested (cons t f) fs
unfolding unnested unnest
unnested-cons t f [] = refl
unnested-cons t f (g ∷ gs) = refl

onto-sound : (t : Tree) (ls : List Lexeme) (st st' : List Forest) → Nested ls st → onto t st ≡ some st' → Nested (unnest t ls) st'
unfolding onto
onto-sound t ls [] st' n e = none-some e
onto-sound t ls (f ∷ fs) st' n e =
    let u : f ≡ n.first = cc n.stack in
    let v : fs ≡ n.others = cc n.stack in
    some_same (Nested (unnest t ls)) e (record { first = cons t f; others = fs; stack = refl; is = ap (unnest t) (n.is ∙ ap₂ unnested (sym u) (sym v)) ∙ unnested-cons t f fs })

enclose-sound : (ls : List Lexeme) (st st' : List Forest) → Nested ls st → enclose st ≡ some st' → Nested (opening ∷ ls) st'
unfolding enclose onto unnested unnest
enclose-sound ls [] st' n e = none-some e
enclose-sound ls (f ∷ []) st' n e = none-some e
enclose-sound ls (f ∷ g ∷ gs) st' n e =
    let u : f ≡ n.first = cc n.stack in
    let v : (g ∷ gs) ≡ n.others = cc n.stack in
    some_same (Nested (opening ∷ ls)) e
    (record { first = cons (list f) g; others = gs; stack = refl; is = ap (λ (x : List Lexeme). opening ∷ x) (n.is ∙ ap₂ unnested (sym u) (sym v)) ∙ unnested-cons (list f) g gs })

place-sound : (l : Lexeme) (ls : List Lexeme) (st st' : List Forest) → Nested ls st → place l st ≡ some st' → Nested (l ∷ ls) st'
unfolding place unnest unnested
place-sound opening ls st st' n e = enclose-sound ls st st' n e
place-sound closing ls st st' n e = some_same (Nested (closing ∷ ls)) e (record { first = nil; others = st; stack = refl; is = ap (λ (x : List Lexeme). closing ∷ x) n.is ∙ ap (unnested nil) (sym n.stack) })
place-sound (atom d) ls st st' n e = onto-sound (plain d) ls st st' n e
place-sound (hinting h d) ls st st' n e = onto-sound (hinted h d) ls st st' n e

place_in-cases : {G : Type 0} (l : Lexeme) (o : Option (List Forest)) (st : List Forest) → place_in l o ≡ some st → ((s : List Forest) → o ≡ some s → place l s ≡ some st → G) → G
unfolding place_in
place_in-cases l none st e g = none-some e
place_in-cases l (some s) st e g = g s refl e

nestings-sound : (ls : List Lexeme) (st : List Forest) → nestings ls ≡ some st → Nested ls st
unfolding nestings unnested unnest
nestings-sound [] st e = some_same (Nested []) e (record { first = nil; others = []; stack = refl; is = refl })
nestings-sound (l ∷ ls) st e = place_in-cases l (nestings ls) st e (λ s h₁ h₂. place-sound l ls s st (nestings-sound ls s h₁) h₂)

only-sound : (st : List Forest) (t : Tree) → only_in st ≡ some t → st ≡ cons t nil ∷ []
unfolding only_in only_tree
only-sound [] t e = none-some e
only-sound (nil ∷ []) t e = none-some e
only-sound (cons u nil ∷ []) t e = some_same (λ (x : Tree). cons u nil ∷ [] ≡ cons x nil ∷ []) e refl
only-sound (cons u (cons v f) ∷ []) t e = none-some e
only-sound (f ∷ g ∷ fs) t e = none-some e

pub nest-sound : (ls : List Lexeme) (t : Tree) → nest ls ≡ some t → ls ≡ unnest t []
unfolding nest unnested unnest
nest-sound ls t e =
    chain-cases (nestings ls) only_in e
    (λ st h₁ h₂.
    let n : Nested ls st = nestings-sound ls st h₁ in
    let s : st ≡ cons t nil ∷ [] = only-sound st t h₂ in
    let u : n.first ≡ cons t nil = cc n.stack in
    let v : n.others ≡ [] = cc n.stack in
    n.is ∙ ap₂ unnested u v)

-- ---- and back

unfoldable joined : Forest → Forest → Forest
joined nil g = g
joined (cons t f) g = cons t (joined f g)

joined-nil : (f : Forest) → joined f nil ≡ f
unfolding joined
joined-nil nil = refl
joined-nil (cons t f) = ap (cons t) (joined-nil f)

atom-on : (d : List ℕ) (f : Forest) (fs : List Forest) → place_in (atom d) (some (f ∷ fs)) ≡ some (cons (plain d) f ∷ fs)
unfolding place_in place onto
atom-on d f fs = refl

hint-on : (h d : List ℕ) (f : Forest) (fs : List Forest) → place_in (hinting h d) (some (f ∷ fs)) ≡ some (cons (hinted h d) f ∷ fs)
unfolding place_in place onto
hint-on h d f fs = refl

close-on : (fs : List Forest) → place_in closing (some fs) ≡ some (nil ∷ fs)
unfolding place_in place
close-on fs = refl

open-on : (g f : Forest) (fs : List Forest) → place_in opening (some (g ∷ f ∷ fs)) ≡ some (cons (list g) f ∷ fs)
unfolding place_in place enclose onto
open-on g f fs = refl

mutual
  unfolding unnest nestings joined

  unnest-nests : (t : Tree) (ls : List Lexeme) (f : Forest) (fs : List Forest) → nestings ls ≡ some (f ∷ fs) → nestings (unnest t ls) ≡ some (cons t f ∷ fs)
  unnest-nests (plain d) ls f fs e = ap (place_in (atom d)) e ∙ atom-on d f fs
  unnest-nests (hinted h d) ls f fs e = ap (place_in (hinting h d)) e ∙ hint-on h d f fs
  unnest-nests (list g) ls f fs e =
      ap (place_in opening) (unnests-nests g (closing ∷ ls) nil (f ∷ fs) (ap (place_in closing) e ∙ close-on (f ∷ fs)))
      ∙ open-on (joined g nil) f fs ∙ ap (λ (x : Forest). some (cons (list x) f ∷ fs)) (joined-nil g)

  unnests-nests : (g : Forest) (ls : List Lexeme) (f : Forest) (fs : List Forest) → nestings ls ≡ some (f ∷ fs) → nestings (unnests g ls) ≡ some (joined g f ∷ fs)
  unnests-nests nil ls f fs e = e
  unnests-nests (cons t g) ls f fs e = unnest-nests t (unnests g ls) (joined g f) fs (unnests-nests g ls f fs e)

pub nest-complete : (t : Tree) → nest (unnest t []) ≡ some t
unfolding nest nestings chain only_in only_tree
nest-complete t = rw (unnest-nests t [] nil [] refl)
