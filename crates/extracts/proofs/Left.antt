-- What an extract has left: no private list, and of what stood outside them everything, in order.
use mathlib.Core.Path.{◌≡◌, refl, sym, ap, ap₂, ◌∙◌}
use mathlib.Core.Bool.{true, false}
use mathlib.Core.List.{List, [], ◌++◌}
use Rattle.base.proofs.Cases.{by_bool, picked, unpicked}
use Rattle.model.specs.Tree.{Tree, plain, hinted, list, Forest, nil, cons}
use Rattle.extracts.specs.Extract.{hides, extract, extracts}
use Rattle.extracts.specs.Left.{Open, plain-open, hinted-open, list_open, Opens, nil-open, cons-open, strings, stringss, visible, visibles}
use Rattle.extracts.proofs.Hiding.{hidden-list, shown-list, extracts-hides}

empty-open : Open (list nil)
unfolding hides
empty-open = list_open refl nil-open

mutual
  unfolding extract extracts

  pub extract-open : (t : Tree) → Open (extract t)
  extract-open (plain d) = plain-open
  extract-open (hinted h d) = hinted-open
  extract-open (list f) =
      by_bool (hides f)
      (λ e. rw (hidden-list f e) empty-open)
      (λ e. rw (shown-list f e) (list_open (extracts-hides f ∙ e) (extracts-open f)))

  extracts-open : (f : Forest) → Opens (extracts f)
  extracts-open nil = nil-open
  extracts-open (cons t f) = cons-open (extract-open t) (extracts-open f)

-- a tree without such lists is its own extract
mutual
  unfolding extract extracts

  pub open-extract : {t : Tree} → Open t → extract t ≡ t
  open-extract plain-open = refl
  open-extract hinted-open = refl
  open-extract (list_open {f = f} e p) = shown-list f e ∙ ap list (opens-extracts p)

  opens-extracts : {f : Forest} → Opens f → extracts f ≡ f
  opens-extracts nil-open = refl
  opens-extracts (cons-open p q) = ap₂ cons (open-extract p) (opens-extracts q)

no-string : strings (list nil) ≡ []
unfolding strings
no-string = refl

list-strings : (f : Forest) → strings (list f) ≡ stringss f
unfolding strings
list-strings f = refl

hidden-visible : (f : Forest) → hides f ≡ true → visible (list f) ≡ []
unfolding visible
hidden-visible f e = picked [] (visibles f) e

shown-visible : (f : Forest) → hides f ≡ false → visible (list f) ≡ visibles f
unfolding visible
shown-visible f e = unpicked [] (visibles f) e

mutual
  unfolding extract extracts strings stringss visible visibles

  pub visible-stays : (t : Tree) → strings (extract t) ≡ visible t
  visible-stays (plain d) = refl
  visible-stays (hinted h d) = refl
  visible-stays (list f) =
      by_bool (hides f)
      (λ e. ap strings (hidden-list f e) ∙ no-string ∙ sym (hidden-visible f e))
      (λ e. ap strings (shown-list f e) ∙ list-strings (extracts f) ∙ visibles-stay f ∙ sym (shown-visible f e))

  visibles-stay : (f : Forest) → stringss (extracts f) ≡ visibles f
  visibles-stay nil = refl
  visibles-stay (cons t f) = ap₂ (λ (x y : List Tree). x ++ y) (visible-stays t) (visibles-stay f)
