-- What an extract has left (S 11.1): lists that may be seen, and the strings that stand in no other.
use Rattle.std.specs.Prelude.{ℕ, ◌≡◌, false, List, [], ◌∷◌, ◌++◌}
use Rattle.base.specs.Choice.{pick}
use Rattle.model.specs.Tree.{Tree, plain, hinted, list, Forest, nil, cons}
use Rattle.extracts.specs.Extract.{hides}

-- no list in it, at any depth, begins with the unhinted `private`
mutual
  pub data Open : Tree → Type 0 where
    plain-open : {d : List ℕ} → Open (plain d)
    hinted-open : {h d : List ℕ} → Open (hinted h d)
    list_open : {f : Forest} → hides f ≡ false → Opens f → Open (list f)

  pub data Opens : Forest → Type 0 where
    nil-open : Opens nil
    cons-open : {t : Tree} {f : Forest} → Open t → Opens f → Opens (cons t f)

-- the strings of a tree, with their hints, in order
unfoldable mutual
  pub strings : Tree → List Tree
  strings (plain d) = plain d ∷ []
  strings (hinted h d) = hinted h d ∷ []
  strings (list f) = stringss f

  pub stringss : Forest → List Tree
  stringss nil = []
  stringss (cons t f) = strings t ++ stringss f

-- and those that stand inside no list that begins with the unhinted `private`
unfoldable mutual
  pub visible : Tree → List Tree
  visible (plain d) = plain d ∷ []
  visible (hinted h d) = hinted h d ∷ []
  visible (list f) = pick (hides f) [] (visibles f)

  pub visibles : Forest → List Tree
  visibles nil = []
  visibles (cons t f) = visible t ++ visibles f
