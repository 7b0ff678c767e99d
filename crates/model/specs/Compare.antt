-- Sheets compared (S 8.4): the same shape, and at each string the same data and the same hint.
use Rattle.std.specs.Prelude.{ℕ, Bool, true, false, List}
use Rattle.base.specs.Choice.{both, equal}
use Rattle.model.specs.Tree.{Tree, plain, hinted, list, Forest, nil, cons}

-- S 8.4: a missing hint counts as the default, which comes last
unfoldable mutual
  pub same : Tree → Tree → List ℕ → Bool
  same (plain d) (plain e) x = equal d e
  same (plain d) (hinted g e) x = both (equal x g) (equal d e)
  same (plain d) (list g) x = false
  same (hinted h d) (plain e) x = both (equal h x) (equal d e)
  same (hinted h d) (hinted g e) x = both (equal h g) (equal d e)
  same (hinted h d) (list g) x = false
  same (list f) (plain e) x = false
  same (list f) (hinted g e) x = false
  same (list f) (list g) x = sames f g x

  pub sames : Forest → Forest → List ℕ → Bool
  sames nil nil x = true
  sames nil (cons u g) x = false
  sames (cons t f) nil x = false
  sames (cons t f) (cons u g) x = both (same t u x) (sames f g x)
