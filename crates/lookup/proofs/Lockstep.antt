-- Two trees are the same exactly when their lexemes match from the first to the last.
use Prim.Native.Nat.{ℕ}
use mathlib.Core.Path.{◌≡◌, refl, sym, ap, ◌∙◌}
use mathlib.Core.Bool.{Bool, true, false}
use mathlib.Core.List.{List, [], ◌∷◌}
use Rattle.base.specs.Choice.{both, equal}
use Rattle.base.proofs.Lists.{equal-same}
use Rattle.model.specs.Compare.{same, sames}
use Rattle.model.specs.Lexemes.{Lexeme, closing}
use Rattle.model.specs.Tree.{Tree, plain, hinted, list, Forest, nil, cons}
use Rattle.model.proofs.Nesting.{unnest, unnests}
use Rattle.lookup.specs.Alike.{kind_of, hint_or, data_of, matches, alikes}

both-assoc : (t u v : Bool) → both (both t u) v ≡ both t (both u v)
both-assoc true u v = refl
both-assoc false u v = refl

both_right : (t : Bool) → both t true ≡ t
both_right true = refl
both_right false = refl

module _ (x : List ℕ) where
  abbrev rests : Bool → List Lexeme → List Lexeme → Bool
  rests t ls ks = both t (alikes x ls ks)

  -- a list that ends, and a tree more
  ends-left : (u : Tree) (ls ks : List Lexeme) → alikes x (closing ∷ ls) (unnest u ks) ≡ false
  unfolding unnest alikes matches kind_of
  ends-left (plain e) ls ks = refl
  ends-left (hinted g e) ls ks = refl
  ends-left (list g) ls ks = refl

  ends-right : (t : Tree) (ls ks : List Lexeme) → alikes x (unnest t ls) (closing ∷ ks) ≡ false
  unfolding unnest alikes matches kind_of
  ends-right (plain d) ls ks = refl
  ends-right (hinted h d) ls ks = refl
  ends-right (list f) ls ks = refl

  mutual
    unfolding unnest same alikes matches kind_of hint_or data_of equal

    lock-tree : (t u : Tree) (ls ks : List Lexeme) → alikes x (unnest t ls) (unnest u ks) ≡ rests (same t u x) ls ks
    lock-tree (plain d) (plain e) ls ks = ap (λ (b : Bool). rests (both b (equal d e)) ls ks) (equal-same x)
    lock-tree (plain d) (hinted g e) ls ks = refl
    lock-tree (plain d) (list g) ls ks = refl
    lock-tree (hinted h d) (plain e) ls ks = refl
    lock-tree (hinted h d) (hinted g e) ls ks = refl
    lock-tree (hinted h d) (list g) ls ks = refl
    lock-tree (list f) (plain e) ls ks = refl
    lock-tree (list f) (hinted g e) ls ks = refl
    lock-tree (list f) (list g) ls ks = lock-forest f g ls ks

    lock-forest : (f g : Forest) (ls ks : List Lexeme) → alikes x (unnests f (closing ∷ ls)) (unnests g (closing ∷ ks)) ≡ rests (sames f g x) ls ks
    lock-forest nil nil ls ks = refl
    lock-forest nil (cons u g) ls ks = ends-left u ls (unnests g (closing ∷ ks))
    lock-forest (cons t f) nil ls ks = ends-right t (unnests f (closing ∷ ls)) ks
    lock-forest (cons t f) (cons u g) ls ks =
        lock-tree t u (unnests f (closing ∷ ls)) (unnests g (closing ∷ ks)) ∙ ap (both (same t u x)) (lock-forest f g ls ks)
        ∙ sym (both-assoc (same t u x) (sames f g x) (alikes x ls ks))

  pub lockstep : (t u : Tree) → alikes x (unnest t []) (unnest u []) ≡ same t u x
  unfolding alikes
  lockstep t u = lock-tree t u [] [] ∙ both_right (same t u x)
