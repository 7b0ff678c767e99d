-- Form 3 lexeme by lexeme is form 3 of the tree.
use Prim.Native.Nat.{ℕ}
use mathlib.Core.Path.{◌≡◌, refl, sym, ap, ◌∙◌}
use mathlib.Core.Bool.{Bool, true, false}
use mathlib.Core.List.{List, [], ◌∷◌, ◌++◌, append_assoc, append-nil}
use Rattle.model.specs.Lexemes.{Lexeme, closing}
use Rattle.model.specs.Tree.{Tree, plain, hinted, list, Forest, nil, cons}
use Rattle.model.specs.Write.{shown, advanced, elements, following}
use Rattle.model.proofs.Nesting.{unnest, unnests}
use Rattle.writer.specs.Elements.{gap, spelled_one, due_after, spelled_all}

mutual
  unfolding unnest spelled_all spelled_one due_after gap advanced

  spelled-tree : (due : Bool) (t : Tree) (ls : List Lexeme) → spelled_all due (unnest t ls) ≡ gap due ++ (advanced t ++ spelled_all true ls)
  spelled-tree due (plain d) ls = append_assoc (gap due) (shown d) (spelled_all true ls)
  spelled-tree due (hinted h d) ls = simp append_assoc
  spelled-tree due (list f) ls = ap (λ (x : List ℕ). (gap due ++ 40 ∷ []) ++ x) (spelled-first f ls) ∙ simp append_assoc

  -- the elements of a list, from the first on
  spelled-first : (f : Forest) (ls : List Lexeme) → spelled_all false (unnests f (closing ∷ ls)) ≡ elements f ++ 41 ∷ spelled_all true ls
  spelled-first nil ls = refl
  spelled-first (cons t f) ls =
      spelled-tree false t (unnests f (closing ∷ ls)) ∙ ap (λ (x : List ℕ). advanced t ++ x) (spelled-more f ls) ∙ sym (append_assoc (advanced t) (following f) (41 ∷ spelled_all true ls))

  -- those after another
  spelled-more : (f : Forest) (ls : List Lexeme) → spelled_all true (unnests f (closing ∷ ls)) ≡ following f ++ 41 ∷ spelled_all true ls
  spelled-more nil ls = refl
  spelled-more (cons t f) ls =
      spelled-tree true t (unnests f (closing ∷ ls)) ∙ ap (λ (x : List ℕ). 32 ∷ (advanced t ++ x)) (spelled-more f ls)
      ∙ ap (λ (x : List ℕ). 32 ∷ x) (sym (append_assoc (advanced t) (following f) (41 ∷ spelled_all true ls)))

pub spelled-whole : (t : Tree) → spelled_all false (unnest t []) ≡ advanced t
unfolding gap spelled_all
spelled-whole t = spelled-tree false t [] ∙ append-nil (advanced t)
