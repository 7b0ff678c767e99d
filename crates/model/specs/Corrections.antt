-- Inserting and removing (S 8.7, 8.8): what they answer, and what the lent sheet and table hold afterwards. Both are corrections, as
-- replacing is: rows 7 and 8, then 9, and the tree that they make is put where the sheet stood (`filled`).
use Rattle.std.specs.Prelude.{ℕ, Bool, not, List, [], ◌∷◌, leb, eqb}
use Rattle.base.specs.Choice.{is_none}
use Rattle.model.specs.Tree.{Tree}
use Rattle.model.specs.Node.{node_at, has_place}
use Rattle.model.specs.Edit.{insert, remove}
use Rattle.model.specs.Decode.{decode}
use Rattle.model.specs.Limits.{refusal_not_own, refusal_no_node, refusal_no_place}
use Rattle.model.specs.Answers.{Check, when, judged, the, room_checks, text_checks, own_tree, Outcome, unchanged, place_of, telling, filled}

-- the sheet's tree, with the text's as the k-th element of the list
unfoldable pub inserted : ℕ → List ℕ → List ℕ → List ℕ → ℕ → ℕ → ℕ → ℕ → Tree
inserted form text canonical table len count node k = insert (the (own_tree canonical len table count)) node k (the (decode form text))

-- row 9: the node is not a list, or has too few elements for the place
unfoldable pub no_place : List ℕ → List ℕ → ℕ → ℕ → ℕ → ℕ → Bool
no_place canonical table len count node k = not (has_place (node_at (the (own_tree canonical len table count)) node) k)

-- S 8.7: 1, 2, 3, 7, 8, 9, 4, 5, 6
unfoldable pub inserting_checks : ℕ → List ℕ → List ℕ → List ℕ → ℕ → ℕ → ℕ → ℕ → List Check
inserting_checks form text canonical table len count node k =
    text_checks form text
    (when refusal_not_own (is_none (own_tree canonical len table count))
    ∷ when refusal_no_node (leb count node)
    ∷ when refusal_no_place (no_place canonical table len count node k)
    ∷ room_checks (inserted form text canonical table len count node k) canonical table)

-- a place is told of the text, as in a correction (`place_of`)
unfoldable pub inserting : ℕ → List ℕ → List ℕ → List ℕ → ℕ → ℕ → ℕ → ℕ → Outcome
inserting form text canonical table len count node k =
    telling (place_of form text)
    (judged (inserting_checks form text canonical table len count node k)
    (filled (inserted form text canonical table len count node k) len count canonical table)
    (λ n. unchanged n canonical table))

-- the sheet's tree without the node
unfoldable pub removed : List ℕ → List ℕ → ℕ → ℕ → ℕ → Tree
removed canonical table len count node = remove (the (own_tree canonical len table count)) node

-- S 8.8: 7, 8, 9. There is no text to judge, and what is left always has room (`removing-fits`, a theorem)
unfoldable pub removing_checks : List ℕ → List ℕ → ℕ → ℕ → ℕ → List Check
removing_checks canonical table len count node =
    when refusal_not_own (is_none (own_tree canonical len table count))
    ∷ when refusal_no_node (leb count node)
    ∷ when refusal_no_place (eqb node 0)
    ∷ []

-- S 8.8: the tree without the node, and zeros where the rest stood
unfoldable pub removing : List ℕ → List ℕ → ℕ → ℕ → ℕ → Outcome
removing canonical table len count node =
    judged (removing_checks canonical table len count node)
    (filled (removed canonical table len count node) len count canonical table)
    (λ n. unchanged n canonical table)
