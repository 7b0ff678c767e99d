-- What is asked of a sheet, and what it answers: a node gives way to a text's tree (S 8.3), a text's tree comes into a list (S 8.7), or a
-- node is removed (S 8.8). One list of checks and one new tree for all three.
use Rattle.std.specs.Prelude.{ℕ, Bool, true, false, not, List, ◌∷◌, leb, eqb}
use Rattle.std.proofs.Math.Option.{Option}
use Rattle.base.specs.Choice.{is_none}
use Rattle.model.specs.Tree.{Tree, Forest, nil}
use Rattle.model.specs.Edit.{one, replace, insert, remove}
use Rattle.model.specs.Node.{node_at, has_place}
use Rattle.model.specs.Limits.{refusal_syntax, refusal_not_own, refusal_no_node, refusal_no_place}
use Rattle.model.specs.Answers.{Outcome, Check, when, judged, the, room_checks, own_tree, filled, unchanged, replacing}
use Rattle.model.specs.Corrections.{inserting, removing}
use Rattle.plan.specs.declared.Asked.{Asked}
use Rattle.plan.specs.declared.Asked.TheVariants.{Replace, Insert, Remove}

-- the new tree
unfoldable pub changed : Asked → Tree → Tree → Tree
changed (Replace node) t u = replace t node u
changed (Insert node k) t u = insert t node k u
changed (Remove node) t u = remove t node

-- what comes to stand in it
unfoldable pub given : Asked → Tree → Forest
given (Replace node) u = one u
given (Insert node k) u = one u
given (Remove node) u = nil

-- S 8.8: a removal has no text
unfoldable pub texted : Asked → Bool
texted (Replace node) = true
texted (Insert node k) = true
texted (Remove node) = false

-- the node that row 8 speaks of
unfoldable pub node_of : Asked → ℕ
node_of (Replace node) = node
node_of (Insert node k) = node
node_of (Remove node) = node

-- row 9: the node is not a list or has too few elements, or node 0 is to be removed
unfoldable pub placeless : Asked → Tree → Bool
placeless (Replace node) t = false
placeless (Insert node k) t = not (has_place (node_at t node) k)
placeless (Remove node) t = eqb node 0

-- ---- rows 3, 7, 8, 9 and 4 to 6, and what is written, of the tree that a text means, if it means one

abbrev pub new_tree : Asked → Option Tree → List ℕ → ℕ → List ℕ → ℕ → Tree
new_tree a o canonical len table count = changed a (the (own_tree canonical len table count)) (the o)

-- rows 9 and 4 to 6
abbrev pub placing : Asked → Option Tree → List ℕ → ℕ → List ℕ → ℕ → List Check
placing a o canonical len table count =
    when refusal_no_place (placeless a (the (own_tree canonical len table count))) ∷ room_checks (new_tree a o canonical len table count) canonical table

unfoldable pub change_checks : Asked → Option Tree → List ℕ → ℕ → List ℕ → ℕ → List Check
change_checks a o canonical len table count =
    when refusal_syntax (is_none o)
    ∷ when refusal_not_own (is_none (own_tree canonical len table count))
    ∷ when refusal_no_node (leb count (node_of a))
    ∷ placing a o canonical len table count

unfoldable pub change_tree : Asked → Option Tree → List ℕ → ℕ → List ℕ → ℕ → Outcome
change_tree a o canonical len table count =
    judged (change_checks a o canonical len table count)
    (filled (new_tree a o canonical len table count) len count canonical table)
    (λ n. unchanged n canonical table)

-- ---- the answer of a text, as the model gives it; a removal has none
unfoldable pub changing : Asked → ℕ → List ℕ → List ℕ → List ℕ → ℕ → ℕ → Outcome
changing (Replace node) form text canonical table len count = replacing form text canonical table len count node
changing (Insert node k) form text canonical table len count = inserting form text canonical table len count node k
changing (Remove node) form text canonical table len count = removing canonical table len count node
