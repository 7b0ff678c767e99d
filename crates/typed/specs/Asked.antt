-- What the entries answer: for all inputs, refused ones too (S 10.2 to 10.5).
use Rattle.std.specs.Prelude.{ℕ, true, List, [], ◌∷◌, leb, Some, None}
use Rattle.std.proofs.Math.Option.{Option, none, some}
use Rattle.base.specs.Choice.{is_none}
use Rattle.model.specs.Limits.{no_refusal, refusal_not_own, refusal_no_node}
use Rattle.model.specs.Answers.{Check, when, judged, the, own_tree}
use Rattle.model.specs.Table.{row_of}
use Rattle.model.specs.Tree.{Tree}
use Rattle.typed.specs.Coding.{refusal_not_typed, refusal_not_line}
use Rattle.typed.specs.Typed.{Typing}
use Rattle.typed.specs.Quarters.{total_by, total_for, total_of}
use Rattle.typed.specs.Lines.{typed_row, line_at, line_count, Sum, lines, bad, sum_at}
use Rattle.typed.specs.Cases.{Valued, unvalued, Totalled, untotalled, Lined, unlined, Summed, unsummed}
use Rattle.typed.specs.declared.Value.{Value}
use Rattle.typed.specs.declared.Line.{Line}

-- rows 7 and 8, which come before what is asked of a node
unfoldable pub node_checks : List ℕ → ℕ → List ℕ → ℕ → ℕ → List Check → List Check
node_checks canonical len table count node rest =
    when refusal_not_own (is_none (own_tree canonical len table count))
    ∷ when refusal_no_node (leb count node)
    ∷ rest

-- the sheet's tree; without one row 7 applies, and this one is never looked at
abbrev pub tree_of : List ℕ → ℕ → List ℕ → ℕ → Tree
tree_of canonical len table count = the (own_tree canonical len table count)

-- ---- a node's value; S 10.2: 7, 8, 11

abbrev pub value_in : Typing → Option Value
value_in (Some v) = some v
value_in None = none

unfoldable pub node_value : List ℕ → ℕ → List ℕ → ℕ → ℕ → Option Value
node_value canonical len table count node = value_in (typed_row canonical (row_of (tree_of canonical len table count) node))

unfoldable pub valuing : List ℕ → ℕ → List ℕ → ℕ → ℕ → Valued
valuing canonical len table count node =
    judged (node_checks canonical len table count node (when refusal_not_typed (is_none (node_value canonical len table count node)) ∷ []))
    (record { accepted = true; number = no_refusal; place = 0; value = node_value canonical len table count node })
    (λ n. unvalued n)

-- ---- a line's total (S 10.5), and a node's line; S 10.3: 7, 8, 12

unfoldable pub totalling : Line → Totalled
totalling h =
    judged (when refusal_not_line (is_none (total_of h)) ∷ [])
    (record { accepted = true; number = no_refusal; place = 0; total = total_of h })
    (λ n. untotalled n)

unfoldable pub node_line : List ℕ → ℕ → List ℕ → ℕ → ℕ → Option Line
node_line canonical len table count node = line_at canonical (tree_of canonical len table count) node

unfoldable pub lining : List ℕ → ℕ → List ℕ → ℕ → ℕ → Lined
lining canonical len table count node =
    judged (node_checks canonical len table count node (when refusal_not_line (is_none (node_line canonical len table count node)) ∷ []))
    (record {
      accepted = true;
      number = no_refusal;
      place = 0;
      line = node_line canonical len table count node;
      total = total_for (line_count canonical (tree_of canonical len table count) node);
    })
    (λ n. unlined n)

-- ---- a list of lines; S 10.4: 7, 8, 12, and with 12 the first element that is no line

unfoldable pub node_sum : List ℕ → ℕ → List ℕ → ℕ → ℕ → Sum
node_sum canonical len table count node = sum_at canonical (tree_of canonical len table count) node

unfoldable pub summed_by : Sum → Summed
summed_by (lines n q) = record { accepted = true; number = no_refusal; place = 0; lines = n; total = some (total_by q); bad = 0 }
summed_by (bad k) = unsummed refusal_not_line k

unfoldable pub summing : List ℕ → ℕ → List ℕ → ℕ → ℕ → Summed
summing canonical len table count node =
    judged (node_checks canonical len table count node [])
    (summed_by (node_sum canonical len table count node))
    (λ n. unsummed n 0)
