-- S 8.5: a node's hint is shown as the part of the sheet that holds it, and in every other case the default as lent; its data as that part,
-- and in every other case an empty one.
use Prim.Native.Nat.{ℕ, ◌+◌, ◌-◌, ◌≤◌, ◌<◌}
use native.Mathlib.Omega.{arith}
use mathlib.Core.Path.{◌≡◌, refl, sym, ap, ◌∙◌}
use mathlib.Core.Option.{Option, none, some}
use mathlib.Core.List.{List, [], ◌∷◌, ◌++◌, append_assoc}
use lib.ListN.{length, take, drop, get_or, length-append, take-append-drop}
use lib.Seq.{take_at, drop_at}
use borrow.Author.Tests.{lt-ltb, le-ltb}
use Rattle.base.specs.Choice.{pick, chain}
use Rattle.base.proofs.Cases.{picked, unpicked}
use lib.Dec.{eqb}
use Rattle.model.specs.Answers.{own_tree, Part, part, octets_at, shown_row, hint_part, data_part, shown_or, hint_shown, data_shown}
use Rattle.model.specs.Edit.{one}
use Rattle.model.specs.Table.{Row, plain_row, hinted_row, list_row, body_start, body_end, rows, row_of}
use Rattle.model.specs.Tree.{Tree, plain, hinted, list, Forest, digits, verbatim, canon, canons, nodes}
use Rattle.lookup.proofs.Sheets.{Own, own_of}
use Rattle.model.specs.Node.{node_at}
use Rattle.edits.specs.Place.{before, after, trail}
use Rattle.edits.proofs.Whole.{canons-one, octets-at, row_first, locate}

-- a part of a sheet, by what stands before and after it
pub between : (canonical pre mid post : List ℕ) (len s e : ℕ) → take len canonical ≡ pre ++ (mid ++ post) → s ≡ length pre → e ≡ length pre + length mid → octets_at canonical (part s e) ≡ mid
unfolding octets_at
between canonical pre mid post len s e q a b =
    let whole : canonical ≡ pre ++ (mid ++ (post ++ drop len canonical))
    = sym (take-append-drop len canonical) ∙ ap (λ (x : List ℕ). x ++ drop len canonical) q ∙ append_assoc pre (mid ++ post) (drop len canonical)
    ∙ ap (λ (x : List ℕ). pre ++ x) (append_assoc mid post (drop len canonical)) in
    ap (λ (x : List ℕ). take (e - s) (drop s x)) whole
    ∙ ap (take (e - s)) (drop_at pre _ s (sym a))
    ∙ take_at mid _ (e - s) (omega arith)

module _ (canonical : List ℕ) (len : ℕ) (table : List ℕ) (count node : ℕ) where
  -- ---- the sheet or the table is bad, or the node is missing
  module _ (e : own_tree canonical len table count ≡ none) where
    pub hint-bad : (x : List ℕ) → hint_shown canonical len table count node x ≡ x
    unfolding hint_shown hint_part shown_row shown_or chain
    hint-bad x = rw e

    pub data-bad : data_shown canonical len table count node ≡ []
    unfolding data_shown data_part shown_row shown_or chain
    data-bad = rw e

  module _ (t : Tree) (o : own_tree canonical len table count ≡ some t) where
    row-missing : nodes t ≤ node → shown_row canonical len table count node ≡ none
    unfolding shown_row chain
    row-missing h = rw o (unpicked _ _ (le-ltb node (nodes t) h))

    pub hint-missing : nodes t ≤ node → (x : List ℕ) → hint_shown canonical len table count node x ≡ x
    unfolding hint_shown hint_part shown_or chain
    hint-missing h x = rw (row-missing h)

    pub data-missing : nodes t ≤ node → data_shown canonical len table count node ≡ []
    unfolding data_shown data_part shown_or chain
    data-missing h = rw (row-missing h)

    -- ---- the node is there
    module _ (h : node < nodes t) where
      row-there : shown_row canonical len table count node ≡ some (row_of t node)
      unfolding shown_row chain
      row-there = rw o (picked _ _ (lt-ltb node (nodes t) h))

      abbrev pub front : List ℕ
      front = before (locate t node h).place

      abbrev pub back : List ℕ
      back = after (locate t node h).place

      -- the sheet and the node's record, by the node
      pub sheet-by : (x : Tree) → node_at t node ≡ x → take len canonical ≡ front ++ (canon x ++ back)
      sheet-by x q =
          let a = locate t node h in
          let y : a.node ≡ x = sym a.is_node ∙ q in
          let w : Own canonical len table count t = own_of canonical len table count t o in
          w.sheet.is ∙ octets-at t a.place _ a.is ∙ ap (λ (c : List ℕ). front ++ (c ++ back)) (canons-one a.node ∙ ap canon y)

      row_by : (x : Tree) → node_at t node ≡ x → (r : Row) → ((rest : List Row) → get_or (rows x (length front) ++ rest) 0 (plain_row 0 0 0) ≡ r) → row_of t node ≡ r
      row_by x q r f =
          let a = locate t node h in
          let y : a.node ≡ x = sym a.is_node ∙ q in
          let rest : List Row = trail a.place (length front + length (canons (one a.node))) in
          ap (row_of t) (sym a.num) ∙ row_first t a.place a.node a.is
          ∙ ap (λ (z : Tree). get_or (rows z (length front) ++ rest) 0 (plain_row 0 0 0)) y ∙ f rest

      hint-by : (r : Row) → row_of t node ≡ r → hint_part canonical len table count node ≡ pick (eqb r.kind 1) (some (part r.hint_start r.hint_end)) none
      unfolding hint_part chain
      hint-by r q = rw (row-there, q)

      data-by : (r : Row) → row_of t node ≡ r → data_part canonical len table count node ≡ some (part r.data_start r.data_end)
      unfolding data_part chain
      data-by r q = rw (row-there, q)

      -- a string without a hint
      module _ (d : List ℕ) (q : node_at t node ≡ plain d) where
        pub plain_row_lem : row_of t node ≡ plain_row (length front) (body_start (length front) d) (body_end (length front) d)
        unfolding rows
        plain_row_lem = row_by (plain d) q _ (λ rest. refl)

        pub hint-of-plain : (x : List ℕ) → hint_shown canonical len table count node x ≡ x
        unfolding hint_shown shown_or
        hint-of-plain x = rw (hint-by _ plain_row_lem)

        pub data-of-plain : data_shown canonical len table count node ≡ d
        unfolding data_shown shown_or canon verbatim
        data-of-plain =
            ap (λ (o : Option Part). shown_or o canonical []) (data-by _ plain_row_lem)
            ∙ between canonical (front ++ (digits (length d) ++ (58 ∷ []))) d back len _ _
            (sheet-by (plain d) q ∙ simp append_assoc)
            (simp length-append (omega arith))
            (simp length-append (omega arith))

      -- a string with a hint
      module _ (g d : List ℕ) (q : node_at t node ≡ hinted g d) where
        abbrev pub at : ℕ
        at = length front

        pub hinted-row : row_of t node ≡ hinted_row at (body_start (at + 1) g) (body_end (at + 1) g) (body_start (body_end (at + 1) g + 1) d) (body_end (body_end (at + 1) g + 1) d)
        unfolding rows
        hinted-row = row_by (hinted g d) q _ (λ rest. refl)

        pub hint-of-hinted : (x : List ℕ) → hint_shown canonical len table count node x ≡ g
        unfolding hint_shown shown_or canon verbatim
        hint-of-hinted x =
            ap (λ (o : Option Part). shown_or o canonical x) (hint-by _ hinted-row)
            ∙ between canonical (front ++ (91 ∷ (digits (length g) ++ (58 ∷ [])))) g (93 ∷ (verbatim d ++ back)) len _ _
            (sheet-by (hinted g d) q ∙ simp append_assoc)
            (simp length-append (omega arith))
            (simp length-append (omega arith))

        pub data-of-hinted : data_shown canonical len table count node ≡ d
        unfolding data_shown shown_or canon verbatim
        data-of-hinted =
            ap (λ (o : Option Part). shown_or o canonical []) (data-by _ hinted-row)
            ∙ between canonical (front ++ (91 ∷ (verbatim g ++ (93 ∷ (digits (length d) ++ (58 ∷ [])))))) d back len _ _
            (sheet-by (hinted g d) q ∙ simp append_assoc)
            (simp length-append (omega arith))
            (simp length-append (omega arith))

      -- a list: its data is what stands between its parentheses (S 4.2)
      module _ (f : Forest) (q : node_at t node ≡ list f) where
        pub list-row : row_of t node ≡ list_row (length front) (length front + length (canon (list f))) (nodes (list f))
        unfolding rows
        list-row = row_by (list f) q _ (λ rest. refl)

        pub hint-of-list : (x : List ℕ) → hint_shown canonical len table count node x ≡ x
        unfolding hint_shown shown_or
        hint-of-list x = rw (hint-by _ list-row)

        pub data-of-list : data_shown canonical len table count node ≡ canons f
        unfolding data_shown shown_or canon
        data-of-list =
            ap (λ (o : Option Part). shown_or o canonical []) (data-by _ list-row)
            ∙ between canonical (front ++ (40 ∷ [])) (canons f) (41 ∷ back) len _ _
            (sheet-by (list f) q ∙ simp append_assoc)
            (simp length-append (omega arith))
            (simp length-append (omega arith))
