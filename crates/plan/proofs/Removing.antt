-- A removal: what it answers is what a change to nothing answers. Rows 4 to 6 never apply to it.
use Prim.Native.Nat.{ℕ, zero, suc, ◌≤◌, ◌<◌}
use native.Mathlib.Omega.{arith}
use mathlib.Core.Path.{◌≡◌, refl, sym, ap, ◌∙◌}
use mathlib.Core.Option.{Option, none, some}
use mathlib.Core.List.{List, ◌∷◌, []}
use lib.ListN.{length}
use lib.Dec.{leb, eqb}
use borrow.Author.Tests.{le-leb, lt-leb, eq-eqb, ne_eqb}
use Rattle.base.specs.Choice.{is_none}
use Rattle.base.proofs.Cases.{by_le, by-eq, unpicked}
use Rattle.model.specs.Answers.{when, verdict, the, own_tree, filled}
use Rattle.model.specs.Corrections.{removed, removing_checks, removing}
use Rattle.model.specs.Edit.{remove}
use Rattle.model.specs.Table.{records}
use Rattle.model.specs.Tree.{Tree, list, nil, canon, canons, nodes, nodess, depth, depths}
use Rattle.model.proofs.Judging.{judged-accepted, judged-refused, verdict-here, verdict-past}
use Rattle.edits.proofs.Changed.{change-moves, change-shallow}
use Rattle.edits.proofs.Changes.{remove-change}
use Rattle.edits.proofs.Moved.{new-length}
use Rattle.lookup.proofs.Sheets.{Own, own_of, own-lent}
use Rattle.rooms.specs.Rooms.{room_verdict}
use Rattle.rooms.proofs.Rooms.{room-good}
use Rattle.plan.specs.Asked.{changed, node_of, placeless, change_tree}
use Rattle.plan.proofs.Finding.{not_own, no_node, no_place, spot-accepted}
use Rattle.plan.specs.declared.Asked.{Asked}
use Rattle.plan.specs.declared.Asked.TheVariants.{Remove}

positive : (n : ℕ) → (n ≡ 0 → ⊥) → 0 < n
positive zero h = absurd (h refl)
positive (suc n) h = omega arith

-- ---- a sheet with a node less has room where it stood
module _ (canonical : List ℕ) (len : ℕ) (table : List ℕ) (count node : ℕ) where
  abbrev a : Asked
  a = Remove node

  abbrev goal : Type 0
  goal = change_tree a (some (list nil)) canonical len table count ≡ removing canonical table len count node

  none_left : (node ≡ 0 → ⊥) → verdict (when 9 (eqb node 0) ∷ []) ≡ 0
  unfolding verdict
  none_left z = unpicked _ _ (ne_eqb node 0 z)

  module _ (t : Tree) (e : own_tree canonical len table count ≡ some t) where
    own : Own canonical len table count t
    own = own_of canonical len table count t e

    removed-beyond : count ≤ node → goal
    unfolding removing removing_checks node_of is_none
    removed-beyond h =
        no_node a canonical len table count t e (list nil) h
        ∙ sym (judged-refused _ _ _ 8 (verdict-past 7 (is_none (own_tree canonical len table count)) _ (ap is_none e) ∙ verdict-here 8 (leb count node) _ (le-leb _ _ h)) (omega arith))

    module _ (h : node < count) where
      to-place : verdict (removing_checks canonical table len count node) ≡ verdict (when 9 (eqb node 0) ∷ [])
      unfolding removing_checks is_none
      to-place = verdict-past 7 (is_none (own_tree canonical len table count)) _ (ap is_none e) ∙ verdict-past 8 (leb count node) _ (lt-leb _ _ h)

      removed-first : node ≡ 0 → goal
      unfolding removing node_of placeless
      removed-first z =
          no_place a canonical len table count t e (list nil) h (eq-eqb node 0 z)
          ∙ sym (judged-refused _ _ _ 9 (to-place ∙ verdict-here 9 (eqb node 0) _ (eq-eqb node 0 z)) (omega arith))

      module _ (z : node ≡ 0 → ⊥) (p : 0 < node) where
        inside : node < nodes t
        inside = omega (arith, own.counted)

        pub removing-room : 0 ≡ room_verdict (depth (remove t node)) (nodes (remove t node)) (length (canon (remove t node))) (length canonical) (records table)
        unfolding canons nodess depths
        removing-room =
            let less = remove-change t node inside p in
            let fewer = change-moves less in
            let d : depth (remove t node) ≤ depth t = change-shallow less (omega arith) in
            let m : nodes (remove t node) ≤ nodes t = omega (arith, fewer.count) in
            let l : length (canon (remove t node)) ≤ length (canon t) = omega (arith, new-length fewer) in
            let s = own.sheet in
            let w = own-lent canonical len table count t own in
            room-good _ _ _ (length canonical) (records table)
            (omega (arith, d, s.fitting.deep))
            (omega (arith, m, own.counted, w))
            (omega (arith, l, s.fitting.long))
            (omega (arith, l, s.size, s.lent))

        removed-whole : goal
        unfolding removing removed node_of placeless changed the
        removed-whole =
            spot-accepted a canonical len table count t e (list nil) h (ne_eqb node 0 z) (sym removing-room)
            ∙ sym (judged-accepted _ _ _ (to-place ∙ none_left z) ∙ ap (λ (o : Option Tree). filled (remove (the o) node) len count canonical table) e)

    removed-some : goal
    removed-some =
        by_le count node removed-beyond
        (λ h. by-eq node 0 (removed-first h) (λ z. removed-whole h z (positive node z)))

  removed-by : (o : Option Tree) → own_tree canonical len table count ≡ o → goal
  unfolding removing removing_checks is_none
  removed-by none e = not_own a canonical len table count e (list nil) ∙ sym (judged-refused _ _ _ 7 (verdict-here 7 (is_none (own_tree canonical len table count)) _ (ap is_none e)) (omega arith))
  removed-by (some t) e = removed-some t e

  pub removing-is : goal
  removing-is = removed-by (own_tree canonical len table count) refl
