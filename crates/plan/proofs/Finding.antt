-- Rows 7, 8 and 9, whatever is asked.
use Prim.Native.Nat.{ℕ, ◌≤◌, ◌<◌}
use native.Mathlib.Omega.{arith}
use mathlib.Core.Path.{◌≡◌, refl, sym, ap, ◌∙◌}
use mathlib.Core.Bool.{Bool, true, false}
use mathlib.Core.Option.{Option, none, some}
use mathlib.Core.List.{List}
use lib.ListN.{length}
use lib.Dec.{leb}
use borrow.Author.Tests.{le-leb, lt-leb}
use Rattle.base.specs.Choice.{is_none}
use Rattle.model.specs.Answers.{verdict, the, room_checks, own_tree, unchanged, filled}
use Rattle.model.specs.Table.{records}
use Rattle.model.specs.Tree.{Tree, canon, nodes, depth}
use Rattle.model.proofs.Judging.{judged-accepted, judged-refused, verdict-here, verdict-past}
use Rattle.rooms.specs.Rooms.{room_verdict}
use Rattle.rooms.proofs.Rooms.{rooms}
use Rattle.tables.specs.Told.{Holds}
use Rattle.lookup.proofs.Sheets.{tree_of, none_of}
use Rattle.plan.specs.Asked.{changed, texted, node_of, placeless, placing, change_checks, change_tree}
use Rattle.plan.specs.Spots.{Refusing}
use Rattle.answers.specs.declared.refusal.Refusal.TheVariants.{NotOwn, NoNode, NoPlace}
use Rattle.plan.specs.declared.Asked.{Asked}
use Rattle.plan.specs.declared.Asked.TheVariants.{Replace, Insert, Remove}

module _ (a : Asked) (canonical : List ℕ) (len : ℕ) (table : List ℕ) (count : ℕ) where
  pub not_own : own_tree canonical len table count ≡ none → (u : Tree) → change_tree a (some u) canonical len table count ≡ unchanged 7 canonical table
  unfolding change_tree change_checks is_none
  not_own e u =
      judged-refused _ _ _ 7
      (verdict-past 3 (is_none (some u)) _ refl ∙ verdict-here 7 (is_none (own_tree canonical len table count)) _ (ap is_none e))
      (omega arith)

  module _ (t : Tree) (e : own_tree canonical len table count ≡ some t) (u : Tree) where
    pub no_node : count ≤ node_of a → change_tree a (some u) canonical len table count ≡ unchanged 8 canonical table
    unfolding change_tree change_checks is_none
    no_node h =
        judged-refused _ _ _ 8
        (verdict-past 3 (is_none (some u)) _ refl
        ∙ verdict-past 7 (is_none (own_tree canonical len table count)) _ (ap is_none e)
        ∙ verdict-here 8 (leb count (node_of a)) _ (le-leb _ _ h))
        (omega arith)

    module _ (h : node_of a < count) where
      place_of : (b : Bool) → placeless a t ≡ b → placeless a (the (own_tree canonical len table count)) ≡ b
      unfolding the
      place_of b p = ap (λ (o : Option Tree). placeless a (the o)) e ∙ p

      -- row 9 is left
      to-place : verdict (change_checks a (some u) canonical len table count) ≡ verdict (placing a (some u) canonical len table count)
      unfolding change_checks is_none
      to-place =
          verdict-past 3 (is_none (some u)) _ refl
          ∙ verdict-past 7 (is_none (own_tree canonical len table count)) _ (ap is_none e)
          ∙ verdict-past 8 (leb count (node_of a)) _ (lt-leb _ _ h)

      pub no_place : placeless a t ≡ true → change_tree a (some u) canonical len table count ≡ unchanged 9 canonical table
      unfolding change_tree
      no_place p = judged-refused _ _ _ 9 (to-place ∙ verdict-here 9 (placeless a (the (own_tree canonical len table count))) _ (place_of true p)) (omega arith)

      module _ (p : placeless a t ≡ false) where
        -- rows 4 to 6 are left
        rooms-left : verdict (change_checks a (some u) canonical len table count)
            ≡ room_verdict (depth (changed a t u)) (nodes (changed a t u)) (length (canon (changed a t u))) (length canonical) (records table)
        unfolding the
        rooms-left =
            to-place
            ∙ verdict-past 9 (placeless a (the (own_tree canonical len table count))) _ (place_of false p)
            ∙ ap (λ (o : Option Tree). verdict (room_checks (changed a (the o) u) canonical table)) e
            ∙ rooms (changed a t u) canonical table

        pub spot-refused : (n : ℕ) → n ≡ room_verdict (depth (changed a t u)) (nodes (changed a t u)) (length (canon (changed a t u))) (length canonical) (records table) → 0 < n
            → change_tree a (some u) canonical len table count ≡ unchanged n canonical table
        unfolding change_tree
        spot-refused n v k = judged-refused _ _ _ n (rooms-left ∙ sym v) k

        pub spot-accepted : room_verdict (depth (changed a t u)) (nodes (changed a t u)) (length (canon (changed a t u))) (length canonical) (records table) ≡ 0
            → change_tree a (some u) canonical len table count ≡ filled (changed a t u) len count canonical table
        unfolding change_tree the
        spot-accepted v = judged-accepted _ _ _ (rooms-left ∙ v) ∙ ap (λ (o : Option Tree). filled (changed a (the o) u) len count canonical table) e

-- ---- by notes
module _ (notes : List ℕ) (count : ℕ) (a : Asked) where
  pub refuse-unowned : (own : Bool) → own ≡ false → Refusing notes count own a NotOwn
  refuse-unowned own y = record { is = λ c len table e g u. not_own a c len table count (none_of (own_tree c len table count) (sym y ∙ e)) u }

  pub refuse-beyond : count ≤ node_of a → Refusing notes count true a NoNode
  refuse-beyond h = record { is = λ c len table e g u. tree_of (own_tree c len table count) e (λ t i. no_node a c len table count t i u h) }

  pub refuse-placeless : node_of a < count → ((t : Tree) → Holds notes count t → placeless a t ≡ true) → Refusing notes count true a NoPlace
  refuse-placeless h p = record { is = λ c len table e g u. tree_of (own_tree c len table count) e (λ t i. no_place a c len table count t i u h (p t (g t i))) }

-- ---- whether a text comes
pub text-replace : (a : Asked) (node : ℕ) → a ≡ Replace node → true ≡ texted a
unfolding texted
text-replace a node e = sym (ap texted e)

pub text-insert : (a : Asked) (node k : ℕ) → a ≡ Insert node k → true ≡ texted a
unfolding texted
text-insert a node k e = sym (ap texted e)

pub text-remove : (a : Asked) (node : ℕ) → a ≡ Remove node → false ≡ texted a
unfolding texted
text-remove a node e = sym (ap texted e)
