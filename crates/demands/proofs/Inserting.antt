-- S 15 of inserting: refused exactly when a condition is missing, and an accepted insertion is a correction whose entry is the element
-- inserted.
use Prim.Native.Nat.{ℕ, ◌+◌, ◌-◌, ◌<◌}
use native.Mathlib.Omega.{arith}
use native.Mathlib.Nat.{add-zero}
use mathlib.Core.Path.{◌≡◌, refl, sym, ap, ap₂, ◌∙◌, subst}
use mathlib.Core.Bool.{false, not}
use mathlib.Core.Option.{Option, none, some}
use mathlib.Core.List.{List, [], ◌∷◌, map}
use lib.ListN.{take}
use lib.Dec.{eqb}
use Rattle.base.specs.Choice.{either, is_none}
use Rattle.base.proofs.Cases.{not-false, untrue}
use Rattle.model.specs.Answers.{Check, verdict, the, room_checks, text_checks, Outcome, filled, unchanged, place_of, telling}
use Rattle.model.specs.Corrections.{inserted, no_place, inserting_checks, inserting}
use Rattle.model.specs.Edit.{one, insert}
use Rattle.model.specs.Node.{node_at, has_place}
use Rattle.model.specs.Table.{rows, row_of}
use Rattle.model.specs.Tree.{Tree, nodes}
use Rattle.model.proofs.Judging.{judged-accepted}
use Rattle.edits.specs.Element.{placed, place_octet, Element}
use Rattle.edits.specs.Levels.{holders}
use Rattle.edits.specs.Moves.{Change}
use Rattle.edits.specs.Node.{holds}
use Rattle.edits.proofs.Changed.{change-holds}
use Rattle.edits.proofs.Changes.{placed-exact, insert-change, insert-around}
use Rattle.edits.proofs.Elements.{inserted-element}
use Rattle.lookup.proofs.Sheets.{Own, own_of}
use Rattle.demands.specs.Conditions.{First}
use Rattle.demands.specs.Corrections.{Correction, Insertable}
use Rattle.demands.proofs.Rooms.{room-none, room_of, Taken, text-none, text_of, Entered, entry-none, entry_of}
use Rattle.demands.proofs.Rows.{not-this, past, fills-by, fills-for, fills-held}

-- where a place is found, there is a number
pub record Placing (o : Option ℕ) : Type 0 where
  pub number : ℕ
  pub is : o ≡ some number

placing : (o : Option ℕ) → is_none o ≡ false → Placing o
unfolding is_none
placing none e = untrue (sym e)
placing (some j) e = record { number = j; is = refl }

module _ (form : ℕ) (text canonical table : List ℕ) (len count node k : ℕ) where
  abbrev checks : List Check
  checks = inserting_checks form text canonical table len count node k

  abbrev answer : Outcome
  answer = inserting form text canonical table len count node k

  -- S 8.7: 9 comes directly after 8
  pub insert-order : map (λ (c : Check). c.row) checks ≡ (1 ∷ 2 ∷ 3 ∷ 7 ∷ 8 ∷ 9 ∷ 4 ∷ 5 ∷ 6 ∷ [])
  unfolding inserting_checks text_checks room_checks
  insert-order = refl

  -- ---- what the conditions give

  module _ (c : Insertable form text canonical table len count node k) where
    corrected : inserted form text canonical table len count node k ≡ insert c.old node k c.new
    unfolding inserted the
    corrected = ap₂ (λ (o n : Option Tree). insert (the o) node k (the n)) c.own c.valid

    has-place : no_place canonical table len count node k ≡ false
    unfolding no_place the
    has-place = ap (λ (o : Option Tree). not (has_place (node_at (the o) node) k)) c.own ∙ ap not c.place

    pub insert-holds : verdict checks ≡ 0
    unfolding inserting_checks
    insert-holds =
        text-none form text _
        (record {
          tree = c.new;
          known = c.known;
          short = c.short;
          is = c.valid;
          rest = entry-none canonical table len count node _
              (record {
                tree = c.old;
                own = c.own;
                present = c.present;
                rest = past 9 _ _ has-place
                    (ap (λ (u : Tree). verdict (room_checks u canonical table)) corrected ∙ room-none (insert c.old node k c.new) canonical table c.room);
              });
        })

    -- the conditions hold: accepted, and the corrected tree is put in the old one's place
    pub insert-accepted : answer ≡ filled (insert c.old node k c.new) len count canonical table
    unfolding inserting filled telling
    insert-accepted = ap (telling (place_of form text)) (judged-accepted _ _ _ insert-holds ∙ ap (λ (u : Tree). filled u len count canonical table) corrected)

  -- ---- what an acceptance gives

  held : verdict checks ≡ 0 → Insertable form text canonical table len count node k
  unfolding inserting_checks inserted no_place the
  held v =
      let x : Taken form text _ = text_of form text _ v in
      let y : Entered canonical table len count node _ = entry_of canonical table len count node _ x.rest in
      let z : _ × _ = not-this 9 (no_place canonical table len count node k) _ (omega arith) y.rest in
      let i : inserted form text canonical table len count node k ≡ insert y.tree node k x.tree = ap₂ (λ (o n : Option Tree). insert (the o) node k (the n)) y.own x.is in
      record {
        new = x.tree;
        old = y.tree;
        known = x.known;
        short = x.short;
        valid = x.is;
        own = y.own;
        present = y.present;
        place = ap (λ (o : Option Tree). has_place (node_at (the o) node) k) (sym y.own) ∙ not-false z.0;
        room = room_of (insert y.tree node k x.tree) canonical table (subst (λ (u : Tree). verdict (room_checks u canonical table) ≡ 0) i z.1);
      }

  -- accepted: the conditions held
  pub insert-conditions : answer.number ≡ 0 → Insertable form text canonical table len count node k
  unfolding inserting telling
  insert-conditions e = held (fills-held checks _ len count canonical table e)

  -- ---- row by row: refused with a number, and nothing changed, exactly when that row is the first that applies; with 3 a place is told

  pub insert-refused-by : (n : ℕ) → 0 < n → First checks n → answer ≡ telling (place_of form text) (unchanged n canonical table)
  unfolding inserting
  insert-refused-by n h f = ap (telling (place_of form text)) (fills-by checks _ len count canonical table n h f)

  pub insert-refused-for : (n : ℕ) → 0 < n → answer.number ≡ n → First checks n
  unfolding inserting telling
  insert-refused-for n h e = fills-for checks _ len count canonical table n h e

  -- ---- S 15.1: the entry is the new element, in the old sheet an empty part at its place
  module _ (c : Insertable form text canonical table len count node k) where
    abbrev old : Tree
    old = c.old

    abbrev now : Tree
    now = insert old node k c.new

    pub insert-inside : node < nodes old
    insert-inside = let own : Own canonical len table count old = own_of canonical len table count old c.own in omega (arith, c.present, own.counted)

    -- the number of the new element, found by hopping
    pub entry : Placing (placed (row_of old) node k)
    entry = placing (placed (row_of old) node k) (placed-exact old node insert-inside k ∙ ap not c.place)

    abbrev number : ℕ
    number = entry.number

    -- the octet where it starts
    abbrev octet : ℕ
    octet = place_octet (row_of old) node number

    -- it is the k-th element of the list
    pub insert-element : Element now node k number
    insert-element = inserted-element old node insert-inside k number entry.is c.new

    pub inserting-corrects : Correction canonical table len count old now number 0 octet octet (one c.new) (λ j. holds now j number) answer
    inserting-corrects =
        let z : 0 ≡ octet - octet = omega arith in
        let a = insert-change old node insert-inside k number entry.is c.new in
        record {
          lists = _;
          own = c.own;
          room = c.room;
          is = insert-accepted c;
          ordered = omega arith;
          change = subst (λ (l : ℕ). Change old now number 0 octet l (holders (take node (rows old 0)) 0 node + 1) (one c.new)) z a;
          held = λ j h. rw add-zero at (change-holds a j h);
        }

    -- the lists around it, by their numbers in the old sheet: the list and those that hold it
    pub insert-holding : (j : ℕ) → j < number → holds now j number ≡ either (eqb j node) (holds old j node)
    insert-holding j h = inserting-corrects.held j h ∙ insert-around old node insert-inside k number entry.is j h
