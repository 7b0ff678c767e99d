-- S 15 of removing: refused exactly when a condition is missing, and an accepted removal is a correction of the node. What is left always
-- has room.
use Prim.Native.Nat.{ℕ, ◌<◌}
use native.Mathlib.Omega.{arith}
use mathlib.Core.Path.{◌≡◌, refl, sym, ap, ◌∙◌}
use mathlib.Core.Option.{Option}
use mathlib.Core.List.{List, [], ◌∷◌, ◌++◌, map}
use lib.Dec.{eqb}
use borrow.Author.Tests.{eqb-false, ne_eqb}
use Rattle.model.specs.Answers.{Check, verdict, the, room_checks, Outcome, filled, unchanged}
use Rattle.model.specs.Corrections.{removed, removing_checks, removing}
use Rattle.model.specs.Edit.{remove}
use Rattle.model.specs.Table.{row_of}
use Rattle.model.specs.Tree.{Tree, nil, nodes}
use Rattle.model.proofs.Judging.{judged-accepted}
use Rattle.edits.specs.Node.{holds}
use Rattle.edits.proofs.Changes.{remove-change}
use Rattle.edits.proofs.Demand.{entry_in, lists-around}
use Rattle.edits.proofs.Inserted.{remove-length, remove-nodes, remove-shallow}
use Rattle.lookup.proofs.Sheets.{Own, own_of, own-lent}
use Rattle.demands.specs.Conditions.{Room, First}
use Rattle.demands.specs.Corrections.{Correction, Removable}
use Rattle.demands.proofs.Rooms.{room-none, Entered, entry-none, entry_of}
use Rattle.demands.proofs.Rows.{not-this, past, none-applies, no_more, fills-by, fills-for, fills-held}

module _ (canonical table : List ℕ) (len count node : ℕ) where
  abbrev checks : List Check
  checks = removing_checks canonical table len count node

  abbrev answer : Outcome
  answer = removing canonical table len count node

  -- S 8.8: there is no text to judge; rows 4 to 6 never apply to a removal (`removing-fits`)
  pub remove-order : map (λ (c : Check). c.row) checks ≡ (7 ∷ 8 ∷ 9 ∷ [])
  unfolding removing_checks
  remove-order = refl

  -- ---- what the conditions give

  module _ (c : Removable canonical table len count node) where
    corrected : removed canonical table len count node ≡ remove c.old node
    unfolding removed the
    corrected = ap (λ (o : Option Tree). remove (the o) node) c.own

    pub remove-holds : verdict checks ≡ 0
    unfolding removing_checks
    remove-holds =
        entry-none canonical table len count node _
        (record { tree = c.old; own = c.own; present = c.present; rest = past 9 _ _ (ne_eqb node 0 (λ z. omega (arith, c.inner))) none-applies })

    -- the conditions hold: accepted, and what is left is put in the old tree's place
    pub remove-accepted : answer ≡ filled (remove c.old node) len count canonical table
    unfolding removing
    remove-accepted = judged-accepted _ _ _ remove-holds ∙ ap (λ (u : Tree). filled u len count canonical table) corrected

  -- ---- what an acceptance gives

  held : verdict checks ≡ 0 → Removable canonical table len count node
  unfolding removing_checks
  held v =
      let y : Entered canonical table len count node _ = entry_of canonical table len count node _ v in
      let z : _ × _ = not-this 9 (eqb node 0) _ (omega arith) y.rest in
      record { old = y.tree; own = y.own; present = y.present; inner = omega (arith, eqb-false node 0 z.0) }

  -- accepted: the conditions held
  pub remove-conditions : answer.number ≡ 0 → Removable canonical table len count node
  unfolding removing
  remove-conditions e = held (fills-held checks _ len count canonical table e)

  -- ---- row by row: refused with a number, and nothing changed, exactly when that row is the first that applies

  pub remove-refused-by : (n : ℕ) → 0 < n → First checks n → answer ≡ unchanged n canonical table
  unfolding removing
  remove-refused-by n h f = fills-by checks _ len count canonical table n h f

  pub remove-refused-for : (n : ℕ) → 0 < n → answer.number ≡ n → First checks n
  unfolding removing
  remove-refused-for n h e = fills-for checks _ len count canonical table n h e

  -- ---- the entry is the node, and the lists around it are those that hold it
  module _ (c : Removable canonical table len count node) where
    abbrev old : Tree
    old = c.old

    own : Own canonical len table count old
    own = own_of canonical len table count old c.own

    pub remove-inside : node < nodes old
    remove-inside = omega (arith, c.present, own.counted)

    -- rows 4 to 6 never apply to what is left
    pub remove-room : Room (remove old node) canonical table
    remove-room =
        let l = remove-length old node remove-inside c.inner in
        let n = remove-nodes old node remove-inside c.inner in
        let f = own.sheet.fitting in
        record {
          shallow = omega (arith, remove-shallow old node remove-inside c.inner, f.deep);
          recorded = omega (arith, own-lent canonical len table count old own, own.counted);
          small = omega (arith, f.long);
          roomy = omega (arith, own.sheet.lent, own.sheet.size);
        }

    pub removing-corrects :
        Correction canonical table len count old (remove old node) node (row_of old node).count (row_of old node).start (row_of old node).end nil (λ j. holds old j node) answer
    removing-corrects =
        record {
          lists = _;
          own = c.own;
          room = remove-room;
          is = remove-accepted c;
          ordered = (entry_in old node remove-inside).0;
          change = remove-change old node remove-inside c.inner;
          held = λ j l. sym (lists-around old node remove-inside j l);
        }

  -- were rows 4 to 6 asked for, nothing would be answered otherwise
  pub removing-fits : verdict (checks ++ room_checks (removed canonical table len count node) canonical table) ≡ verdict checks
  removing-fits = no_more checks _ (λ v. let c = held v in ap (λ (u : Tree). verdict (room_checks u canonical table)) (corrected c) ∙ room-none (remove c.old node) canonical table (remove-room c))
