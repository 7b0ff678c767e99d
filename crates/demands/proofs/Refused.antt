-- S 15.2 of replacing: refused exactly when a condition is missing; and an accepted one is a correction of the node.
use Prim.Native.Nat.{ℕ, ◌<◌}
use native.Mathlib.Omega.{arith}
use mathlib.Core.Path.{◌≡◌, sym, ap, ap₂, ◌∙◌, subst}
use mathlib.Core.Option.{Option}
use mathlib.Core.List.{List}
use Rattle.model.specs.Answers.{Check, verdict, the, room_checks, Outcome, filled, unchanged, replaced, replacing_checks, replacing, place_of, telling}
use Rattle.model.specs.Edit.{one, replace}
use Rattle.model.specs.Table.{row_of}
use Rattle.model.specs.Tree.{Tree, nodes}
use Rattle.model.proofs.Judging.{judged-accepted}
use Rattle.edits.specs.Node.{holds}
use Rattle.edits.proofs.Changes.{replace-change}
use Rattle.edits.proofs.Demand.{entry_in, lists-around}
use Rattle.lookup.proofs.Sheets.{Own, own_of}
use Rattle.demands.specs.Conditions.{Conditions, First}
use Rattle.demands.specs.Corrections.{Correction}
use Rattle.demands.proofs.Rooms.{room-none, room_of, Taken, text-none, text_of, Entered, entry-none, entry_of}
use Rattle.demands.proofs.Rows.{fills-by, fills-for, fills-held}

module _ (form : ℕ) (text canonical table : List ℕ) (len count node : ℕ) where
  abbrev checks : List Check
  checks = replacing_checks form text canonical table len count node

  abbrev answer : Outcome
  answer = replacing form text canonical table len count node

  -- ---- what the conditions give

  module _ (c : Conditions form text canonical table len count node) where
    corrected : replaced form text canonical table len count node ≡ replace c.old node c.new
    unfolding replaced the
    corrected = ap₂ (λ (o n : Option Tree). replace (the o) node (the n)) c.own c.valid

    pub all_hold : verdict checks ≡ 0
    unfolding replacing_checks
    all_hold =
        text-none form text _
        (record {
          tree = c.new;
          known = c.known;
          short = c.short;
          is = c.valid;
          rest = entry-none canonical table len count node _
              (record {
                tree = c.old;
                own = c.own;
                present = c.present;
                rest = ap (λ (u : Tree). verdict (room_checks u canonical table)) corrected ∙ room-none (replace c.old node c.new) canonical table c.room;
              });
        })

    -- the conditions hold: accepted, and the corrected tree is put in the old one's place
    pub accepted : answer ≡ filled (replace c.old node c.new) len count canonical table
    unfolding replacing filled telling
    accepted = ap (telling (place_of form text)) (judged-accepted _ _ _ all_hold ∙ ap (λ (u : Tree). filled u len count canonical table) corrected)

  -- ---- what an acceptance gives

  held : verdict checks ≡ 0 → Conditions form text canonical table len count node
  unfolding replacing_checks replaced the
  held v =
      let x : Taken form text _ = text_of form text _ v in
      let y : Entered canonical table len count node _ = entry_of canonical table len count node _ x.rest in
      let k : replaced form text canonical table len count node ≡ replace y.tree node x.tree = ap₂ (λ (o n : Option Tree). replace (the o) node (the n)) y.own x.is in
      record {
        new = x.tree;
        old = y.tree;
        known = x.known;
        short = x.short;
        valid = x.is;
        own = y.own;
        present = y.present;
        room = room_of (replace y.tree node x.tree) canonical table (subst (λ (u : Tree). verdict (room_checks u canonical table) ≡ 0) k y.rest);
      }

  -- accepted: the conditions held
  pub conditions : answer.number ≡ 0 → Conditions form text canonical table len count node
  unfolding replacing telling
  conditions e = held (fills-held checks _ len count canonical table e)

  -- ---- row by row: refused with a number, and nothing changed, exactly when that row is the first that applies; with 3 a place is told

  pub refused-by : (n : ℕ) → 0 < n → First checks n → answer ≡ telling (place_of form text) (unchanged n canonical table)
  unfolding replacing
  refused-by n h f = ap (telling (place_of form text)) (fills-by checks _ len count canonical table n h f)

  pub refused-for : (n : ℕ) → 0 < n → answer.number ≡ n → First checks n
  unfolding replacing telling
  refused-for n h e = fills-for checks _ len count canonical table n h e

  -- ---- the entry is the node, and the lists around it are those that hold it
  module _ (e : answer.number ≡ 0) where
    abbrev c : Conditions form text canonical table len count node
    c = conditions e

    abbrev old : Tree
    old = c.old

    pub replacing-corrects :
        Correction canonical table len count old (replace old node c.new) node (row_of old node).count (row_of old node).start (row_of old node).end (one c.new) (λ j. holds old j node) answer
    replacing-corrects =
        let own : Own canonical len table count old = own_of canonical len table count old c.own in
        let h : node < nodes old = omega (arith, c.present, own.counted) in
        record {
          lists = _;
          own = c.own;
          room = c.room;
          is = accepted c;
          ordered = (entry_in old node h).0;
          change = replace-change old node h c.new;
          held = λ j l. sym (lists-around old node h j l);
        }
