-- S 15.6, the parent of a new tree: of an element that was inserted it is the list asked for, and of a node that was replaced it stays.
use Prim.Native.Nat.{ℕ, ◌<◌}
use native.Mathlib.Omega.{arith}
use mathlib.Core.Path.{◌≡◌, refl, sym, ◌∙◌}
use mathlib.Core.Bool.{true, false, true≢false}
use mathlib.Core.List.{List}
use lib.ListN.{get_or}
use borrow.Author.Tests.{le-ltb, eq-eqb, ne_eqb}
use Rattle.base.proofs.Cases.{by_le, by-eq, picked, unpicked}
use Rattle.model.specs.Answers.{replacing}
use Rattle.model.specs.Corrections.{inserting}
use Rattle.model.specs.Edit.{insert}
use Rattle.model.specs.Table.{parent_of}
use Rattle.model.specs.Tree.{Tree, nodes}
use Rattle.edits.specs.Node.{holds}
use Rattle.lookup.proofs.Sheets.{Own, own_of}
use Rattle.edits.proofs.Demand.{entry_in, replace-nodes, parent-entry}
use Rattle.edits.proofs.Elements.{place_after}
use Rattle.edits.proofs.Find.{nodes-pos}
use Rattle.edits.proofs.Inserted.{insert-in, insert-nodes}
use Rattle.demands.specs.Conditions.{Conditions, record_at}
use Rattle.demands.specs.Corrections.{Insertable}
use Rattle.demands.proofs.Inserting.{insert-inside, entry, inserting-corrects, insert-holding}
use Rattle.demands.proofs.Lent.{ninth-was, ninth-is}
use Rattle.demands.proofs.Nearest.{parent-before, parent-holds, parent-nearest}
use Rattle.demands.proofs.Refused.{conditions, replacing-corrects}

module _ (form : ℕ) (text canonical table : List ℕ) (len count node k : ℕ) (c : Insertable form text canonical table len count node k) where
  abbrev now : Tree
  now = insert c.old node k c.new

  abbrev number : ℕ
  number = (entry form text canonical table len count node k c).number

  in-old : node < nodes c.old
  in-old = insert-inside form text canonical table len count node k c

  behind : node < number
  behind = place_after c.old node in-old k number (entry form text canonical table len count node k c).is

  in-now : number < nodes now
  in-now =
      let p = (entry form text canonical table len count node k c).is in
      omega (arith, (insert-in c.old node in-old k number p c.new).1, insert-nodes c.old node in-old k number p c.new, nodes-pos c.new)

  -- the list holds the element, and any other node that does is a list around that list
  list-holds : holds now node number ≡ true
  list-holds = insert-holding form text canonical table len count node k c node behind ∙ picked _ _ (eq-eqb node node refl)

  no-later : (j : ℕ) → node < j → j < number → holds now j number ≡ false
  no-later j l h =
      insert-holding form text canonical table len count node k c j h
      ∙ unpicked _ _ (ne_eqb j node (λ e. omega arith))
      ∙ unpicked _ _ (le-ltb j node (omega arith))

  pub inserted-parent : parent_of now number ≡ node
  inserted-parent =
      let p : 0 < number = omega (arith, behind) in
      let b = parent-before now number p in-now in
      let h = parent-holds now number p in-now in
      by-eq (parent_of now number) node (λ e. e)
      (λ ne.
      by_le node (parent_of now number)
      (λ l. absurd (true≢false (sym h ∙ no-later (parent_of now number) (omega arith) b)))
      (λ l. absurd (true≢false (sym list-holds ∙ parent-nearest now number p in-now node l behind))))

  -- in the lent table
  pub inserted-ninth : get_or (record_at (inserting form text canonical table len count node k).table number) 8 0 ≡ node
  inserted-ninth = ninth-is (inserting-corrects form text canonical table len count node k c) number in-now ∙ inserted-parent

-- ---- a node that was replaced stands in the list in which it stood
module _ (form : ℕ) (text canonical table : List ℕ) (len count node : ℕ) (e : (replacing form text canonical table len count node).number ≡ 0) where
  abbrev was : Conditions form text canonical table len count node
  was = conditions form text canonical table len count node e

  standing : node < nodes was.old
  standing = let own : Own canonical len table count was.old = own_of canonical len table count was.old was.own in omega (arith, was.present, own.counted)

  pub replaced-ninth : get_or (record_at (replacing form text canonical table len count node).table node) 8 0 ≡ get_or (record_at table node) 8 0
  replaced-ninth =
      let a = replacing-corrects form text canonical table len count node e in
      let h = replace-nodes was.old node standing was.new in
      ninth-is a node (omega (arith, h, nodes-pos was.new, (entry_in was.old node standing).2)) ∙ parent-entry was.old node standing was.new ∙ sym (ninth-was a node standing)
