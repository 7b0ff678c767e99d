-- Laws of corrections one after another (S 15.8, 15.9): what was just inserted, removed; what was removed, inserted in its place; another
-- tree inserted there; and that removed space is used again.
use Prim.Native.Nat.{ℕ, ◌*◌, ◌-◌, ◌≤◌, ◌<◌, max}
use native.Mathlib.Omega.{arith}
use mathlib.Core.Path.{◌≡◌, sym, ap, ap₂, subst, ◌∙◌}
use mathlib.Core.Bool.{true, false}
use mathlib.Core.Option.{some}
use mathlib.Core.List.{List}
use lib.ListN.{length, take, take-append-drop}
use Rattle.base.specs.Choice.{is_none}
use Rattle.base.proofs.Cases.{some_same, not-false}
use Rattle.model.specs.Answers.{no_form, settled, Outcome, filled, replacing}
use Rattle.model.specs.Corrections.{inserting, removing}
use Rattle.model.specs.Decode.{decode}
use Rattle.model.specs.Edit.{insert, remove, replace}
use Rattle.model.specs.Limits.{max_source, max_depth}
use Rattle.model.specs.Node.{node_at, has_place}
use Rattle.model.specs.Table.{width, row_of, table_of}
use Rattle.model.specs.Tree.{Tree, nil, canon, nodes, depth}
use Rattle.edits.specs.Element.{placed, Element}
use Rattle.edits.specs.Node.{holds}
use Rattle.edits.proofs.Changes.{placed-exact}
use Rattle.edits.proofs.Find.{nodes-pos}
use Rattle.edits.proofs.Elements.{place_after, place-left, within-tree, remove-inserted, insert-removed, replace-is}
use Rattle.edits.proofs.Inserted.{insert-in, insert-length, insert-nodes, remove-length, remove-nodes}
use Rattle.walk.proofs.Tabled.{table-length}
use Rattle.lookup.proofs.Sheets.{Own, own_of, own-lent}
use Rattle.demands.specs.Conditions.{Room, Conditions}
use Rattle.demands.specs.Corrections.{Correction, Insertable, Removable}
use Rattle.demands.proofs.Again.{filled-twice, own-again}
use Rattle.demands.proofs.Afresh.{front-octets, front-table, room_as, corrected-octets, corrected-count}
use Rattle.demands.proofs.Inserting.{insert-accepted, insert-inside, entry, inserting-corrects}
use Rattle.demands.proofs.Refused.{accepted}
use Rattle.demands.proofs.Removing.{remove-accepted, remove-inside, removing-corrects}
use Rattle.demands.proofs.Space.{canonical-long, table-long}

-- ---- a sheet with its own table

settled_same : (c x : List ℕ) (a : ℕ) → take a c ≡ x → length x ≡ a → settled c a x ≡ c
unfolding settled
settled_same c x a e n =
    let z : a - length x ≡ 0 = omega arith in
    let m : max a (length x) ≡ a = omega arith in
    rw (z, m, ← e) (take-append-drop a c)

-- it has room for its tree
own_room : (canonical table : List ℕ) (len count : ℕ) (t : Tree) → Own canonical len table count t → Room t canonical table
own_room canonical table len count t o =
    let f = o.sheet.fitting in
    record {
      shallow = f.deep;
      recorded = omega (arith, own-lent canonical len table count t o, o.counted);
      small = f.long;
      roomy = omega (arith, o.sheet.lent, o.sheet.size);
    }

-- put where it stood, it changes nothing
own_same : (canonical table : List ℕ) (len count : ℕ) (t : Tree) → Own canonical len table count t
    → filled t len count canonical table ≡ record { accepted = true; number = 0; place = 0; octets = len; count = count; canonical = canonical; table = table }
unfolding filled
own_same canonical table len count t o =
    let a : settled canonical len (canon t) ≡ canonical = settled_same canonical (canon t) len o.sheet.is o.sheet.size in
    let b : settled table (width * count) (table_of t) ≡ table = settled_same table (table_of t) (width * count) o.recorded (omega (arith, table-length t, o.counted)) in
    rw (a, b, o.sheet.size, ← o.counted)

-- ---- removing what was just inserted
module _ (form : ℕ) (text canonical table : List ℕ) (len count node k : ℕ) (c : Insertable form text canonical table len count node k) where
  abbrev put : Outcome
  put = inserting form text canonical table len count node k

  abbrev number : ℕ
  number = (entry form text canonical table len count node k c).number

  own : Own canonical len table count c.old
  own = own_of canonical len table count c.old c.own

  -- gives sheet, table and counts back, and zeros up to what was in use
  pub undone : removing put.canonical put.table put.octets put.count number ≡ filled c.old put.octets put.count canonical table
  undone =
      let a = inserting-corrects form text canonical table len count node k c in
      let h = insert-inside form text canonical table len count node k c in
      let p = (entry form text canonical table len count node k c).is in
      let n = insert-nodes c.old node h k number p c.new in
      let l = insert-length c.old node h k number p c.new in
      let r : Removable put.canonical put.table put.octets put.count number = record {
        old = insert c.old node k c.new;
        own = own-again a;
        present = omega (arith, corrected-count a, n, (insert-in c.old node h k number p c.new).1, nodes-pos c.new);
        inner = omega (arith, place_after c.old node h k number p);
      } in
      let x : max len (length (canon (insert c.old node k c.new))) ≡ put.octets = omega (arith, corrected-octets a, own.sheet.size) in
      let y : max count (nodes (insert c.old node k c.new)) ≡ put.count = omega (arith, corrected-count a, own.counted) in
      remove-accepted put.canonical put.table put.octets put.count number r
      ∙ ap (λ (t : Tree). filled t put.octets put.count put.canonical put.table) (remove-inserted c.old node h k number p c.new)
      ∙ ap (λ (o : Outcome). filled c.old o.octets o.count o.canonical o.table) a.is
      ∙ filled-twice canonical table len count (insert c.old node k c.new) c.old own.sheet.lent (own-lent canonical len table count c.old own) c.room (own_room canonical table len count c.old own)
      ∙ ap₂ (λ (i j : ℕ). filled c.old i j canonical table) x y

  abbrev again : Outcome
  again = removing put.canonical put.table put.octets put.count number

  pub undone-counts : (again.octets ≡ len) × (again.count ≡ count)
  unfolding filled
  undone-counts = (ap (λ (o : Outcome). o.octets) undone ∙ own.sheet.size, ap (λ (o : Outcome). o.count) undone ∙ sym own.counted)

  pub undone-sheet : take len again.canonical ≡ take len canonical
  undone-sheet =
      ap (λ (i : ℕ). take i again.canonical) (sym undone-counts.0)
      ∙ ap (λ (o : Outcome). take o.octets o.canonical) undone
      ∙ front-octets c.old put.octets put.count canonical table
      ∙ sym own.sheet.is

  pub undone-table : take (width * count) again.table ≡ take (width * count) table
  undone-table =
      ap (λ (i : ℕ). take (width * i) again.table) (sym undone-counts.1)
      ∙ ap (λ (o : Outcome). take (width * o.count) o.table) undone
      ∙ front-table c.old put.octets put.count canonical table
      ∙ sym own.recorded

-- ---- after a removal: node j, which was the k-th element of list n
module _ (canonical table : List ℕ) (len count j : ℕ) (c : Removable canonical table len count j) where
  abbrev left : Outcome
  left = removing canonical table len count j

  owned : Own canonical len table count c.old
  owned = own_of canonical len table count c.old c.own

  abbrev gone : Correction canonical table len count c.old (remove c.old j) j (row_of c.old j).count (row_of c.old j).start (row_of c.old j).end nil (λ i. holds c.old i j) left
  gone = removing-corrects canonical table len count j c

  -- its room and its records are as they were
  room-left : {t : Tree} → Room t canonical table → Room t left.canonical left.table
  room-left r = room_as canonical table left.canonical left.table (canonical-long gone) (table-long gone) r

  -- removed space is used again: rows 5 and 6 never apply to what is no larger
  pub used-again : (n : ℕ) (h : n < nodes (remove c.old j)) (k i : ℕ) → placed (row_of (remove c.old j)) n k ≡ some i → (u : Tree)
      → nodes u ≤ (row_of c.old j).count → length (canon u) ≤ (row_of c.old j).end - (row_of c.old j).start → depth (insert (remove c.old j) n k u) ≤ max_depth
      → Room (insert (remove c.old j) n k u) left.canonical left.table
  used-again n h k i e u few short deep =
      let r = own_room canonical table len count c.old owned in
      let a = insert-nodes (remove c.old j) n h k i e u in
      let b = insert-length (remove c.old j) n h k i e u in
      let d = remove-nodes c.old j (remove-inside canonical table len count j c) c.inner in
      let f = remove-length c.old j (remove-inside canonical table len count j c) c.inner in
      room-left (record { shallow = deep; recorded = omega (arith, r.recorded); small = omega (arith, r.small); roomy = omega (arith, r.roomy) })

  -- so that such a text is taken, whatever its form, if the tree is not too deep
  pub used-by : (n k i : ℕ) → n < nodes (remove c.old j) → placed (row_of (remove c.old j)) n k ≡ some i → (form : ℕ) (text : List ℕ) (u : Tree) → no_form form ≡ false → length text ≤ max_source → decode form text ≡ some u
      → nodes u ≤ (row_of c.old j).count → length (canon u) ≤ (row_of c.old j).end - (row_of c.old j).start → depth (insert (remove c.old j) n k u) ≤ max_depth
      → inserting form text left.canonical left.table left.octets left.count n k ≡ filled (insert (remove c.old j) n k u) left.octets left.count left.canonical left.table
  unfolding is_none
  used-by n k i h e form text u known short valid few small deep =
      insert-accepted form text left.canonical left.table left.octets left.count n k
      (record {
        new = u;
        old = remove c.old j;
        known = known;
        short = short;
        valid = valid;
        own = own-again gone;
        present = omega (arith, corrected-count gone);
        place = not-false {t = has_place (node_at (remove c.old j) n) k} (sym (placed-exact (remove c.old j) n h k) ∙ ap is_none e);
        room = used-again n h k i e u few small deep;
      })

  module _ (n k : ℕ) (e : Element c.old n k j) (form : ℕ) (text : List ℕ) (u : Tree) (known : no_form form ≡ false) (short : length text ≤ max_source) (valid : decode form text ≡ some u)
      (r : Room (replace c.old j u) canonical table) where
    abbrev back : Outcome
    back = inserting form text left.canonical left.table left.octets left.count n k

    -- a tree inserted where the node was
    pub put-there : back ≡ filled (replace c.old j u) len count canonical table
    put-there =
        let q : insert (remove c.old j) n k u ≡ replace c.old j u = replace-is c.old n k j e u in
        let i : Insertable form text left.canonical left.table left.octets left.count n k = record {
          new = u;
          old = remove c.old j;
          known = known;
          short = short;
          valid = valid;
          own = own-again gone;
          present = omega (arith, (place-left c.old n k j e).0, corrected-count gone);
          place = (place-left c.old n k j e).1;
          room = room-left (rw q r);
        } in
        let x : max len (length (canon (remove c.old j))) ≡ len = omega (arith, owned.sheet.size, remove-length c.old j (remove-inside canonical table len count j c) c.inner) in
        let y : max count (nodes (remove c.old j)) ≡ count = omega (arith, owned.counted, remove-nodes c.old j (remove-inside canonical table len count j c) c.inner) in
        insert-accepted form text left.canonical left.table left.octets left.count n k i
        ∙ ap (λ (t : Tree). filled t left.octets left.count left.canonical left.table) q
        ∙ ap (λ (o : Outcome). filled (replace c.old j u) o.octets o.count o.canonical o.table) gone.is
        ∙ filled-twice canonical table len count (remove c.old j) (replace c.old j u) owned.sheet.lent (own-lent canonical len table count c.old owned) gone.room r
        ∙ ap₂ (λ (a b : ℕ). filled (replace c.old j u) a b canonical table) x y

  -- where both are accepted, so is the replacing, and it leaves what they leave
  pub in_one : (n k : ℕ) → Element c.old n k j → (form : ℕ) (text : List ℕ) → Insertable form text left.canonical left.table left.octets left.count n k
      → replacing form text canonical table len count j ≡ inserting form text left.canonical left.table left.octets left.count n k
  in_one n k e form text i =
      let o : insert i.old n k i.new ≡ replace c.old j i.new
      = some_same (λ (t : Tree). insert t n k i.new ≡ replace c.old j i.new) (sym (own-again gone) ∙ i.own) (replace-is c.old n k j e i.new) in
      let r = room_as left.canonical left.table canonical table (sym (canonical-long gone)) (sym (table-long gone)) (subst (λ (t : Tree). Room t left.canonical left.table) o i.room) in
      accepted form text canonical table len count j
      (record { new = i.new; old = c.old; known = i.known; short = i.short; valid = i.valid; own = c.own; present = c.present; room = r })
      ∙ sym (put-there n k e form text i.new i.known i.short i.valid r)

  -- ---- inserting what was removed, in its place: sheet, table and counts as they were, and all lent space
  pub restored : (n k : ℕ) → Element c.old n k j → (form : ℕ) (text : List ℕ) → no_form form ≡ false → length text ≤ max_source → decode form text ≡ some (node_at c.old j)
      → inserting form text left.canonical left.table left.octets left.count n k
      ≡ record { accepted = true; number = 0; place = 0; octets = len; count = count; canonical = canonical; table = table }
  restored n k e form text known short valid =
      let x : replace c.old j (node_at c.old j) ≡ c.old = sym (replace-is c.old n k j e (node_at c.old j)) ∙ insert-removed c.old n k j e in
      put-there n k e form text (node_at c.old j) known short valid (rw x (own_room canonical table len count c.old owned))
      ∙ ap (λ (t : Tree). filled t len count canonical table) x
      ∙ own_same canonical table len count c.old owned

-- ---- replacing is removing, and then inserting in its place: where a replacing is accepted, all three are, and the two leave what it leaves
module _ (form : ℕ) (text canonical table : List ℕ) (len count node : ℕ) (c : Conditions form text canonical table len count node) (n k : ℕ) (e : Element c.old n k node) where
  abbrev without : Outcome
  without = removing canonical table len count node

  abbrev removable : Removable canonical table len count node
  removable = record { old = c.old; own = c.own; present = c.present; inner = (within-tree c.old n k node e).0 }

  pub in_two : inserting form text without.canonical without.table without.octets without.count n k ≡ replacing form text canonical table len count node
  in_two =
      put-there canonical table len count node removable n k e form text c.new c.known c.short c.valid c.room
      ∙ sym (accepted form text canonical table len count node c)
