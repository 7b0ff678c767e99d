-- The spot that notes tell is that of the change asked for, in every tree with these notes.
use Prim.Native.Nat.{ℕ, zero, suc, ◌+◌, ◌-◌, ◌≤◌, ◌<◌}
use native.Mathlib.Omega.{arith}
use mathlib.Core.Path.{◌≡◌, refl, sym, ap, ap₂, ◌∙◌, subst}
use mathlib.Core.Bool.{Bool, true, false}
use mathlib.Core.Option.{Option, none, some}
use mathlib.Core.List.{List}
use lib.ListN.{length, take, get_or}
use lib.Dec.{ltb, eqb}
use borrow.Author.Tests.{le-ltb, eq-eqb, ne_eqb}
use Rattle.base.specs.Choice.{pick, is_none}
use Rattle.base.proofs.Cases.{by_le, picked, unpicked}
use Rattle.model.specs.Limits.{most_nodes}
use Rattle.model.specs.Table.{Row, rows, row_of, row_numbers}
use Rattle.model.specs.Tree.{Tree, Forest, nodes}
use Rattle.tables.specs.Rows.{row_list, RowIs}
use Rattle.tables.specs.Told.{row_at, Readable, Holds}
use Rattle.tables.specs.declared.rows.Row as coded
use Rattle.tables.proofs.Telling.{holds_row, holds-readable, holds-long}
use Rattle.edits.specs.Element.{element, placed, place_octet}
use Rattle.edits.specs.Levels.{holders}
use Rattle.edits.specs.Moves.{Change}
use Rattle.edits.proofs.Changes.{replace-change, remove-change, insert-change, placed-exact}
use Rattle.edits.proofs.Demand.{entry_in, entry-some}
use Rattle.edits.proofs.Find.{nodes-pos}
use Rattle.edits.proofs.Hop.{element-same}
use Rattle.plan.specs.Asked.{changed, given, node_of, placeless}
use Rattle.plan.specs.Spots.{Recorded, Levels, NodeAt, Kept, EntryAt, Entry, Hoppable, Hops, Shown, SlotAt, Slot, SpotOf, Finds, Findable}
use Rattle.plan.specs.declared.Asked.{Asked}
use Rattle.plan.specs.declared.Asked.TheVariants.{Replace, Insert, Remove}
use Rattle.plan.specs.Spots.{Found, found}
use Rattle.std.specs.Prelude.{Option as Optional, Some, None, Ok, Err}
use Rattle.answers.specs.declared.refusal.Refusal.TheVariants.{NotOwn, NoNode, NoPlace}
use Rattle.plan.proofs.Finding.{refuse-unowned, refuse-beyond, refuse-placeless}
use Rattle.plan.proofs.Levelling.{levels-holders}

change-as : {t t' : Tree} {g : Forest} {k k' n n' s s' l l' d d' : ℕ} → k ≡ k' → n ≡ n' → s ≡ s' → l ≡ l' → d ≡ d' → Change t t' k n s l d g → Change t t' k' n' s' l' d' g
change-as p q r v w c =
    record { place = c.place; old = c.old; was = c.was; is = c.is; at = c.at ∙ p; some = c.some ∙ q; start = c.start ∙ r; long = c.long ∙ v; deep = c.deep ∙ w }

positive : (n : ℕ) → (n ≡ 0 → ⊥) → 0 < n
positive zero h = absurd (h refl)
positive (suc n) h = omega arith

-- ---- a node
module _ (notes : List ℕ) (count : ℕ) (kept : Kept notes count) (node : ℕ) where
  pub entry-beyond : count ≤ node → Entry notes count node (Err NoNode)
  unfolding Entry
  entry-beyond h = record { row = refl; beyond = h }

  module _ (h : node < count) where
    pub entry-readable : Readable notes node
    entry-readable = holds-readable notes count kept.tree kept.held node h

    pub entry-recorded : Recorded (length notes) node
    entry-recorded = record { few = omega (arith, kept.few); fits = omega (arith, holds-long notes count kept.tree kept.held) }

    pub entry-node : (row : coded.Row) → RowIs row (row_at notes node) → (level : ℕ) → Levels notes node level → Entry notes count node (found node row.nodes row.start row.end level)
    unfolding Entry
    entry-node row is level l =
        record {
          is = refl;
          inside = h;
          at = λ t held.
              let e : row_list row ≡ row_numbers (row_of t node) = is ∙ ap row_numbers (holds_row notes count t held node h) in
              record {
                begins = ap (λ (x : List ℕ). get_or x 1 0) e;
                ends = ap (λ (x : List ℕ). get_or x 2 0) e;
                has = ap (λ (x : List ℕ). get_or x 3 0) e;
                lies = l.is ∙ levels-holders notes count t held node (omega arith);
                low = l.few;
              };
        }

  -- what is known of a node that gives way to g
  module _ (first n start end level : ℕ) (e : EntryAt notes count node first n start end level) (t : Tree) (held : Holds notes count t) where
    abbrev here : node < nodes t
    here = omega (arith, e.inside, held.counted)

    abbrev at : NodeAt start end n level t node
    at = e.at t held

    gives-way : (t' : Tree) (g : Forest) → Change t t' node (row_of t node).count (row_of t node).start ((row_of t node).end - (row_of t node).start) (holders (take node (rows t 0)) 0 node) g
        → Change t t' first n start (end - start) level g
    gives-way t' g c = change-as (sym e.is) (sym at.has) (sym at.begins) (omega (arith, at.begins, at.ends)) (sym at.lies) c

    in_order : start ≤ end
    in_order = omega (arith, at.begins, at.ends, (entry_in t node here).0)

    low-enough : level ≤ nodes t
    low-enough = omega (arith, at.low, here)

    replace-spot : SpotOf first n start end level (Replace node) t
    unfolding changed given
    replace-spot =
        record {
          ordered = in_order;
          low = low-enough;
          change = λ u. gives-way _ _ (replace-change t node here u);
        }

    remove-spot : 0 < node → SpotOf first n start end level (Remove node) t
    unfolding changed given
    remove-spot p =
        record {
          ordered = in_order;
          low = low-enough;
          change = λ u. gives-way _ _ (remove-change t node here p);
        }

  pub replace-found : (r : Found) → Entry notes count node r → Finds notes count true (Replace node) r
  unfolding Entry Finds node_of placeless
  replace-found (Ok s) e =
      record { good = refl; inside = e.inside; has = λ t h. refl; spot = λ t h. replace-spot s.first s.count s.start s.end s.level e t h }
  replace-found (Err k) e = rw e.row (refuse-beyond notes count (Replace node) e.beyond)

  pub remove-found : (node ≡ 0 → ⊥) → (r : Found) → Entry notes count node r → Finds notes count true (Remove node) r
  unfolding Entry Finds node_of placeless
  remove-found p (Ok s) e =
      record { good = refl; inside = e.inside; has = λ t h. ne_eqb node 0 p; spot = λ t h. remove-spot s.first s.count s.start s.end s.level e t h (positive node p) }
  remove-found p (Err k) e = rw e.row (refuse-beyond notes count (Remove node) e.beyond)

  pub remove_first : node ≡ 0 → Finds notes count true (Remove node) (Err NoPlace)
  unfolding Finds node_of placeless
  remove_first h =
      refuse-placeless notes count (Remove node)
      (omega (arith, kept.held.counted, nodes-pos kept.tree))
      (λ t g. eq-eqb node 0 h)

-- ---- the k-th element of a list: by notes, and in every tree with these notes
module _ (notes : List ℕ) (count : ℕ) (node k : ℕ) (h : node < count) where
  module _ (t : Tree) (g : Holds notes count t) where
    here_in : node < nodes t
    here_in = omega (arith, g.counted)

    same_row : (i : ℕ) → i < count → row_at notes i ≡ row_of t i
    same_row i l = holds_row notes count t g i l

    abbrev end_of : ℕ
    end_of = node + (row_of t node).count

    ends-in : end_of ≤ count
    ends-in = omega (arith, (entry_in t node here_in).2, g.counted)

    same-placed : placed (row_at notes) node k ≡ placed (row_of t) node k
    unfolding placed
    same-placed =
        ap (λ (r : Row). pick (eqb r.kind 2) (element (row_at notes) (node + r.count) k (node + 1)) none) (same_row node h)
        ∙ ap (λ (o : Option ℕ). pick (eqb (row_of t node).kind 2) o none)
        (element-same (row_at notes) (row_of t) end_of (λ i l. ap (λ (r : Row). r.count) (same_row i (omega (arith, ends-in)))) k (node + 1))

    same-octet : (j : ℕ) → place_octet (row_at notes) node j ≡ place_octet (row_of t) node j
    same-octet j =
        ap (λ (r : Row). pick (ltb j (node + r.count)) (row_at notes j).start r.data_end) (same_row node h)
        ∙ by_le end_of j
        (λ l. unpicked _ _ (le-ltb j end_of l) ∙ sym (unpicked _ _ (le-ltb j end_of l)))
        (λ l. ap (λ (r : Row). pick (ltb j end_of) r.start (row_of t node).data_end) (same_row j (omega (arith, ends-in))))

    no_slot : (o : Option ℕ) → placed (row_at notes) node k ≡ o → placeless (Insert node k) t ≡ is_none o
    unfolding placeless
    no_slot o e = sym (placed-exact t node here_in k) ∙ ap is_none (sym same-placed ∙ e)

    insert-spot : (first n start end level : ℕ) → SlotAt notes count node k first n start end level → SpotOf first n start end level (Insert node k) t
    unfolding changed given
    insert-spot first n start end level e =
        record {
          ordered = omega (arith, e.empty);
          low = omega (arith, e.low, here_in);
          change = λ u.
              change-as refl (sym e.none) (sym (same-octet first) ∙ sym e.begins) (omega (arith, e.empty)) (sym (e.lies t g))
              (insert-change t node here_in k first (sym same-placed ∙ e.is) u);
        }

  pub insert-found : (r : Found) → Slot notes count node k r → Finds notes count true (Insert node k) r
  unfolding Slot Finds node_of is_none
  insert-found (Ok s) e =
      record { good = refl; inside = h; has = λ t g. no_slot t g (some s.first) e.is; spot = λ t g. insert-spot t g s.first s.count s.start s.end s.level e }
  insert-found (Err i) e = rw e.row (refuse-placeless notes count (Insert node k) h (λ t g. no_slot t g none e.is))

module _ (notes : List ℕ) (count : ℕ) (node k : ℕ) where
  pub insert-beyond : count ≤ node → Finds notes count true (Insert node k) (Err NoNode)
  unfolding Finds node_of
  insert-beyond h = refuse-beyond notes count (Insert node k) h

-- ---- the slot, by the list's record and the hops
module _ (notes : List ℕ) (count : ℕ) (kept : Kept notes count) (node k : ℕ) (h : node < count) (row : coded.Row) (is : RowIs row (row_at notes node)) where
  kind-is : row.kind ≡ (row_at notes node).kind
  kind-is = ap (λ (x : List ℕ). get_or x 0 0) is

  count-is : row.nodes ≡ (row_at notes node).count
  count-is = ap (λ (x : List ℕ). get_or x 3 0) is

  past_is : row.data_end ≡ (row_at notes node).data_end
  past_is = ap (λ (x : List ℕ). get_or x 7 0) is

  abbrev t : Tree
  t = kept.tree

  in_tree : node < nodes t
  in_tree = omega (arith, kept.held.counted)

  ends : node + row.nodes ≤ count
  ends = omega (arith, (entry_in t node in_tree).2, kept.held.counted, count-is, ap (λ (r : Row). r.count) (holds_row notes count t kept.held node h))

  some-node : 0 < row.nodes
  some-node = omega (arith, entry-some t node in_tree, count-is, ap (λ (r : Row). r.count) (holds_row notes count t kept.held node h))

  pub slot_small : node + row.nodes ≤ most_nodes
  slot_small = omega (arith, ends, kept.few)

  pub slot-string : (row.kind ≡ 2 → ⊥) → Slot notes count node k (Err NoPlace)
  unfolding Slot placed
  slot-string n = record { row = refl; is = unpicked _ _ (ne_eqb _ 2 (λ z. n (kind-is ∙ z))) }

  module _ (l : row.kind ≡ 2) where
    pub slot-hoppable : Hoppable (length notes) (node + row.nodes) (node + 1)
    slot-hoppable = record { fits = omega (arith, ends, holds-long notes count t kept.held); few = slot_small; near = omega (arith, some-node) }

    hopped : placed (row_at notes) node k ≡ element (row_at notes) (node + row.nodes) k (node + 1)
    unfolding placed
    hopped = picked _ _ (eq-eqb _ 2 (sym kind-is ∙ l)) ∙ ap (λ (c : ℕ). element (row_at notes) (node + c) k (node + 1)) (sym count-is)

    pub slot-past : (r : Optional ℕ) → Hops notes (node + row.nodes) k (node + 1) r → r ≡ None → Slot notes count node k (Err NoPlace)
    unfolding Slot Hops
    slot-past r e z =
        let m : element (row_at notes) (node + row.nodes) k (node + 1) ≡ none = subst (Hops notes (node + row.nodes) k (node + 1)) z e in
        record { row = refl; is = hopped ∙ m }

    pub slot-shown : (first : ℕ) → Shown notes first (node + row.nodes)
    slot-shown first = record { readable = λ i. holds-readable notes count t kept.held first (omega (arith, ends)) }

    pub slot-recorded : Recorded (length notes) node
    slot-recorded = record { few = omega (arith, kept.few); fits = omega (arith, holds-long notes count t kept.held) }

    pub slot_at : (r : Optional ℕ) → Hops notes (node + row.nodes) k (node + 1) r → (first : ℕ) → r ≡ Some first
        → (at : ℕ) → at ≡ pick (ltb first (node + row.nodes)) (row_at notes first).start row.data_end
        → (level : ℕ) → Levels notes node level → Slot notes count node k (found first 0 at at (level + 1))
    unfolding Slot Hops
    slot_at r e first z at o level v =
        let m : element (row_at notes) (node + row.nodes) k (node + 1) ≡ some first = subst (Hops notes (node + row.nodes) k (node + 1)) z e in
        record {
          is = hopped ∙ m;
          none = refl;
          empty = refl;
          begins = o ∙ ap₂ (λ (c d : ℕ). pick (ltb first (node + c)) (row_at notes first).start d) count-is past_is;
          lies = λ u g. ap (λ (i : ℕ). i + 1) (v.is ∙ levels-holders notes count u g node (omega arith));
          low = omega (arith, v.few);
        }

-- ---- all of them
pub spot-replace : (notes : List ℕ) (count : ℕ) (kept : Kept notes count) (a : Asked) (node : ℕ) → a ≡ Replace node → (r : Found) → Entry notes count node r → Finds notes count true a r
spot-replace notes count kept a node z r e = subst (λ (b : Asked). Finds notes count true b r) (sym z) (replace-found notes count kept node r e)

pub spot-same : (notes : List ℕ) (count : ℕ) (a b : Asked) → a ≡ b → (r : Found) → Finds notes count true b r → Finds notes count true a r
spot-same notes count a b z r e = subst (λ (x : Asked). Finds notes count true x r) (sym z) e

pub find-unowned : (notes : List ℕ) (count : ℕ) (own : Bool) (a : Asked) → own ≡ false → Finds notes count own a (Err NotOwn)
unfolding Finds
find-unowned notes count own a y = refuse-unowned notes count a own y

pub find-spot : (notes : List ℕ) (count : ℕ) (own : Bool) (a : Asked) (r : Found) → own ≡ true → Finds notes count true a r → Finds notes count own a r
find-spot notes count own a r y f = subst (λ (b : Bool). Finds notes count b a r) (sym y) f

pub find-kept : (notes : List ℕ) (count : ℕ) (own : Bool) → Findable notes count own → own ≡ true → Kept notes count
find-kept notes count own g y = g.kept y
