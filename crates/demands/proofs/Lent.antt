-- S 15.4 to 15.6, of the lent sheet and table before an accepted correction and after it, whichever it is.
use Prim.Native.Nat.{ℕ, ◌+◌, ◌*◌, ◌-◌, ◌≤◌, ◌<◌}
use native.Mathlib.Omega.{arith}
use mathlib.Core.Path.{◌≡◌, sym, ap, ap₂, ◌∙◌}
use mathlib.Core.Bool.{Bool, true, false}
use mathlib.Core.List.{List, ◌++◌}
use lib.ListN.{length, take, drop, get_or, take-append-drop, get_or-append}
use Rattle.model.specs.Answers.{Outcome}
use Rattle.model.specs.Table.{width, recorded, plain_row, rowss, row_of, parentss, parent_of}
use Rattle.model.specs.Tree.{Tree, Forest, canon, canons, nodes, nodess}
use Rattle.lookup.proofs.Sheets.{Own, own_of}
use Rattle.edits.specs.Moves.{Moves, Grows, Shifts}
use Rattle.edits.specs.Place.{around, up_at, up_moved}
use Rattle.edits.proofs.Changed.{change-moves, change-length, change-nodes, change-octet, change-list, change-stays, change-grows, change-shifts}
use Rattle.edits.proofs.Above.{change-up-before, change-up-new, change-up-later}
use Rattle.edits.proofs.Moved.{octet-before, octet-new, record-new}
use Rattle.demands.specs.Conditions.{record_at}
use Rattle.demands.specs.Corrections.{Correction}
use Rattle.demands.proofs.Afresh.{corrected-sheet, corrected-table, corrected-octets}
use Rattle.demands.proofs.Records.{record_of}

-- an octet of a sheet in lent space
octet-of : (x l : List ℕ) (n i : ℕ) → take n l ≡ x → i < length x → get_or l i 0 ≡ get_or x i 0
octet-of x l n i e h =
    ap (λ (l : List ℕ). get_or l i 0) (sym (take-append-drop n l) ∙ ap (λ (y : List ℕ). y ++ drop n l) e) ∙ get_or-append x (drop n l) 0 i h

module _ {canonical table : List ℕ} {len count : ℕ} {old now : Tree} {k n s e : ℕ} {new : Forest} {holding : ℕ → Bool} {answer : Outcome}
    (c : Correction canonical table len count old now k n s e new holding answer) where
  own : Own canonical len table count old
  own = own_of canonical len table count old c.own

  moves : Moves old now k n s (e - s) new
  moves = change-moves c.change

  -- S 15.4: octets before the entry stay
  pub octets-stay : (i : ℕ) → i < s → get_or answer.canonical i 0 ≡ get_or canonical i 0
  octets-stay i h =
      octet-of (canon now) answer.canonical answer.octets i (corrected-sheet c) (omega (arith, moves.octets_in, change-length c.change))
      ∙ octet-before moves i h
      ∙ sym (octet-of (canon old) canonical len i own.sheet.is (omega (arith, moves.octets_in)))

  -- the entry's own octets are those of what it gave way to
  pub octets-new : (i : ℕ) → i < length (canons new) → get_or answer.canonical (s + i) 0 ≡ get_or (canons new) i 0
  octets-new i h =
      octet-of (canon now) answer.canonical answer.octets (s + i) (corrected-sheet c) (omega (arith, moves.octets_in, change-length c.change))
      ∙ octet-new moves i h

  -- S 15.4: octets behind it are the same, in order, and move by the new length less the old
  pub octets-move : (i i' : ℕ) → e ≤ i → i < len → i' + len ≡ i + answer.octets → get_or answer.canonical i' 0 ≡ get_or canonical i 0
  octets-move i i' h l m =
      octet-of (canon now) answer.canonical answer.octets i' (corrected-sheet c) (omega (arith, corrected-octets c))
      ∙ change-octet c.change i i' (omega (arith, c.ordered)) (omega (arith, own.sheet.size, corrected-octets c))
      ∙ sym (octet-of (canon old) canonical len i own.sheet.is (omega (arith, own.sheet.size)))

  -- a record of the lent table is that of its tree
  pub record-was : (j : ℕ) → j < nodes old → record_at table j ≡ recorded (row_of old j) (parent_of old j)
  record-was j h = record_of old table (width * count) j own.recorded h

  pub record_is : (j : ℕ) → j < nodes now → record_at answer.table j ≡ recorded (row_of now j) (parent_of now j)
  record_is j h = record_of now answer.table (width * answer.count) j (corrected-table c) h

  around-as : (j : ℕ) → j < k → around s (s + (e - s)) (row_of old j) ≡ holding j
  around-as j h = let x : s + (e - s) ≡ e = omega (arith, c.ordered) in rw x (sym (c.held j h))

  module _ (j : ℕ) (h : j < k) where
    -- S 15.5: of earlier records only those of the lists around change
    pub records-stay : holding j ≡ false → record_at answer.table j ≡ record_at table j
    records-stay i =
        record_is j (omega (arith, moves.nodes_in, change-nodes c.change))
        ∙ ap₂ recorded (change-stays c.change j h (around-as j h ∙ i)) (change-up-before c.change j h)
        ∙ sym (record-was j (omega (arith, moves.nodes_in)))

    -- S 15.5: these change in end, node count and data end at most
    pub records-grow : holding j ≡ true → Grows (row_of old j) (row_of now j) (length (canon old)) (length (canon now)) (nodes old) (nodes now)
    records-grow i = change-grows c.change j h (around-as j h ∙ i)

    -- they are those of lists
    pub records-around : holding j ≡ true → (row_of old j).kind ≡ 2
    records-around i = change-list c.change j h (around-as j h ∙ i)

  -- the entry's own records are those of what it gave way to, at its start
  pub records-new : (i : ℕ) → i < nodess new → row_of now (k + i) ≡ get_or (rowss new s) i (plain_row 0 0 0)
  records-new i h = record-new moves i h

  -- later records move with their nodes
  pub records-shift : (j j' : ℕ) → k + n ≤ j → j < nodes old → j' + nodes old ≡ j + nodes now → Shifts (row_of old j) (row_of now j') (length (canon old)) (length (canon now))
  records-shift j j' h i l = change-shifts c.change j j' h i l

  -- ---- S 15.6, the parents after a correction: the ninth number of a record
  pub ninth-was : (j : ℕ) → j < nodes old → get_or (record_at table j) 8 0 ≡ parent_of old j
  ninth-was j h = ap (λ (l : List ℕ). get_or l 8 0) (record-was j h)

  pub ninth-is : (j : ℕ) → j < nodes now → get_or (record_at answer.table j) 8 0 ≡ parent_of now j
  ninth-is j h = ap (λ (l : List ℕ). get_or l 8 0) (record_is j h)

  -- of an earlier record, of a list around the entry too, it stays
  pub parents-stay : (j : ℕ) → j < k → get_or (record_at answer.table j) 8 0 ≡ get_or (record_at table j) 8 0
  parents-stay j h =
      ninth-is j (omega (arith, moves.nodes_in, change-nodes c.change)) ∙ change-up-before c.change j h ∙ sym (ninth-was j (omega (arith, moves.nodes_in)))

  -- of the entry's own, it is that of what it gave way to, numbered from the entry on, in the list directly around the entry
  pub parents-new : (i : ℕ) → i < nodess new → get_or (record_at answer.table (k + i)) 8 0 ≡ get_or (parentss new k (up_at c.change.place 0 0)) i 0
  parents-new i h = ninth-is (k + i) (omega (arith, moves.nodes_in, change-nodes c.change)) ∙ change-up-new c.change i h

  -- of a later record, it stays where the list begins before the entry, and is shifted by the change in node count elsewhere
  pub parents-shift : (j j' : ℕ) → k + n ≤ j → j < nodes old → j' + nodes old ≡ j + nodes now
      → get_or (record_at answer.table j') 8 0 ≡ up_moved k n (nodess new) (get_or (record_at table j) 8 0)
  parents-shift j j' h i l =
      ninth-is j' (omega (arith, change-nodes c.change)) ∙ change-up-later c.change j j' h i l ∙ ap (up_moved k n (nodess new)) (sym (ninth-was j i))
