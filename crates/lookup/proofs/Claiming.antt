-- Records that claim notes: where the octets bear the notes out, the table is the tree's, and only there.
use Prim.Native.Nat.{ℕ, zero, suc, ◌+◌, ◌*◌, ◌≤◌, ◌<◌}
use native.Mathlib.Omega.{arith}
use native.Mathlib.Numerals.{add-one}
use mathlib.Core.Path.{◌≡◌, refl, sym, ap, ap₂, ◌∙◌}
use mathlib.Core.Bool.{Bool}
use mathlib.Core.List.{List, ◌++◌}
use Rattle.std.specs.Prelude.{None}
use lib.ListN.{length, get_or, take, drop}
use lib.Seq.{take-take, take-add, drop_at, ext_get_or, get_or-take, length-take-le}
use Rattle.model.specs.Limits.{max_source}
use Rattle.model.specs.Table.{width, recorded, row_of, parent_of, flat, table_of}
use Rattle.model.specs.Tree.{Tree, nodes}
use Rattle.model.proofs.Exact.{canon-sound}
use Rattle.walk.specs.Events.{record_at}
use Rattle.sheets.specs.Notes.{note_of, noted}
use Rattle.sheets.proofs.Keeping.{noted-length}
use Rattle.tables.specs.Claimed.{note_from, Claimed}
use Rattle.tables.specs.Told.{Holds}
use Rattle.tables.proofs.Claiming.{claim-note, tree-claim}
use Rattle.tables.proofs.Filling.{front, front-more, front-take, front-all}
use Rattle.tables.proofs.Telling.{noted-at}
use Rattle.owned.specs.Owned.{Own, Checked}
use Rattle.lookup.specs.Pacing.{OwnTable, Judged, Claims}

-- ---- a table's records, one by one

module _ (table : List ℕ) (n : ℕ) (lent : width * n ≤ length table) (t : Tree) (counted : n ≡ nodes t) where
  abbrev Records : Type 0
  Records = (i : ℕ) → i < n → record_at table i ≡ recorded (row_of t i) (parent_of t i)

  more : (k : ℕ) → take (width * (k + 1)) table ≡ take (width * k) table ++ record_at table k
  more k = let z : width * (k + 1) ≡ width * k + width = omega arith in rw z (take-add (width * k) width table)

  records-front : Records → (k : ℕ) → k ≤ n → take (width * k) table ≡ front t k
  unfolding flat
  records-front f zero h = refl
  records-front f (suc k) h =
      rw (← add-one k)
      (more k ∙ ap₂ (λ (a b : List ℕ). a ++ b) (records-front f k (omega arith)) (f k (omega arith)) ∙ sym (front-more t k (omega arith)))

  records-same : Records → take (width * n) table ≡ table_of t
  records-same f = records-front f n (omega arith) ∙ front-all t n (omega arith)

  same-records : take (width * n) table ≡ table_of t → Records
  same-records y k h =
      let front_of : (j : ℕ) → j ≤ n → take (width * j) table ≡ front t j =
      (λ j l. sym (take-take (width * j) (width * n) table (omega arith)) ∙ ap (take (width * j)) y ∙ front-take t j (omega arith)) in
      let b : take (width * k) table ++ record_at table k ≡ take (width * k) table ++ recorded (row_of t k) (parent_of t k) =
      sym (more k) ∙ front_of (k + 1) (omega arith) ∙ front-more t k (omega arith) ∙ ap (λ (z : List ℕ). z ++ recorded (row_of t k) (parent_of t k)) (sym (front_of k (omega arith))) in
      let m : length (take (width * k) table) ≡ width * k = length-take-le (width * k) table (omega arith) in
      sym (drop_at (take (width * k) table) (record_at table k) (width * k) m) ∙ ap (drop (width * k)) b ∙ drop_at (take (width * k) table) (recorded (row_of t k) (parent_of t k)) (width * k) m

module _ (src table : List ℕ) (n : ℕ) (short : length src ≤ max_source) (lent : width * n ≤ length table) where
  -- a record that claims none is no tree's
  pub unclaimed : (k : ℕ) → k < n → Claimed (record_at table k) None → (t : Tree) → OwnTable src table n t → ⊥
  unclaimed k h c t o =
      c.no refl (note_of (row_of t k) (parent_of t k))
      (rw (same-records table n lent t o.counted o.same k h)
      (tree-claim t k (omega (arith, ap length (canon-sound src t o.is), short)) (omega (arith, o.counted))))

  -- all do
  module _ (notes : List ℕ) (fits : n ≤ length notes) (claims : Claims table notes n) where
    to-notes : (t : Tree) → OwnTable src table n t → Own src notes n t
    to-notes t o =
        record {
          is = o.is;
          deep = o.deep;
          counted = o.counted;
          each = λ i h. sym (claims i h).told ∙ same-records table n lent t o.counted o.same i h;
        }

    to-table : (t : Tree) → Own src notes n t → OwnTable src table n t
    to-table t o =
        record {
          is = o.is;
          deep = o.deep;
          counted = o.counted;
          same = records-same table n lent t o.counted (λ i h. (claims i h).told ∙ o.each i h);
        }

    to_held : (t : Tree) → Own src notes n t → Holds notes n t
    unfolding note_from
    to_held t o =
        record {
          counted = o.counted;
          kept =
              let a : length (take n notes) ≡ n = length-take-le n notes fits in
              ext_get_or 0 (take n notes) (noted t) (a ∙ o.counted ∙ sym (noted-length t))
              (λ i h.
              get_or-take n notes i 0 (omega arith) ∙ claim-note (record_at table i) (get_or notes i 0) (claims i (omega arith))
              ∙ ap note_from ((claims i (omega arith)).told ∙ o.each i (omega arith)) ∙ sym (noted-at t i (omega (arith, o.counted))));
          short = omega (arith, ap length (canon-sound src t o.is), short);
        }

    pub judged-by : (b : Bool) → Checked src notes n b → Judged src table n notes b
    judged-by b c =
        record {
          yes = λ e. let z = c.yes e in record { tree = z.tree; own = to-table z.tree z.own; held = to_held z.tree z.own };
          no = λ e t o. c.no e t (to-notes t o);
        }
