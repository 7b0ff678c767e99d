-- A note that a record can claim is a row's exactly where the record that it tells is.
use Prim.Native.Nat.{ℕ, ◌+◌, ◌-◌, ◌≤◌, ◌<◌}
use native.Mathlib.Omega.{arith}
use mathlib.Core.Path.{◌≡◌, sym, ap, ap₂, ◌∙◌}
use mathlib.Core.List.{List}
use lib.ListN.{get_or}
use lib.Dec.{eqb, ltb}
use borrow.Author.Tests.{eq-eqb, ne_eqb, lt-ltb, le-ltb}
use Rattle.base.proofs.Cases.{by-eq, by_le, picked, unpicked}
use Rattle.model.specs.Table.{Row, list_row, recorded}
use Rattle.sheets.specs.Notes.{list_mark, note_of, third_of}
use Rattle.sheets.specs.Places.{shift}
use Rattle.tables.specs.Told.{PlainNote, HintedNote, ListNote, list_by, row_by, Sound, start_part, end_part, third_part, parent_part}
use Rattle.tables.specs.Claimed.{record_by, note_from, Claim}
use Rattle.tables.proofs.Claiming.{claim-note}
use Rattle.tables.proofs.Telling.{Telling, Parts, parted, pick-right}
use Rattle.owned.specs.Going.{Begins}

module _ (m : ℕ) where
  abbrev a : ℕ
  a = start_part m

  abbrev b : ℕ
  b = end_part m

  abbrev x : ℕ
  x = third_part m

  pub note-is : (r : Row) (p : ℕ) → Claim (record_by m) m → record_by m ≡ recorded r p → m ≡ note_of r p
  unfolding note_from
  note-is r p c e = claim-note (record_by m) m c ∙ ap note_from e

  pub record_is : (r : Row) (p : ℕ) → Telling r → p < shift → m ≡ note_of r p → record_by m ≡ recorded r p
  record_is r p t h e =
      let q : Parts m r.data_start r.data_end (third_of r) p = parted m r.data_start r.data_end (third_of r) p t.small h e in
      rw (q.start, q.end, q.third, q.up) (ap (λ (z : Row). recorded z p) t.told)

  -- ---- a list's

  listed_by : (x ≡ 0 → ⊥) → list_mark ≤ x → row_by a b x ≡ list_by a b (x - list_mark)
  unfolding row_by
  listed_by n l = unpicked _ _ (ne_eqb x 0 n) ∙ unpicked _ _ (le-ltb x list_mark l)

  pub list-is : (at up opened : ℕ) → Begins m at up opened → record_by m ≡ recorded (list_row at (b + 1) (x - list_mark)) up
  list-is at up opened g =
      let z : at + 1 - 1 ≡ at = omega arith in
      ap₂ recorded (listed_by (λ e. omega (arith, g.marked)) g.marked ∙ rw (g.start, z)) g.above

  pub record Listed (s e c up : ℕ) : Type 0 where
    pub start : a ≡ s + 1
    pub end : b ≡ e - 1
    pub third : x ≡ list_mark + c
    pub above : parent_part m ≡ up

  pub listed : (s e c up : ℕ) → Claim (record_by m) m → record_by m ≡ recorded (list_row s e c) up → Listed s e c up
  unfolding row_by Sound
  listed s e c up g i =
      by-eq x 0
      (λ z. absurd (omega (arith, ap (λ (l : List ℕ). get_or l 0 0) (sym (ap (λ (r : Row). recorded r (parent_part m)) (picked _ _ (eq-eqb x 0 z))) ∙ i))))
      (λ n. by_le list_mark x
      (λ l.
      let q : recorded (list_by a b (x - list_mark)) (parent_part m) ≡ recorded (list_row s e c) up = sym (ap (λ (r : Row). recorded r (parent_part m)) (listed_by n l)) ∙ i in
      let w : ListNote a b (x - list_mark) = pick-right (HintedNote a b x) _ (ltb x list_mark) (le-ltb x list_mark l) (pick-right (PlainNote a b) _ (eqb x 0) (ne_eqb x 0 n) g.sound) in
      record {
        start = omega (arith, w.begins, ap (λ (l : List ℕ). get_or l 1 0) q);
        end = omega (arith, ap (λ (l : List ℕ). get_or l 7 0) q);
        third = omega (arith, ap (λ (l : List ℕ). get_or l 3 0) q);
        above = ap (λ (l : List ℕ). get_or l 8 0) q;
      })
      (λ l.
      absurd (omega (arith, ap (λ (l : List ℕ). get_or l 0 0) (sym (ap (λ (r : Row). recorded r (parent_part m)) (unpicked _ _ (ne_eqb x 0 n) ∙ picked _ _ (lt-ltb x list_mark l))) ∙ i)))))
