-- The row that a note tells is the node's, for every node of a tree.
use Prim.Native.Nat.{ℕ, zero, suc, ◌+◌, ◌-◌, ◌≤◌, ◌<◌}
use native.Mathlib.Omega.{arith}
use mathlib.Core.Path.{◌≡◌, refl, sym, ap, ◌∙◌}
use mathlib.Core.Bool.{Bool, true, false}
use mathlib.Core.List.{List, [], ◌∷◌, ◌++◌}
use lib.ListN.{length, get_or, length-append, length-take}
use lib.Seq.{get_or-take}
use lib.Dec.{ltb, eqb}
use borrow.Author.Tests.{eq-eqb, ne_eqb, lt-ltb, le-ltb}
use Rattle.base.specs.Choice.{pick}
use Rattle.base.proofs.Cases.{untrue, differ, picked, unpicked}
use Rattle.model.specs.Limits.{max_source}
use Rattle.model.specs.Table.{Row, plain_row, hinted_row, list_row, row_numbers, body_start, body_end, rows, rowss, row_of, parents, parent_of}
use Rattle.model.specs.Tree.{Tree, plain, hinted, list, Forest, nil, cons, digits, verbatim, canon, canons, nodes}
use Rattle.model.proofs.Sizes.{verbatim-length}
use Rattle.model.proofs.Laws.{nodes-within-half}
use Rattle.decimal.specs.Numbers.{Wide}
use Rattle.walk.proofs.Tabled.{rows-length, parents-low}
use Rattle.sheets.specs.Places.{shift, span_by}
use Rattle.sheets.specs.Notes.{list_mark, note_by, third_of, note_of, notes_of, noted}
use Rattle.tables.specs.Rows.{RowIs}
use Rattle.tables.specs.Told.{plain_by, list_by, hinted_by, hint_end_by, row_by, PlainNote, ListNote, TailNote, HintNote, HintedNote, Sound, start_part, end_part, third_part, parent_part, row_at, Readable, Holds}
use Rattle.tables.specs.declared.rows.Row as coded
use Rattle.sheets.proofs.Keeping.{noted-length}

-- ---- one note

pub plain-told : (a b w : ℕ) (r : coded.Row) → Wide (b - a) w → RowIs r (plain_row (a - w - 1) a b) → RowIs r (plain_by a b)
plain-told a b w r d e = e ∙ ap (λ (n : ℕ). row_numbers (plain_row (a - n - 1) a b)) d.is

pub hinted-told : (a b x y w : ℕ) (r : coded.Row) → Wide (y - x) w → RowIs r (hinted_row (x - w - 2) x y a b) → RowIs r (hinted_by a b x y)
hinted-told a b x y w r d e = e ∙ ap (λ (n : ℕ). row_numbers (hinted_row (x - n - 2) x y a b)) d.is

-- a choice between two statements
pub pick-left : (P Q : Type 0) (t : Bool) → t ≡ true → pick t P Q → P
pick-left P Q true e p = p
pick-left P Q false e q = untrue e

pub pick-right : (P Q : Type 0) (t : Bool) → t ≡ false → pick t P Q → Q
pick-right P Q true e p = differ refl e
pick-right P Q false e q = q

pub left-pick : (P Q : Type 0) (t : Bool) → t ≡ true → P → pick t P Q
left-pick P Q true e p = p
left-pick P Q false e p = untrue e

pub right-pick : (P Q : Type 0) (t : Bool) → t ≡ false → Q → pick t P Q
right-pick P Q true e q = differ refl e
right-pick P Q false e q = q

module _ (notes : List ℕ) (k : ℕ) (g : Readable notes k) where
  abbrev a : ℕ
  a = start_part (get_or notes k 0)

  abbrev b : ℕ
  b = end_part (get_or notes k 0)

  abbrev x : ℕ
  x = third_part (get_or notes k 0)

  module _ (z : x ≡ 0) where
    pub plain-sound : PlainNote a b
    unfolding Sound
    plain-sound = pick-left (PlainNote a b) _ (eqb x 0) (eq-eqb x 0 z) g.sound

    pub plain_row_lem : (r : coded.Row) → RowIs r (plain_by a b) → RowIs r (row_at notes k)
    unfolding row_by
    plain_row_lem r e = e ∙ ap row_numbers (sym (picked _ _ (eq-eqb x 0 z)))

  module _ (n : x ≡ 0 → ⊥) where
    marked : pick (ltb x list_mark) (HintedNote a b x) (ListNote a b (x - list_mark))
    unfolding Sound
    marked = pick-right (PlainNote a b) _ (eqb x 0) (ne_eqb x 0 n) g.sound

    unplain : row_at notes k ≡ pick (ltb x list_mark) (hinted_by a b x (hint_end_by a b)) (list_by a b (x - list_mark))
    unfolding row_by
    unplain = unpicked _ _ (ne_eqb x 0 n)

    module _ (l : x < list_mark) where
      hinting : HintedNote a b x
      hinting = pick-left _ (ListNote a b (x - list_mark)) (ltb x list_mark) (lt-ltb x list_mark l) marked

      pub tail-sound : TailNote a b
      tail-sound = hinting.tail

      module _ (y : ℕ) (e : y ≡ hint_end_by a b) where
        pub hint-sound : HintNote a b x y
        hint-sound = rw e hinting.hint

        pub hint-row : (r : coded.Row) → RowIs r (hinted_by a b x y) → RowIs r (row_at notes k)
        hint-row r is = is ∙ ap (λ (v : ℕ). row_numbers (hinted_by a b x v)) e ∙ ap row_numbers (sym (unplain ∙ picked _ _ (lt-ltb x list_mark l)))

    module _ (l : list_mark ≤ x) where
      pub list-sound : ListNote a b (x - list_mark)
      list-sound = pick-right (HintedNote a b x) _ (ltb x list_mark) (le-ltb x list_mark l) marked

      pub list-row : (r : coded.Row) → RowIs r (list_by a b (x - list_mark)) → RowIs r (row_at notes k)
      list-row r is = is ∙ ap row_numbers (sym (unplain ∙ unpicked _ _ (le-ltb x list_mark l)))

-- ---- rows that their notes tell

pub record Telling (r : Row) : Type 0 where
  pub safe : Sound r.data_start r.data_end (third_of r)
  pub told : row_by r.data_start r.data_end (third_of r) ≡ r
  pub small : (r.data_start < shift) × (r.data_end < shift) × (third_of r < shift)

-- a place before so many digits and k more
back : (p n n' k s : ℕ) → n' ≡ n → s ≡ p + n + k → (s - n' - k ≡ p) × (n' + k ≤ s)
back p n n' k s e f = (omega arith, omega arith)

module _ (at : ℕ) where
  pub plain-tells : (d : List ℕ) → at + length (verbatim d) ≤ max_source → Telling (plain_row at (body_start at d) (body_end at d))
  unfolding Sound row_by
  plain-tells d h =
      let z : body_end at d - body_start at d ≡ length d = omega (arith, verbatim-length d) in
      let w : length (digits (body_end at d - body_start at d)) ≡ length (digits (length d)) = ap (λ (n : ℕ). length (digits n)) z in
      let e : _ × _ = back at (length (digits (length d))) (length (digits (body_end at d - body_start at d))) 1 (body_start at d) w (omega arith) in
      record {
        safe = record { bodied = omega (arith, verbatim-length d); ends = h; begins = e.1 };
        told = ap (λ (n : ℕ). plain_row n (body_start at d) (body_end at d)) e.0;
        small = (omega (arith, verbatim-length d), omega arith, omega arith);
      }

  module _ (h d : List ℕ) where
    abbrev hs : ℕ
    hs = body_start (at + 1) h

    abbrev he : ℕ
    he = body_end (at + 1) h

    abbrev ds : ℕ
    ds = body_start (he + 1) d

    abbrev de : ℕ
    de = body_end (he + 1) d

    pub hint-tells : de ≤ max_source → Telling (hinted_row at hs he ds de)
    unfolding Sound row_by
    hint-tells l =
        let z : he - hs ≡ length h = omega (arith, verbatim-length h) in
        let w : length (digits (he - hs)) ≡ length (digits (length h)) = ap (λ (n : ℕ). length (digits n)) z in
        let p : _ × _ = back at (length (digits (length h))) (length (digits (he - hs))) 2 hs w (omega arith) in
        let z' : de - ds ≡ length d = omega (arith, verbatim-length d) in
        let w' : length (digits (de - ds)) ≡ length (digits (length d)) = ap (λ (n : ℕ). length (digits n)) z' in
        let q : _ × _ = back he (length (digits (length d))) (length (digits (de - ds))) 2 ds w' (omega arith) in
        let n : eqb hs 0 ≡ false = ne_eqb hs 0 (λ u. omega arith) in
        let m : ltb hs list_mark ≡ true = lt-ltb hs list_mark (omega (arith, verbatim-length h)) in
        record {
          safe = right-pick _ _ _ n (left-pick _ _ _ m (record {
            tail = record { bodied = omega (arith, verbatim-length d); ends = l; begins = q.1 };
            hint = rw q.0 (record { begins = p.1; hinted = omega (arith, verbatim-length h); follows = omega arith; bodied = omega (arith, verbatim-length d); ends = l });
          }));
          told = unpicked _ _ n ∙ picked _ _ m ∙ ap (λ (v : ℕ). hinted_by ds de hs v) q.0 ∙ ap (λ (i : ℕ). hinted_row i hs he ds de) p.0;
          small = (omega (arith, verbatim-length d), omega arith, omega (arith, verbatim-length h));
        }

  list_tells : (e n : ℕ) → at + 2 ≤ e → e ≤ max_source → 0 < n → n < max_source → Telling (list_row at e n)
  unfolding Sound row_by
  list_tells e n l h p m =
      let z : eqb (list_mark + n) 0 ≡ false = ne_eqb (list_mark + n) 0 (λ q. omega arith) in
      let y : ltb (list_mark + n) list_mark ≡ false = le-ltb (list_mark + n) list_mark (omega arith) in
      let a : at + 1 - 1 ≡ at = omega arith in
      let b : e - 1 + 1 ≡ e = omega arith in
      let c : list_mark + n - list_mark ≡ n = omega arith in
      record {
        safe = right-pick _ _ _ z (right-pick _ _ _ y (record { begins = omega arith; bodied = omega arith; ends = omega arith; counted = omega arith }));
        told = unpicked _ _ z ∙ unpicked _ _ y ∙ rw (a, b, c);
        small = (omega arith, omega arith, omega arith);
      }

-- every row of a list
data Each : List Row → Type 0 where
  each_none : Each []
  each-one : {r : Row} {rs : List Row} → Telling r → Each rs → Each (r ∷ rs)

each_append : {a b : List Row} → Each a → Each b → Each (a ++ b)
each_append each_none q = q
each_append (each-one t p) q = each-one t (each_append p q)

each_at : {rs : List Row} → Each rs → (k : ℕ) (d : Row) → k < length rs → Telling (get_or rs k d)
each_at each_none k d h = absurd (omega arith)
each_at (each-one t p) zero d h = t
each_at (each-one t p) (suc k) d h = each_at p k d (omega arith)

mutual
  unfolding rows canon nodes

  each-tree : (t : Tree) (at : ℕ) → at + length (canon t) ≤ max_source → Each (rows t at)
  each-tree (plain d) at h = each-one (plain-tells at d h) each_none
  each-tree (hinted x d) at h = each-one (hint-tells at x d (omega (arith, length-append (verbatim x) (93 ∷ verbatim d)))) each_none
  each-tree (list f) at h =
      each-one
      (list_tells at (at + length (canon (list f))) (nodes (list f)) (omega (arith, length-append (canons f) (41 ∷ []))) h (omega arith) (omega (arith, nodes-within-half (list f), h)))
      (each-forest f (at + 1) (omega (arith, length-append (canons f) (41 ∷ []))))

  each-forest : (f : Forest) (at : ℕ) → at + length (canons f) ≤ max_source → Each (rowss f at)
  each-forest nil at h = each_none
  each-forest (cons t f) at h =
      each_append (each-tree t at (omega (arith, length-append (canon t) (canons f)))) (each-forest f (at + length (canon t)) (omega (arith, length-append (canon t) (canons f))))

-- ---- the notes of a list of rows

note-at : (rs : List Row) (ps : List ℕ) (k : ℕ) (d : Row) → k < length rs → get_or (notes_of rs ps) k 0 ≡ note_of (get_or rs k d) (get_or ps k 0)
unfolding notes_of
note-at [] ps k d h = absurd (omega arith)
note-at (r ∷ rs) [] zero d h = refl
note-at (r ∷ rs) [] (suc k) d h = note-at rs [] k d (omega arith)
note-at (r ∷ rs) (p ∷ ps) zero d h = refl
note-at (r ∷ rs) (p ∷ ps) (suc k) d h = note-at rs ps k d (omega arith)

pub noted-at : (t : Tree) (k : ℕ) → k < nodes t → get_or (noted t) k 0 ≡ note_of (row_of t k) (parent_of t k)
unfolding noted
noted-at t k h = note-at (rows t 0) (parents t 0 0) k (plain_row 0 0 0) (omega (arith, rows-length t 0))

-- the parts of a note
pub record Parts (m a b x p : ℕ) : Type 0 where
  pub start : start_part m ≡ a
  pub end : end_part m ≡ b
  pub third : third_part m ≡ x
  pub up : parent_part m ≡ p

pub parted : (m a b x p : ℕ) → (a < shift) × (b < shift) × (x < shift) → p < shift → m ≡ note_by (span_by a b) x p → Parts m a b x p
parted m a b x p s l e = record { start = omega arith; end = omega arith; third = omega arith; up = omega arith }

module _ (notes : List ℕ) (n : ℕ) (t : Tree) (g : Holds notes n t) where
  pub holds-few : n ≤ max_source
  holds-few = omega (arith, nodes-within-half t, g.counted, g.short)

  pub holds-long : n ≤ length notes
  holds-long = omega (arith, length-take n notes, ap length g.kept, noted-length t, g.counted)

  module _ (k : ℕ) (h : k < n) where
    pub tells : Telling (row_of t k)
    tells = each_at (each-tree t 0 (omega (arith, g.short))) k (plain_row 0 0 0) (omega (arith, rows-length t 0, g.counted))

    pub holds-note : get_or notes k 0 ≡ note_of (row_of t k) (parent_of t k)
    holds-note = sym (get_or-take n notes k 0 h) ∙ ap (λ (x : List ℕ). get_or x k 0) g.kept ∙ noted-at t k (omega (arith, g.counted))

    pub parent-few : parent_of t k ≤ nodes t
    parent-few = parents-low t 0 0 (nodes t) (omega arith) (omega arith) k

    parts : Parts (get_or notes k 0) (row_of t k).data_start (row_of t k).data_end (third_of (row_of t k)) (parent_of t k)
    parts =
        parted (get_or notes k 0) (row_of t k).data_start (row_of t k).data_end (third_of (row_of t k)) (parent_of t k) tells.small (omega (arith, parent-few, holds-few, g.counted)) holds-note

    pub holds-parent : parent_part (get_or notes k 0) ≡ parent_of t k
    holds-parent = parts.up

    pub holds_row : row_at notes k ≡ row_of t k
    holds_row = rw (parts.start, parts.end, parts.third) tells.told

    pub holds-readable : Readable notes k
    holds-readable = record { inside = omega (arith, holds-long); sound = rw (parts.start, parts.end, parts.third) tells.safe }
