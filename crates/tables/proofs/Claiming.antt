-- The note that a record claims.
use Prim.Native.Nat.{ℕ, ◌+◌, ◌*◌, ◌-◌, ◌≤◌, ◌<◌}
use native.Mathlib.Omega.{arith}
use mathlib.Core.Path.{◌≡◌, refl, sym, ap, ◌∙◌, subst}
use mathlib.Core.List.{List}
use lib.ListN.{length, get_or}
use lib.Seq.{take_all}
use borrow.Author.Tests.{eq-eqb, ne_eqb, lt-ltb, le-ltb}
use Rattle.base.proofs.Cases.{by-eq, by_le, picked, unpicked}
use Rattle.model.specs.Limits.{max_source}
use Rattle.model.specs.Table.{Row, recorded, row_of, parent_of}
use Rattle.model.specs.Tree.{Tree, canon, nodes}
use Rattle.sheets.specs.Places.{shift, span_by}
use Rattle.sheets.specs.Notes.{list_mark, note_by, third_of, note_of, noted}
use Rattle.sheets.proofs.Keeping.{noted-length}
use Rattle.tables.specs.Told.{plain_by, list_by, hinted_by, hint_end_by, row_by, PlainNote, ListNote, HintedNote, Sound, start_part, end_part, third_part, parent_part, Holds}
use Rattle.tables.specs.Claimed.{note_from, Claim}
use Rattle.tables.proofs.Telling.{pick-left, pick-right, left-pick, right-pick, Parts, parted, tells, parent-few, holds-few}

-- ---- a note by its parts

pub claim-of : (r : List ℕ) (a b x p m : ℕ) → (a < shift) × (b < shift) × (x < shift) → p < shift
    → m ≡ note_by (span_by a b) x p → Sound a b x → r ≡ recorded (row_by a b x) p → Claim r m
claim-of r a b x p m s l e g t =
    let q : Parts m a b x p = parted m a b x p s l e in
    record { small = omega arith; sound = rw (q.start, q.end, q.third) g; told = t ∙ rw (q.start, q.end, q.third, q.up) }

-- the three kinds
kinds : {G : Type 0} (a b x : ℕ) → Sound a b x
    → (x ≡ 0 → PlainNote a b → row_by a b x ≡ plain_by a b → G)
    → (0 < x → HintedNote a b x → row_by a b x ≡ hinted_by a b x (hint_end_by a b) → G)
    → (list_mark ≤ x → ListNote a b (x - list_mark) → row_by a b x ≡ list_by a b (x - list_mark) → G)
    → G
unfolding Sound row_by
kinds a b x s f g h =
    by-eq x 0
    (λ z. f z (pick-left (PlainNote a b) _ _ (eq-eqb x 0 z) s) (picked _ _ (eq-eqb x 0 z)))
    (λ z.
    by_le list_mark x
    (λ l.
    h l (pick-right (HintedNote a b x) _ _ (le-ltb x list_mark l) (pick-right (PlainNote a b) _ _ (ne_eqb x 0 z) s))
    (unpicked _ _ (ne_eqb x 0 z) ∙ unpicked _ _ (le-ltb x list_mark l)))
    (λ l.
    g (omega arith) (pick-left (HintedNote a b x) _ _ (lt-ltb x list_mark l) (pick-right (PlainNote a b) _ _ (ne_eqb x 0 z) s))
    (unpicked _ _ (ne_eqb x 0 z) ∙ picked _ _ (lt-ltb x list_mark l))))

-- ---- a record whose note is found

pub plain-found : (r : List ℕ) (a b p m : ℕ) → PlainNote a b → p < shift
    → m ≡ span_by a b + p * (shift * shift * shift) → r ≡ recorded (plain_by a b) p → Claim r m
unfolding Sound row_by
plain-found r a b p m g l e t =
    claim-of r a b 0 p m (omega (arith, g.bodied, g.ends), omega (arith, g.ends), omega arith) l (omega arith) g t

pub list-found : (r : List ℕ) (a b n p m : ℕ) → ListNote a b n → n < list_mark → p < shift
    → m ≡ note_by (span_by a b) (list_mark + n) p → r ≡ recorded (list_by a b n) p → Claim r m
unfolding Sound row_by
list-found r a b n p m g w l e t =
    let z = ne_eqb (list_mark + n) 0 (λ q. omega arith) in
    let y = le-ltb (list_mark + n) list_mark (omega arith) in
    let c : n ≡ list_mark + n - list_mark = omega arith in
    claim-of r a b (list_mark + n) p m (omega (arith, g.bodied, g.ends), omega (arith, g.ends), omega arith) l e
    (right-pick _ _ _ z (right-pick _ _ _ y (subst (λ (i : ℕ). ListNote a b i) c g)))
    (t ∙ ap (λ (i : ℕ). recorded (list_by a b i) p) c ∙ ap (λ (w : Row). recorded w p) (sym (unpicked _ _ z ∙ unpicked _ _ y)))

-- where the hint begins
hint-low : (a b x : ℕ) → HintedNote a b x → (0 < x) × (x < list_mark)
hint-low a b x g = (omega (arith, g.hint.begins), omega (arith, g.hint.hinted, g.tail.bodied, g.tail.ends, g.tail.begins))

pub hint-found : (r : List ℕ) (a b x p m : ℕ) → HintedNote a b x → p < shift
    → m ≡ note_by (span_by a b) x p → r ≡ recorded (hinted_by a b x (hint_end_by a b)) p → Claim r m
unfolding Sound row_by
hint-found r a b x p m g l e t =
    let h = hint-low a b x g in
    let z = ne_eqb x 0 (λ q. omega arith) in
    let y = lt-ltb x list_mark h.1 in
    claim-of r a b x p m (omega (arith, g.tail.bodied, g.tail.ends), omega (arith, g.tail.ends), omega arith) l e
    (right-pick _ _ _ z (left-pick _ _ _ y g))
    (t ∙ ap (λ (w : Row). recorded w p) (sym (unpicked _ _ z ∙ picked _ _ y)))

-- ---- what a record is like that some note tells

pub record IsPlain (r : List ℕ) : Type 0 where
  pub note : PlainNote (get_or r 6 0) (get_or r 7 0)
  pub low : get_or r 8 0 < shift
  pub is : r ≡ recorded (plain_by (get_or r 6 0) (get_or r 7 0)) (get_or r 8 0)

pub record IsList (r : List ℕ) : Type 0 where
  pub note : ListNote (get_or r 6 0) (get_or r 7 0) (get_or r 3 0)
  pub few : get_or r 3 0 < list_mark
  pub low : get_or r 8 0 < shift
  pub is : r ≡ recorded (list_by (get_or r 6 0) (get_or r 7 0) (get_or r 3 0)) (get_or r 8 0)

pub record IsHint (r : List ℕ) : Type 0 where
  pub note : HintedNote (get_or r 6 0) (get_or r 7 0) (get_or r 4 0)
  pub low : get_or r 8 0 < shift
  pub is : r ≡ recorded (hinted_by (get_or r 6 0) (get_or r 7 0) (get_or r 4 0) (hint_end_by (get_or r 6 0) (get_or r 7 0))) (get_or r 8 0)

is-list : (a b n p : ℕ) → ListNote a b n → n < list_mark → p < shift → IsList (recorded (list_by a b n) p)
is-list a b n p g w l =
    let c : a - 1 + 1 ≡ a = omega (arith, g.begins) in
    let d : b + 1 - 1 ≡ b = omega arith in
    record {
      note = rw (c, d) g;
      few = w;
      low = l;
      is = ap (λ (i : ℕ). recorded (list_by i b n) p) (sym c) ∙ ap (λ (j : ℕ). recorded (list_by (a - 1 + 1) j n) p) (sym d);
    }

module _ (r : List ℕ) (m : ℕ) (c : Claim r m) where
  abbrev a : ℕ
  a = start_part m

  abbrev b : ℕ
  b = end_part m

  abbrev x : ℕ
  x = third_part m

  abbrev p : ℕ
  p = parent_part m

  like : (w : Row) → row_by a b x ≡ w → r ≡ recorded w p
  like w e = c.told ∙ ap (λ (w : Row). recorded w p) e

  kind-of : (w : Row) → row_by a b x ≡ w → get_or r 0 0 ≡ w.kind
  kind-of w e = ap (λ (l : List ℕ). get_or l 0 0) (like w e)

  pub plain_back : get_or r 0 0 ≡ 0 → IsPlain r
  plain_back k =
      kinds a b x c.sound
      (λ z g e. subst (λ (l : List ℕ). IsPlain l) (sym (like _ e)) (record { note = g; low = omega arith; is = refl }))
      (λ z g e. absurd (omega (arith, kind-of _ e)))
      (λ z g e. absurd (omega (arith, kind-of _ e)))

  pub list_back : get_or r 0 0 ≡ 2 → IsList r
  list_back k =
      kinds a b x c.sound
      (λ z g e. absurd (omega (arith, kind-of _ e)))
      (λ z g e. absurd (omega (arith, kind-of _ e)))
      (λ z g e. subst (λ (l : List ℕ). IsList l) (sym (like _ e)) (is-list a b (x - list_mark) p g (omega arith) (omega arith)))

  pub hint-back : get_or r 0 0 ≡ 1 → IsHint r
  hint-back k =
      kinds a b x c.sound
      (λ z g e. absurd (omega (arith, kind-of _ e)))
      (λ z g e. subst (λ (l : List ℕ). IsHint l) (sym (like _ e)) (record { note = g; low = omega arith; is = refl }))
      (λ z g e. absurd (omega (arith, kind-of _ e)))

  -- no other kind
  pub some-kind : (get_or r 0 0 ≡ 0 → ⊥) → (get_or r 0 0 ≡ 2 → ⊥) → (get_or r 0 0 ≡ 1 → ⊥) → ⊥
  some-kind f g h = kinds a b x c.sound (λ z n e. f (kind-of _ e)) (λ z n e. h (kind-of _ e)) (λ z n e. g (kind-of _ e))

  whole : m ≡ note_by (span_by a b) x p
  whole = omega (arith, c.small)

  pub claim-note : m ≡ note_from r
  unfolding note_from
  claim-note =
      kinds a b x c.sound
      (λ z g e. whole ∙ ap (λ (i : ℕ). note_by (span_by a b) i p) z ∙ ap note_from (sym (like _ e)))
      (λ z g e. whole ∙ ap note_from (sym (like _ e)))
      (λ z g e.
      let f : note_by (span_by a b) x p ≡ note_by (span_by (a - 1 + 1) (b + 1 - 1)) (list_mark + (x - list_mark)) p = omega (arith, g.begins) in
      whole ∙ f ∙ ap note_from (sym (like _ e)))

-- ---- the notes of a tree

pub tree-claim : (t : Tree) (k : ℕ) → length (canon t) ≤ max_source → k < nodes t
    → Claim (recorded (row_of t k) (parent_of t k)) (note_of (row_of t k) (parent_of t k))
tree-claim t k l h =
    let g : Holds (noted t) (nodes t) t = record { counted = refl; kept = take_all (nodes t) (noted t) (omega (arith, noted-length t)); short = l } in
    let q = tells (noted t) (nodes t) t g k h in
    claim-of _ (row_of t k).data_start (row_of t k).data_end (third_of (row_of t k)) (parent_of t k) _ q.small
    (omega (arith, parent-few (noted t) (nodes t) t g k h, holds-few (noted t) (nodes t) t g)) refl q.safe
    (ap (λ (w : Row). recorded w (parent_of t k)) (sym q.told))
