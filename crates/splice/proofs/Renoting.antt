-- Where something else comes to stand at a spot, the notes, moved and grown, are those of the new tree.
use Prim.Native.Nat.{ℕ, ◌+◌, ◌*◌, ◌-◌, ◌/◌, ◌≤◌, ◌<◌}
use native.Mathlib.Omega.{arith}
use mathlib.Core.Path.{◌≡◌, refl, sym, ap, ap₂, ◌∙◌, subst}
use mathlib.Core.Bool.{true}
use mathlib.Core.List.{List}
use lib.ListN.{length, get_or}
use lib.Seq.{take_all}
use lib.Dec.{eqb}
use borrow.Author.Tests.{lt-ltb, le-ltb, eq-eqb, ne_eqb, le-leb, lt-leb}
use Rattle.base.specs.Choice.{pick}
use Rattle.base.proofs.Cases.{by_bool, by-eq, by_le, picked, unpicked}
use Rattle.model.specs.Limits.{most_nodes, max_source}
use Rattle.model.specs.Table.{Row, plain_row, rows, rowss, parents, parentss, row_of, parent_of}
use Rattle.model.specs.Tree.{Tree, Forest, canon, canons, nodes, nodess, depth, depths}
use Rattle.sheets.specs.Notes.{list_mark, third_of, note_of, noted}
use Rattle.sheets.specs.Places.{shift}
use Rattle.tables.specs.Told.{row_by, start_part, end_part, third_part, Holds}
use Rattle.tables.proofs.Telling.{noted-at, holds_row, holds-note, parent-few, holds-parent}
use Rattle.sheets.proofs.Keeping.{noted-length}
use Rattle.walk.proofs.Tabled.{rows-length}
use Rattle.edits.specs.Levels.{latest}
use Rattle.edits.specs.Moves.{Grows, Shifts}
use Rattle.edits.specs.Moves as edits
use Rattle.edits.specs.Place.{around, moved, up_at}
use Rattle.edits.proofs.Sides.{Side, aside, round}
use Rattle.edits.proofs.Holds.{is-aside, is-around}
use Rattle.edits.proofs.Changed.{change-moves, change-side, change-list, change-stays, change-grows, change-shifts, change-depth}
use Rattle.edits.proofs.Moved.{new-length, record-new, get_or-map-in}
use Rattle.edits.proofs.Rows.{rows-moved}
use Rattle.edits.proofs.Above.{root-up, inner_up, change-up-before, change-up-new, change-up-later, change-up-fits}
use Rattle.edits.proofs.Inner.{change-inner}
use Rattle.edits.proofs.Parents.{parentss-one, up-stays, up-shifts}
use Rattle.edits.proofs.Whole.{canons-one, nodess-one, depths-one, rowss-one}
use Rattle.splice.specs.Moved.{span, third, top, plainly, roomy, moved_note, later_note, own_note, list_over, kept_note, Later, Growing, over_at, own_at}
use Rattle.splice.specs.Renoted.{Renotable}
use Rattle.splice.proofs.Noting.{moved_plain, moved-hinted, moved-list, later-inside, later-behind, over-string, over-list, kept-grown, kept-aside}
use Rattle.splice.specs.declared.notes.Growth.{Growth}

-- ---- a note and its row

-- what the second and the third part of a note tell of its row
data Kinded (b x : ℕ) (r : Row) : Type 0 where
  bare : x ≡ 0 → r.kind ≡ 0 → r.hint_start ≡ 0 → Kinded b x r
  marked : (x ≡ 0 → ⊥) → x < list_mark → r.kind ≡ 1 → r.hint_start ≡ x → Kinded b x r
  listed : (x ≡ 0 → ⊥) → list_mark ≤ x → r.kind ≡ 2 → r.end ≡ b + 1 → Kinded b x r

kinded : (a b x : ℕ) (r : Row) → row_by a b x ≡ r → Kinded b x r
unfolding row_by
kinded a b x r e =
    by-eq x 0
    (λ z. let p = sym e ∙ picked _ _ (eq-eqb x 0 z) in bare z (ap (λ (s : Row). s.kind) p) (ap (λ (s : Row). s.hint_start) p))
    (λ n. by_le list_mark x
    (λ l. let p = sym e ∙ unpicked _ _ (ne_eqb x 0 n) ∙ unpicked _ _ (le-ltb x list_mark l) in listed n l (ap (λ (s : Row). s.kind) p) (ap (λ (s : Row). s.end) p))
    (λ l. let p = sym e ∙ unpicked _ _ (ne_eqb x 0 n) ∙ picked _ _ (lt-ltb x list_mark l) in marked n l (ap (λ (s : Row). s.kind) p) (ap (λ (s : Row). s.hint_start) p)))

-- what a note tells beside the parent is small
kept_small : (a b x : ℕ) (r : Row) → a < shift → b < shift → x < shift → row_by a b x ≡ r → note_of r 0 < 2 * top
unfolding row_by
kept_small a b x r i j k e =
    by-eq x 0
    (λ z. subst (λ (s : Row). note_of s 0 < 2 * top) (sym (picked _ _ (eq-eqb x 0 z)) ∙ e) (omega arith))
    (λ n. by_le list_mark x
    (λ l. subst (λ (s : Row). note_of s 0 < 2 * top) (sym (unpicked _ _ (ne_eqb x 0 n) ∙ unpicked _ _ (le-ltb x list_mark l)) ∙ e) (omega arith))
    (λ l. subst (λ (s : Row). note_of s 0 < 2 * top) (sym (unpicked _ _ (ne_eqb x 0 n) ∙ picked _ _ (lt-ltb x list_mark l)) ∙ e) (omega arith)))

pub note-small : (notes : List ℕ) (n : ℕ) (t : Tree) → Holds notes n t → n ≤ most_nodes → (i : ℕ) → i < n → get_or notes i 0 < roomy
note-small notes n t g few i h =
    let x = kept_small (start_part (get_or notes i 0)) (end_part (get_or notes i 0)) (third_part (get_or notes i 0)) (row_of t i) (omega arith) (omega arith) (omega arith) (holds_row notes n t g i h) in
    omega (arith, x, holds-note notes n t g i h, parent-few notes n t g i h, g.counted)

third-list : (r : Row) → r.kind ≡ 2 → third_of r ≡ list_mark + r.count
third-list r e = picked _ _ (eq-eqb r.kind 2 e)

third-other : (r : Row) → (r.kind ≡ 2 → ⊥) → third_of r ≡ r.hint_start
third-other r e = unpicked _ _ (ne_eqb r.kind 2 e)

-- ---- a node that moves

record Moves (m l l' : ℕ) (r' : Row) (up : ℕ) : Type 0 where
  pub is : note_of r' up ≡ moved_note m l l'
  pub low : l * span ≤ m + l' * span
  pub far : (third_part m ≡ 0 → ⊥) → third_part m < list_mark → l * third ≤ plainly m l l' + l' * third

shifts : (b m l l' : ℕ) (r r' : Row) (up : ℕ) → m ≡ note_of r up → Kinded b (third_part m) r → Shifts r r' l l' → Moves m l l' r' up
shifts b m l l' r r' up e (bare z k c) s =
    let h = s.without_hint (λ q. omega (arith, q, k)) in
    let p = third-other r (λ q. omega (arith, q, k)) in
    let p' = third-other r' (λ q. omega (arith, q, k, s.kind)) in
    let x : note_of r' up + l * span ≡ m + l' * span = omega (arith, e, p, p', c, h.0, s.data_start, s.data_end) in
    record { is = omega (arith, x) ∙ moved_plain m l l' z; low = omega (arith, x); far = λ n q. absurd (n z) }
shifts b m l l' r r' up e (marked n i k c) s =
    let h = s.with_hint k in
    let p = third-other r (λ q. omega (arith, q, k)) in
    let p' = third-other r' (λ q. omega (arith, q, k, s.kind)) in
    let y : l * span ≤ m + l' * span = omega (arith, e, s.data_start, s.data_end) in
    let x : note_of r' up + l * third ≡ plainly m l l' + l' * third = omega (arith, y, e, p, p', h.0, s.data_start, s.data_end) in
    record { is = omega (arith, x) ∙ moved-hinted m l l' n i; low = y; far = λ u v. omega (arith, x) }
shifts b m l l' r r' up e (listed n i k c) s =
    let p = third-list r k in
    let p' = third-list r' (s.kind ∙ k) in
    let x : note_of r' up + l * span ≡ m + l' * span = omega (arith, e, p, p', s.count, s.data_start, s.data_end) in
    record { is = omega (arith, x) ∙ moved-list m l l' n i; low = omega (arith, x); far = λ u v. absurd (omega arith) }

-- a row whose octets begin elsewhere
moved-shifts : (r : Row) (at : ℕ) → Shifts r (moved 0 at r) 0 at
moved-shifts r at =
    record {
      kind = refl;
      count = refl;
      start = omega arith;
      end = omega arith;
      data_start = omega arith;
      data_end = omega arith;
      with_hint = λ o. rw (eq-eqb r.kind 1 o) (omega arith, omega arith);
      without_hint = λ o. rw (ne_eqb r.kind 1 o) (refl, refl);
    }

-- ---- a list around

-- by its note and by its row, which is before the spot
over-side : (m k n i s e : ℕ) (r : Row) → Kinded (end_part m) (third_part m) r → s ≤ e → Side r i k n s e → list_over m e ≡ around s (s + (e - s)) r
over-side m k n i s e r (listed u v k' q) o (aside y z) = sym (over-list m e v) ∙ lt-leb e (end_part m) (omega arith) ∙ sym (is-aside s (e - s) r y)
over-side m k n i s e r (listed u v k' q) o (round y z w x p) = sym (over-list m e v) ∙ le-leb e (end_part m) (omega arith) ∙ sym (is-around s (e - s) r z (omega arith))
over-side m k n i s e r (bare u k' q) o (aside y z) = sym (over-string m e (omega arith)) ∙ sym (is-aside s (e - s) r y)
over-side m k n i s e r (bare u k' q) o (round y z w x p) = absurd (omega (arith, y, k'))
over-side m k n i s e r (marked u v k' q) o (aside y z) = sym (over-string m e v) ∙ sym (is-aside s (e - s) r y)
over-side m k n i s e r (marked u v k' q) o (round y z w x p) = absurd (omega (arith, y, k'))

grows : (m l l' c c' : ℕ) (r r' : Row) (up : ℕ) → m ≡ note_of r up → r.kind ≡ 2 → Grows r r' l l' c c' → note_of r' up + (l + c * third) ≡ m + (l' + c' * third)
grows m l l' c c' r r' up e k g =
    let p = third-list r k in
    let p' = third-list r' (g.kind ∙ k) in
    omega (arith, e, p, p', g.count, g.data_start, g.data_end)

-- ---- all of them
module _ (octets notes : List ℕ) (first start end count : ℕ) (b : Growth) (w : Renotable octets notes first start end count b) where
  abbrev t : Tree
  t = w.old

  abbrev new : Tree
  new = w.new

  abbrev law : edits.Moves t new first w.given start (end - start) w.comes
  law = change-moves w.change

  -- the numbers of nodes, behind the spot and in all
  pub sums : (first + w.given ≤ b.held) × (first + count ≤ b.count) × (b.count + w.given ≡ b.held + count)
  sums =
      let x = law.nodes_in in
      let y = law.count in
      (omega (arith, w.held.counted), omega (arith, w.held.counted, w.counted, w.new_counted), omega (arith, w.held.counted, w.counted, w.new_counted))

  at-note : (i : ℕ) → i < b.held → get_or notes i 0 ≡ note_of (row_of t i) (parent_of t i)
  at-note i h = holds-note notes b.held t w.held i h

  at-kinded : (i : ℕ) → i < b.held → Kinded (end_part (get_or notes i 0)) (third_part (get_or notes i 0)) (row_of t i)
  at-kinded i h = kinded _ _ _ (row_of t i) (holds_row notes b.held t w.held i h)

  at_small : (i : ℕ) → i < b.held → get_or notes i 0 < roomy
  at_small i h = note-small notes b.held t w.held w.fit.few.0 i h

  -- ---- before the spot
  over-is : (i : ℕ) → i < first → over_at notes end i ≡ around start (start + (end - start)) (row_of t i)
  over-is i h =
      let z : start + (end - start) ≡ end = omega (arith, w.ordered) in
      over-side (get_or notes i 0) first w.given i start end (row_of t i) (at-kinded i (omega (arith, sums.0))) w.ordered (rw z at (change-side w.change i h))

  -- a list around it, whose note grows
  module _ (i : ℕ) (h : i < first) where
    up_same : parent_of new i ≡ parent_of t i
    up_same = change-up-before w.change i h

    grew : over_at notes end i ≡ true → note_of (row_of new i) (parent_of t i) + (b.old + b.held * third) ≡ get_or notes i 0 + (b.len + b.count * third)
    grew y =
        let q = sym (over-is i h) ∙ y in
        grows (get_or notes i 0) b.old b.len b.held b.count (row_of t i) (row_of new i) (parent_of t i) (at-note i (omega (arith, sums.0))) (change-list w.change i h q)
        (rw (← w.old_long, ← w.new_long, ← w.held.counted, ← w.new_counted) at (change-grows w.change i h q))

    pub ahead-growing : over_at notes end i ≡ true → Growing (get_or notes i 0) b
    ahead-growing y = record { fit = w.fit; small = at_small i (omega (arith, sums.0)); low = omega (arith, grew y) }

    pub ahead-is : kept_note (get_or notes i 0) end b ≡ note_of (row_of new i) (parent_of new i)
    ahead-is =
        by_bool (over_at notes end i)
        (λ y. sym (kept-grown (get_or notes i 0) end b y) ∙ omega (arith, grew y, up_same))
        (λ y.
        sym (kept-aside (get_or notes i 0) end b y) ∙ at-note i (omega (arith, sums.0))
        ∙ sym (ap₂ note_of (change-stays w.change i h (sym (over-is i h) ∙ y)) up_same))

  -- ---- behind it: node j is then node j'
  module _ (j j' : ℕ) (h : first + w.given ≤ j) (i : j < b.held) (e : j' + b.held ≡ j + b.count) where
    abbrev up : ℕ
    up = parent_of t j

    inside : j < nodes t
    inside = omega (arith, w.held.counted)

    then : j' + nodes t ≡ j + nodes new
    then = omega (arith, w.held.counted, w.new_counted)

    moves : Moves (get_or notes j 0) b.old b.len (row_of new j') up
    moves =
        shifts _ (get_or notes j 0) b.old b.len (row_of t j) (row_of new j') up (at-note j i) (at-kinded j i)
        (rw (← w.old_long, ← w.new_long) at (change-shifts w.change j j' h inside then))

    parent : get_or notes j 0 / top ≡ up
    parent = omega (arith, holds-parent notes b.held t w.held j i, at_small j i)

    -- the list around it, where that is behind the spot too
    shifted : first ≤ up → parent_of new j' + b.held ≡ up + b.count
    shifted a =
        omega (arith, change-up-fits w.change j j' h inside then a, change-up-later w.change j j' h inside then, up-shifts first w.given (nodess w.comes) up a, sums.2, w.counted)

    pub behind-later : Later (get_or notes j 0) first b
    behind-later =
        record {
          fit = w.fit;
          moving = record { small = at_small j i; short = (omega (arith, w.fit.short.0), omega (arith, w.fit.short.1)); low = moves.low; hinted = moves.far };
          low = λ a. omega (arith, moves.is, shifted (omega (arith, parent)));
        }

    pub behind-is : later_note (get_or notes j 0) first b ≡ note_of (row_of new j') (parent_of new j')
    behind-is =
        by_le first up
        (λ a. sym (later-behind (get_or notes j 0) first b _ moves.is (omega (arith, parent))) ∙ omega (arith, shifted a))
        (λ a.
        sym (later-inside (get_or notes j 0) first b _ moves.is (omega (arith, parent)))
        ∙ ap (note_of (row_of new j')) (up-stays first w.given (nodess w.comes) up a ∙ sym (change-up-later w.change j j' h inside then)))

  -- ---- at it
  pub octets-short : length octets ≤ max_source
  octets-short = omega (arith, ap length w.is, new-length law, law.octets_in, w.old_long, w.new_long, w.fit.short)

  pub start-short : start ≤ max_source
  start-short = omega (arith, law.octets_in, w.old_long, w.fit.short)

  pub inner-is : latest (over_at notes end) first 0 0 ≡ up_at w.change.place 0 0
  inner-is = change-inner (over_at notes end) w.change over-is

  module _ (some : 0 < count) where
    abbrev u : Tree
    u = w.text

    pub is-text : octets ≡ canon u
    is-text = w.is ∙ ap canons (w.single some) ∙ canons-one u

    pub text-counted : count ≡ nodes u
    text-counted = w.counted ∙ ap nodess (w.single some) ∙ nodess-one u

    pub text-deep : depth u ≤ depth new
    text-deep = omega (arith, change-depth w.change, ap depths (w.single some) ∙ depths-one u)

    text-holds : Holds (noted u) count u
    text-holds =
        record {
          counted = text-counted;
          kept = take_all count (noted u) (omega (arith, noted-length u, text-counted));
          short = omega (arith, octets-short, ap length is-text);
        }

    text-row : (i : ℕ) → i < count → row_of new (first + i) ≡ moved 0 start (row_of u i)
    text-row i h =
        let z : 0 + start ≡ start = omega arith in
        let y : 0 + 0 ≡ 0 = omega arith in
        record-new law i (omega (arith, w.counted))
        ∙ ap (λ (f : Forest). get_or (rowss f start) i (plain_row 0 0 0)) (w.single some)
        ∙ ap (λ (x : List Row). get_or x i (plain_row 0 0 0)) (rowss-one u start ∙ rw (z, y) at (rows-moved u 0 0 start))
        ∙ get_or-map-in (moved 0 start) (rows u 0) i (plain_row 0 0 0) (plain_row 0 0 0) (omega (arith, rows-length u 0, text-counted))

    -- the first stands in the list around the spot, and the others in lists of their own tree
    text-up : (i : ℕ) → i < count → (up' : ℕ) → up' ≡ up_at w.change.place 0 0 → parent_of new (first + i) ≡ pick (eqb i 0) up' first + parent_of u i
    text-up i h up' e =
        let x = change-up-new w.change i (omega (arith, w.counted))
        ∙ ap (λ (f : Forest). get_or (parentss f first (up_at w.change.place 0 0)) i 0) (w.single some)
        ∙ ap (λ (l : List ℕ). get_or l i 0) (parentss-one u first (up_at w.change.place 0 0)) in
        by-eq i 0
        (λ z.
        let r = root-up u first (up_at w.change.place 0 0) in
        let o = root-up u 0 0 in
        let y = ap (λ (k : ℕ). get_or (parents u first (up_at w.change.place 0 0)) k 0) z in
        let v = ap (λ (k : ℕ). parent_of u k) z in
        omega (arith, x, y, v, r, o, e, picked up' first (eq-eqb i 0 z)))
        (λ z. omega (arith, x, inner_up u first (up_at w.change.place 0 0) i (omega arith) (omega (arith, text-counted)), unpicked up' first (ne_eqb i 0 z)))

    pub text-is : (i : ℕ) → i < count → (up' : ℕ) → up' ≡ up_at w.change.place 0 0 → own_at (noted u) start first up' i ≡ note_of (row_of new (first + i)) (parent_of new (first + i))
    unfolding own_note
    text-is i h up' e =
        let m = get_or (noted u) i 0 in
        let v = shifts _ m 0 start (row_of u i) (moved 0 start (row_of u i)) (parent_of u i) (noted-at u i (omega (arith, text-counted)))
        (kinded _ _ _ (row_of u i) (holds_row (noted u) count u text-holds i h)) (moved-shifts (row_of u i) start) in
        rw (text-row i h) (omega (arith, v.is, text-up i h up' e))
