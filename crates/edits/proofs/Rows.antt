-- The rows before a place and after it, when something else comes to stand there.
use Prim.Native.Nat.{ℕ, ◌+◌, ◌≤◌, ◌<◌}
use native.Mathlib.Omega.{arith}
use mathlib.Core.Path.{◌≡◌, refl, sym, ap, ap₂, ◌∙◌}
use mathlib.Core.Bool.{true, false}
use mathlib.Core.List.{List, [], ◌∷◌, ◌++◌, append_assoc, map}
use lib.ListN.{length, take, drop, length-append}
use lib.Seq.{take_at, drop_at}
use borrow.Author.Tests.{lt-ltb, le-ltb}
use Rattle.base.proofs.Cases.{by_le}
use Rattle.edits.specs.Place.{before, number, past, Place, here, down, fill, after, lead, trail, moved, grown, around, kept}
use Rattle.model.specs.Table.{Row, rows, rowss}
use Rattle.model.specs.Tree.{Tree, plain, hinted, list, Forest, nil, cons, verbatim, canon, canons, nodess}
use Rattle.walk.proofs.Tabled.{rows-length, rowss-length}
use Rattle.edits.proofs.Fill.{fill-rows}

pub row-path : {a a' b b' c c' d d' e e' f f' g g' h h' : ℕ} → a ≡ a' → b ≡ b' → c ≡ c' → d ≡ d' → e ≡ e' → f ≡ f' → g ≡ g' → h ≡ h'
    → ◌≡◌ {A = Row} (record { kind = a; start = b; end = c; count = d; hint_start = e; hint_end = f; data_start = g; data_end = h }) (record { kind = a'; start = b'; end = c'; count = d'; hint_start = e'; hint_end = f'; data_start = g'; data_end = h' })
row-path a b c d e f g h = λ i. record { kind = a i; start = b i; end = c i; count = d i; hint_start = e i; hint_end = f i; data_start = g i; data_end = h i }

pub map-append : {A B : Type 0} (f : A → B) (k l : List A) → map f (k ++ l) ≡ map f k ++ map f l
map-append f [] l = refl
map-append f (x ∷ k) l = ap (f x ∷◌) (map-append f k l)

pub lead-length : (p : Place) (at l n : ℕ) → length (lead p at l n) ≡ number p
unfolding lead number
lead-length (here b) at l n = refl
lead-length (past t p) at l n = omega (arith, length-append (rows t at) (lead p (at + length (canon t)) l n), rows-length t at, lead-length p (at + length (canon t)) l n)
lead-length (down p b) at l n = omega (arith, lead-length p (at + 1) l n)

-- ---- rows that end by b stay, if what ends by b stays
module _ (f : Row → Row) (b : ℕ) (stays : (r : Row) → r.end ≤ b → f r ≡ r) where
  mutual
    unfolding rows canon

    rows_same : (t : Tree) (at : ℕ) → at + length (canon t) ≤ b → map f (rows t at) ≡ rows t at
    rows_same (plain d) at h = rw stays
    rows_same (hinted k d) at h =
        let x : at + 1 + length (verbatim k) + 1 + length (verbatim d) ≤ b = omega (arith, length-append (verbatim k) (93 ∷ verbatim d)) in
        ap (◌∷ []) (stays _ x)
    rows_same (list g) at h =
        let l = length-append (canons g) (41 ∷ []) in
        ap₂ ◌∷◌ (stays _ h) (rowss-same g (at + 1) (omega arith))

    rowss-same : (g : Forest) (at : ℕ) → at + length (canons g) ≤ b → map f (rowss g at) ≡ rowss g at
    rowss-same nil at h = refl
    rowss-same (cons t g) at h =
        let l = length-append (canon t) (canons g) in
        rw (map-append, rows_same t at (omega arith), rowss-same g (at + length (canon t)) (omega arith))

-- ---- a tree's rows from another place on
mutual
  unfolding rows canon

  pub rows-moved : (t : Tree) (at l l' : ℕ) → rows t (at + l') ≡ map (moved l l') (rows t (at + l))
  rows-moved (plain d) at l l' = ap (◌∷ []) (row-path refl (omega arith) (omega arith) refl refl refl (omega arith) (omega arith))
  rows-moved (hinted k d) at l l' = ap (◌∷ []) (row-path refl (omega arith) (omega arith) refl (omega arith) (omega arith) (omega arith) (omega arith))
  rows-moved (list f) at l l' =
      let e : at + l' + 1 ≡ at + 1 + l' = omega arith in
      let x : at + l + 1 ≡ at + 1 + l = omega arith in
      ap₂ ◌∷◌ (row-path refl (omega arith) (omega arith) refl refl refl (omega arith) (omega arith)) (rw (e, x) (rowss-moved f (at + 1) l l'))

  pub rowss-moved : (f : Forest) (at l l' : ℕ) → rowss f (at + l') ≡ map (moved l l') (rowss f (at + l))
  rowss-moved nil at l l' = refl
  rowss-moved (cons t f) at l l' =
      let e : at + l' + length (canon t) ≡ at + length (canon t) + l' = omega arith in
      let x : at + l + length (canon t) ≡ at + length (canon t) + l = omega arith in
      rw (map-append, e, x, rows-moved t at l l', rowss-moved f (at + length (canon t)) l l')

-- ---- the rows before a place
module _ (s l l' n n' : ℕ) where
  pub kept_same : (r : Row) → r.end ≤ s → kept s l l' n n' r ≡ r
  kept_same r h =
      let e : around s (s + l) r ≡ false = by_le s r.start (λ k. rw (le-ltb r.start s k, around)) (λ k. rw (lt-ltb r.start s k, around) (le-ltb (s + l) r.end (omega arith))) in
      rw (e, kept)

  pub kept-grown : (r : Row) → r.start < s → s + l < r.end → kept s l l' n n' r ≡ grown l l' n n' r
  kept-grown r h k =
      let e : around s (s + l) r ≡ true = rw (lt-ltb r.start s h, around) (lt-ltb (s + l) r.end k) in
      rw (e, kept)

  pub lead-kept : (p : Place) (at : ℕ) → s ≡ at + length (before p) → lead p at l' n' ≡ map (kept s l l' n n') (lead p at l n)
  unfolding lead before
  lead-kept (here b) at e = refl
  lead-kept (past t p) at e =
      let x = length-append (canon t) (before p) in
      rw (map-append, rows_same (kept s l l' n n') s kept_same t at (omega arith), lead-kept p (at + length (canon t)) (omega arith))
  lead-kept (down p b) at e =
      ap₂ ◌∷◌ (row-path refl refl (omega arith) (omega arith) refl refl refl (omega arith) ∙ sym (kept-grown _ (omega arith) (omega arith))) (lead-kept p (at + 1) (omega arith))

-- ---- the rows after a place
pub trail-moved : (p : Place) (at l l' : ℕ) → trail p (at + l') ≡ map (moved l l') (trail p (at + l))
unfolding trail
trail-moved (here b) at l l' = rowss-moved b at l l'
trail-moved (past t p) at l l' = trail-moved p at l l'
trail-moved (down p b) at l l' =
    let e : at + l' + length (after p) + 1 ≡ at + length (after p) + 1 + l' = omega arith in
    let x : at + l + length (after p) + 1 ≡ at + length (after p) + 1 + l = omega arith in
    rw (map-append, e, x, trail-moved p at l l', rowss-moved b (at + length (after p) + 1) l l')

-- ---- the law of moving: what an edit does to the table
module _ (p : Place) (g g' : Forest) (at : ℕ) where
  abbrev from : ℕ
  from = at + length (before p)

  old-lead : take (number p) (rowss (fill p g) at) ≡ lead p at (length (canons g)) (nodess g)
  old-lead = rw (fill-rows p g at) (take_at _ _ (number p) (lead-length p at (length (canons g)) (nodess g)))

  old-trail : drop (number p + nodess g) (rowss (fill p g) at) ≡ trail p (from + length (canons g))
  old-trail =
      let e : length (lead p at (length (canons g)) (nodess g) ++ rowss g from) ≡ number p + nodess g
      = simp length-append (ap₂ ◌+◌ (lead-length p at (length (canons g)) (nodess g)) (rowss-length g from)) in
      rw (fill-rows p g at, ← append_assoc) (drop_at (lead p at (length (canons g)) (nodess g) ++ rowss g from) _ (number p + nodess g) e)

  pub fill-table : rowss (fill p g') at
      ≡ map (kept from (length (canons g)) (length (canons g')) (nodess g) (nodess g')) (take (number p) (rowss (fill p g) at))
      ++ (rowss g' from ++ map (moved (length (canons g)) (length (canons g'))) (drop (number p + nodess g) (rowss (fill p g) at)))
  fill-table =
      rw (old-lead, old-trail, ← trail-moved p from (length (canons g)) (length (canons g')), ← lead-kept from (length (canons g)) (length (canons g')) (nodess g) (nodess g') p at refl)
      (fill-rows p g' at)
