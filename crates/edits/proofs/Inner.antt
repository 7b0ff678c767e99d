-- The list directly around a place is the last, of the nodes before it, that is around it by octets.
use Prim.Native.Nat.{ℕ, zero, suc, ◌+◌, ◌<◌}
use native.Mathlib.Omega.{arith}
use native.Mathlib.Nat.{add-zero, zero-add}
use mathlib.Core.Path.{◌≡◌, refl, sym, ap, ap₂, ◌∙◌}
use mathlib.Core.Bool.{Bool, false}
use mathlib.Core.List.{List}
use lib.ListN.{length, get_or, length-append, get_or-append}
use lib.Seq.{get_or-append-add}
use Rattle.base.specs.Choice.{pick}
use Rattle.base.proofs.Cases.{picked, unpicked}
use Rattle.model.specs.Table.{Row, plain_row, rows, row_of}
use Rattle.model.specs.Tree.{Tree, Forest, canon, canons, nodes, nodess}
use Rattle.walk.proofs.Tabled.{rows-length}
use Rattle.edits.specs.Levels.{latest}
use Rattle.edits.specs.Moves.{Change}
use Rattle.edits.specs.Place.{Place, here, past, down, before, number, lead, up_at, around}
use Rattle.edits.proofs.Holds.{is-aside, is-around}
use Rattle.edits.proofs.Rows.{lead-length}
use Rattle.edits.proofs.Sides.{rows_before}
use Rattle.edits.proofs.Whole.{rows_at}

module _ (f : ℕ → Bool) where
  latest-on : (a b j up : ℕ) → latest f (a + b) j up ≡ latest f b (j + a) (latest f a j up)
  unfolding latest
  latest-on zero b j up = ap₂ (λ (x y : ℕ). latest f x y up) (zero-add b) (sym (add-zero j))
  latest-on (suc a) b j up =
      let z : j + suc a ≡ suc j + a = omega arith in
      let y : suc a + b ≡ suc (a + b) = omega arith in
      rw (z, y) (latest-on a b (suc j) (pick (f j) j up))

  latest-none : (n j up : ℕ) → ((i : ℕ) → i < n → f (j + i) ≡ false) → latest f n j up ≡ up
  unfolding latest
  latest-none zero j up h = refl
  latest-none (suc n) j up h =
      let z : j ≡ j + 0 = omega arith in
      ap (latest f n (suc j)) (unpicked _ _ (ap f z ∙ h 0 (omega arith)))
      ∙ latest-none n (suc j) up (λ i l. let y : suc j + i ≡ j + suc i = omega arith in ap f y ∙ h (suc i) (omega arith))

  inner-at : (p : Place) (at l n s own up : ℕ) → s ≡ at + length (before p)
      → ((i : ℕ) → i < number p → f (own + i) ≡ around s (s + l) (get_or (lead p at l n) i (plain_row 0 0 0))) → latest f (number p) own up ≡ up_at p own up
  unfolding lead before number up_at latest
  inner-at (here b) at l n s own up e h = refl
  inner-at (past t p) at l n s own up e h =
      let c = length-append (canon t) (before p) in
      let m = rows-length t at in
      latest-on (nodes t) (number p) own up
      ∙ ap (latest f (number p) (own + nodes t))
      (latest-none (nodes t) own up
      (λ i q. h i (omega arith) ∙ ap (around s (s + l)) (get_or-append (rows t at) _ (plain_row 0 0 0) i (omega arith)) ∙ is-aside s l (get_or (rows t at) i (plain_row 0 0 0)) (omega (arith, (rows_before t at i q).octets))))
      ∙ inner-at p (at + length (canon t)) l n s (own + nodes t) up (omega arith)
      (λ i q.
      let y : own + nodes t + i ≡ own + (length (rows t at) + i) = omega arith in
      ap f y ∙ h (length (rows t at) + i) (omega arith) ∙ ap (around s (s + l)) (get_or-append-add (rows t at) _ i (plain_row 0 0 0)))
  inner-at (down p b) at l n s own up e h =
      let z : own ≡ own + 0 = omega arith in
      let y : own + 1 ≡ suc own = omega arith in
      let x : 1 + number p ≡ suc (number p) = omega arith in
      rw (x, y)
      (ap (latest f (number p) (suc own)) (picked _ _ (ap f z ∙ h 0 (omega arith) ∙ is-around s l (get_or (lead (down p b) at l n) 0 (plain_row 0 0 0)) (omega arith) (omega arith)))
      ∙ rw y at (inner-at p (at + 1) l n s (own + 1) own (omega arith) (λ i q. let x : own + 1 + i ≡ own + suc i = omega arith in ap f x ∙ h (suc i) (omega arith))))

  -- S 4.1, of a change
  pub change-inner : {t t' : Tree} {k n s l d : ℕ} {g : Forest} (c : Change t t' k n s l d g)
      → ((i : ℕ) → i < k → f i ≡ around s (s + l) (row_of t i)) → latest f k 0 0 ≡ up_at c.place 0 0
  change-inner {t} {n = n} {s = s} {l = l} c h =
      rw (← c.at)
      (inner-at c.place 0 l n s 0 0 (omega (arith, c.start))
      (λ i q.
      let y : 0 + i ≡ i = omega arith in
      ap f y ∙ h i (omega (arith, c.at)) ∙ ap (around s (s + l)) (row i q)))
    where
      row : (i : ℕ) → i < number c.place → row_of t i ≡ get_or (lead c.place 0 l n) i (plain_row 0 0 0)
      row i q =
          ap (λ (x : List Row). get_or x i (plain_row 0 0 0)) (rows_at t c.place c.old c.was)
          ∙ get_or-append (lead c.place 0 (length (canons c.old)) (nodess c.old)) _ (plain_row 0 0 0) i (omega (arith, lead-length c.place 0 (length (canons c.old)) (nodess c.old)))
          ∙ ap₂ (λ (x y : ℕ). get_or (lead c.place 0 x y) i (plain_row 0 0 0)) c.long c.some
