-- The lists around a node are the earlier nodes that count it among theirs; and they alone decide whether a tree that fits
-- gets too deep when the node is replaced.
use Prim.Native.Nat.{ℕ, suc, ◌+◌, ◌≤◌, ◌<◌}
use native.Mathlib.Omega.{arith}
use native.Mathlib.Nat.{add-zero, zero-add}
use mathlib.Core.Path.{◌≡◌, refl, sym, ap, ap₂, ◌∙◌}
use mathlib.Core.List.{List, [], ◌∷◌, ◌++◌}
use lib.ListN.{length, take, get_or}
use lib.Seq.{take_at}
use lib.Dec.{ltb}
use borrow.Author.Tests.{lt-ltb, le-ltb}
use Rattle.base.specs.Choice.{pick}
use Rattle.base.proofs.Cases.{picked, unpicked}
use Rattle.model.specs.Edit.{one, replace}
use Rattle.model.specs.Table.{Row, plain_row, rows}
use Rattle.model.specs.Tree.{Tree, canon, nodes, nodess, depth, canons}
use Rattle.walk.proofs.Tabled.{rows-length}
use Rattle.edits.specs.Levels.{holders}
use Rattle.edits.specs.Place.{number, past, Place, here, down, level, lead, beyond}
use Rattle.edits.proofs.Find.{nodes-pos}
use Rattle.edits.proofs.Rows.{lead-length}
use Rattle.edits.proofs.Sides.{rows_before}
use Rattle.edits.proofs.Changed.{change-deep}
use Rattle.edits.proofs.Gives.{gives-way}
use Rattle.edits.proofs.Whole.{nodess-one, depths-one, rows_at, locate, replaced-at}

-- ---- holders

holders-append : (a b : List Row) (i k : ℕ) → holders (a ++ b) i k ≡ holders a i k + holders b (i + length a) k
unfolding holders
holders-append [] b i k = ap (λ (n : ℕ). holders b n k) (sym (add-zero i)) ∙ sym (zero-add (holders b (i + 0) k))
holders-append (r ∷ a) b i k =
    let z : i + suc (length a) ≡ suc i + length a = omega arith in
    rw z (omega (arith, holders-append a b (suc i) k))

-- none, where each ends by node k
holders-none : (a : List Row) (i k : ℕ) → ((j : ℕ) → j < length a → i + j + (get_or a j (plain_row 0 0 0)).count ≤ k) → holders a i k ≡ 0
unfolding holders
holders-none [] i k f = refl
holders-none (r ∷ a) i k f =
    let x : pick {A = ℕ} (ltb k (i + r.count)) 1 0 ≡ 0 = unpicked _ _ (le-ltb k (i + r.count) (omega (arith, f 0 (omega arith)))) in
    omega (arith, x, holders-none a (suc i) k (λ j h. omega (arith, f (suc j) (omega arith))))

-- of the rows before a place, those of the lists around it
lead-holders : (p : Place) (at l n i : ℕ) → 0 < n → holders (lead p at l n) i (i + number p) ≡ level p
unfolding holders lead number level
lead-holders (here b) at l n i h = refl
lead-holders (past t p) at l n i h =
    let m = rows-length t at in
    let x : i + (nodes t + number p) ≡ i + length (rows t at) + number p = omega arith in
    holders-append (rows t at) (lead p (at + length (canon t)) l n) i (i + (nodes t + number p))
    ∙ ap₂ (λ (a b : ℕ). a + b)
    (holders-none (rows t at) i (i + (nodes t + number p)) (λ j g. omega (arith, (rows_before t at j (omega arith)).nodes)))
    (ap (holders (lead p (at + length (canon t)) l n) (i + length (rows t at))) x ∙ lead-holders p (at + length (canon t)) l n (i + length (rows t at)) h)
    ∙ zero-add (level p)
lead-holders (down p b) at l n i h =
    let x : i + (1 + number p) ≡ suc i + number p = omega arith in
    ap₂ (λ (a b : ℕ). a + b) (picked _ _ (lt-ltb (i + (1 + number p)) (i + (1 + number p + n + beyond p)) (omega arith))) (ap (holders (lead p (at + 1) l n) (suc i)) x ∙ lead-holders p (at + 1) l n (suc i) h)

module _ (t : Tree) (k : ℕ) (h : k < nodes t) where
  abbrev place : Place
  place = (locate t k h).place

  front : take k (rows t 0) ≡ lead place 0 (length (canons (one (locate t k h).node))) (nodess (one (locate t k h).node))
  front =
      let a = locate t k h in
      let l = length (canons (one a.node)) in
      let n = nodess (one a.node) in
      ap (take k) (rows_at t place (one a.node) a.is) ∙ take_at (lead place 0 l n) _ k (lead-length place 0 l n ∙ a.num)

  -- S 15.5: the lists around are all that hold the entry, at any depth
  pub level-holders : holders (take k (rows t 0)) 0 k ≡ level place
  level-holders =
      let a = locate t k h in
      ap₂ (λ (x : List Row) (n : ℕ). holders x 0 n) front (sym a.num ∙ sym (zero-add (number place)))
      ∙ lead-holders place 0 (length (canons (one a.node))) (nodess (one a.node)) 0 (omega (arith, nodess-one a.node, nodes-pos a.node))

  -- a tree of at most m deep, with the node replaced, is deeper only where the node's place and the text are
  pub replace-deep : (m : ℕ) → depth t ≤ m → (u : Tree) → ltb m (depth (replace t k u)) ≡ ltb m (level place + depth u)
  replace-deep m l u = change-deep (gives-way t k h (replace t k u) (one u) (replaced-at t k h u)) m l ∙ rw depths-one
