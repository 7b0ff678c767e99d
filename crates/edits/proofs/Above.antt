-- The list directly around a node, after a change: of nodes before the place, of those that came to stand there, of those after it.
use Prim.Native.Nat.{ℕ, zero, suc, ◌+◌, ◌-◌, ◌≤◌, ◌<◌}
use native.Mathlib.Omega.{arith}
use native.Mathlib.Nat.{add-zero}
use mathlib.Core.Path.{◌≡◌, refl, sym, ap, ap₂, ◌∙◌}
use mathlib.Core.List.{List, ◌++◌, map}
use lib.ListN.{length, take, drop, get_or, length-drop}
use lib.Seq.{get_or-take, get_or-drop, length-take-le}
use Rattle.base.proofs.Cases.{by_le}
use Rattle.model.specs.Table.{parents, parentss, parent_of}
use Rattle.model.specs.Tree.{Tree, plain, hinted, list, Forest, nil, cons, nodes, nodess}
use Rattle.walk.proofs.Tabled.{parents-length, parentss-length}
use Rattle.edits.specs.Moves.{Change}
use Rattle.edits.specs.Place.{up_at, up_moved}
use Rattle.edits.proofs.Changed.{change-moves, change-back}
use Rattle.edits.proofs.Moved.{in-first, in-second, in-third, get_or-map-in}
use Rattle.edits.proofs.Parents.{parents-change, parentss-moved, up-stays, up-shifts}

-- ---- a tree's own nodes, numbered from k on: but for the first, their parents are its own
pub inner_up : (u : Tree) (k up i : ℕ) → 0 < i → i < nodes u → get_or (parents u k up) i 0 ≡ k + parent_of u i
unfolding parents nodes
inner_up (plain d) k up i p h = absurd (omega arith)
inner_up (hinted x d) k up i p h = absurd (omega arith)
inner_up (list f) k up zero p h = absurd (omega arith)
inner_up (list f) k up (suc i) p h =
    let a : k + 1 ≡ 1 + k = omega arith in
    let z : 0 + k - 0 ≡ k = omega arith in
    let m = parentss-moved 0 0 k f 1 0 k (omega arith) (sym z ∙ up-shifts 0 0 k 0 (omega arith)) in
    ap (λ (q : ℕ). get_or (parentss f q k) i 0) a
    ∙ ap (λ (x : List ℕ). get_or x i 0) m
    ∙ get_or-map-in (up_moved 0 0 k) (parentss f (1 + 0) 0) i 0 0 (omega (arith, parentss-length f (1 + 0) 0))
    ∙ sym (up-shifts 0 0 k (get_or (parentss f (1 + 0) 0) i 0) (omega arith))
    ∙ omega arith

-- a tree's first
pub root-up : (t : Tree) (own up : ℕ) → get_or (parents t own up) 0 0 ≡ up
unfolding parents
root-up (plain d) own up = refl
root-up (hinted x d) own up = refl
root-up (list f) own up = refl

-- the first of some trees
first-up : (f : Forest) (own up : ℕ) → 0 < nodess f → get_or (parentss f own up) 0 0 ≡ up
unfolding parents nodes
first-up nil own up h = absurd (omega arith)
first-up (cons (plain d) f) own up h = refl
first-up (cons (hinted x d) f) own up h = refl
first-up (cons (list g) f) own up h = refl

module _ {t t' : Tree} {k n s l d : ℕ} {g : Forest} (c : Change t t' k n s l d g) where
  abbrev up : ℕ
  up = up_at c.place 0 0

  pub change-ups : parents t' 0 0 ≡ take k (parents t 0 0) ++ (parentss g k up ++ map (up_moved k n (nodess g)) (drop (k + n) (parents t 0 0)))
  change-ups = rw (c.at, c.some) at (parents-change t t' c.place c.old g c.was c.is)

  within : k + n ≤ nodes t
  within = (change-moves c).nodes_in

  first-length : length (take k (parents t 0 0)) ≡ k
  first-length = length-take-le k (parents t 0 0) (omega (arith, within, parents-length t 0 0))

  -- S 15.6: the parent in an earlier record stays
  pub change-up-before : (j : ℕ) → j < k → parent_of t' j ≡ parent_of t j
  change-up-before j h =
      ap (λ (x : List ℕ). get_or x j 0) change-ups
      ∙ in-first (take k (parents t 0 0)) (parentss g k up) _ 0 j (omega (arith, first-length))
      ∙ get_or-take k (parents t 0 0) j 0 h

  -- what came to stand there
  pub change-up-new : (i : ℕ) → i < nodess g → parent_of t' (k + i) ≡ get_or (parentss g k up) i 0
  change-up-new i h =
      ap₂ (λ (x : List ℕ) (q : ℕ). get_or x (q + i) 0) change-ups (sym first-length)
      ∙ in-second (take k (parents t 0 0)) (parentss g k up) _ 0 i (omega (arith, parentss-length g k up))

  -- later records: the number stays where the list begins before the place, and is shifted by the change in node count elsewhere
  pub change-up-later : (j j' : ℕ) → k + n ≤ j → j < nodes t → j' + nodes t ≡ j + nodes t' → parent_of t' j' ≡ up_moved k n (nodess g) (parent_of t j)
  change-up-later j j' h i e =
      let x : j' ≡ length (take k (parents t 0 0)) + length (parentss g k up) + (j - (k + n)) =
      omega (arith, first-length, parentss-length g k up, (change-moves c).count) in
      let y : k + n + (j - (k + n)) ≡ j = omega arith in
      ap₂ (λ (z : List ℕ) (q : ℕ). get_or z q 0) change-ups x
      ∙ in-third (take k (parents t 0 0)) (parentss g k up) _ 0 (j - (k + n))
      ∙ get_or-map-in (up_moved k n (nodess g)) (drop (k + n) (parents t 0 0)) (j - (k + n)) 0 0 (omega (arith, length-drop (k + n) (parents t 0 0), parents-length t 0 0))
      ∙ ap (up_moved k n (nodess g)) (get_or-drop (k + n) (parents t 0 0) (j - (k + n)) 0 ∙ ap (λ (q : ℕ). parent_of t q) y)

-- the list around what stood at the place
pub change-up-at : {t t' : Tree} {k n s l d : ℕ} {g : Forest} (c : Change t t' k n s l d g) → 0 < n → parent_of t k ≡ up_at c.place 0 0
change-up-at {t} {k = k} c h =
    ap (parent_of t) (sym (add-zero k)) ∙ change-up-new (change-back c) 0 (omega (arith, c.some)) ∙ first-up c.old k (up_at c.place 0 0) (omega (arith, c.some))

-- a later node's parent that is shifted is not shifted past 0
pub change-up-fits : {t t' : Tree} {k n s l d : ℕ} {g : Forest} (c : Change t t' k n s l d g) (j j' : ℕ)
    → k + n ≤ j → j < nodes t → j' + nodes t ≡ j + nodes t' → k ≤ parent_of t j → n ≤ parent_of t j + nodess g
change-up-fits {t} {t'} {k} {n} {g = g} c j j' h i e a =
    let m = change-moves c in
    let up = sym (up-shifts k n (nodess g) (parent_of t j) a) in
    let there = change-up-later c j j' h i e in
    let back = rw c.some at (change-up-later (change-back c) j' j (omega (arith, m.count)) (omega (arith, m.count)) (sym e)) in
    by_le n (parent_of t j + nodess g)
    (λ y. y)
    (λ y.
    by_le k (parent_of t' j')
    (λ z. absurd (omega (arith, up, there, back, up-shifts k (nodess g) n (parent_of t' j') z)))
    (λ z. absurd (omega (arith, up, there, back, up-stays k (nodess g) n (parent_of t' j') z))))
