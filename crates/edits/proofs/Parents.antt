-- The lists directly around nodes, when something else comes to stand at a place: those of the nodes before it stay, and those of the
-- nodes after it stay or are shifted by the change in node count.
use Prim.Native.Nat.{ℕ, ◌+◌, ◌-◌, ◌≤◌, ◌<◌}
use native.Mathlib.Omega.{arith}
use native.Mathlib.Nat.{zero-add}
use mathlib.Core.Path.{◌≡◌, refl, sym, ap, ap₂, ◌∙◌}
use mathlib.Core.List.{List, [], ◌∷◌, ◌++◌, append_assoc, append-nil, map}
use lib.ListN.{length, take, drop, length-append}
use lib.Seq.{take_at, drop_at}
use borrow.Author.Tests.{lt-ltb, le-ltb}
use Rattle.base.proofs.Cases.{by_le, picked, unpicked}
use Rattle.model.specs.Edit.{join, one}
use Rattle.model.specs.Table.{parents, parentss}
use Rattle.model.specs.Tree.{Tree, plain, hinted, list, Forest, nil, cons, nodes, nodess}
use Rattle.walk.proofs.Tabled.{parents-length, parentss-length}
use Rattle.edits.specs.Place.{Place, here, past, down, fill, number, beyond, lead_ups, up_at, trail_ups, up_moved}
use Rattle.edits.proofs.Join.{nodess-join}
use Rattle.edits.proofs.Fill.{fill-nodes}
use Rattle.edits.proofs.Find.{nodes-pos}
use Rattle.edits.proofs.Rows.{map-append}

pub parentss-one : (t : Tree) (own up : ℕ) → parentss (one t) own up ≡ parents t own up
unfolding parentss
parentss-one t own up = append-nil (parents t own up)

parentss-join : (f g : Forest) (own up : ℕ) → parentss (join f g) own up ≡ parentss f own up ++ parentss g (own + nodess f) up
unfolding join nodess parentss
parentss-join nil g own up = let e : own + 0 ≡ own = omega arith in rw e
parentss-join (cons t f) g own up =
    let e : own + (nodes t + nodess f) ≡ own + nodes t + nodess f = omega arith in
    rw (parentss-join f g, append_assoc, e)

-- ---- what stands at a place, and what stands around it
pub fill-parents : (p : Place) (g : Forest) (own up : ℕ)
    → parentss (fill p g) own up ≡ lead_ups p own up ++ (parentss g (own + number p) (up_at p own up) ++ trail_ups p own up (nodess g))
unfolding fill parentss number lead_ups up_at trail_ups nodess
fill-parents (here b) g own up = let e : own + 0 ≡ own = omega arith in rw e (parentss-join g b own up)
fill-parents (past t p) g own up =
    let e : own + (nodes t + number p) ≡ own + nodes t + number p = omega arith in
    rw (fill-parents p g, append_assoc, e)
fill-parents (down p b) g own up =
    let e : own + (1 + number p) ≡ own + 1 + number p = omega arith in
    let n : own + (1 + nodess (fill p g)) ≡ own + 1 + number p + nodess g + beyond p = omega (arith, fill-nodes p g) in
    rw (e, n, fill-parents p g (own + 1) own) (simp append_assoc)

pub lead-ups-length : (p : Place) (own up : ℕ) → length (lead_ups p own up) ≡ number p
unfolding lead_ups number
lead-ups-length (here b) own up = refl
lead-ups-length (past t p) own up = omega (arith, length-append (parents t own up) (lead_ups p (own + nodes t) up), parents-length t own up, lead-ups-length p (own + nodes t) up)
lead-ups-length (down p b) own up = omega (arith, lead-ups-length p (own + 1) own)

-- ---- a tree's parents, where its nodes have other numbers
pub up-stays : (k n n' up : ℕ) → up < k → up ≡ up_moved k n n' up
up-stays k n n' up h = sym (picked _ _ (lt-ltb up k h))

pub up-shifts : (k n n' up : ℕ) → k ≤ up → up + n' - n ≡ up_moved k n n' up
up-shifts k n n' up h = sym (unpicked _ _ (le-ltb up k h))

module _ (k n n' : ℕ) where
  abbrev f : ℕ → ℕ
  f up = up_moved k n n' up

  mutual
    unfolding parents

    pub parents-moved : (t : Tree) (own up up' : ℕ) → k ≤ own → up' ≡ f up → parents t (own + n') up' ≡ map f (parents t (own + n) up)
    parents-moved (plain d) own up up' h e = ap (◌∷ []) e
    parents-moved (hinted x d) own up up' h e = ap (◌∷ []) e
    parents-moved (list g) own up up' h e =
        let x : own + n' + 1 ≡ own + 1 + n' = omega arith in
        let y : own + n + 1 ≡ own + 1 + n = omega arith in
        let z : own + n + n' - n ≡ own + n' = omega arith in
        ap₂ ◌∷◌ e (rw (x, y) (parentss-moved g (own + 1) (own + n) (own + n') (omega arith) (sym z ∙ up-shifts k n n' (own + n) (omega arith))))

    pub parentss-moved : (g : Forest) (own up up' : ℕ) → k ≤ own → up' ≡ f up → parentss g (own + n') up' ≡ map f (parentss g (own + n) up)
    parentss-moved nil own up up' h e = refl
    parentss-moved (cons t g) own up up' h e =
        let x : own + n' + nodes t ≡ own + nodes t + n' = omega arith in
        let y : own + n + nodes t ≡ own + nodes t + n = omega arith in
        rw (x, y) (ap₂ ◌++◌ (parents-moved t own up up' h e) (parentss-moved g (own + nodes t) up up' (omega arith) e) ∙ sym (map-append f (parents t (own + n) up) _))

  -- ---- the nodes after a place
  trail-ups-moved : (p : Place) (own up : ℕ) → k ≡ own + number p → up ≡ f up → trail_ups p own up n' ≡ map f (trail_ups p own up n)
  unfolding trail_ups number
  trail-ups-moved (here b) own up i e = parentss-moved b own up up (omega arith) e
  trail-ups-moved (past t p) own up i e = trail-ups-moved p (own + nodes t) up (omega arith) e
  trail-ups-moved (down p b) own up i e =
      let x : own + 1 + number p + n' + beyond p ≡ own + 1 + number p + beyond p + n' = omega arith in
      let y : own + 1 + number p + n + beyond p ≡ own + 1 + number p + beyond p + n = omega arith in
      rw (x, y)
      (ap₂ ◌++◌ (trail-ups-moved p (own + 1) own (omega arith) (up-stays k n n' own (omega arith))) (parentss-moved b (own + 1 + number p + beyond p) up up (omega arith) e)
      ∙ sym (map-append f (trail_ups p (own + 1) own n) _))

-- ---- a whole tree

tail : Forest → Forest
tail nil = nil
tail (cons t f) = f

-- what stands beside a tree is nothing
alone : (g b : Forest) (x t : Tree) → one t ≡ join g (cons x b) → nodess g ≡ 0
unfolding join nodess tail
alone nil b x t e = refl
alone (cons y g) b x t e =
    let z : nodess nil ≡ nodess (join g (cons x b)) = ap (λ (f : Forest). nodess (tail f)) e in
    absurd (omega (arith, nodess-join g (cons x b), nodes-pos x))

map_same : (f : ℕ → ℕ) (l : List ℕ) → ((x : ℕ) → f x ≡ x) → map f l ≡ l
map_same f [] h = refl
map_same f (x ∷ l) h = ap₂ ◌∷◌ (h x) (map_same f l h)

module _ (t t' : Tree) (g g' : Forest) where
  abbrev moving : Place → ℕ → ℕ
  moving p up = up_moved (number p) (nodess g) (nodess g') up

  trail-whole : (p : Place) → one t ≡ fill p g → one t' ≡ fill p g' → trail_ups p 0 0 (nodess g') ≡ map (moving p) (trail_ups p 0 0 (nodess g))
  unfolding fill trail_ups number parentss
  trail-whole (here nil) e e' = refl
  trail-whole (here (cons x b)) e e' =
      let z = alone g b x t e in
      let z' = alone g' b x t' e' in
      let s : nodess g' ≡ nodess g = omega arith in
      rw s (sym (map_same (moving (here (cons x b))) _ (λ up. by_le 0 up (λ h. sym (up-shifts 0 (nodess g) (nodess g') up h) ∙ omega arith) (λ h. absurd (omega arith)))))
  trail-whole (past x p) e e' =
      trail-ups-moved (number (past x p)) (nodess g) (nodess g') (past x p) 0 0 (omega arith) (up-stays (number (past x p)) (nodess g) (nodess g') 0 (omega (arith, nodes-pos x)))
  trail-whole (down p b) e e' =
      trail-ups-moved (number (down p b)) (nodess g) (nodess g') (down p b) 0 0 (omega arith) (up-stays (number (down p b)) (nodess g) (nodess g') 0 (omega arith))

module _ (t : Tree) (p : Place) (g : Forest) (e : one t ≡ fill p g) where
  pub parents-at : parents t 0 0 ≡ lead_ups p 0 0 ++ (parentss g (number p) (up_at p 0 0) ++ trail_ups p 0 0 (nodess g))
  parents-at = rw zero-add at (sym (parentss-one t 0 0) ∙ ap (λ (f : Forest). parentss f 0 0) e ∙ fill-parents p g 0 0)

  pub parents-before : take (number p) (parents t 0 0) ≡ lead_ups p 0 0
  parents-before = ap (take (number p)) parents-at ∙ take_at (lead_ups p 0 0) _ (number p) (lead-ups-length p 0 0)

  pub parents-after : drop (number p + nodess g) (parents t 0 0) ≡ trail_ups p 0 0 (nodess g)
  parents-after =
      ap (drop (number p + nodess g)) (parents-at ∙ sym (append_assoc (lead_ups p 0 0) (parentss g (number p) (up_at p 0 0)) _))
      ∙ drop_at (lead_ups p 0 0 ++ parentss g (number p) (up_at p 0 0)) _ (number p + nodess g)
      (length-append (lead_ups p 0 0) (parentss g (number p) (up_at p 0 0)) ∙ ap₂ ◌+◌ (lead-ups-length p 0 0) (parentss-length g (number p) (up_at p 0 0)))

-- the law of moving, for parents
pub parents-change : (t t' : Tree) (p : Place) (g g' : Forest) → one t ≡ fill p g → one t' ≡ fill p g'
    → parents t' 0 0 ≡ take (number p) (parents t 0 0) ++ (parentss g' (number p) (up_at p 0 0) ++ map (up_moved (number p) (nodess g) (nodess g')) (drop (number p + nodess g) (parents t 0 0)))
parents-change t t' p g g' e e' =
    rw (parents-before t p g e, parents-after t p g e) (parents-at t' p g' e' ∙ ap (λ (l : List ℕ). lead_ups p 0 0 ++ (parentss g' (number p) (up_at p 0 0) ++ l)) (trail-whole t t' g g' p e e'))
