-- No canonical form is another tree's, or begins one.
use Prim.Native.Nat.{ℕ, ◌≤◌}
use native.Mathlib.Omega.{arith}
use mathlib.Core.Path.{◌≡◌, refl, sym, ap, ap₂, ◌∙◌}
use mathlib.Core.List.{List, [], ◌∷◌, ◌++◌, append_assoc, append-nil}
use lib.ListN.{get_or}
use Rattle.base.proofs.Cases.{among-true}
use Rattle.model.specs.Strings.{got, verbatim_of}
use Rattle.model.specs.Tree.{Tree, plain, hinted, list, Forest, nil, cons, verbatim, canon, canons}
use Rattle.model.proofs.Strict.{Led, led}

verb-inj : (a b k l : List ℕ) → verbatim a ++ k ≡ verbatim b ++ l → (a ≡ b) × (k ≡ l)
verb-inj a b k l e = let p : got a k ≡ got b l = sym (led a k).reads ∙ ap verbatim_of e ∙ (led b l).reads in (cc, cc)

-- ---- the first octet tells the kind of a tree
abbrev lead : List ℕ → ℕ
lead l = get_or l 0 0

verb-lead : (d k : List ℕ) → (48 ≤ lead (verbatim d ++ k)) × (lead (verbatim d ++ k) ≤ 57)
verb-lead d k = let l : Led d k = led d k in rw l.is (among-true 48 57 l.first l.digital)

pub tree-lead : (t : Tree) (k : List ℕ) → lead (canon t ++ k) ≡ 41 → ⊥
unfolding canon
tree-lead (plain d) k e = omega (arith, verb-lead d k)
tree-lead (hinted h d) k e = omega arith
tree-lead (list f) k e = omega arith

mutual
  unfolding canon

  pub tree-inj : (t u : Tree) (k l : List ℕ) → canon t ++ k ≡ canon u ++ l → (t ≡ u) × (k ≡ l)
  tree-inj (plain d) (plain d') k l e = let w : (d ≡ d') × (k ≡ l) = verb-inj d d' k l e in (ap plain w.0, w.1)
  tree-inj (plain d) (hinted h' d') k l e = absurd (omega (arith, verb-lead d k, ap lead e))
  tree-inj (plain d) (list f') k l e = absurd (omega (arith, verb-lead d k, ap lead e))
  tree-inj (hinted h d) (plain d') k l e = absurd (omega (arith, verb-lead d' l, ap lead e))
  tree-inj (hinted h d) (hinted h' d') k l e =
      let e' : (91 ∷ (verbatim h ++ (93 ∷ (verbatim d ++ k)))) ≡ (91 ∷ (verbatim h' ++ (93 ∷ (verbatim d' ++ l)))) = simp append_assoc at e in
      let w : (h ≡ h') × ((93 ∷ (verbatim d ++ k)) ≡ (93 ∷ (verbatim d' ++ l))) = verb-inj h h' _ _ (cc) in
      let v : (d ≡ d') × (k ≡ l) = verb-inj d d' k l (cc) in
      (ap₂ hinted w.0 v.0, v.1)
  tree-inj (hinted h d) (list f') k l e = absurd (omega (arith, ap lead e))
  tree-inj (list f) (plain d') k l e = absurd (omega (arith, verb-lead d' l, ap lead e))
  tree-inj (list f) (hinted h' d') k l e = absurd (omega (arith, ap lead e))
  tree-inj (list f) (list f') k l e =
      let e' : (40 ∷ (canons f ++ (41 ∷ k))) ≡ (40 ∷ (canons f' ++ (41 ∷ l))) = simp append_assoc at e in
      let w : (f ≡ f') × (k ≡ l) = forest-inj f f' k l (cc) in
      (ap list w.0, w.1)

  pub forest-inj : (f g : Forest) (k l : List ℕ) → canons f ++ (41 ∷ k) ≡ canons g ++ (41 ∷ l) → (f ≡ g) × (k ≡ l)
  forest-inj nil nil k l e = (refl, cc)
  forest-inj nil (cons u g) k l e = absurd (tree-lead u (canons g ++ (41 ∷ l)) (ap lead (sym (e ∙ append_assoc (canon u) (canons g) (41 ∷ l)))))
  forest-inj (cons t f) nil k l e = absurd (tree-lead t (canons f ++ (41 ∷ k)) (ap lead (sym (append_assoc (canon t) (canons f) (41 ∷ k)) ∙ e)))
  forest-inj (cons t f) (cons u g) k l e =
      let w : (t ≡ u) × (canons f ++ (41 ∷ k) ≡ canons g ++ (41 ∷ l)) = tree-inj t u _ _ (simp append_assoc at e) in
      let v : (f ≡ g) × (k ≡ l) = forest-inj f g k l w.1 in
      (ap₂ cons w.0 v.0, v.1)

pub canon-inj : (t u : Tree) → canon t ≡ canon u → t ≡ u
canon-inj t u e = (tree-inj t u [] [] (ap (λ (x : List ℕ). x ++ []) e)).0

pub prefix-free : (t u : Tree) (k : List ℕ) → canon t ++ k ≡ canon u → (t ≡ u) × (k ≡ [])
prefix-free t u k e = tree-inj t u k [] (e ∙ sym (append-nil (canon u)))
