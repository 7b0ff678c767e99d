-- Two things done to one sheet, computed: in either order the same, and how far that holds.
use Prim.Native.Nat.{ℕ}
use native.Mathlib.Omega.{arith}
use mathlib.Core.Path.{◌≡◌, refl, sym, ap, ◌∙◌}
use mathlib.Core.List.{[], ◌∷◌}
use Rattle.model.specs.Edit.{join, within, replace, put, put_in, insert, remove}
use Rattle.model.specs.Node.{node_at, node_in, node_among}
use Rattle.model.specs.Tree.{Tree, plain, list, nil, cons, nodes}

-- a string of one octet
abbrev s : ℕ → Tree
s b = plain (b ∷ [])

-- (1:a (1:b) 1:c): nodes 0 to 4
sheet : Tree
sheet = list (cons (s 97) (cons (list (cons (s 98) nil)) (cons (s 99) nil)))

-- node 2, of two nodes, gives way to x, and node 4 to y: node 4 is node 3 where it comes second
corrected : replace (replace sheet 4 (s 121)) 2 (s 120) ≡ list (cons (s 97) (cons (s 120) (cons (s 121) nil)))
unfolding sheet replace within join nodes
corrected = refl

corrected-too : replace (replace sheet 2 (s 120)) 3 (s 121)
    ≡ list (cons (s 97) (cons (s 120) (cons (s 121) nil)))
unfolding sheet replace within join nodes
corrected-too = refl

-- two insertions at the same place of one list: the later one comes first, so the order tells
inserted : insert (insert sheet 0 1 (s 120)) 0 1 (s 121)
    ≡ list (cons (s 97) (cons (s 121) (cons (s 120) (cons (list (cons (s 98) nil)) (cons (s 99) nil)))))
unfolding sheet insert put_in put
inserted = refl

inserted-too : insert (insert sheet 0 1 (s 121)) 0 1 (s 120)
    ≡ list (cons (s 97) (cons (s 120) (cons (s 121) (cons (list (cons (s 98) nil)) (cons (s 99) nil)))))
unfolding sheet insert put_in put
inserted-too = refl

order-tells : insert (insert sheet 0 1 (s 120)) 0 1 (s 121) ≡ insert (insert sheet 0 1 (s 121)) 0 1 (s 120) → ⊥
order-tells e = let z : ◌≡◌ {A = ℕ} 121 120 = cc (sym inserted ∙ e ∙ inserted-too) in omega arith

-- an element removed and another inserted after it in the same list: the place counts elements, and one is gone
removed-first : insert (remove sheet 1) 0 1 (s 120) ≡ list (cons (list (cons (s 98) nil)) (cons (s 120) (cons (s 99) nil)))
unfolding sheet insert put_in put remove within join nodes
removed-first = refl

removed-second : remove (insert sheet 0 1 (s 120)) 1 ≡ list (cons (s 120) (cons (list (cons (s 98) nil)) (cons (s 99) nil)))
unfolding sheet insert put_in put remove within join nodes
removed-second = refl

place-tells : insert (remove sheet 1) 0 1 (s 120) ≡ remove (insert sheet 0 1 (s 120)) 1 → ⊥
unfolding nodes node_at node_in node_among
place-tells e = let z : ◌≡◌ {A = ℕ} 2 1 = ap (λ (t : Tree). nodes (node_at t 1)) (sym removed-first ∙ e ∙ removed-second) in omega arith

-- with one less it is the same
removed-less : insert (remove sheet 1) 0 0 (s 120) ≡ remove (insert sheet 0 1 (s 120)) 1
unfolding sheet insert put_in put remove within join nodes
removed-less = refl

-- node 3 is inside node 2: what is done to it first is gone with it
inside : replace (replace sheet 3 (s 121)) 2 (s 120) ≡ list (cons (s 97) (cons (s 120) (cons (s 99) nil)))
unfolding sheet replace within join nodes
inside = refl

-- in the other order node 3 is another (`corrected-too`), so that the two differ
inside-tells : replace (replace sheet 3 (s 121)) 2 (s 120) ≡ replace (replace sheet 2 (s 120)) 3 (s 121) → ⊥
inside-tells e = let z : ◌≡◌ {A = ℕ} 99 121 = cc (sym inside ∙ e ∙ corrected-too) in omega arith
