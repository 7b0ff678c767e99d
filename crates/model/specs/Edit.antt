-- A node of a tree, by its number, gives way to a forest (S 8.3, 8.7, 8.8).
use Rattle.std.specs.Prelude.{ℕ, zero, suc, ◌-◌, ltb}
use Rattle.base.specs.Choice.{pick}
use Rattle.model.specs.Tree.{Tree, plain, hinted, list, Forest, nil, cons, nodes}

-- two forests, one after the other
unfoldable pub join : Forest → Forest → Forest
join nil g = g
join (cons t f) g = cons t (join f g)

abbrev pub one : Tree → Forest
one t = cons t nil

-- node k of a forest gives way to the forest that e makes of it; `within` counts from the first node inside the tree
unfoldable mutual
  pub within : (Tree → Forest) → Tree → ℕ → Tree
  within e (plain d) k = plain d
  within e (hinted h d) k = hinted h d
  within e (list f) k = list (across e f k)

  pub across : (Tree → Forest) → Forest → ℕ → Forest
  across e nil k = nil
  across e (cons t f) k = pick (ltb k (nodes t)) (elim k [ zero ↦ join (e t) f | suc n ↦ cons (within e t n) f ]) (cons t (across e f (k - nodes t)))

-- S 8.3: for node 0 it is the text's tree alone
unfoldable pub replace : Tree → ℕ → Tree → Tree
replace t zero u = u
replace t (suc k) u = within (λ (x : Tree). one u) t k

-- ---- S 8.7, 8.8: a tree put into a list as its k-th element, and a node left out of its list

-- a tree put into a forest as its k-th element, at the end where it has fewer
unfoldable pub put : Forest → ℕ → Tree → Forest
put nil k u = one u
put (cons t f) zero u = cons u (cons t f)
put (cons t f) (suc k) u = cons t (put f k u)

-- into a list; strings stay as they are, and row 9 refuses them
unfoldable pub put_in : ℕ → Tree → Tree → Tree
put_in k u (plain d) = plain d
put_in k u (hinted h d) = hinted h d
put_in k u (list f) = list (put f k u)

unfoldable pub insert : Tree → ℕ → ℕ → Tree → Tree
insert t zero k u = put_in k u t
insert t (suc n) k u = within (λ (x : Tree). one (put_in k u x)) t n

-- node 0 stays, and row 9 refuses it
unfoldable pub remove : Tree → ℕ → Tree
remove t zero = t
remove t (suc n) = within (λ (x : Tree). nil) t n
