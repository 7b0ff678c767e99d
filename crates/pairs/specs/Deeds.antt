-- What may be done to a node of a tree (S 1.6: replaced, inserted into, removed), as one notion for all three.
use Rattle.std.specs.Prelude.{ℕ, zero, suc, ◌+◌, ◌-◌}
use Rattle.model.specs.Edit.{one, replace, put_in, insert, remove}
use Rattle.model.specs.Tree.{Tree, Forest, nil, cons, nodes, nodess}

pub data Deed : Type 0 where
  -- it gives way to the tree
  to : Tree → Deed
  -- the tree comes into it as its k-th element
  with_in : ℕ → Tree → Deed
  -- it goes
  away : Deed

-- what stands in its place then
unfoldable pub makes : Deed → Tree → Forest
makes (to u) x = one u
makes (with_in k u) x = one (put_in k u x)
makes away x = nil

-- the tree afterwards
unfoldable pub done : Deed → Tree → ℕ → Tree
done (to u) t node = replace t node u
done (with_in k u) t node = insert t node k u
done away t node = remove t node

-- S 12.1, shifted by the change in node count: the number b, where x has been changed further to the front
abbrev pub shifted : ℕ → Deed → Tree → ℕ
shifted b c x = b + nodess (makes c x) - nodes x

-- how many nodes the first k elements of a list have
unfoldable pub up_to : Forest → ℕ → ℕ
up_to f zero = 0
up_to nil (suc k) = 0
up_to (cons t f) (suc k) = nodes t + up_to f k
