-- Two places in a forest, of which the first ends before the second begins.
use Rattle.edits.specs.Place.{Place, here, past, down, fill}
use Rattle.model.specs.Edit.{join}
use Rattle.model.specs.Tree.{Tree, list, Forest, nil, cons}

-- the first place is in front, and the second in what follows; both past a tree; both inside a list that the given forest follows; the
-- first inside a list, and the second in what follows that list
pub data Two : Type 0 where
  front : Place → Two
  further : Tree → Two → Two
  under : Two → Forest → Two
  parted : Place → Place → Two

-- the whole, with a forest at each place
unfoldable pub fill_two : Two → Forest → Forest → Forest
fill_two (front q) g h = join g (fill q h)
fill_two (further t w) g h = cons t (fill_two w g h)
fill_two (under w b) g h = cons (list (fill_two w g h)) b
fill_two (parted p q) g h = cons (list (fill p g)) (fill q h)

-- past a whole forest
unfoldable pub pasts : Forest → Place → Place
pasts nil p = p
pasts (cons t f) p = past t (pasts f p)

-- the first place, while a forest stands at the second
unfoldable pub first : Two → Forest → Place
first (front q) h = here (fill q h)
first (further t w) h = past t (first w h)
first (under w b) h = down (first w h) b
first (parted p q) h = down p (fill q h)

-- the second place, while a forest stands at the first
unfoldable pub second : Two → Forest → Place
second (front q) g = pasts g q
second (further t w) g = past t (second w g)
second (under w b) g = down (second w g) b
second (parted p q) g = past (list (fill p g)) q
