-- A place in a forest: where a forest may stand, with all that stands around it. And what becomes of the records around when
-- another forest comes to stand there.
use Rattle.std.specs.Prelude.{ℕ, ◌+◌, ◌-◌, max, Bool, List, [], ◌∷◌, ◌++◌, length, ltb, eqb}
use Rattle.base.specs.Choice.{pick, both}
use Rattle.model.specs.Edit.{join}
use Rattle.model.specs.Table.{Row, list_row, rows, rowss, parents, parentss}
use Rattle.model.specs.Tree.{Tree, list, Forest, cons, canon, canons, nodes, nodess, depth, depths}

-- directly before the given forest; past a tree; inside a list that the given forest follows
pub data Place : Type 0 where
  here : Forest → Place
  past : Tree → Place → Place
  down : Place → Forest → Place

-- the whole, with a forest at the place
unfoldable pub fill : Place → Forest → Forest
fill (here b) g = join g b
fill (past t p) g = cons t (fill p g)
fill (down p b) g = cons (list (fill p g)) b

-- the octets before it and after it
unfoldable pub before : Place → List ℕ
before (here b) = []
before (past t p) = canon t ++ before p
before (down p b) = 40 ∷ before p

unfoldable pub after : Place → List ℕ
after (here b) = canons b
after (past t p) = after p
after (down p b) = after p ++ 41 ∷ canons b

-- how many nodes begin before it, and how many after it
unfoldable pub number : Place → ℕ
number (here b) = 0
number (past t p) = nodes t + number p
number (down p b) = 1 + number p

unfoldable pub beyond : Place → ℕ
beyond (here b) = nodess b
beyond (past t p) = beyond p
beyond (down p b) = beyond p + nodess b

-- how many lists are around it, and how deep lists nest outside it
unfoldable pub level : Place → ℕ
level (here b) = 0
level (past t p) = level p
level (down p b) = 1 + level p

unfoldable pub outer : Place → ℕ
outer (here b) = depths b
outer (past t p) = max (depth t) (outer p)
outer (down p b) = max (1 + outer p) (depths b)

-- the rows before it, where n nodes in l octets stand at it, and the rows after it
unfoldable pub lead : Place → ℕ → ℕ → ℕ → List Row
lead (here b) at l n = []
lead (past t p) at l n = rows t at ++ lead p (at + length (canon t)) l n
lead (down p b) at l n = list_row at (at + 1 + length (before p) + l + length (after p) + 1) (1 + number p + n + beyond p) ∷ lead p (at + 1) l n

unfoldable pub trail : Place → ℕ → List Row
trail (here b) at = rowss b at
trail (past t p) at = trail p at
trail (down p b) at = trail p at ++ rowss b (at + length (after p) + 1)

-- ---- the lists around, where the first node of the whole has number `own` and the whole stands in the list `up`

-- the parents of the nodes before the place: none of them hangs on what stands there
unfoldable pub lead_ups : Place → ℕ → ℕ → List ℕ
lead_ups (here b) own up = []
lead_ups (past t p) own up = parents t own up ++ lead_ups p (own + nodes t) up
lead_ups (down p b) own up = up ∷ lead_ups p (own + 1) own

-- the list directly around it
unfoldable pub up_at : Place → ℕ → ℕ → ℕ
up_at (here b) own up = up
up_at (past t p) own up = up_at p (own + nodes t) up
up_at (down p b) own up = up_at p (own + 1) own

-- the parents of the nodes after it, where n nodes stand at it
unfoldable pub trail_ups : Place → ℕ → ℕ → ℕ → List ℕ
trail_ups (here b) own up n = parentss b (own + n) up
trail_ups (past t p) own up n = trail_ups p (own + nodes t) up n
trail_ups (down p b) own up n = trail_ups p (own + 1) own n ++ parentss b (own + 1 + number p + n + beyond p) up

-- S 15.6, parents: where n nodes from node k on give way to n' nodes, a list that begins before them keeps its number, and any other has it
-- shifted by the change in node count
abbrev pub up_moved : ℕ → ℕ → ℕ → ℕ → ℕ
up_moved k n n' up = pick (ltb up k) up (up + n' - n)

-- ---- rows, where l octets with n nodes, from octet s on, give way to l' octets with n' nodes

-- S 15.6, places move by the new length less the old: the row of a node after them; hint numbers only where there is a hint
abbrev pub moved : ℕ → ℕ → Row → Row
moved l l' r =
    record {
      kind = r.kind;
      start = r.start + l' - l;
      end = r.end + l' - l;
      count = r.count;
      hint_start = pick (eqb r.kind 1) (r.hint_start + l' - l) r.hint_start;
      hint_end = pick (eqb r.kind 1) (r.hint_end + l' - l) r.hint_end;
      data_start = r.data_start + l' - l;
      data_end = r.data_end + l' - l;
    }

-- S 15.5: the row of a list around them
abbrev pub grown : ℕ → ℕ → ℕ → ℕ → Row → Row
grown l l' n n' r =
    record {
      kind = r.kind;
      start = r.start;
      end = r.end + l' - l;
      count = r.count + n' - n;
      hint_start = r.hint_start;
      hint_end = r.hint_end;
      data_start = r.data_start;
      data_end = r.data_end + l' - l;
    }

-- S 15.5, the lists around: the row begins before octet s and ends after octet e. Strictly, so that a node that ends where an empty part
-- lies is not around it
abbrev pub around : ℕ → ℕ → Row → Bool
around s e r = both (ltb r.start s) (ltb e r.end)

-- S 15.5, earlier records: they stay, or are those of the lists around
abbrev pub kept : ℕ → ℕ → ℕ → ℕ → ℕ → Row → Row
kept s l l' n n' r = pick (around s (s + l) r) (grown l l' n n' r) r
