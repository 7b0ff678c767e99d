-- The records that notes tell.
use Rattle.std.specs.Prelude.{ℕ, zero, suc, ◌≤◌, ◌<◌, max, List, get_or, set, ltb}
use Rattle.base.specs.Choice.{pick}
use Rattle.model.specs.Table.{Row}
use Rattle.tables.specs.Told.{row_at, parent_part, Readable}
use Rattle.records.specs.declared.Record.{Record}

-- a record of zeros
abbrev pub nil : Record
nil = record { kind = 0; start = 0; end = 0; nodes = 0; hint_start = 0; hint_end = 0; data_start = 0; data_end = 0; parent = 0 }

-- the record with the numbers of a row, and of the list around its node
abbrev pub record_of : Row → ℕ → Record
record_of r up =
    record {
      kind = r.kind;
      start = r.start;
      end = r.end;
      nodes = r.count;
      hint_start = r.hint_start;
      hint_end = r.hint_end;
      data_start = r.data_start;
      data_end = r.data_end;
      parent = up;
    }

-- the parent that a note tells
abbrev pub parent_at : List ℕ → ℕ → ℕ
parent_at notes i = parent_part (get_or notes i 0)

-- record i of count nodes: the one that its note tells, and zeros past the count
unfoldable pub told_at : List ℕ → ℕ → ℕ → Record
told_at notes count i = pick (ltb i count) (record_of (row_at notes i) (parent_at notes i)) nil

-- the first n records become these
unfoldable pub told_records : List ℕ → ℕ → ℕ → List Record → List Record
told_records notes count zero xs = xs
told_records notes count (suc n) xs = set (told_records notes count n xs) n (told_at notes count n)

-- the note of a node can be read
pub record Tellable (notes : List ℕ) (count i : ℕ) : Type 0 where
  pub read : i < count → Readable notes i

-- the records of a sheet and of the one before it are lent, and the notes of its nodes can be read
pub record Tells (notes : List ℕ) (count old room : ℕ) : Type 0 where
  pub lent : max old count ≤ room
  pub read : (i : ℕ) → i < count → Readable notes i
