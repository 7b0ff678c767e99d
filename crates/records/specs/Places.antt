-- Where a node's hint or data stands in a sheet, and notes for an extract.
use Rattle.std.specs.Prelude.{ℕ, ◌≤◌, ◌≡◌}
use Rattle.answers.specs.Cases.{Place}
use Rattle.answers.specs.declared.Part.{Part}
use Rattle.std.specs.Prelude.{Some}
use Rattle.lookup.specs.Noted.{Notes}
use Rattle.reader.specs.Stored.{Noteable}

-- a place is in a sheet of so many octets
pub record Inside (p : Place) (n : ℕ) : Type 0 where
  pub ordered : (x : Part) → p ≡ Some x → x.start ≤ x.end
  pub ended : (x : Part) → p ≡ Some x → x.end ≤ n

-- notes for a sheet of this length and node count, and for its extract
pub record Extractable (len count room : ℕ) : Type 0 where
  pub noteable : Noteable len room
  pub notes : Notes count room
