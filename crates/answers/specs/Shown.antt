-- What a slice that is returned shows, and where it stands: a block of memory, and an offset in it.
use Rattle.std.specs.Prelude.{ℕ, ◌+◌, ◌≡◌, List}
use Rattle.std.proofs.Math.Option.{Option, none, some}
use Rattle.std.specs.Borrow.{Bor}
use Rattle.model.specs.Answers.{Part}

-- S 1.5, 8.5, what is shown is no copy: in the sheet where a part of it is shown, else where the other stands
unfoldable pub shown_at : Option Part → ℕ × ℕ → ℕ × ℕ → ℕ × ℕ
shown_at none sheet other = other
shown_at (some p) sheet other = (sheet.0, p.start + sheet.1)

-- these octets, there
pub record Shows (r : Bor (List ℕ)) (octets : List ℕ) (at : ℕ × ℕ) : Type 0 where
  pub holds : r.now ≡ octets
  pub stands : r.ref_ptr ≡ at
