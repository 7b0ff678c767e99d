-- What a C entry answers: the number (S 7.1) is returned, and what is asked for goes out through pointers.
use Rattle.std.specs.Prelude.{ℕ, ◌≡◌, Bool, true, false, List, eqb}
use Rattle.std.proofs.Math.Option.{Option, none, some}
use Rattle.model.specs.Limits.{no_refusal}
use Rattle.model.specs.Answers.{Outcome, Output, Comparison, Part}
use Rattle.answers.specs.Cases.{outcome, placed}
use Rattle.answers.specs.Cases.{Reading}
use Rattle.answers.specs.Cases.{Place}

-- the number, which tells an acceptance, the place, the length and the node count, with both lent buffers
abbrev pub outcome_at : ℕ → ℕ → ℕ → ℕ → List ℕ → List ℕ → Outcome
outcome_at n p len count canonical table = record { accepted = eqb n no_refusal; number = n; place = p; octets = len; count = count; canonical = canonical; table = table }

-- with no place
abbrev pub outcome_of : ℕ → ℕ → ℕ → List ℕ → List ℕ → Outcome
outcome_of n len count canonical table = outcome_at n 0 len count canonical table

-- an answer of reading or replacing handed out, as far as its number tells an acceptance
pub record HandsPlaced (answer : Reading) (n len count p : ℕ) : Type 0 where
  pub is : (canonical table : List ℕ) (o : Outcome) → outcome answer canonical table ≡ o → o.accepted ≡ eqb o.number 0 → outcome_at n p len count canonical table ≡ o

-- of one that tells no place
pub record HandsReading (answer : Reading) (n len count : ℕ) : Type 0 where
  pub is : (canonical table : List ℕ) (o : Outcome) → outcome answer canonical table ≡ o → o.accepted ≡ eqb o.number 0 → o.place ≡ 0 → outcome_of n len count canonical table ≡ o

-- the number, which tells an acceptance, and the length, with the lent output
abbrev pub output_of : ℕ → ℕ → List ℕ → Output
output_of n len out = record { accepted = eqb n no_refusal; number = n; place = 0; octets = len; out = out }

-- 1 for yes, 0 for no
unfoldable pub flag : Bool → ℕ
flag true = 1
flag false = 0

-- the number, and yes or no
pub record ComparedOut : Type 0 where
  pub number : ℕ
  pub same : ℕ

abbrev pub compared : ℕ → ℕ → ComparedOut
compared n s = record { number = n; same = s }

unfoldable pub compared_of : Comparison → ComparedOut
compared_of c = compared c.number (flag c.yes)

-- whether a part of the sheet is shown, and where it stands; 0 and 0 where none is
pub record Shown : Type 0 where
  pub there : ℕ
  pub start : ℕ
  pub end : ℕ

abbrev pub shown : ℕ → ℕ → ℕ → Shown
shown t s e = record { there = t; start = s; end = e }

unfoldable pub shown_of : Option Part → Shown
shown_of none = shown 0 0 0
shown_of (some p) = shown 1 p.start p.end

-- a place handed out
abbrev pub HandsPlace : Place → ℕ → ℕ → ℕ → Type 0
HandsPlace place t s e = shown t s e ≡ shown_of (placed place)
