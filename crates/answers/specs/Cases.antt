-- Whether each case of an answer is an acceptance, and its number and values (S 14.2). They settle the case (proofs/Injective).
use Rattle.std.specs.Prelude.{ℕ, ◌≡◌, ⊤, true, List, Bool, Option, Some, None, Result, Ok, Err}
use Rattle.std.proofs.Math.Option.{Option as Maybe, none, some}
use Rattle.model.specs.Limits.{no_refusal}
use Rattle.model.specs.Answers.{Outcome, unchanged_at, Output, unwritten_at, unwritten, Comparison, uncompared_at, part}
use Rattle.answers.specs.Refusals.{number_of, place_in}
use Rattle.answers.specs.declared.refusal.Refusal.{Refusal}
use Rattle.answers.specs.declared.Sizes.{Sizes}
use Rattle.answers.specs.declared.Part.{Part}

abbrev pub Reading : Type 0
Reading = Result Sizes Refusal

abbrev pub accepted : ℕ → ℕ → Reading
accepted len count = Ok (record { length = len; nodes = count })

abbrev pub Writing : Type 0
Writing = Result ℕ Refusal

abbrev pub Comparing : Type 0
Comparing = Result Bool Refusal

abbrev pub Place : Type 0
Place = Option Part

abbrev pub place_at : ℕ → ℕ → Place
place_at start end = Some (record { start = start; end = end })

-- the answer of reading or replacing, with what both lent buffers hold afterwards
unfoldable pub outcome : Reading → List ℕ → List ℕ → Outcome
outcome (Ok s) canonical table = record { accepted = true; number = no_refusal; place = 0; octets = s.length; count = s.nodes; canonical = canonical; table = table }
outcome (Err f) canonical table = unchanged_at (number_of f) (place_in f) canonical table

-- the answer of writing, with what the lent output holds afterwards
unfoldable pub output : Writing → List ℕ → Output
output (Ok len) out = record { accepted = true; number = no_refusal; place = 0; octets = len; out = out }
output (Err f) out = unwritten_at (number_of f) (place_in f) out

-- the answer of comparing
unfoldable pub told : Comparing → Comparison
told (Ok s) = record { accepted = true; number = no_refusal; place = 0; yes = s }
told (Err f) = uncompared_at (number_of f) (place_in f)

-- the part of a sheet that is shown, if one is
unfoldable pub placed : Place → Maybe Rattle.model.specs.Answers.Part
placed (Some p) = some (part p.start p.end)
placed None = none

-- refused with a number and a place
pub record RefusesAt (n p : ℕ) (r : Reading) : Type 0 where
  pub is : (canonical table : List ℕ) → outcome r canonical table ≡ unchanged_at n p canonical table

-- with no place
abbrev pub Refuses : ℕ → Reading → Type 0
Refuses n r = RefusesAt n 0 r

pub record RefusesWriting (n : ℕ) (r : Writing) : Type 0 where
  pub is : (out : List ℕ) → output r out ≡ unwritten n out

-- what judging answers: nothing where no row applies, else the row's refusal
abbrev pub Judging : Type 0
Judging = Result ⊤ Refusal

-- refused with the row n and no place; not refused where n is 0
pub record Judges (n : ℕ) (r : Judging) : Type 0 where
  pub passes : (u : ⊤) → r ≡ Ok u → n ≡ no_refusal
  pub refuses : (f : Refusal) → r ≡ Err f → (number_of f ≡ n) × (place_in f ≡ 0)
