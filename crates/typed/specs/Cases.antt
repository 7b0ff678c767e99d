-- Whether each case of an answer is an acceptance, and its number and values (S 14.2); the place is 0, since no entry here takes a text.
use Rattle.std.specs.Prelude.{ℕ, Bool, true, false, Result, Ok, Err}
use Rattle.std.proofs.Math.Option.{Option, none, some}
use Rattle.model.specs.Limits.{no_refusal}
use Rattle.answers.specs.Refusals.{number_of, place_in}
use Rattle.answers.specs.declared.refusal.Refusal.{Refusal}
use Rattle.typed.specs.declared.Value.{Value}
use Rattle.typed.specs.declared.Line.{Line}
use Rattle.typed.specs.declared.Total.{Total}
use Rattle.typed.specs.declared.Shift.{Shift}
use Rattle.typed.specs.declared.Week.{Week}
use Rattle.typed.specs.declared.Misfit.{Misfit}

abbrev pub Valuing : Type 0
Valuing = Result Value Refusal

abbrev pub Totalling : Type 0
Totalling = Result Total Refusal

abbrev pub Lining : Type 0
Lining = Result Shift Refusal

abbrev pub Summing : Type 0
Summing = Result Week Misfit

-- the answer for a node's value
pub record Valued : Type 0 where
  pub accepted : Bool
  pub number : ℕ
  pub place : ℕ
  pub value : Option Value

abbrev pub unvalued_at : ℕ → ℕ → Valued
unvalued_at n p = record { accepted = false; number = n; place = p; value = none }

abbrev pub unvalued : ℕ → Valued
unvalued n = unvalued_at n 0

unfoldable pub valued : Valuing → Valued
valued (Ok v) = record { accepted = true; number = no_refusal; place = 0; value = some v }
valued (Err f) = unvalued_at (number_of f) (place_in f)

-- the answer for a total
pub record Totalled : Type 0 where
  pub accepted : Bool
  pub number : ℕ
  pub place : ℕ
  pub total : Option Total

abbrev pub untotalled_at : ℕ → ℕ → Totalled
untotalled_at n p = record { accepted = false; number = n; place = p; total = none }

abbrev pub untotalled : ℕ → Totalled
untotalled n = untotalled_at n 0

unfoldable pub totalled : Totalling → Totalled
totalled (Ok s) = record { accepted = true; number = no_refusal; place = 0; total = some s }
totalled (Err f) = untotalled_at (number_of f) (place_in f)

-- the answer for a node's line
pub record Lined : Type 0 where
  pub accepted : Bool
  pub number : ℕ
  pub place : ℕ
  pub line : Option Line
  pub total : Option Total

abbrev pub unlined_at : ℕ → ℕ → Lined
unlined_at n p = record { accepted = false; number = n; place = p; line = none; total = none }

abbrev pub unlined : ℕ → Lined
unlined n = unlined_at n 0

unfoldable pub lined : Lining → Lined
lined (Ok s) = record { accepted = true; number = no_refusal; place = 0; line = some s.line; total = some s.total }
lined (Err f) = unlined_at (number_of f) (place_in f)

-- the answer for a list of lines; with 12 the node that is no line, else 0
pub record Summed : Type 0 where
  pub accepted : Bool
  pub number : ℕ
  pub place : ℕ
  pub lines : ℕ
  pub total : Option Total
  pub bad : ℕ

abbrev pub unsummed_at : ℕ → ℕ → ℕ → Summed
unsummed_at n p k = record { accepted = false; number = n; place = p; lines = 0; total = none; bad = k }

abbrev pub unsummed : ℕ → ℕ → Summed
unsummed n k = unsummed_at n 0 k

unfoldable pub summed : Summing → Summed
summed (Ok w) = record { accepted = true; number = no_refusal; place = 0; lines = w.lines; total = some w.total; bad = 0 }
summed (Err m) = unsummed_at (number_of m.refusal) (place_in m.refusal) m.node
