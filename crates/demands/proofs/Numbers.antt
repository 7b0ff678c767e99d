-- No entry refuses with number 0: an answer that means what a definition gives, and is a refusal, has the number of a row.
use Prim.Native.Nat.{ℕ, zero, suc, ◌<◌}
use native.Mathlib.Omega.{arith}
use mathlib.Core.Path.{◌≡◌, sym, ap, ◌∙◌}
use mathlib.Core.Bool.{false}
use mathlib.Core.List.{List}
use lib.Dec.{eqb}
use Rattle.std.specs.Prelude.{Err}
use Rattle.model.specs.Answers.{Outcome, reading, replacing, Output, writing, Comparison, comparing}
use Rattle.model.specs.Corrections.{inserting, removing}
use Rattle.model.proofs.Numbered.{reading-numbered, replacing-numbered, inserting-numbered, removing-numbered, writing-numbered, comparing-numbered}
use Rattle.answers.specs.Cases.{outcome, output, told}
use Rattle.answers.specs.Refusals.{number_of}
use Rattle.answers.specs.declared.refusal.Refusal.{Refusal}

over : (n : ℕ) → false ≡ eqb n 0 → 0 < n
over zero e = let z : ◌≡◌ {A = ℕ} 0 1 = cc in absurd (omega arith)
over (suc n) e = omega arith

module _ (f : Refusal) where
  pub refusing : (c t : List ℕ) (o : Outcome) → o.accepted ≡ eqb o.number 0 → outcome (Err f) c t ≡ o → 0 < number_of f
  unfolding outcome
  refusing c t o n e = over (number_of f) (ap (λ (o : Outcome). o.accepted) e ∙ n ∙ sym (ap (λ (o : Outcome). eqb o.number 0) e))

  pub read-over : (form : ℕ) (source canonical table c t : List ℕ) → outcome (Err f) c t ≡ reading form source canonical table → 0 < number_of f
  read-over form source canonical table c t e = refusing c t (reading form source canonical table) (reading-numbered form source canonical table) e

  pub replace-over : (form : ℕ) (text canonical table : List ℕ) (len count node : ℕ) (c t : List ℕ) → outcome (Err f) c t ≡ replacing form text canonical table len count node → 0 < number_of f
  replace-over form text canonical table len count node c t e =
      refusing c t (replacing form text canonical table len count node) (replacing-numbered form text canonical table len count node) e

  pub insert-over : (form : ℕ) (text canonical table : List ℕ) (len count node k : ℕ) (c t : List ℕ)
      → outcome (Err f) c t ≡ inserting form text canonical table len count node k → 0 < number_of f
  insert-over form text canonical table len count node k c t e =
      refusing c t (inserting form text canonical table len count node k) (inserting-numbered form text canonical table len count node k) e

  pub remove-over : (canonical table : List ℕ) (len count node : ℕ) (c t : List ℕ) → outcome (Err f) c t ≡ removing canonical table len count node → 0 < number_of f
  remove-over canonical table len count node c t e = refusing c t (removing canonical table len count node) (removing-numbered canonical table len count node) e

  pub write-over : (form : ℕ) (canonical : List ℕ) (len : ℕ) (out o : List ℕ) → output (Err f) o ≡ writing form canonical len out → 0 < number_of f
  unfolding output
  write-over form canonical len out o e =
      over (number_of f) (ap (λ (o : Output). o.accepted) e ∙ writing-numbered form canonical len out ∙ sym (ap (λ (o : Output). eqb o.number 0) e))

  pub compare-over : (a : List ℕ) (a_length : ℕ) (b : List ℕ) (b_length : ℕ) (x : List ℕ) → told (Err f) ≡ comparing a a_length b b_length x → 0 < number_of f
  unfolding told
  compare-over a a_length b b_length x e =
      over (number_of f) (ap (λ (o : Comparison). o.accepted) e ∙ comparing-numbered a a_length b b_length x ∙ sym (ap (λ (o : Comparison). eqb o.number 0) e))
