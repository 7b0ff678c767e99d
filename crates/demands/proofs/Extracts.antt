-- No extract is refused with number 0.
use Prim.Native.Nat.{ℕ, ◌<◌}
use mathlib.Core.Path.{◌≡◌}
use mathlib.Core.List.{List}
use Rattle.std.specs.Prelude.{Err}
use Rattle.model.specs.Answers.{sheet_tree, own_tree}
use Rattle.answers.specs.Cases.{outcome}
use Rattle.answers.specs.Refusals.{number_of}
use Rattle.answers.specs.declared.refusal.Refusal.{Refusal}
use Rattle.extracts.specs.Extracting.{extracting, extracting_own}
use Rattle.extracts.proofs.Answered.{extract-numbered}
use Rattle.demands.proofs.Numbers.{refusing}

module _ (f : Refusal) (sheet : List ℕ) (len : ℕ) (canonical table c t : List ℕ) where
  pub extract-over : outcome (Err f) c t ≡ extracting sheet len canonical table → 0 < number_of f
  unfolding extracting
  extract-over e = refusing f c t (extracting sheet len canonical table) (extract-numbered (sheet_tree sheet len) canonical table) e

  pub extract-own-over : (rows : List ℕ) (count : ℕ) → outcome (Err f) c t ≡ extracting_own sheet len rows count canonical table → 0 < number_of f
  unfolding extracting_own
  extract-own-over rows count e = refusing f c t (extracting_own sheet len rows count canonical table) (extract-numbered (own_tree sheet len rows count) canonical table) e
