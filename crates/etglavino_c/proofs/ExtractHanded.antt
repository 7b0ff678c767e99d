-- The answer of an extract, handed out as a number and values.
use Prim.Native.Nat.{ℕ}
use mathlib.Core.Path.{◌≡◌}
use mathlib.Core.List.{List}
use Rattle.model.specs.Answers.{sheet_tree, own_tree}
use Rattle.answers.specs.Cases.{outcome}
use Rattle.answers.specs.Cases.{Reading}
use Rattle.extracts.specs.Extracting.{extracting, extracting_own}
use Rattle.extracts.proofs.Answered.{extract-numbered, extract-unplaced}
use Rattle.etglavino_c.specs.Pointers.{outcome_of, HandsReading}

module _ (r : Reading) (canonical table : List ℕ) (n len count : ℕ) (h : HandsReading r n len count) where
  pub extract-handed : (s : List ℕ) (l : ℕ) (c t : List ℕ) → outcome r canonical table ≡ extracting s l c t → outcome_of n len count canonical table ≡ extracting s l c t
  unfolding extracting
  extract-handed s l c t e = h.is canonical table (extracting s l c t) e (extract-numbered (sheet_tree s l) c t) (extract-unplaced (sheet_tree s l) c t)

  pub own-handed : (s : List ℕ) (l : ℕ) (rows : List ℕ) (k : ℕ) (c t : List ℕ) → outcome r canonical table ≡ extracting_own s l rows k c t → outcome_of n len count canonical table ≡ extracting_own s l rows k c t
  unfolding extracting_own
  own-handed s l rows k c t e = h.is canonical table (extracting_own s l rows k c t) e (extract-numbered (own_tree s l rows k) c t) (extract-unplaced (own_tree s l rows k) c t)
