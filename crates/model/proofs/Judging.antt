-- Answers by a list of checks.
use Prim.Native.Nat.{ℕ, zero, suc, ◌<◌}
use native.Mathlib.Omega.{arith}
use mathlib.Core.Path.{◌≡◌}
use mathlib.Core.Bool.{Bool, true, false}
use mathlib.Core.List.{List, ◌∷◌}
use Rattle.base.proofs.Cases.{picked, unpicked}
use Rattle.model.specs.Answers.{Check, when, verdict, judged}

module _ {A : Type 0} (cs : List Check) (accepted : A) (refused : ℕ → A) where
  pub judged-accepted : verdict cs ≡ 0 → judged cs accepted refused ≡ accepted
  unfolding judged
  judged-accepted e = rw (e, judged)

  pub judged-refused : (n : ℕ) → verdict cs ≡ n → 0 < n → judged cs accepted refused ≡ refused n
  unfolding judged
  judged-refused zero e h = absurd (omega arith)
  judged-refused (suc n) e h = rw (e, judged)

  -- what holds of the acceptance and of every refusal holds of the answer
  pub judged-holds : (P : A → Type 0) → P accepted → ((n : ℕ) → P (refused (suc n))) → P (judged cs accepted refused)
  unfolding judged
  judged-holds P given others = by-verdict (verdict cs)
    where
      by-verdict : (v : ℕ) → P (elim v [ zero ↦ accepted | suc n ↦ refused (suc n) ])
      by-verdict zero = given
      by-verdict (suc n) = others n

-- a check that applies, and one that does not
pub verdict-here : (n : ℕ) (t : Bool) (cs : List Check) → t ≡ true → verdict (when n t ∷ cs) ≡ n
unfolding verdict
verdict-here n t cs e = picked _ _ e

pub verdict-past : (n : ℕ) (t : Bool) (cs : List Check) → t ≡ false → verdict (when n t ∷ cs) ≡ verdict cs
unfolding verdict
verdict-past n t cs e = unpicked _ _ e
