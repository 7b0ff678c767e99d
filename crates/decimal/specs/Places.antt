-- S 5.4: a number taken apart by powers of ten, from the largest, by comparing and subtracting.
use Rattle.std.specs.Prelude.{ℕ, ◌+◌, ◌*◌, ◌-◌, ◌/◌, ◌%◌, ◌≤◌, ◌<◌, ◌≡◌, List, [], ◌∷◌, ltb, set}
use Rattle.base.specs.Choice.{pick}
use Rattle.decimal.specs.declared.digits.Part.{Part}

-- `digit` times the power and what is left are n, and `times` the power is more than what is left
pub record Split (n power times : ℕ) (p : Part) : Type 0 where
  pub whole : p.digit * power + p.left ≡ n
  pub low : p.left < times * power
  pub few : p.digit + times ≤ 16

-- what a part holds once `much` was taken away, if it was there; the digit then counts `times` more
unfoldable pub taken : Part → ℕ → ℕ → Part
taken p times much = pick (ltb p.left much) p (record { digit = p.digit + times; left = p.left - much })

pub record Took (p : Part) (times much : ℕ) (r : Part) : Type 0 where
  pub is : r ≡ taken p times much
  pub few : r.digit ≤ p.digit + times

-- the digit of n at a power of ten was stored at a place, and `left` is left
pub record Led (n power pos : ℕ) (before after : List ℕ) (left : ℕ) : Type 0 where
  pub digit : ℕ
  pub whole : digit * power + left ≡ n
  pub low : left < power
  pub same : after ≡ set before pos (48 + digit)

-- a digit for each power, and the last one
unfoldable pub ending : List ℕ → ℕ → List ℕ
ending [] n = (48 + n) ∷ []
ending (p ∷ ps) n = (48 + n / p) ∷ ending ps (n % p)
