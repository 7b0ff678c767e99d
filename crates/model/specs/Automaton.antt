-- Canonical text octet by octet, and the place of S 7.3. `keep` is applied to every number that grows; `free` leaves it as it is.
use Rattle.std.specs.Prelude.{ℕ, ◌+◌, ◌*◌, ◌-◌, max, Bool, true, false, List, [], ◌∷◌, ltb, eqb}
use Rattle.base.specs.Choice.{pick, both}
use Rattle.model.specs.Octets.{is_digit}
use Rattle.model.specs.Count.{Count, count, begin, shut}

-- what may come next; the test says whether it is in a hint
pub data Phase : Type 0 where
  -- a value or `)`; nothing where the tree is whole
  between : Phase
  -- the first digit of a length, after `[` or `]`
  sizing : Bool → Phase
  -- a digit or the colon, after digits that say n
  counting : Bool → ℕ → Phase
  -- n octets of a string
  filling : Bool → ℕ → Phase
  -- `]`
  bracket : Phase
  -- nothing: no canonical form begins so
  dead : Phase

-- with the lists that are open, the deepest so far and the nodes so far, and how many octets were taken before it died
pub record State : Type 0 where
  pub phase : Phase
  pub tally : Count
  pub taken : ℕ

abbrev pub state : Phase → Count → ℕ → State
state p c at = record { phase = p; tally = c; taken = at }

abbrev pub start : State
start = state between begin 0

-- numbers as they are
abbrev pub free : ℕ → ℕ
free n = n

-- ---- what an octet counts

abbrev pub opens : (ℕ → ℕ) → Count → Count
opens keep c = count (keep (c.opened + 1)) (max c.deepest (keep (c.opened + 1))) (keep (c.seen + 1))

abbrev pub closes : Count → Count
closes c = count (c.opened - 1) c.deepest c.seen

abbrev pub holds : (ℕ → ℕ) → Count → Count
holds keep c = count c.opened c.deepest (keep (c.seen + 1))

-- ---- a step

-- the last octet of a hint, or of a string
unfoldable pub ended : (ℕ → ℕ) → Bool → Count → ℕ → State
ended keep true c at = state bracket c at
ended keep false c at = state between (holds keep c) at

-- n octets of a string are to come
unfoldable pub coming : (ℕ → ℕ) → Bool → ℕ → Count → ℕ → State
coming keep h n c at = pick (ltb 0 n) (state (filling h n) c at) (ended keep h c at)

-- S 2.4, the canonical form octet by octet:
-- in a phase, with what was counted and taken, an octet
unfoldable pub step_at : (ℕ → ℕ) → Phase → Count → ℕ → ℕ → State
step_at keep between c at b =
    pick (shut c) (state dead c at)
    (pick (eqb b 40) (state between (opens keep c) (keep (at + 1)))
    (pick (eqb b 41) (pick (eqb c.opened 0) (state dead c at) (state between (closes c) (keep (at + 1))))
    (pick (eqb b 91) (state (sizing true) c (keep (at + 1)))
    (pick (is_digit b) (state (counting false (b - 48)) c (keep (at + 1))) (state dead c at)))))
step_at keep (sizing h) c at b = pick (is_digit b) (state (counting h (b - 48)) c (keep (at + 1))) (state dead c at)
step_at keep (counting h n) c at b =
    pick (eqb b 58) (coming keep h n c (keep (at + 1)))
    (pick (both (ltb 0 n) (is_digit b)) (state (counting h (keep (n * 10 + (b - 48)))) c (keep (at + 1))) (state dead c at))
step_at keep (filling h n) c at b = coming keep h (n - 1) c (keep (at + 1))
step_at keep bracket c at b = pick (eqb b 93) (state (sizing false) c (keep (at + 1))) (state dead c at)
step_at keep dead c at b = state dead c at

abbrev pub step : (ℕ → ℕ) → State → ℕ → State
step keep x b = step_at keep x.phase x.tally x.taken b

unfoldable pub run : (ℕ → ℕ) → State → List ℕ → State
run keep x [] = x
run keep x (b ∷ s) = run keep (step keep x b) s

-- ---- what a state says

unfoldable pub lives : Phase → Bool
lives between = true
lives (sizing h) = true
lives (counting h n) = true
lives (filling h n) = true
lives bracket = true
lives dead = false

abbrev pub alive : State → Bool
alive x = lives x.phase

unfoldable pub rests : Phase → Bool
rests between = true
rests (sizing h) = false
rests (counting h n) = false
rests (filling h n) = false
rests bracket = false
rests dead = false

-- S 7.3, the largest p for which some canonical form begins with the first p octets: those taken before it dies
unfoldable pub place : List ℕ → ℕ
place s = (run free start s).taken
