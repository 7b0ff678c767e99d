-- The spellings of octets in form 3 (S 5.2), and what is found of them on the way.
use Rattle.std.specs.Prelude.{ℕ, ◌-◌, ◌/◌, ◌%◌, ◌≤◌, ◌<◌, ◌≡◌, true, false, List, [], ◌∷◌, ◌++◌, length, take, drop, get_or}
use Rattle.base.specs.Choice.{among, every}
use Rattle.model.specs.Write.{is_token, hex_digit}
use Rattle.scan.specs.Runs.{Under, Reach}

-- the octets from one place to another
abbrev pub cut : List ℕ → ℕ → ℕ → List ℕ
cut src start end = take (end - start) (drop start src)

-- octets with the same mark before and after them
abbrev pub framed : ℕ → List ℕ → List ℕ
framed m d = m ∷ d ++ m ∷ []

-- the two digits of an octet
abbrev pub hex_pair : ℕ → List ℕ
hex_pair b = hex_digit (b / 16) ∷ hex_digit (b % 16) ∷ []

-- the octets from one place to another stand for themselves between quotation marks
abbrev pub Standing : List ℕ → ℕ → ℕ → Type 0
Standing src start r = Reach src start r 4 r

-- as far as the octets make a token, which is all of them where they are one
pub record TokenEnd (src : List ℕ) (start end r : ℕ) : Type 0 where
  pub from : start ≤ r
  pub within : r ≤ end
  pub standing : Standing src start r
  pub made : end ≤ r → is_token (cut src start end) ≡ true
  pub unmade : r < end → is_token (cut src start end) ≡ false

-- octets that are printable, of which the first, if any, is due a backslash
pub record Escaping (src : List ℕ) (from end : ℕ) : Type 0 where
  pub order : from ≤ end
  pub long : end ≤ length src
  pub printed : every (among 32 126) (cut src from end) ≡ true
  pub due : from < end → Under 4 (get_or src from 0)

-- printable octets, of which those up to `from` stand for themselves, and the next one does not
pub record Quotable (src : List ℕ) (start from end : ℕ) : Type 0 where
  pub standing : Standing src start from
  pub rest : Escaping src from end
