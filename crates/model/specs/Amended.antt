-- Rules beside those in force: which languages hold at least the same texts, and what two spellings of base-64 have in common.
use Rattle.std.specs.Prelude.{ℕ, zero, suc, ◌<◌, ◌≤◌, ◌≡◌, true, List, [], ◌∷◌, ◌++◌}
use Rattle.base.specs.Choice.{pick}
use Rattle.model.specs.Grammar.{Rules}
use Rattle.model.specs.Octets.{is_whitespace, octval, leftover, find}

-- S 3.13, 3.14: what ρ lets stand, σ lets stand, and what ρ gives a meaning has that meaning in σ
pub record Wider (ρ σ : Rules) : Type 0 where
  pub leftovers : (n : ℕ) → ρ.leftover n ≡ true → σ.leftover n ≡ true
  pub escapes : (e : ℕ) → ρ.escape e < 256 → σ.escape e ≡ ρ.escape e

-- what no request may make ambiguous: an octet that means something else after a backslash (an octal digit, "x", CR, LF) is not listed
pub record Apart (ρ : Rules) : Type 0 where
  pub octal : (e : ℕ) → octval e < 8 → 256 ≤ ρ.escape e
  pub hex : 256 ≤ ρ.escape 120
  pub cr : 256 ≤ ρ.escape 13
  pub lf : 256 ≤ ρ.escape 10

-- S 3.14, stray bits ignored: the rules before request 2, whatever the escapes are
abbrev pub ignoring : (ℕ → ℕ) → Rules
ignoring escape = record { leftover = λ n. true; escape = escape }

-- and those since
abbrev pub minding : (ℕ → ℕ) → Rules
minding escape = record { leftover = leftover; escape = escape }

-- S 3.8: the rules with this list of escapes
abbrev pub escaping : List (ℕ × ℕ) → Rules
escaping es = minding (λ e. find es e 256)

-- S 3.13: the list before request 3
abbrev pub listed : List (ℕ × ℕ)
listed = (98, 8) ∷ (116, 9) ∷ (118, 11) ∷ (110, 10) ∷ (102, 12) ∷ (114, 13) ∷ (34, 34) ∷ (39, 39) ∷ (92, 92) ∷ []

-- a text with its whitespace left out
unfoldable pub unspaced : List ℕ → List ℕ
unspaced [] = []
unspaced (b ∷ s) = pick (is_whitespace b) (unspaced s) (b ∷ unspaced s)

-- so many "="
unfoldable pub pads : ℕ → List ℕ
pads zero = []
pads (suc n) = 61 ∷ pads n

-- S 3.14, one spelling: texts between marks that differ only in whitespace and in "=" at the end
pub record Spelling (x y : List ℕ) : Type 0 where
  pub letters : List ℕ
  pub p : ℕ
  pub q : ℕ
  pub one : unspaced x ≡ letters ++ pads p
  pub other : unspaced y ≡ letters ++ pads q
