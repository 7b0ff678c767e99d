-- Sheets written back to back, a run of them (S 12.2): where the first ends, and all of them one after another. A sheet here is a
-- tree's canonical form of any size and depth: no limit has a say in where it ends.
use Rattle.std.specs.Prelude.{ℕ, zero, suc, List, [], ◌∷◌, length, take, drop}
use Rattle.base.specs.Choice.{pick, is_none}
use Rattle.model.specs.Decode.{decode₁}
use Rattle.model.specs.Tree.{Forest, nil, cons, canon}

-- how many octets at the front, at most so many, are one canonical form; 0 where none are. No canonical form begins another
-- (S 2.4), so that there is one such number at most: `first-is`, `first-begins`, `first-none` say so
unfoldable pub first_up_to : ℕ → List ℕ → ℕ
first_up_to zero run = 0
first_up_to (suc n) run = pick (is_none (decode₁ (take (suc n) run))) (first_up_to n run) (suc n)

unfoldable pub first_sheet : List ℕ → ℕ
first_sheet run = first_up_to (length run) run

-- the sheets of a run from the front, and what is left where none begins
pub record Parted : Type 0 where
  pub sheets : List (List ℕ)
  pub rest : List ℕ

abbrev pub parted : List (List ℕ) → List ℕ → Parted
parted ds r = record { sheets = ds; rest = r }

abbrev pub after : List ℕ → Parted → Parted
after d p = parted (d ∷ p.sheets) p.rest

-- one sheet after another; the first number bounds how many there are
unfoldable pub part_up_to : ℕ → List ℕ → Parted
part_up_to zero run = parted [] run
part_up_to (suc f) run = elim (first_sheet run) [ zero ↦ parted [] run | suc n ↦ after (take (suc n) run) (part_up_to f (drop (suc n) run)) ]

unfoldable pub part_run : List ℕ → Parted
part_run run = part_up_to (length run) run

-- the canonical forms of trees, each by itself; written back to back they are `canons`
unfoldable pub forms : Forest → List (List ℕ)
forms nil = []
forms (cons t f) = canon t ∷ forms f
