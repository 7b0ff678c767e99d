-- A loop over lexemes with one counter: what it counts, and when it is done.
use Rattle.std.specs.Prelude.{ℕ, ◌+◌, ◌-◌, max, Bool, true, false, List, [], ◌∷◌, ltb, eqb}
use Rattle.std.proofs.Math.Option.{Option, none, some}
use Rattle.base.specs.Choice.{pick, chain}
use Rattle.model.specs.Lexemes.{Lexeme, opening, closing, atom, hinting}
use Rattle.model.specs.Tree.{Tree, nodes, depth}

pub record Count : Type 0 where
  pub opened : ℕ
  pub deepest : ℕ
  pub seen : ℕ

abbrev pub count : ℕ → ℕ → ℕ → Count
count o d n = record { opened = o; deepest = d; seen = n }

abbrev pub begin : Count
begin = record { opened = 0; deepest = 0; seen = 0 }

-- the tree is whole where no list is open and a node was seen
unfoldable pub shut_by : ℕ → ℕ → Bool
shut_by opened seen = pick (ltb 0 opened) false (ltb 0 seen)

abbrev pub shut : Count → Bool
shut c = shut_by c.opened c.seen

unfoldable pub step : Lexeme → Count → Option Count
step opening c = some (record { opened = c.opened + 1; deepest = max c.deepest (c.opened + 1); seen = c.seen + 1 })
step closing c = pick (eqb c.opened 0) none (some (record { opened = c.opened - 1; deepest = c.deepest; seen = c.seen }))
step (atom d) c = some (record { opened = c.opened; deepest = c.deepest; seen = c.seen + 1 })
step (hinting h d) c = some (record { opened = c.opened; deepest = c.deepest; seen = c.seen + 1 })

unfoldable pub walk : List Lexeme → Count → Option Count
walk [] c = pick (shut c) (some c) none
walk (l ∷ ls) c = elim (shut c) [ true ↦ none | false ↦ chain (step l c) (λ x. walk ls x) ]

-- what the loop is to have counted
unfoldable pub counts : Tree → Option Count
counts t = some (record { opened = 0; deepest = depth t; seen = nodes t })
