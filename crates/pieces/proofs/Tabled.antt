-- A state that numbers say.
use Prim.Native.Nat.{ℕ}
use mathlib.Core.Path.{◌≡◌, subst}
use mathlib.Core.List.{List}
use Rattle.answers.specs.Cases.{Reading}
use Rattle.reader.specs.Stored.{Puts}
use Rattle.pieces.specs.Coded.{state_in}
use Rattle.pieces.specs.Ending.{ended_by}
use Rattle.pieces.specs.declared.state.State.{State}

-- the same of a state that numbers say
pub puts-coded : (state sheet notes : List ℕ) (n : ℕ) (x : State) → x ≡ state_in state → (r : Reading) → Puts (ended_by x sheet n) sheet n notes r → Puts (ended_by (state_in state) sheet n) sheet n notes r
puts-coded state sheet notes n x e r p = subst (λ (y : State). Puts (ended_by y sheet n) sheet n notes r) e p
