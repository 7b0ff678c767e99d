-- A running state as ten numbers, for callers in other languages; any numbers are allowed.
use Rattle.std.specs.Prelude.{ℕ, Bool, false, not, List, [], ◌∷◌, get_or, eqb}
use Rattle.base.specs.Choice.{pick}
use Rattle.pieces.specs.declared.state.State.{State}
use Rattle.pieces.specs.declared.track.Phase.{Phase}
use Rattle.pieces.specs.declared.track.Phase.TheVariants.{Between, Sizing, Counting, Filling, Bracket, Dead}

abbrev pub bit : Bool → ℕ
bit t = pick t 1 0

-- a phase by its number from 0; whatever is none is dead
unfoldable pub phase_in : ℕ → Bool → ℕ → Phase
phase_in kind h n =
    pick (eqb kind 0) Between
    (pick (eqb kind 1) (Sizing h)
    (pick (eqb kind 2) (Counting h n)
    (pick (eqb kind 3) (Filling h n)
    (pick (eqb kind 4) Bracket Dead))))

unfoldable pub kind_of : Phase → ℕ
kind_of Between = 0
kind_of (Sizing h) = 1
kind_of (Counting h n) = 2
kind_of (Filling h n) = 3
kind_of Bracket = 4
kind_of Dead = 5

unfoldable pub hint_of : Phase → Bool
hint_of Between = false
hint_of (Sizing h) = h
hint_of (Counting h n) = h
hint_of (Filling h n) = h
hint_of Bracket = false
hint_of Dead = false

unfoldable pub number_of : Phase → ℕ
number_of Between = 0
number_of (Sizing h) = 0
number_of (Counting h n) = n
number_of (Filling h n) = n
number_of Bracket = 0
number_of Dead = 0

-- the state that numbers say, and the numbers of a state
abbrev pub state_in : List ℕ → State
state_in s =
    record {
      track = record { phase = phase_in (get_or s 0 0) (not (eqb (get_or s 1 0) 0)) (get_or s 2 0); opened = get_or s 3 0; deepest = get_or s 4 0; seen = get_or s 5 0; taken = get_or s 6 0 };
      fed = get_or s 7 0;
      room = get_or s 8 0;
      lent = get_or s 9 0;
    }

unfoldable pub state_numbers : State → List ℕ
state_numbers x =
    kind_of x.track.phase
    ∷ bit (hint_of x.track.phase)
    ∷ number_of x.track.phase
    ∷ x.track.opened
    ∷ x.track.deepest
    ∷ x.track.seen
    ∷ x.track.taken
    ∷ x.fed
    ∷ x.room
    ∷ x.lent
    ∷ []
