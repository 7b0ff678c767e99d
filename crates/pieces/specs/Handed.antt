-- The states that are handed back in turn (S 13.6).
use Rattle.std.specs.Prelude.{ℕ, ◌≡◌, List, [], ◌++◌, length}
use Rattle.pieces.specs.Feeding.{state_after, Piece}
use Rattle.pieces.specs.declared.state.State.{State}
use Rattle.pieces.specs.declared.state.Fed.{Fed}

-- S 13.6, the start's state and those given from it in turn, sheet and table left alone between: the octets s were fed in some number of
-- pieces, the sheet first held `first`, and the last piece left the state x and this sheet
pub data Handed (first : List ℕ) (lent : ℕ) : List ℕ → State → List ℕ → Type 0 where
  starts : {x : State} → x ≡ state_after (length first) lent [] → Handed first lent [] x first
  fed : {s piece sheet after : List ℕ} {x : State} {r : Fed} → Handed first lent s x sheet → Piece x piece sheet lent after r → Handed first lent (s ++ piece) r.state after
