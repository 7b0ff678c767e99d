use Rattle.pieces.proofs.Following.{Follows}
use Rattle.pieces.proofs.state.follow.Given as goal

abbrev pub invariant-loop-octet : goal.invariant-loop-octet
invariant-loop-octet l = Follows l.initial.track l.text l.track l.octet-index
