use mathlib.Core.Path.{refl}
use Rattle.lookup.proofs.Pacing.{turn-none}
use Rattle.lookup.proofs.turns.turn.Goals as goal

pub returns-in_default : goal.returns-in_default
returns-in_default c = turn-none _ _ _ _ _ _ c.requires c.in_default.ensures

pub returns-then-row-eq0 : goal.returns-then-row-eq0
returns-then-row-eq0 c = c.passed.ensures.on _ (c.in-Some.ensures.yes _ refl)

pub returns-in_default-other_claim : goal.returns-in_default-other_claim
returns-in_default-other_claim c = turn-none _ _ _ _ _ _ c.requires c.in_default-other_claim.ensures

pub returns : goal.returns
returns c = c.passed-2.ensures.on _ (c.in-Some-other_claim.ensures.yes _ refl)
