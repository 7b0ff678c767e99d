use mir.Syntax.{w64}
use mir.Val.{SFits}
use Rattle.etglavino_c.proofs.ValueHanded.{hand-single, hand-double, hand-whole, hand-raw, hand-unvalued}
use native.Mathlib.Omega.{arith}
use borrow.Author.Rules.{rules}
use Rattle.etglavino_c.proofs.valuing.hand_value.Goals as goal

pub returns-in-Single : goal.returns-in-Single
returns-in-Single c = search (hand-single, arith)

pub returns-in-Double : goal.returns-in-Double
returns-in-Double c = search (hand-double, arith)

pub returns-in-Whole : goal.returns-in-Whole
returns-in-Whole c =
    let h : SFits w64 c.in-Whole.x = search rules in
    hand-whole _ c.in-Ok.value c.in-Ok.is c.in-Whole.x c.in-Whole.is h

pub returns-in-Raw : goal.returns-in-Raw
returns-in-Raw c = search (hand-raw, arith)

pub returns-in-Err : goal.returns-in-Err
returns-in-Err c = search (hand-unvalued, arith)
