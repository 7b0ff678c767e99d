use mir.Syntax.{w64}
use mir.Val.{SFits}
use Rattle.values.proofs.Laying.{put-single, put-double, put_whole, put-raw}
use native.Mathlib.Omega.{arith}
use borrow.Author.Rules.{rules}
use Rattle.values.proofs.put_value.Goals as goal

pub returns-in-Single : goal.returns-in-Single
returns-in-Single c = search (put-single, arith)

pub returns-in-Double : goal.returns-in-Double
returns-in-Double c = search (put-double, arith)

pub returns-in-Raw : goal.returns-in-Raw
returns-in-Raw c = search (put-raw, arith)

pub returns-in-Whole : goal.returns-in-Whole
returns-in-Whole c =
    let h : SFits w64 c.in-Whole.x = search rules in
    put_whole c.args.src.now c.args.out.now _ _ c.args.value c.in-Whole.x c.in-Whole.is h c.put_whole.ensures
