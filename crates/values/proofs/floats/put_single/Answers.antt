use Rattle.values.proofs.Laying.{put-nan-32, float-inf, float-full, float-done}
use Rattle.values.proofs.NoNan.{no_nan}
use Rattle.typed.proofs.Floats.{bits_fit}
use native.Mathlib.Omega.{arith}
use lib.Dec.{T}
use lib.Ieee.{binary32, fits}
use borrow.Author.Rules.{rules}
use Rattle.values.proofs.floats.put_single.Goals as goal

pub returns-then-x : goal.returns-then-x
returns-then-x c = search (put-nan-32, arith)

pub float_to_bits-b : goal.float_to_bits-b
float_to_bits-b c = no_nan _ c.if-x.false

pub overflow_cast-b : goal.overflow_cast-b
overflow_cast-b c = let h : T (fits binary32 c.args.x) = search rules in bits_fit _ h

pub returns-then-b-ge2139095040 : goal.returns-then-b-ge2139095040
returns-then-b-ge2139095040 c = float-inf binary32 4 _ _ c.if-b-ge2139095040.true

pub returns-then-out-lt4 : goal.returns-then-out-lt4
returns-then-out-lt4 c = float-full binary32 4 _ _ c.if-b-ge2139095040.false c.if-out-lt4.true

pub returns : goal.returns
returns c = float-done binary32 4 _ _ c.if-b-ge2139095040.false c.if-out-lt4.false _ c.put.ensures
