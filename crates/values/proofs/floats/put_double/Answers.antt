use Rattle.values.proofs.Laying.{put-nan-64, float-inf, float-full, float-done}
use Rattle.values.proofs.NoNan.{no_nan}
use native.Mathlib.Omega.{arith}
use lib.Ieee.{binary64}
use Rattle.values.proofs.floats.put_double.Goals as goal

pub returns-then-x : goal.returns-then-x
returns-then-x c = search (put-nan-64, arith)

pub float_to_bits-b : goal.float_to_bits-b
float_to_bits-b c = no_nan _ c.if-x.false

pub returns-then-b-ge9218868437227405312 : goal.returns-then-b-ge9218868437227405312
returns-then-b-ge9218868437227405312 c = float-inf binary64 8 _ _ c.if-b-ge9218868437227405312.true

pub returns-then-out-lt8 : goal.returns-then-out-lt8
returns-then-out-lt8 c = float-full binary64 8 _ _ c.if-b-ge9218868437227405312.false c.if-out-lt8.true

pub returns : goal.returns
returns c = float-done binary64 8 _ _ c.if-b-ge9218868437227405312.false c.if-out-lt8.false _ c.put.ensures
