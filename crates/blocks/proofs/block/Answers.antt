use Rattle.blocks.proofs.Copies.{block-done}
use native.Mathlib.Omega.{arith}
use Rattle.blocks.proofs.block.Goals as goal

pub returns : goal.returns
returns c = search (block-done, arith)
