use native.Mathlib.Omega.{arith}
use Rattle.write.proofs.Forms.{good-short}
use Rattle.write.proofs.write_advanced.Goals as goal

pub write_sized-requires-2-clause-roomy : goal.write_sized-requires-2-clause-roomy
write_sized-requires-2-clause-roomy c = omega (arith, good-short _ _ c.requires)
