use native.Mathlib.Omega.{arith}
use Rattle.sheets.proofs.Packing.{body-short, body-span}
use Rattle.sheets.proofs.places.body.Goals as goal

-- src/places.rt:37:17
-- src/places.rt:38:12
-- src/places.rt:39:9
pub returns-then-n-src : goal.returns-then-n-src
returns-then-n-src c = search (body-short, arith)

-- src/places.rt:41:17
-- src/places.rt:41:5
-- src/places.rt:33:1
pub returns : goal.returns
returns c = search (body-span, arith)
