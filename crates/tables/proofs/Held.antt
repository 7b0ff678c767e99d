-- The notes of a text are its tree's.
use Prim.Native.Nat.{ℕ, ◌≤◌}
use native.Mathlib.Omega.{arith}
use mathlib.Core.Path.{refl, ap, ◌∙◌}
use mathlib.Core.List.{List}
use lib.ListN.{length, take}
use lib.Seq.{take_at}
use Rattle.base.proofs.Stores.{sets-all}
use Rattle.model.specs.Limits.{max_source}
use Rattle.model.specs.Tree.{nodes}
use Rattle.model.proofs.Exact.{canon-sound}
use Rattle.walk.specs.Extent.{Measured}
use Rattle.sheets.specs.Notes.{noted, Notable, Noted}
use Rattle.tables.specs.Told.{Holds}
use Rattle.sheets.proofs.Keeping.{noted-length}

pub note-holds : (src before after : List ℕ) (r : Measured) → Noted src before after r → length src ≤ max_source → (g : Notable src (length before)) → Holds after (nodes g.tree) g.tree
note-holds src before after r v short g =
    record {
      counted = refl;
      kept = ap (take (nodes g.tree)) (v.kept g ∙ sets-all before (noted g.tree) (omega (arith, noted-length g.tree, g.fits)))
          ∙ take_at (noted g.tree) _ (nodes g.tree) (noted-length g.tree);
      short = omega (arith, ap length (canon-sound src g.tree g.is));
    }
