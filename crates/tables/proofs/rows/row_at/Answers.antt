use mathlib.Core.Path.{refl}
use Rattle.tables.proofs.Alike.{row-taken}
use Rattle.tables.proofs.rows.row_at.Goals as goal

pub returns : goal.returns
returns c = row-taken _ _ _ refl refl refl refl refl refl refl refl
