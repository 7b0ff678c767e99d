use mathlib.Core.Path.{sym, ap, ◌∙◌}
use mathlib.Core.Bool.{Bool, ◌&&◌}
use lib.Dec.{eqb}
use Rattle.tables.proofs.Alike.{alike}
use Rattle.tables.proofs.rows.same_row.Goals as goal

pub returns-then-eq : goal.returns-then-eq
returns-then-eq c = sym (alike c.args.one c.args.up c.args.other c.args.over ∙ ap (λ (t : Bool). t && eqb c.args.up c.args.over) (sym c.eq.ensures ∙ c.if-eq.true))

pub returns-else-eq : goal.returns-else-eq
returns-else-eq c = c.if-eq.false ∙ sym (alike c.args.one c.args.up c.args.other c.args.over ∙ ap (λ (t : Bool). t && eqb c.args.up c.args.over) (sym c.eq.ensures ∙ c.if-eq.false))
