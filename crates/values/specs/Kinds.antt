-- The number of a kind, by which the definitions tell it.
use Rattle.std.specs.Prelude.{ℕ}
use Rattle.values.specs.declared.Kind.{Kind}
use Rattle.values.specs.declared.Kind.TheVariants.{Raw, Single, Double, Whole}

abbrev pub coded : Kind → ℕ
coded Raw = 0
coded Single = 1
coded Double = 2
coded Whole = 3
