-- What records that were compared with a sheet tell those who go on by its notes.
use mathlib.Core.Path.{◌≡◌, subst}
use mathlib.Core.Bool.{Bool}
use mathlib.Core.List.{List}
use Prim.Native.Nat.{ℕ}
use native.Mathlib.Omega.{arith}
use lib.ListN.{length}
use Rattle.model.specs.Table.{records}
use Rattle.tables.proofs.Telling.{holds-readable}
use Rattle.lookup.specs.Noted.{Sheet, Owned, Owning, Readables}
use Rattle.lookup.proofs.Noting.{owned-held}
use Rattle.plan.specs.Planned.{Known, Lends}
use Rattle.records.specs.declared.Record.{Record}
use Rattle.records.specs.Numbers.{numbers}
use Rattle.records.proofs.Tables.{length-numbers}

pub recorded : (ys : List Record) → records (numbers ys) ≡ length ys
recorded ys = omega (arith, length-numbers ys)

module _ (c : List ℕ) (len : ℕ) (ys : List Record) (count : ℕ) (notes : List ℕ) (own : Bool) (o : Owned c len (numbers ys) count notes own) where
  pub owned-owning : Owning c len (numbers ys) count notes own
  owned-owning = record { tells = o.tells; held = owned-held c len (numbers ys) count notes own o }

  pub owned-readables : Readables notes count own
  owned-readables = record { read = λ y i h. holds-readable notes count (o.sheet y).tree (o.sheet y).held i h }

  pub owned-known : Known c len count (length ys) notes own
  owned-known = record { sheet = λ y. subst (λ (n : ℕ). Sheet c len count n notes) (recorded ys) (o.sheet y) }

  pub owned-lends : Lends c len count (length ys) own (numbers ys)
  owned-lends = record { recorded = recorded ys; tells = o.tells }
