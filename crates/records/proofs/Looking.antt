-- What is known where the loop of `own_by` begins a turn.
use mathlib.Core.Path.{◌≡◌, sym, subst}
use mathlib.Core.List.{List}
use Prim.Native.Nat.{ℕ, ◌<◌, ◌-◌}
use native.Mathlib.Omega.{arith}
use lib.ListN.{length, get_or}
use Rattle.walk.specs.Events.{record_at}
use Rattle.lookup.specs.Noted.{Notes}
use Rattle.lookup.specs.Pacing.{Bounded, node_of, Turnable, Turned, Goes}
use Rattle.lookup.proofs.Pacing.{goes-start, goes-node, goes-turnable, goes_on, goes_further}
use Rattle.records.specs.declared.Record.{Record}
use Rattle.records.specs.Numbers.{nine, numbers}
use Rattle.records.specs.Told.{nil}
use Rattle.records.proofs.Tables.{nine-numbers}
use Rattle.records.proofs.Owning.{recorded}

-- notes and a state from which the records still decide whether they are the sheet's own
pub starts-so : (c : List ℕ) (len : ℕ) (ys : List Record) (n e : ℕ) (notes : List ℕ) → Bounded (length c) len (length ys) n e → Notes n (length notes) → Goes c len (numbers ys) n e notes 0
starts-so c len ys n e notes b enough = goes-start c len (numbers ys) n e notes (subst (λ (m : ℕ). Bounded (length c) len m n e) (sym (recorded ys)) b) enough

module _ (c : List ℕ) (len : ℕ) (ys : List Record) (n e : ℕ) (notes : List ℕ) (s : ℕ) (g : Goes c len (numbers ys) n e notes s) (small : s < e) where
  pub here-node : node_of s < length ys
  here-node = subst (λ (m : ℕ). node_of s < m) (recorded ys) (goes-node c len (numbers ys) n e notes s g small)

  this-one : record_at (numbers ys) (node_of s) ≡ nine (get_or ys (node_of s) nil)
  this-one = nine-numbers ys (node_of s) here-node

  pub here-turnable : (r : Record) → r ≡ get_or ys (node_of s) nil → Turnable c len (nine r) n notes s
  here-turnable r e₁ =
      subst (λ (x : Record). Turnable c len (nine x) n notes s) (sym e₁)
      (subst (λ (x : List ℕ). Turnable c len x n notes s) this-one (goes-turnable c len (numbers ys) n e notes s g small))

  module _ (r : Record) (is : r ≡ get_or ys (node_of s) nil) (notes' : List ℕ) (s' : ℕ) (t : Turned c len (nine r) n notes s notes' s') where
    turned_so : Turned c len (record_at (numbers ys) (node_of s)) n notes s notes' s'
    turned_so = subst (λ (x : List ℕ). Turned c len x n notes s notes' s') (sym this-one) (subst (λ (x : Record). Turned c len (nine x) n notes s notes' s') is t)

    pub goes_so : length notes' ≡ length notes → Goes c len (numbers ys) n e notes' s'
    goes_so l = goes_on c len (numbers ys) n e notes s g small notes' s' turned_so l

    pub less : e - s' < e - s
    less = omega (arith, small, goes_further c len (numbers ys) n e notes s g small notes' s' turned_so)
