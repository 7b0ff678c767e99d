-- The table as numbers: told by the new notes, it is the one that the answer speaks of.
use Prim.Native.Nat.{ℕ, ◌/◌}
use native.Mathlib.Omega.{arith}
use mathlib.Core.Path.{◌≡◌, sym, ap, ◌∙◌, subst}
use mathlib.Core.Bool.{Bool}
use mathlib.Core.List.{List}
use lib.ListN.{length}
use Rattle.model.specs.Table.{width}
use Rattle.lookup.specs.Noted.{Owned}
use Rattle.plan.specs.Asked.{changing}
use Rattle.plan.specs.Planned.{Lends}
use Rattle.plan.specs.declared.Asked.{Asked}
use Rattle.splice.specs.Rewritten.{Retellable, Retold}
use Rattle.answers.specs.Cases.{outcome}
use Rattle.answers.specs.declared.Refusal.{Refusal}
use Rattle.answers.specs.Cases.{Reading}
use Rattle.answers.specs.declared.Sizes.{Sizes}
use Rattle.std.specs.Prelude.{Ok, Err}
use Rattle.editor.specs.Given.{Giving, Gives, GivesText}

module _ (form : ℕ) (text canonical : List ℕ) (len count : ℕ) (table notes : List ℕ) (a : Asked) (own : Bool) (o : Owned canonical len table count notes own) (n : ℕ) (z : n ≡ length table / width) where
  lends : Lends canonical len count n own table
  lends = record { recorded = sym z; tells = o.tells }

  module _ (canonical' notes' : List ℕ) (r : Reading) (p : GivesText a form text canonical len count n own canonical' notes' r) where
    pub numbers-refused : (f : Refusal) → r ≡ Err f → outcome (Err f) canonical' table ≡ changing a form text canonical table len count
    unfolding Gives
    numbers-refused f e =
        let g : (t : List ℕ) → Lends canonical len count n own t → outcome (Err f) canonical' t ≡ changing a form text canonical t len count
        = subst (GivesText a form text canonical len count n own canonical' notes') e p in
        g table lends

    module _ (s : Sizes) (e : r ≡ Ok s) where
      giving : Giving (Lends canonical len count n own) (λ (t : List ℕ). changing a form text canonical t len count) canonical' n notes' count s.length s.nodes
      unfolding Gives
      giving = subst (GivesText a form text canonical len count n own canonical' notes') e p

      pub numbers-retellable : Retellable notes' (length table) count s.nodes
      numbers-retellable =
          record { tree = giving.tree; is = giving.held; few = giving.few; recorded = omega (arith, giving.recorded.0); old_recorded = omega (arith, giving.recorded.1) }

      pub numbers-accepted : (table' : List ℕ) → Retold notes' count s.nodes table table' → outcome (Ok s) canonical' table' ≡ changing a form text canonical table len count
      numbers-accepted table' f = ap (outcome (Ok s) canonical') (f.is giving.tree giving.held) ∙ giving.is table lends
