-- The value by its kind.
use Prim.Native.Nat.{ℕ}
use mathlib.Core.Path.{◌≡◌, ◌∙◌}
use mathlib.Core.List.{List}
use lib.Seq.{slice}
use borrow.Author.Tests.{ne_eqb}
use Rattle.std.specs.Prelude.{Some}
use Rattle.typed.specs.Typed.{Typing, single_of, double_of, whole_of, value_at}
use Rattle.typed.specs.declared.Value.TheVariants.{Raw}
use Rattle.values.specs.Kinds.{coded}
use Rattle.values.specs.declared.Kind.{Kind}
use Rattle.values.specs.declared.Kind.TheVariants as kind

module _ (k : Kind) (src : List ℕ) (s e : ℕ) (r : Typing) where
  pub kind-single : k ≡ kind.Single → r ≡ single_of (slice s e src) → r ≡ value_at (coded k) src s e
  unfolding value_at
  kind-single h p = p ∙ rw (h)

  pub kind-double : k ≡ kind.Double → r ≡ double_of (slice s e src) → r ≡ value_at (coded k) src s e
  unfolding value_at
  kind-double h p = p ∙ rw (h)

  pub kind-whole : k ≡ kind.Whole → r ≡ whole_of (slice s e src) → r ≡ value_at (coded k) src s e
  unfolding value_at
  kind-whole h p = p ∙ rw (h)

-- a kind's number that is none of 1 to 3
pub kind-else : (k : ℕ) (src : List ℕ) (s e : ℕ) (r : Typing) → (k ≡ 1 → ⊥) → (k ≡ 2 → ⊥) → (k ≡ 3 → ⊥) → r ≡ value_at (coded kind.Raw) src s e → r ≡ value_at k src s e
unfolding value_at
kind-else k src s e r a b c p = p ∙ rw (ne_eqb k 1 a, ne_eqb k 2 b, ne_eqb k 3 c)

pub kind-raw : (k : Kind) (src : List ℕ) (s e : ℕ) → k ≡ kind.Raw → Some (Raw s e) ≡ value_at (coded k) src s e
unfolding value_at
kind-raw k src s e h = rw (h)
