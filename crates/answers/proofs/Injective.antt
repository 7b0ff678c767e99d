-- An answer's meaning settles the answer: two answers that mean the same are the same, so that an acceptance and a refusal never are.
use Prim.Native.Nat.{ℕ}
use native.Mathlib.Omega.{arith}
use mathlib.Core.Path.{◌≡◌, refl, sym, ap, ap₂, ◌∙◌}
use mathlib.Core.Bool.{Bool, true, false}
use mathlib.Core.Option.{Option, none, some}
use mathlib.Core.List.{List}
use lib.Dec.{eqb}
use Rattle.std.specs.Prelude.{Result, Ok, Err, Some, None}
use Rattle.base.specs.Choice.{pick}
use Rattle.model.specs.Answers.{Outcome, Output, Comparison}
use Rattle.answers.specs.Cases.{Reading, Writing, Comparing, Place, outcome, output, told, placed}
use Rattle.answers.specs.Refusals.{number_of, place_in}
use Rattle.answers.specs.declared.refusal.Refusal.{Refusal}
use Rattle.answers.specs.declared.refusal.Refusal.TheVariants.{Form, SourceSize, Syntax, Depth, Nodes, Size, NotOwn, NoNode, NoPlace, Damaged, NotTyped, NotLine}
use Rattle.answers.specs.declared.Part.{Part}
use Rattle.answers.specs.declared.Sizes.{Sizes}

apart : true ≡ false → ⊥
apart e = let z : ◌≡◌ {A = ℕ} 0 1 = cc in omega arith

-- ---- the refusal that a number and a place tell
abbrev refusal_by : ℕ → ℕ → Refusal
refusal_by n p =
    pick (eqb n 1) Form
    (pick (eqb n 2) SourceSize
    (pick (eqb n 3) (Syntax p)
    (pick (eqb n 4) Depth
    (pick (eqb n 5) Nodes
    (pick (eqb n 6) Size
    (pick (eqb n 7) NotOwn
    (pick (eqb n 8) NoNode (pick (eqb n 9) NoPlace (pick (eqb n 10) Damaged (pick (eqb n 11) NotTyped NotLine))))))))))

told_by : (f : Refusal) → refusal_by (number_of f) (place_in f) ≡ f
told_by Form = refl
told_by SourceSize = refl
told_by (Syntax p) = refl
told_by Depth = refl
told_by Nodes = refl
told_by Size = refl
told_by NotOwn = refl
told_by NoNode = refl
told_by NoPlace = refl
told_by Damaged = refl
told_by NotTyped = refl
told_by NotLine = refl

pub refusal-injective : (f g : Refusal) → number_of f ≡ number_of g → place_in f ≡ place_in g → f ≡ g
refusal-injective f g e p = sym (told_by f) ∙ ap₂ refusal_by e p ∙ told_by g

-- a refusal but for that of a text that is not in its form's language tells no place
pub placeless : (f : Refusal) → (number_of f ≡ 3 → ⊥) → place_in f ≡ 0
placeless Form h = refl
placeless SourceSize h = refl
placeless (Syntax p) h = absurd (h refl)
placeless Depth h = refl
placeless Nodes h = refl
placeless Size h = refl
placeless NotOwn h = refl
placeless NoNode h = refl
placeless NoPlace h = refl
placeless Damaged h = refl
placeless NotTyped h = refl
placeless NotLine h = refl

-- ---- reading and replacing, with both lent buffers
module _ (c d t u : List ℕ) where
  pub outcome-injective : (r s : Reading) → outcome r c t ≡ outcome s d u → r ≡ s
  unfolding outcome
  outcome-injective (Ok l) (Ok m) e = ap₂ (λ (l n : ℕ). Ok (record { length = l; nodes = n })) (ap (λ (o : Outcome). o.octets) e) (ap (λ (o : Outcome). o.count) e)
  outcome-injective (Ok l) (Err g) e = absurd (apart (ap (λ (o : Outcome). o.accepted) e))
  outcome-injective (Err f) (Ok m) e = absurd (apart (sym (ap (λ (o : Outcome). o.accepted) e)))
  outcome-injective (Err f) (Err g) e = ap (λ (f : Refusal). Err f) (refusal-injective f g (ap (λ (o : Outcome). o.number) e) (ap (λ (o : Outcome). o.place) e))

  pub outcome-lent : (r s : Reading) → outcome r c t ≡ outcome s d u → (c ≡ d) × (t ≡ u)
  unfolding outcome
  outcome-lent (Ok l) (Ok m) e = (ap (λ (o : Outcome). o.canonical) e, ap (λ (o : Outcome). o.table) e)
  outcome-lent (Ok l) (Err g) e = (ap (λ (o : Outcome). o.canonical) e, ap (λ (o : Outcome). o.table) e)
  outcome-lent (Err f) (Ok m) e = (ap (λ (o : Outcome). o.canonical) e, ap (λ (o : Outcome). o.table) e)
  outcome-lent (Err f) (Err g) e = (ap (λ (o : Outcome). o.canonical) e, ap (λ (o : Outcome). o.table) e)

-- ---- writing, with the lent output
module _ (c d : List ℕ) where
  pub output-injective : (r s : Writing) → output r c ≡ output s d → r ≡ s
  unfolding output
  output-injective (Ok l) (Ok m) e = ap (λ (l : ℕ). Ok l) (ap (λ (o : Output). o.octets) e)
  output-injective (Ok l) (Err g) e = absurd (apart (ap (λ (o : Output). o.accepted) e))
  output-injective (Err f) (Ok m) e = absurd (apart (sym (ap (λ (o : Output). o.accepted) e)))
  output-injective (Err f) (Err g) e = ap (λ (f : Refusal). Err f) (refusal-injective f g (ap (λ (o : Output). o.number) e) (ap (λ (o : Output). o.place) e))

  pub output-lent : (r s : Writing) → output r c ≡ output s d → c ≡ d
  unfolding output
  output-lent (Ok l) (Ok m) e = ap (λ (o : Output). o.out) e
  output-lent (Ok l) (Err g) e = ap (λ (o : Output). o.out) e
  output-lent (Err f) (Ok m) e = ap (λ (o : Output). o.out) e
  output-lent (Err f) (Err g) e = ap (λ (o : Output). o.out) e

-- ---- comparing
pub told-injective : (r s : Comparing) → told r ≡ told s → r ≡ s
unfolding told
told-injective (Ok a) (Ok b) e = ap (λ (b : Bool). Ok b) (ap (λ (o : Comparison). o.yes) e)
told-injective (Ok a) (Err g) e = absurd (apart (ap (λ (o : Comparison). o.accepted) e))
told-injective (Err f) (Ok b) e = absurd (apart (sym (ap (λ (o : Comparison). o.accepted) e)))
told-injective (Err f) (Err g) e = ap (λ (f : Refusal). Err f) (refusal-injective f g (ap (λ (o : Comparison). o.number) e) (ap (λ (o : Comparison). o.place) e))

-- ---- showing
pub placed-injective : (r s : Place) → placed r ≡ placed s → r ≡ s
unfolding placed
placed-injective (Some a) (Some b) e = ap₂ (λ (s t : ℕ). Some (record { start = s; end = t })) (ap (λ (o : Option Rattle.model.specs.Answers.Part). elim o [ none ↦ 0 | some p ↦ p.start ]) e) (ap (λ (o : Option Rattle.model.specs.Answers.Part). elim o [ none ↦ 0 | some p ↦ p.end ]) e)
placed-injective (Some a) None e = let z : ◌≡◌ {A = ℕ} 0 1 = cc in absurd (omega arith)
placed-injective None (Some b) e = let z : ◌≡◌ {A = ℕ} 0 1 = cc in absurd (omega arith)
placed-injective None None e = refl
