-- S 10.3: the double is exactly a quarter of the count, plus zero for 0: of the total in any answer, whatever was asked.
use Prim.Native.Nat.{ℕ, ◌≤◌, ◌<◌}
use mathlib.Core.Path.{◌≡◌, refl, sym, ap, ◌∙◌}
use mathlib.Core.Option.{Option, none, some}
use mathlib.Core.List.{List}
use Rattle.base.proofs.Cases.{by_le, none-some}
use Rattle.model.specs.Answers.{own_tree}
use Rattle.model.specs.Tree.{Tree}
use Rattle.typed.specs.Asked.{lining, summing}
use Rattle.typed.specs.Cases.{Lined, Summed}
use Rattle.typed.specs.declared.Total.{Total}
use Rattle.demands.specs.Lines.{QuarterOf}
use Rattle.demands.proofs.Given.{line-not-own, line-no-node, line-quarter}
use Rattle.demands.proofs.Summed.{week-not-own, week-no-node, week-quarter}

module _ (canonical : List ℕ) (len : ℕ) (table : List ℕ) (count node : ℕ) where
  -- row 7, row 8, or a node
  cases : {G : Type 0} → (own_tree canonical len table count ≡ none → G)
      → ((t : Tree) → own_tree canonical len table count ≡ some t → count ≤ node → G)
      → ((t : Tree) → own_tree canonical len table count ≡ some t → node < count → G) → G
  cases {G} f g h = by (own_tree canonical len table count) refl
    where
      by : (o : Option Tree) → own_tree canonical len table count ≡ o → G
      by none e = f e
      by (some t) e = by_le count node (g t e) (h t e)

  pub line-total-exact : (s : Total) → (lining canonical len table count node).total ≡ some s → QuarterOf s
  line-total-exact s e =
      cases
      (λ o. none-some (sym (ap (λ (r : Lined). r.total) (line-not-own canonical len table count node o)) ∙ e))
      (λ t o h. none-some (sym (ap (λ (r : Lined). r.total) (line-no-node canonical len table count node t o h)) ∙ e))
      (λ t o h. line-quarter canonical len table count node t o h s e)

  pub week-total-exact : (s : Total) → (summing canonical len table count node).total ≡ some s → QuarterOf s
  week-total-exact s e =
      cases
      (λ o. none-some (sym (ap (λ (r : Summed). r.total) (week-not-own canonical len table count node o)) ∙ e))
      (λ t o h. none-some (sym (ap (λ (r : Summed). r.total) (week-no-node canonical len table count node t o h)) ∙ e))
      (λ t o h. week-quarter canonical len table count node t o h s e)
