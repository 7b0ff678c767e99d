-- Rows 4 to 6, judged by sizes.
use Prim.Native.Nat.{ℕ, ◌≤◌, ◌<◌}
use native.Mathlib.Omega.{arith}
use mathlib.Core.Path.{◌≡◌, refl, sym, ap, ◌∙◌}
use mathlib.Core.Bool.{Bool, true, false}
use mathlib.Core.List.{List}
use lib.ListN.{length}
use lib.Dec.{ltb}
use borrow.Author.Tests.{lt-ltb, le-ltb, ltb-false}
use Rattle.base.specs.Choice.{pick, either}
use Rattle.base.proofs.Cases.{pick-cases, picked, unpicked}
use Rattle.model.specs.Answers.{verdict, room_checks}
use Rattle.model.specs.Limits.{max_depth, max_canonical, no_refusal, refusal_depth, refusal_nodes, refusal_size}
use Rattle.model.specs.Table.{records}
use Rattle.model.specs.Tree.{Tree, canon, nodes, depth}
use Rattle.model.specs.Count.{count}
use Rattle.rooms.specs.Rooms.{room_verdict}

module _ (deep count len octets records : ℕ) where
  pub room-deep : max_depth < deep → 4 ≡ room_verdict deep count len octets records
  unfolding room_verdict
  room-deep h = sym (picked _ _ (lt-ltb max_depth deep h))

  module _ (a : deep ≤ max_depth) where
    pub room-records : records < count → 5 ≡ room_verdict deep count len octets records
    unfolding room_verdict
    room-records h = sym (unpicked _ _ (le-ltb max_depth deep a) ∙ picked _ _ (lt-ltb records count h))

    module _ (c : count ≤ records) where
      firsts : room_verdict deep count len octets records ≡ pick (ltb max_canonical len) 6 (pick (ltb octets len) 6 0)
      unfolding room_verdict
      firsts = unpicked _ _ (le-ltb max_depth deep a) ∙ unpicked _ _ (le-ltb records count c)

      pub room-size : max_canonical < len → 6 ≡ room_verdict deep count len octets records
      room-size h = sym (firsts ∙ picked _ _ (lt-ltb max_canonical len h))

      pub room-lent : len ≤ max_canonical → octets < len → 6 ≡ room_verdict deep count len octets records
      room-lent h k = sym (firsts ∙ unpicked _ _ (le-ltb max_canonical len h) ∙ picked _ _ (lt-ltb octets len k))

      pub room-good : len ≤ max_canonical → len ≤ octets → 0 ≡ room_verdict deep count len octets records
      room-good h k = sym (firsts ∙ unpicked _ _ (le-ltb max_canonical len h) ∙ unpicked _ _ (le-ltb octets len k))

-- what holds where none applies
pub record Lodged (deep count len octets records : ℕ) : Type 0 where
  pub shallow : deep ≤ max_depth
  pub recorded : count ≤ records
  pub small : len ≤ max_canonical
  pub lent : len ≤ octets

pub roomy : (deep count len octets records : ℕ) → room_verdict deep count len octets records ≡ 0 → Lodged deep count len octets records
unfolding room_verdict
roomy deep count len octets records e =
    pick-cases (ltb max_depth deep) _ _ e (λ t h. absurd (omega arith))
    (λ a h. pick-cases (ltb records count) _ _ h (λ t j. absurd (omega arith))
    (λ c j. pick-cases (ltb max_canonical len) _ _ j (λ t k. absurd (omega arith))
    (λ d k. pick-cases (ltb octets len) _ _ k (λ t l. absurd (omega arith))
    (λ f l. record { shallow = ltb-false _ _ a; recorded = ltb-false _ _ c; small = ltb-false _ _ d; lent = ltb-false _ _ f }))))

-- ---- the model's checks

split : {A : Type 0} (a b : Bool) (x y : A) → pick (either a b) x y ≡ pick a x (pick b x y)
split true b x y = refl
split false b x y = refl

pub rooms : (t : Tree) (canonical table : List ℕ) → verdict (room_checks t canonical table) ≡ room_verdict (depth t) (nodes t) (length (canon t)) (length canonical) (records table)
unfolding verdict room_checks room_verdict
rooms t canonical table =
    ap (pick (ltb max_depth (depth t)) refusal_depth)
    (ap (pick (ltb (records table) (nodes t)) refusal_nodes) (split (ltb max_canonical (length (canon t))) (ltb (length canonical) (length (canon t))) refusal_size no_refusal))
