-- A state as numbers, and back.
use Prim.Native.Nat.{ℕ}
use mathlib.Core.Path.{◌≡◌, refl, sym, ap, ◌∙◌}
use mathlib.Core.Bool.{Bool, true, false, not}
use mathlib.Core.List.{List, [], ◌∷◌}
use lib.ListN.{get_or}
use lib.Dec.{eqb}
use borrow.Author.Tests.{ne_eqb}
use Rattle.base.proofs.Cases.{unpicked}
use Rattle.pieces.specs.Coded.{bit, phase_in, kind_of, hint_of, number_of, state_in, state_numbers}
use Rattle.pieces.specs.declared.state.State.{State}
use Rattle.pieces.specs.declared.track.Phase.{Phase}
use Rattle.pieces.specs.declared.track.Phase.TheVariants.{Between, Sizing, Counting, Filling, Bracket, Dead}

back-bit : (t : Bool) → not (eqb (bit t) 0) ≡ t
back-bit true = refl
back-bit false = refl

back-phase : (p : Phase) → phase_in (kind_of p) (not (eqb (bit (hint_of p)) 0)) (number_of p) ≡ p
unfolding phase_in kind_of hint_of number_of
back-phase Between = refl
back-phase (Sizing h) = ap (λ (t : Bool). Sizing t) (back-bit h)
back-phase (Counting h n) = ap (λ (t : Bool). Counting t n) (back-bit h)
back-phase (Filling h n) = ap (λ (t : Bool). Filling t n) (back-bit h)
back-phase Bracket = refl
back-phase Dead = refl

-- a state that goes out as numbers comes back
pub comes_back : (x : State) → state_in (state_numbers x) ≡ x
unfolding state_numbers
comes_back x =
    λ i. record {
      track = record { phase = back-phase x.track.phase i; opened = x.track.opened; deepest = x.track.deepest; seen = x.track.seen; taken = x.track.taken };
      fed = x.fed;
      room = x.room;
      lent = x.lent;
    }

-- ---- the code

module _ (k : ℕ) (h : Bool) (n : ℕ) where
  pub is-between : k ≡ 0 → Between ≡ phase_in k h n
  unfolding phase_in
  is-between e = rw e

  module _ (a : k ≡ 0 → ⊥) where
    pub is-sizing : k ≡ 1 → Sizing h ≡ phase_in k h n
    unfolding phase_in
    is-sizing e = rw e

    module _ (b : k ≡ 1 → ⊥) where
      pub is-counting : k ≡ 2 → Counting h n ≡ phase_in k h n
      unfolding phase_in
      is-counting e = rw e

      module _ (c : k ≡ 2 → ⊥) where
        pub is-filling : k ≡ 3 → Filling h n ≡ phase_in k h n
        unfolding phase_in
        is-filling e = rw e

        module _ (d : k ≡ 3 → ⊥) where
          pub is-bracket : k ≡ 4 → Bracket ≡ phase_in k h n
          unfolding phase_in
          is-bracket e = rw e

          pub is-dead : (k ≡ 4 → ⊥) → Dead ≡ phase_in k h n
          unfolding phase_in
          is-dead f = sym (unpicked _ _ (ne_eqb k 0 a) ∙ unpicked _ _ (ne_eqb k 1 b) ∙ unpicked _ _ (ne_eqb k 2 c) ∙ unpicked _ _ (ne_eqb k 3 d) ∙ unpicked _ _ (ne_eqb k 4 f))

module _ (p q : Phase) (e : p ≡ q) where
  pub kind-as : (n : ℕ) → n ≡ kind_of q → n ≡ kind_of p
  kind-as n f = f ∙ ap kind_of (sym e)

  pub hint-as : (t : Bool) → t ≡ hint_of q → t ≡ hint_of p
  hint-as t f = f ∙ ap hint_of (sym e)

  pub number-as : (n : ℕ) → n ≡ number_of q → n ≡ number_of p
  number-as n f = f ∙ ap number_of (sym e)

pub state-as : (s : List ℕ) (p : Phase) → p ≡ phase_in (get_or s 0 0) (not (eqb (get_or s 1 0) 0)) (get_or s 2 0)
    → ◌≡◌ {A = State} (record { track = record { phase = p; opened = get_or s 3 0; deepest = get_or s 4 0; seen = get_or s 5 0; taken = get_or s 6 0 }; fed = get_or s 7 0; room = get_or s 8 0; lent = get_or s 9 0 }) (state_in s)
state-as s p e =
    λ i. record {
      track = record { phase = e i; opened = get_or s 3 0; deepest = get_or s 4 0; seen = get_or s 5 0; taken = get_or s 6 0 };
      fed = get_or s 7 0;
      room = get_or s 8 0;
      lent = get_or s 9 0;
    }

pub numbers_as : (x : State) (k b n : ℕ) (t : Bool) → k ≡ kind_of x.track.phase → t ≡ hint_of x.track.phase → b ≡ bit t → n ≡ number_of x.track.phase
    → (k ∷ b ∷ n ∷ x.track.opened ∷ x.track.deepest ∷ x.track.seen ∷ x.track.taken ∷ x.fed ∷ x.room ∷ x.lent ∷ []) ≡ state_numbers x
unfolding state_numbers
numbers_as x k b n t e f g h = λ i. e i ∷ (g ∙ ap bit f) i ∷ h i ∷ x.track.opened ∷ x.track.deepest ∷ x.track.seen ∷ x.track.taken ∷ x.fed ∷ x.room ∷ x.lent ∷ []
