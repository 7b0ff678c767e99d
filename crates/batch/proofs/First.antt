-- The first sheet of a run: what `first_sheet` says, both ways.
use Prim.Native.Nat.{ℕ, zero, suc, ◌+◌, ◌≤◌, ◌<◌}
use native.Mathlib.Omega.{arith}
use mathlib.Core.Path.{◌≡◌, refl, sym, ap, ◌∙◌, subst}
use mathlib.Core.Option.{Option, none, some}
use mathlib.Core.List.{List, ◌++◌}
use lib.ListN.{length, take, drop, length-append, length-take, take-append-drop}
use lib.Seq.{take_at}
use Rattle.base.specs.Choice.{is_none}
use Rattle.base.proofs.Cases.{by-eq, picked, unpicked}
use Rattle.model.specs.Decode.{decode₁}
use Rattle.model.specs.Tree.{Tree, canon}
use Rattle.model.proofs.Exact.{canon-sound, canon-complete, canon-two}
use Rattle.model.proofs.Unique.{tree-inj}
use Rattle.batch.specs.Runs.{first_up_to, first_sheet}

-- the run begins with a tree's canonical form, and r follows
pub record Begins (run r : List ℕ) : Type 0 where
  pub tree : Tree
  pub is : run ≡ canon tree ++ r

by-tree : {G : Type 0} (o : Option Tree) → (o ≡ none → G) → ((t : Tree) → o ≡ some t → G) → G
by-tree none f g = f refl
by-tree (some t) f g = g t refl

-- a front that is a canonical form
front : (n : ℕ) (run : List ℕ) (t : Tree) → decode₁ (take n run) ≡ some t → run ≡ canon t ++ drop n run
front n run t e = sym (take-append-drop n run) ∙ ap (λ (x : List ℕ). x ++ drop n run) (canon-sound (take n run) t e)

module _ (n : ℕ) (run : List ℕ) where
  here : (t : Tree) → decode₁ (take (suc n) run) ≡ some t → first_up_to (suc n) run ≡ suc n
  unfolding first_up_to is_none
  here t e = unpicked _ _ (ap is_none e)

  shorter : decode₁ (take (suc n) run) ≡ none → first_up_to (suc n) run ≡ first_up_to n run
  unfolding first_up_to is_none
  shorter e = picked _ _ (ap is_none e)

module _ (run r : List ℕ) (t : Tree) (b : run ≡ canon t ++ r) where
  long : length run ≡ length (canon t) + length r
  long = ap length b ∙ length-append (canon t) r

  up_to : (n : ℕ) → n ≤ length run → length (canon t) ≤ n → first_up_to n run ≡ length (canon t)
  up_to zero h l = absurd (omega (arith, canon-two t))
  up_to (suc n) h l =
      by-eq (suc n) (length (canon t))
      (λ e. here n run t (ap decode₁ (ap (take (suc n)) b ∙ take_at (canon t) r (suc n) (sym e)) ∙ canon-complete t) ∙ e)
      (λ e. by-tree (decode₁ (take (suc n) run))
      (λ d. shorter n run d ∙ up_to n (omega arith) (omega arith))
      (λ u d.
      let s : t ≡ u = (tree-inj t u r (drop (suc n) run) (sym b ∙ front (suc n) run u d)).0 in
      let c : length (canon u) ≡ length (take (suc n) run) = ap length (sym (canon-sound (take (suc n) run) u d)) in
      absurd (e (omega (arith, ap (λ (x : Tree). length (canon x)) s, c, length-take (suc n) run)))))

  -- a run that begins with a tree's canonical form: its length, however many octets follow
  pub first-is : first_sheet run ≡ length (canon t)
  unfolding first_sheet
  first-is = up_to (length run) (omega arith) (omega (arith, long))

-- none begins
module _ (run : List ℕ) (no : (r : List ℕ) → Begins run r → ⊥) where
  none-up-to : (n : ℕ) → first_up_to n run ≡ 0
  unfolding first_up_to
  none-up-to zero = refl
  none-up-to (suc n) =
      by-tree (decode₁ (take (suc n) run))
      (λ d. shorter n run d ∙ none-up-to n)
      (λ t d. absurd (no (drop (suc n) run) (record { tree = t; is = front (suc n) run t d })))

  pub first-none : first_sheet run ≡ 0
  unfolding first_sheet
  first-none = none-up-to (length run)

-- and back: a number that is not 0 is that of the octets of a canonical form, and 0 says that none begins
begins-up-to : (n : ℕ) (run : List ℕ) → 0 < first_up_to n run → Begins run (drop (first_up_to n run) run)
unfolding first_up_to
begins-up-to zero run h = absurd (omega arith)
begins-up-to (suc n) run h =
    by-tree (decode₁ (take (suc n) run))
    (λ d.
    let e : first_up_to (suc n) run ≡ first_up_to n run = shorter n run d in
    subst (λ (m : ℕ). Begins run (drop m run)) (sym e) (begins-up-to n run (omega (arith, e, h))))
    (λ t d. subst (λ (m : ℕ). Begins run (drop m run)) (sym (here n run t d)) (record { tree = t; is = front (suc n) run t d }))

pub first-begins : (run : List ℕ) → 0 < first_sheet run → Begins run (drop (first_sheet run) run)
unfolding first_sheet
first-begins run h = begins-up-to (length run) run h

pub none-begins : (run : List ℕ) → first_sheet run ≡ 0 → (r : List ℕ) → Begins run r → ⊥
none-begins run e r b = omega (arith, e, first-is run r b.tree b.is, canon-two b.tree)
