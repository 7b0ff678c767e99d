-- Runs of stores: what they leave alone, and how they join.
use Prim.Native.Nat.{ℕ, suc, ◌+◌, ◌≤◌, ◌<◌}
use native.Mathlib.Omega.{arith}
use native.Mathlib.Nat.{add-zero, add-suc, suc-add}
use native.Mathlib.Numerals.{add-one, add-two, add-three, add-four, add_five, add_six, add_seven, add_eight}
use mathlib.Core.Path.{◌≡◌, refl, sym, ap, ◌∙◌}
use mathlib.Core.List.{List, [], ◌∷◌, ◌++◌}
use lib.ListN.{length, drop, get_or, set}
use lib.Seq.{sets, sets-eq, set_comm, get_or-set_other}

-- one run of stores, and then another from where it ended
pub sets-append : (l a b : List ℕ) (i : ℕ) → sets l i (a ++ b) ≡ sets (sets l i a) (i + length a) b
sets-append l [] b i = ap (λ (n : ℕ). sets l n b) (sym (add-zero i))
sets-append l (x ∷ a) b i = sets-append (set l i x) a b (suc i) ∙ ap (λ (n : ℕ). sets (sets (set l i x) (suc i) a) n b) (suc-add i (length a) ∙ sym (add-suc i (length a)))

-- an element below a run is as it was
pub sets_below : (l vs : List ℕ) (i k : ℕ) → k < i → get_or (sets l i vs) k 0 ≡ get_or l k 0
sets_below l [] i k h = refl
sets_below l (v ∷ vs) i k h = sets_below (set l i v) vs (suc i) k (omega arith) ∙ get_or-set_other l i k v 0 (λ e. omega arith)

-- a store below a run, before it or after it
pub set-sets : (l vs : List ℕ) (i k v : ℕ) → k < i → set (sets l i vs) k v ≡ sets (set l k v) i vs
set-sets l [] i k v h = refl
set-sets l (x ∷ vs) i k v h = set-sets (set l i x) vs (suc i) k v (omega arith) ∙ ap (λ (m : List ℕ). sets m (suc i) vs) (set_comm l i k x v (λ e. omega arith))

-- a run below a run, before it or after it
pub sets-sets : (l vs ws : List ℕ) (i k : ℕ) → k + length ws ≤ i → sets (sets l i vs) k ws ≡ sets (sets l k ws) i vs
sets-sets l vs [] i k h = refl
sets-sets l vs (w ∷ ws) i k h = ap (λ (m : List ℕ). sets m (suc k) ws) (set-sets l vs i k w (omega arith)) ∙ sets-sets (set l k w) vs ws i (suc k) (omega arith)

-- the front of a run may be stored last
pub sets-join : (l a b : List ℕ) (i j : ℕ) → j ≡ i + length a → sets (sets l j b) i a ≡ sets l i (a ++ b)
sets-join l a b i j e = sets-sets l b a j i (omega arith) ∙ ap (λ (n : ℕ). sets (sets l i a) n b) e ∙ sym (sets-append l a b i)

-- a run from the front
pub sets-all : (l vs : List ℕ) → length vs ≤ length l → sets l 0 vs ≡ vs ++ drop (length vs) l
sets-all l vs h = let z : 0 + length vs ≡ length vs = omega arith in sets-eq vs l 0 (omega arith) ∙ ap (λ (n : ℕ). vs ++ drop n l) z

-- nine stores, one after the other
pub stores-9 : (l : List ℕ) (i a b c d e f g h j : ℕ)
    → set (set (set (set (set (set (set (set (set l i a) (i + 1) b) (i + 2) c) (i + 3) d) (i + 4) e) (i + 5) f) (i + 6) g) (i + 7) h) (i + 8) j
    ≡ sets l i (a ∷ b ∷ c ∷ d ∷ e ∷ f ∷ g ∷ h ∷ j ∷ [])
stores-9 l i a b c d e f g h j = rw (add-one i, add-two i, add-three i, add-four i, add_five i, add_six i, add_seven i, add_eight i)
