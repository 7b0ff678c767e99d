-- Parts of lent space moved, written and zeroed, as lists.
use Prim.Native.Nat.{ℕ, ◌+◌, ◌-◌, ◌≤◌, max}
use native.Mathlib.Omega.{arith}
use mathlib.Core.Path.{◌≡◌, refl, sym, ap, ap₂, ◌∙◌}
use mathlib.Core.List.{List, ◌++◌, append_assoc}
use lib.ListN.{length-replicate, length, take, drop, replicate, length-append, length-drop}
use lib.Seq.{take-add, take-take, sets-eq, drop_at, sets, length-take-le}
use Rattle.base.proofs.Stores.{sets-append, sets-join, sets-all}
use Rattle.model.specs.Answers.{settled}

-- what ends at a length, from a place on
pub drop-take : (l : List ℕ) (i n : ℕ) → i ≤ n → i ≤ length l → drop i (take n l) ≡ take (n - i) (drop i l)
drop-take l i n h k =
    let z : n ≡ i + (n - i) = omega arith in
    ap (λ (m : ℕ). drop i (take m l)) z ∙ ap (drop i) (take-add i (n - i) l) ∙ drop_at (take i l) (take (n - i) (drop i l)) i (length-take-le i l k)

-- a run is one from the front, which begins with what stands there
pub sets-whole : (l vs : List ℕ) (i : ℕ) → i + length vs ≤ length l → sets l i vs ≡ sets l 0 (take i l ++ vs)
sets-whole l vs i h =
    let k : length (take i l) ≡ i = length-take-le i l (omega arith) in
    let n : length (take i l ++ vs) ≡ i + length vs = length-append (take i l) vs ∙ omega (arith, k) in
    sets-eq vs l i h ∙ sym (sets-all l (take i l ++ vs) (omega (arith, n)) ∙ ap (λ (m : ℕ). (take i l ++ vs) ++ drop m l) n)

-- the octets after the part from `start` to `end` moved, and w written in its place
pub spliced : (c w : List ℕ) (start end len : ℕ) → start ≤ end → end ≤ len → len ≤ length c → start + length w + (len - end) ≤ length c
    → sets (sets c (start + length w) (take (len - end) (drop end c))) start w ≡ sets c 0 (take start (take len c) ++ (w ++ drop end (take len c)))
spliced c w start end len h k l r =
    let tail : List ℕ = take (len - end) (drop end c) in
    let t : length tail ≡ len - end = length-take-le (len - end) (drop end c) (omega (arith, length-drop end c)) in
    sets-join c w tail start (start + length w) refl
    ∙ sets-whole c (w ++ tail) start (omega (arith, length-append w tail, t))
    ∙ ap₂ (λ (a b : List ℕ). sets c 0 (a ++ (w ++ b))) (sym (take-take start len c (omega arith))) (sym (drop-take c end len k (omega arith)))

-- zeros up to a larger old length
pub zeroed : (c v : List ℕ) (old : ℕ) → old ≤ length c → length v ≤ length c → sets (sets c 0 v) (length v) (replicate (old - length v) 0) ≡ settled c old v
unfolding settled
zeroed c v old h k =
    let zeros : List ℕ = replicate (old - length v) 0 in
    let z : length zeros ≡ old - length v = length-replicate (old - length v) 0 in
    let n : length (v ++ zeros) ≡ max old (length v) = length-append v zeros ∙ omega (arith, z) in
    ap (λ (m : ℕ). sets (sets c 0 v) m zeros) (omega arith)
    ∙ sym (sets-append c v zeros 0)
    ∙ sets-all c (v ++ zeros) (omega (arith, n))
    ∙ append_assoc v zeros _
    ∙ ap (λ (m : ℕ). v ++ (zeros ++ drop m c)) n
