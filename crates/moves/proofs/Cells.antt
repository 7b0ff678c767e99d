-- The loops that move octets.
use Prim.Native.Nat.{ℕ, suc, ◌+◌, ◌-◌, ◌≤◌, ◌<◌}
use native.Mathlib.Omega.{arith}
use mathlib.Core.Path.{◌≡◌, refl, sym, ap, ap₂, ◌∙◌}
use mathlib.Core.List.{List, [], ◌∷◌, ◌++◌, append-nil}
use lib.ListN.{length, take, drop, get_or, set, length-drop}
use lib.Seq.{drop-cons, sets, take-set-le, drop-set-lt, take-add, drop-drop, drop_at, drop-length, take_all, length-take-le, length-sets}
use Rattle.base.proofs.Stores.{sets-append, sets-join, sets-all}
use Rattle.scan.specs.Writes.{Wrote}
use Rattle.moves.specs.Moved.{Raising, Lowering}

-- ---- parts of a list after a run of stores

take-sets : (n : ℕ) (l vs : List ℕ) (i : ℕ) → n ≤ i → take n (sets l i vs) ≡ take n l
take-sets n l [] i h = refl
take-sets n l (v ∷ vs) i h = take-sets n (set l i v) vs (suc i) (omega arith) ∙ take-set-le n l i v h

drop-sets : (n : ℕ) (l vs : List ℕ) (i : ℕ) → i + length vs ≤ n → drop n (sets l i vs) ≡ drop n l
drop-sets n l [] i h = refl
drop-sets n l (v ∷ vs) i h = drop-sets n (set l i v) vs (suc i) (omega arith) ∙ drop-set-lt n l i v (omega arith)

part : (n i : ℕ) (l : List ℕ) → i ≤ length l → take n (drop i l) ≡ drop i (take (i + n) l)
part n i l h = sym (ap (drop i) (take-add i n l) ∙ drop_at (take i l) (take n (drop i l)) i (length-take-le i l h))

-- a part below the stores
part-sets : (n i : ℕ) (l vs : List ℕ) (m : ℕ) → i + n ≤ m → i ≤ length l → take n (drop i (sets l m vs)) ≡ take n (drop i l)
part-sets n i l vs m h k =
    part n i (sets l m vs) (omega (arith, length-sets l m vs)) ∙ ap (drop i) (take-sets (i + n) l vs m h) ∙ sym (part n i l k)

length_part : (n i : ℕ) (l : List ℕ) → i + n ≤ length l → length (take n (drop i l)) ≡ n
length_part n i l h =
    ap length (part n i l (omega arith)) ∙ omega (arith, length-drop i (take (i + n) l), length-take-le (i + n) l h)

-- two parts, one after the other
part_join : (n m i : ℕ) (l : List ℕ) → take n (drop i l) ++ take m (drop (i + n) l) ≡ take (n + m) (drop i l)
part_join n m i l = ap (λ (x : List ℕ). take n (drop i l) ++ take m x) (sym (drop-drop n i l)) ∙ sym (take-add n m (drop i l))

-- one octet is a part
one : (l : List ℕ) (i k : ℕ) → i < length l → set l k (get_or l i 0) ≡ sets l k (take 1 (drop i l))
one l i k h = ap (λ (x : List ℕ). sets l k (take 1 x)) (sym (drop-cons l i 0 h))

-- ---- a block, through an array of its own
module _ (l : List ℕ) (from to : ℕ) where
  pub block-moved : from + 64 ≤ length l → (held : List ℕ) → length held ≡ 64 → (held' l' : List ℕ) (p q : ℕ)
      → Wrote (take 64 (drop from l)) 0 held held' p → Wrote (take 64 (drop 0 held')) to l l' q → l' ≡ sets l to (take 64 (drop from l))
  block-moved h held e held' l' p q v w =
      let x : List ℕ = take 64 (drop from l) in
      let n : length x ≡ 64 = length_part 64 from l h in
      let a : held' ≡ x =
      v.same ∙ sets-all held x (omega arith) ∙ ap (λ (k : ℕ). x ++ drop k held) (n ∙ sym e) ∙ ap (λ (y : List ℕ). x ++ y) (drop-length held) ∙ append-nil x in
      w.same ∙ ap (λ (y : List ℕ). sets l to (take 64 y)) a ∙ ap (sets l to) (take_all 64 x (omega arith))

-- ---- moving up
module _ (l₀ : List ℕ) (from to delta : ℕ) where
  pub up_start : from ≤ to → Raising l₀ from to delta l₀ to
  up_start h = let a : to - to ≡ 0 = omega arith in record { low = h; high = omega arith; long = refl; is = rw a }

  module _ (l : List ℕ) (j : ℕ) (g : Raising l₀ from to delta l j) where
    pub up-long : length l ≡ length l₀
    up-long = g.long

    pub up-end : j ≤ from → l ≡ sets l₀ (from + delta) (take (to - from) (drop from l₀))
    up-end h = let a : from ≡ j = omega (arith, g.low) in rw a g.is

    -- n octets more
    up_by : (n : ℕ) → to + delta ≤ length l₀ → from + n ≤ j → (l' : List ℕ) → l' ≡ sets l (j - n + delta) (take n (drop (j - n) l)) → Raising l₀ from to delta l' (j - n)
    up_by n r h l' e =
        let vs : List ℕ = take (to - j) (drop j l₀) in
        let i : j - n + n ≡ j = omega arith in
        let x : take n (drop (j - n) l) ≡ take n (drop (j - n) l₀) =
        ap (λ (m : List ℕ). take n (drop (j - n) m)) g.is ∙ part-sets n (j - n) l₀ vs (j + delta) (omega arith) (omega (arith, g.high)) in
        let y : length (take n (drop (j - n) l₀)) ≡ n = length_part n (j - n) l₀ (omega (arith, g.high)) in
        let z : n + (to - j) ≡ to - (j - n) = omega (arith, g.high) in
        record {
          low = omega arith;
          high = omega (arith, g.high);
          long = ap length e ∙ length-sets l (j - n + delta) (take n (drop (j - n) l)) ∙ g.long;
          is = e ∙ ap₂ (λ (m v : List ℕ). sets m (j - n + delta) v) g.is x
              ∙ sets-join l₀ (take n (drop (j - n) l₀)) vs (j - n + delta) (j + delta) (omega (arith, y))
              ∙ ap (sets l₀ (j - n + delta))
              (ap (λ (k : ℕ). take n (drop (j - n) l₀) ++ take (to - j) (drop k l₀)) (sym i) ∙ part_join n (to - j) (j - n) l₀ ∙ ap (λ (k : ℕ). take k (drop (j - n) l₀)) z);
        }

    pub up_rest : to + delta ≤ length l₀ → (l' : List ℕ) → l' ≡ sets l (from + delta) (take (j - from) (drop from l)) → l' ≡ sets l₀ (from + delta) (take (to - from) (drop from l₀))
    up_rest r l' e =
        let n : j - (j - from) ≡ from = omega (arith, g.low) in
        let x = up_by (j - from) r (omega (arith, g.low)) l' (e ∙ ap (λ (i : ℕ). sets l (i + delta) (take (j - from) (drop i l))) (sym n)) in
        x.is ∙ ap (λ (i : ℕ). sets l₀ (i + delta) (take (to - i) (drop i l₀))) n

    pub up-block : to + delta ≤ length l₀ → 64 ≤ j - from → (l' : List ℕ) → l' ≡ sets l (j - 64 + delta) (take 64 (drop (j - 64) l)) → Raising l₀ from to delta l' (j - 64)
    up-block r h l' e = up_by 64 r (omega arith) l' e

    pub up_one : to + delta ≤ length l₀ → from < j → Raising l₀ from to delta (set l (j - 1 + delta) (get_or l (j - 1) 0)) (j - 1)
    up_one r h = up_by 1 r (omega arith) _ (one l (j - 1) (j - 1 + delta) (omega (arith, g.high, g.long)))

-- ---- moving down
module _ (l₀ : List ℕ) (from to delta : ℕ) where
  pub down-start : from ≤ to → Lowering l₀ from to delta l₀ from
  down-start h = record { low = omega arith; high = h; long = refl; rest = refl; same = refl }

  module _ (l : List ℕ) (j : ℕ) (g : Lowering l₀ from to delta l j) where
    pub down-long : length l ≡ length l₀
    down-long = g.long

    pub down-end : to ≤ j → l ≡ sets l₀ (from - delta) (take (to - from) (drop from l₀))
    down-end h = let a : to - j ≡ 0 = omega arith in rw a at g.same

    -- n octets more
    down_by : (n : ℕ) → to ≤ length l₀ → delta ≤ from → j + n ≤ to → (l' : List ℕ) → l' ≡ sets l (j - delta) (take n (drop j l)) → Lowering l₀ from to delta l' (j + n)
    down_by n r d h l' e =
        let x : take n (drop j l) ≡ take n (drop j l₀) = ap (take n) g.rest in
        let y : length (take n (drop j l)) ≡ n = length_part n j l (omega (arith, g.long)) in
        let z : j + n - delta ≡ j - delta + length (take n (drop j l)) = omega (arith, g.low, y) in
        let w : n + (to - (j + n)) ≡ to - j = omega arith in
        record {
          low = omega (arith, g.low);
          high = h;
          long = ap length e ∙ length-sets l (j - delta) (take n (drop j l)) ∙ g.long;
          rest = ap (drop (j + n)) e ∙ drop-sets (j + n) l (take n (drop j l)) (j - delta) (omega (arith, y)) ∙ sym (drop-drop n j l) ∙ ap (drop n) g.rest ∙ drop-drop n j l₀;
          same = ap₂ (λ (m : List ℕ) (k : ℕ). sets m k (take (to - (j + n)) (drop (j + n) l₀))) e z
              ∙ sym (sets-append l (take n (drop j l)) (take (to - (j + n)) (drop (j + n) l₀)) (j - delta))
              ∙ ap (λ (v : List ℕ). sets l (j - delta) (v ++ take (to - (j + n)) (drop (j + n) l₀))) x
              ∙ ap (sets l (j - delta)) (part_join n (to - (j + n)) j l₀ ∙ ap (λ (k : ℕ). take k (drop j l₀)) w)
              ∙ g.same;
        }

    pub down-rest : (l' : List ℕ) → l' ≡ sets l (j - delta) (take (to - j) (drop j l)) → l' ≡ sets l₀ (from - delta) (take (to - from) (drop from l₀))
    down-rest l' e = e ∙ ap (λ (x : List ℕ). sets l (j - delta) (take (to - j) x)) g.rest ∙ g.same

    pub down-block : to ≤ length l₀ → delta ≤ from → 64 ≤ to - j → (l' : List ℕ) → l' ≡ sets l (j - delta) (take 64 (drop j l)) → Lowering l₀ from to delta l' (j + 64)
    down-block r d h l' e = down_by 64 r d (omega arith) l' e

    pub down-one : to ≤ length l₀ → delta ≤ from → j < to → Lowering l₀ from to delta (set l (j - delta) (get_or l j 0)) (j + 1)
    down-one r d h = down_by 1 r d (omega arith) _ (one l j (j - delta) (omega (arith, g.long)))
