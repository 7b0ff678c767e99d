-- Writing digits and copies.
use Prim.Native.Nat.{ℕ, zero, suc, ◌+◌, ◌-◌, ◌*◌, ◌/◌, ◌%◌, ◌^◌, ◌≤◌, ◌<◌}
use native.Mathlib.Omega.{arith}
use native.Mathlib.Nat.{pow-suc, pow-le-pow_right}
use mathlib.Core.Path.{◌≡◌, refl, sym, ap, ◌∙◌, subst}
use mathlib.Core.Bool.{Bool, true}
use mathlib.Core.List.{List, [], ◌∷◌, ◌++◌, map, map-append, append_assoc}
use lib.Count.{count_leading_zeros}
use lib.Dec.{lit<}
use lib.ListN.{length, drop, set, length-set}
use lib.Seq.{drop-cons, drop-set-lt, get_or-set_same}
use Rattle.std.specs.Int.{div_ceil}
use Rattle.std.proofs.lemmas.Nat.{leading_length, pow-add}
use Rattle.typed.specs.Octets.{octs, turned}
use Rattle.typed.specs.Coding as coding
use Rattle.typed.proofs.Wide.{Wide, more-is}
use Rattle.typed.proofs.Base.{by_le}

pub octet-turned : (t : Bool) (d : ℕ) → t ≡ true → 255 - d ≡ turned t d
octet-turned t d e = rw e

pub octs-before : (k n : ℕ) (l : List ℕ) → octs k n l ≡ octs k n [] ++ l
unfolding octs
octs-before zero n l = refl
octs-before (suc k) n l = octs-before k (n / 256) (n % 256 ∷ l) ∙ sym (append_assoc (octs k (n / 256) []) (n % 256 ∷ []) l) ∙ ap (λ (x : List ℕ). x ++ l) (sym (octs-before k (n / 256) (n % 256 ∷ [])))

pub record Putting (out₀ : List ℕ) (k n : ℕ) (t : Bool) (out : List ℕ) (i m : ℕ) : Type 0 where
  pub upto : i ≤ k
  pub room : k ≤ length out
  pub long : length out ≡ length out₀
  pub same : map (turned t) (octs i m []) ++ drop i out ≡ map (turned t) (octs k n []) ++ drop k out₀

pub putting-starts : (out : List ℕ) (k n : ℕ) (t : Bool) → k ≤ length out → Putting out k n t out k n
putting-starts out k n t h = record { upto = omega arith; room = h; long = refl; same = refl }

stored : (out : List ℕ) (i v : ℕ) → i < length out → drop i (set out i v) ≡ v ∷ drop (suc i) out
stored out i v h =
    drop-cons (set out i v) i 0 (subst (λ (n : ℕ). i < n) (sym (length-set out i v)) h)
    ∙ ap (λ (x : ℕ). x ∷ drop (suc i) (set out i v)) (get_or-set_same out i v 0 h)
    ∙ ap (λ (r : List ℕ). v ∷ r) (drop-set-lt (suc i) out i v (omega arith))

module _ (out₀ : List ℕ) (k n : ℕ) (t : Bool) (out : List ℕ) (i m : ℕ) (inv : Putting out₀ k n t out i m) (more : 0 < i) where
  pub put-in : i - 1 < length out
  put-in = omega arith

  suc-back : suc (i - 1) ≡ i
  suc-back = omega arith

  one : map (turned t) (octs (suc (i - 1)) m []) ≡ map (turned t) (octs (i - 1) (m / 256) []) ++ (turned t (m % 256) ∷ [])
  unfolding octs
  one = ap (map (turned t)) (octs-before (i - 1) (m / 256) (m % 256 ∷ [])) ∙ map-append (turned t) (octs (i - 1) (m / 256) []) (m % 256 ∷ [])

  pub putting-goes : (v : ℕ) → v ≡ turned t (m % 256) → Putting out₀ k n t (set out (i - 1) v) (i - 1) (m / 256)
  putting-goes v e =
      let a : List ℕ = map (turned t) (octs (i - 1) (m / 256) []) in
      record {
        upto = omega arith;
        room = subst (λ (x : ℕ). k ≤ x) (sym (length-set out (i - 1) v)) inv.room;
        long = length-set out (i - 1) v ∙ inv.long;
        same =
            ap (λ (r : List ℕ). a ++ r) (stored out (i - 1) v put-in)
            ∙ ap (λ (x : ℕ). a ++ (x ∷ drop (suc (i - 1)) out)) e
            ∙ sym (append_assoc a (turned t (m % 256) ∷ []) (drop (suc (i - 1)) out))
            ∙ ap (λ (r : List ℕ). r ++ drop (suc (i - 1)) out) (sym one)
            ∙ ap (λ (x : ℕ). map (turned t) (octs x m []) ++ drop x out) suc-back
            ∙ inv.same;
      }

pub putting-ends : (out₀ : List ℕ) (k n : ℕ) (t : Bool) (out : List ℕ) (i m : ℕ) → Putting out₀ k n t out i m → i ≤ 0 → out ≡ map (turned t) (octs k n []) ++ drop k out₀
unfolding octs
putting-ends out₀ k n t out i m inv h = let z : i ≡ 0 = omega arith in subst (λ (x : ℕ). map (turned t) (octs x m []) ++ drop x out ≡ map (turned t) (octs k n []) ++ drop k out₀) z inv.same

-- ---- the width

octets-bits : (k : ℕ) → 256 ^ k ≡ 2 ^ (8 * k)
octets-bits zero = refl
octets-bits (suc k) =
    let e : 8 * suc k ≡ 8 * k + 8 = omega arith in
    pow-suc 256 k ∙ ap (λ (x : ℕ). x * 256) (octets-bits k) ∙ sym (ap (λ (x : ℕ). 2 ^ x) e ∙ pow-add 2 (8 * k) 8)

-- b bits beside the first seven are k octets
wide-by : (m b k : ℕ) → m < 2 ^ 63 → m / 128 < 2 ^ b → 2 ^ b ≤ 2 * (m / 128) + 1 → b ≤ 8 * k → (0 < k → 8 * (k - 1) + 1 ≤ b) → Wide k m
wide-by m b k h l u f n = record { few = few; enough = enough; needed = needed }
  where
    few : k ≤ 7
    few = by_le k 7 (λ p. p) (λ (p : 7 < k). let q : 57 ≤ b = omega (arith, n (omega arith)) in let w : 2 ^ 57 ≤ 2 ^ b = pow-le-pow_right (lit< tt) q in absurd (omega arith))

    enough : m < 128 * 256 ^ k
    enough = let w : 2 ^ b ≤ 2 ^ (8 * k) = pow-le-pow_right (lit< tt) f in omega (arith, octets-bits k)

    needed : 0 < k → 128 * 256 ^ (k - 1) ≤ m
    needed p =
        let w : 2 ^ (8 * (k - 1) + 1) ≤ 2 ^ b = pow-le-pow_right (lit< tt) (n p) in
        omega (arith, octets-bits (k - 1), pow-add 2 (8 * (k - 1)) 1)

pub width-is : (m k : ℕ) → m < 2 ^ 63 → k ≡ div_ceil (64 - count_leading_zeros 64 (m / 128)) 8 → (k ≡ coding.more m) × (k ≤ 7)
width-is m k h e = rw e (more-is _ m h wide, wide.few)
  where
    by : (b : ℕ) × (count_leading_zeros 64 (m / 128) + b ≡ 64) × (m / 128 < 2 ^ b) × (2 ^ b ≤ 2 * (m / 128) + 1) → Wide (div_ceil (64 - count_leading_zeros 64 (m / 128)) 8) m
    by (b, e, l, u) = wide-by m b (div_ceil (64 - count_leading_zeros 64 (m / 128)) 8) h l u (omega arith) (λ p. omega arith)

    wide : Wide (div_ceil (64 - count_leading_zeros 64 (m / 128)) 8) m
    wide = by (leading_length 64 (m / 128) (omega arith))
