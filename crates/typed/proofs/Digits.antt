-- Numbers and their octets.
use Prim.Native.Nat.{ℕ, zero, suc, ◌+◌, ◌-◌, ◌*◌, ◌^◌, ◌≤◌, ◌<◌}
use native.Mathlib.Omega.{arith}
use native.Mathlib.Nat.{pow-suc, pow-succ', lt_of_lt_of_le, le_trans, mul-le-mul_right, mul_assoc, mul-one}
use mathlib.Core.Path.{◌≡◌, sym, ap, ◌∙◌, subst}
use mathlib.Core.Bool.{true}
use mathlib.Core.List.{List, [], ◌∷◌, map}
use lib.Dec.{T, ltb, lt→ltb, ltb→lt}
use lib.Ieee.Fits.{and_i, and_l, and_r}
use lib.ListN.{length, get_or, take, drop}
use lib.Seq.{slice}
use Rattle.typed.specs.Octets.{be, turned, octets}

-- ---- lists of octets

pub octets-known : (l : List ℕ) → ((i : ℕ) → get_or l i 0 < 256) → T (octets l)
unfolding octets
octets-known [] h = tt
octets-known (b ∷ l) h = and_i (ltb b 256) (octets l) (lt→ltb b 256 (h 0)) (octets-known l (λ i. h (suc i)))

pub octets-head : (b : ℕ) (l : List ℕ) → T (octets (b ∷ l)) → b < 256
unfolding octets
octets-head b l t = ltb→lt b 256 (and_l (ltb b 256) (octets l) t)

pub octets-rest : (b : ℕ) (l : List ℕ) → T (octets (b ∷ l)) → T (octets l)
unfolding octets
octets-rest b l t = and_r (ltb b 256) (octets l) t

octets-take : (n : ℕ) (l : List ℕ) → T (octets l) → T (octets (take n l))
unfolding octets
octets-take zero l t = tt
octets-take (suc n) [] t = tt
octets-take (suc n) (b ∷ l) t = and_i (ltb b 256) (octets (take n l)) (and_l (ltb b 256) (octets l) t) (octets-take n l (and_r (ltb b 256) (octets l) t))

octets-drop : (n : ℕ) (l : List ℕ) → T (octets l) → T (octets (drop n l))
unfolding octets
octets-drop zero l t = t
octets-drop (suc n) [] t = tt
octets-drop (suc n) (b ∷ l) t = octets-drop n l (and_r (ltb b 256) (octets l) t)

pub octets-slice : (s e : ℕ) (l : List ℕ) → T (octets l) → T (octets (slice s e l))
octets-slice s e l t = octets-drop s (take e l) (octets-take e l t)

-- ---- the number of n octets is below 256 ^ n

grow : (a b c p : ℕ) → b < 256 → (a * 256 + b + 1) * p ≤ (a + 1) * (p * 256)
grow a b c p h = le_trans (mul-le-mul_right p many) (subst (λ (x : ℕ). (a + 1) * 256 * p ≤ x) same (omega arith))
  where
    many : a * 256 + b + 1 ≤ (a + 1) * 256
    many = omega arith

    same : (a + 1) * 256 * p ≡ (a + 1) * (p * 256)
    same = mul_assoc (a + 1) 256 p ∙ ap (λ (x : ℕ). (a + 1) * x) (let w : 256 * p ≡ p * 256 = omega arith in w)

pub be-lt : (a : ℕ) (l : List ℕ) → T (octets l) → be a l < (a + 1) * 256 ^ length l
unfolding be
be-lt a [] t = let w : (a + 1) * 1 ≡ a + 1 = mul-one (a + 1) in omega arith
be-lt a (b ∷ l) t =
    lt_of_lt_of_le (be-lt (a * 256 + b) l (octets-rest b l t))
    (subst (λ (x : ℕ). (a * 256 + b + 1) * 256 ^ length l ≤ (a + 1) * x) (sym (pow-suc 256 (length l))) (grow a b 0 (256 ^ length l) (octets-head b l t)))

-- ---- turned over, it is what is left to 256 ^ n, less one

pub be-turned : (a a' : ℕ) (l : List ℕ) → T (octets l) → be a' (map (turned true) l) + be a l + 1 ≡ (a' + a + 1) * 256 ^ length l
unfolding be
be-turned a a' [] t = sym (mul-one (a' + a + 1))
be-turned a a' (b ∷ l) t =
    let h : b < 256 = octets-head b l t in
    let s : a' * 256 + (255 - b) + (a * 256 + b) + 1 ≡ (a' + a + 1) * 256 = omega arith in
    be-turned (a * 256 + b) (a' * 256 + (255 - b)) l (octets-rest b l t)
    ∙ ap (λ (x : ℕ). x * 256 ^ length l) s
    ∙ mul_assoc (a' + a + 1) 256 (256 ^ length l)
    ∙ ap (λ (x : ℕ). (a' + a + 1) * x) (sym (pow-succ' 256 (length l)))
