-- The octets of a whole number.
use Prim.Native.Nat.{ℕ, zero, suc, ◌+◌, ◌-◌, ◌*◌, ◌/◌, ◌%◌, ◌^◌, ◌≤◌, ◌<◌}
use native.Mathlib.Omega.{arith}
use native.Mathlib.Nat.{pow-suc, pow-succ', div-div-eq-div-mul, le-div_iff_mul-le, div-lt_iff_lt-mul, div-one}
use mathlib.Core.Path.{◌≡◌, refl, sym, ap, ◌∙◌, subst}
use mathlib.Core.Bool.{Bool, true, false}
use mathlib.Core.List.{List, [], ◌∷◌, map}
use lib.Dec.{T, leb, eqb, ltb}
use lib.IntN.{ℤ, pos}
use lib.ListN.{length}
use borrow.Author.Tests.{le-ltb, lt-leb, ne_eqb}
use Rattle.typed.specs.Octets.{be, octs, octets, turned, signed, shortest}
use Rattle.typed.specs.Typed.{whole_of}
use Rattle.typed.proofs.Wide.{Wide, joined}
use Rattle.typed.specs.declared.Value.TheVariants.{Whole}
use Rattle.std.specs.Prelude.{Some}
use Rattle.typed.proofs.Base.{by-eq}
use Rattle.typed.proofs.Digits.{octets-head, octets-rest}
use Rattle.typed.proofs.Floating.{unturned}
use Rattle.typed.proofs.Wholly.{whole-made, signed-plus, signed-minus, turned-octets, length-turned}
use Rattle.typed.proofs.Wide.{powers}
use Rattle.typed.proofs.Floats.{be-octs, length-octs, octets-octs}

-- ---- digits from the front

pub octs-front : (k n : ℕ) (l : List ℕ) → octs (suc k) n l ≡ (n / 256 ^ k % 256) ∷ octs k n l
unfolding octs
octs-front zero n l = ap (λ (x : ℕ). x % 256 ∷ l) (sym (div-one n))
octs-front (suc k) n l =
    octs-front k (n / 256) (n % 256 ∷ l)
    ∙ ap (λ (x : ℕ). x % 256 ∷ octs k (n / 256) (n % 256 ∷ l)) (div-div-eq-div-mul n 256 (256 ^ k) ∙ ap (λ (x : ℕ). n / x) (sym (pow-succ' 256 k)))

-- ---- turned over twice

pub turned-back : (t : Bool) (l : List ℕ) → T (octets l) → map (turned t) (map (turned t) l) ≡ l
turned-back t [] h = refl
turned-back true (b ∷ l) h =
    let k : b < 256 = octets-head b l h in
    let e : 255 - (255 - b) ≡ b = omega arith in
    ap (λ (x : ℕ). x ∷ map (turned true) (map (turned true) l)) e ∙ ap (λ (r : List ℕ). b ∷ r) (turned-back true l (octets-rest b l h))
turned-back false (b ∷ l) h = ap (λ (r : List ℕ). b ∷ r) (turned-back false l (octets-rest b l h))

-- ---- the sign and the magnitude

pub signed_by : (t : Bool) (b : ℕ) (l : List ℕ) → T (octets (b ∷ l)) → turned t b < 128 → signed (b ∷ l) ≡ joined t (be 0 (map (turned t) (b ∷ l)))
signed_by true b l h k = let g : 128 ≤ b = (let w : b < 256 = octets-head b l h in omega arith) in signed-minus b l h g
signed_by false b l h k = signed-plus b l k ∙ ap (λ (r : List ℕ). pos (be 0 r)) (sym (unturned (b ∷ l)))

short-two : (t : Bool) (h c : ℕ) (l : List ℕ) → h < 128 → c < 256 → 128 ≤ h * 256 + c → shortest (turned t h ∷ turned t c ∷ l) ≡ true
unfolding shortest
short-two false h c l p q r = by-eq h 0
    (λ (z : h ≡ 0). let a : ltb c 128 ≡ false = le-ltb c 128 (omega arith) in let b : eqb h 255 ≡ false = ne_eqb h 255 (λ (w : h ≡ 255). omega arith) in rw (z, a))
    (λ (z : h ≡ 0 → ⊥). let a : eqb h 0 ≡ false = ne_eqb h 0 z in let b : eqb h 255 ≡ false = ne_eqb h 255 (λ (w : h ≡ 255). omega arith) in rw (a, b))
short-two true h c l p q r =
    let a : eqb (255 - h) 0 ≡ false = ne_eqb (255 - h) 0 (λ (w : 255 - h ≡ 0). omega arith) in
    by-eq h 0
    (λ (z : h ≡ 0). let b : leb 128 (255 - c) ≡ false = lt-leb 128 (255 - c) (omega arith) in rw (z, b))
    (λ (z : h ≡ 0 → ⊥). let b : eqb (255 - h) 255 ≡ false = ne_eqb (255 - h) 255 (λ (w : 255 - h ≡ 255). z (omega arith)) in rw (a, b))

short-one : (t : Bool) (h : ℕ) → h < 128 → (t ≡ false → h ≡ 0 → ⊥) → shortest (turned t h ∷ []) ≡ true
unfolding shortest
short-one false h p n = let a : eqb h 0 ≡ false = ne_eqb h 0 (n refl) in rw a
short-one true h p n = let a : eqb (255 - h) 0 ≡ false = ne_eqb (255 - h) 0 (λ (w : 255 - h ≡ 0). omega arith) in rw a

-- ---- what is written

module _ (t : Bool) (k m : ℕ) (w : Wide k m) (n : t ≡ false → m ≡ 0 → ⊥) where
  unfoldable o : List ℕ
  o = map (turned t) (octs (suc k) m [])

  in_reach : m < 256 ^ suc k
  in_reach = let p : 256 ^ suc k ≡ 256 ^ k * 256 = pow-suc 256 k in let q : m < 128 * 256 ^ k = w.enough in omega arith

  high : m / 256 ^ k < 128
  high = (div-lt_iff_lt-mul {k = 256 ^ k} {x = m} {y = 128} (powers k)).1 w.enough

  front : o ≡ turned t (m / 256 ^ k) ∷ map (turned t) (octs k m [])
  unfolding o
  front =
      let e : m / 256 ^ k % 256 ≡ m / 256 ^ k = (let h : m / 256 ^ k < 128 = high in omega arith) in
      ap (map (turned t)) (octs-front k m [] ∙ ap (λ (x : ℕ). x ∷ octs k m []) e)

  all : T (octets o)
  unfolding o octets
  all = turned-octets t (octs (suc k) m []) (octets-octs (suc k) m [] tt)

  long : length o ≡ suc k
  unfolding o
  long = length-turned t (octs (suc k) m []) ∙ length-octs (suc k) m [] ∙ (let z : suc k + 0 ≡ suc k = omega arith in z)

  back : map (turned t) o ≡ octs (suc k) m []
  unfolding o octets
  back = turned-back t (octs (suc k) m []) (octets-octs (suc k) m [] tt)

  undone : (h : ℕ) → h < 128 → turned t (turned t h) ≡ h
  undone h p = twice t
    where
      twice : (t : Bool) → turned t (turned t h) ≡ h
      twice true = omega arith
      twice false = refl

  value : signed o ≡ joined t m
  value =
      let l : List ℕ = map (turned t) (octs k m []) in
      let h : ℕ = m / 256 ^ k in
      ap signed front
      ∙ signed_by t (turned t h) l (subst (λ (r : List ℕ). T (octets r)) front all) (subst (λ (x : ℕ). x < 128) (sym (undone h high)) high)
      ∙ ap (λ (r : List ℕ). joined t (be 0 (map (turned t) r))) (sym front)
      ∙ ap (λ (r : List ℕ). joined t (be 0 r)) back
      ∙ ap (joined t) (be-octs (suc k) m in_reach)

  low-one : (t : Bool) (m h : ℕ) → m ≡ h → (t ≡ false → m ≡ 0 → ⊥) → t ≡ false → h ≡ 0 → ⊥
  low-one t m h e n p q = n p (e ∙ q)

  short : shortest o ≡ true
  unfolding octs
  short = by k w refl
    where
      by : (j : ℕ) → Wide j m → k ≡ j → shortest o ≡ true
      by zero v e =
          let f : o ≡ turned t (m / 1) ∷ [] = front ∙ ap (λ (x : ℕ). turned t (m / 256 ^ x) ∷ map (turned t) (octs x m [])) e in
          let d : m / 1 ≡ m = div-one m in
          let h : m / 1 < 128 = subst (λ (x : ℕ). m / 256 ^ x < 128) e high in
          ap shortest f ∙ short-one t (m / 1) h (low-one t m (m / 1) (sym d) n)
      by (suc j) v e =
          let c : ℕ = m / 256 ^ j % 256 in
          let f : o ≡ turned t (m / 256 ^ suc j) ∷ turned t c ∷ map (turned t) (octs j m []) = front ∙ ap (λ (x : ℕ). turned t (m / 256 ^ x) ∷ map (turned t) (octs x m [])) e ∙ ap (λ (r : List ℕ). turned t (m / 256 ^ suc j) ∷ map (turned t) r) (octs-front j m []) in
          let h : m / 256 ^ suc j < 128 = subst (λ (x : ℕ). m / 256 ^ x < 128) e high in
          let d : m / 256 ^ suc j ≡ m / 256 ^ j / 256 = ap (λ (x : ℕ). m / x) (pow-suc 256 j) ∙ sym (div-div-eq-div-mul m (256 ^ j) 256) in
          let s : suc j - 1 ≡ j = omega arith in
          let r : 128 ≤ m / 256 ^ j = (le-div_iff_mul-le {k = 256 ^ j} {x = 128} {y = m} (powers j)).1 (subst (λ (x : ℕ). 128 * 256 ^ x ≤ m) s (v.needed (omega arith))) in
          ap shortest f ∙ short-two t (m / 256 ^ suc j) c (map (turned t) (octs j m [])) h (omega arith) (omega arith)

  -- the digits of a magnitude, turned over or not, are read as the number
  pub coded : whole_of (map (turned t) (octs (suc k) m [])) ≡ Some (Whole (joined t m))
  unfolding o
  coded = sym (whole-made o (subst (λ (x : ℕ). x ≤ 8) (sym long) (let f : k ≤ 7 = w.few in omega arith)) short) ∙ ap (λ (z : ℤ). Some (Whole z)) value
