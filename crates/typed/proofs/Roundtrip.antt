-- What was read is written back, and what is written is read back.
use Prim.Native.Nat.{ℕ, zero, suc, ◌+◌, ◌^◌, ◌≤◌, ◌<◌}
use native.Mathlib.Omega.{arith}
use native.Mathlib.Nat.{one-mul}
use mathlib.Core.Path.{◌≡◌, refl, sym, ap, ◌∙◌, subst}
use mathlib.Core.Bool.{Bool, true, false, ◌&&◌}
use mathlib.Core.Option.{none, some}
use mathlib.Core.List.{List, [], ◌∷◌, map}
use lib.Dec.{T, leb, eqb}
use lib.IntN.{ℤ, pos}
use lib.ListN.{length}
use lib.Seq.{slice}
use lib.Ieee.{Float, Format, binary32, binary64, of_bits, to_bits, fits}
use borrow.Author.Tests.{le-leb}
use Rattle.base.specs.Choice.{pick}
use Rattle.base.proofs.Cases.{true-both, picked, pick-cases, none-some, some_same}
use Rattle.typed.specs.Octets.{be, octs, octets, turned, signed, shortest}
use Rattle.typed.specs.Typed.{finite, single_of, double_of, whole_of, value_at, float_of}
use Rattle.typed.specs.Coding.{more, whole_octets, float_octets, raw_octets, coding}
use Rattle.typed.specs.declared.Value.{Value}
use Rattle.typed.specs.declared.Value.TheVariants.{Single, Double, Whole, Raw}
use Rattle.typed.specs.Typed.{Typing}
use Rattle.std.specs.Prelude.{Some, None}
use Rattle.typed.proofs.Base.{by_bool, pick_yes, pick_no}
use Rattle.typed.proofs.Wide.{joined, more-wide}
use Rattle.typed.proofs.Digits.{octets-head, octets-slice, be-lt}
use Rattle.typed.proofs.Floats.{Size, float-bits, float-coded, be-octs, be-inj, length-octs, octets-octs}
use Rattle.typed.proofs.Wholly.{half, turned-octets}
use Rattle.typed.proofs.Shorten.{signed_by, coded}
use Rattle.typed.proofs.Unique.{Says, whole_says, Sized, sized, sign, whole-one}

-- ---- whole numbers

pub octets-joined : (t : Bool) (m : ℕ) → (t ≡ false → m ≡ 0 → ⊥) → whole_octets (joined t m) ≡ map (turned t) (octs (suc (more m)) m [])
unfolding whole_octets
octets-joined true m n = refl
octets-joined false zero n = absurd (n refl refl)
octets-joined false (suc m) n = refl

-- the octets of a number of 64 bits are read as the number
pub whole-coded : (t : Bool) (m : ℕ) → m < 2 ^ 63 → (t ≡ false → m ≡ 0 → ⊥) → whole_of (whole_octets (joined t m)) ≡ Some (Whole (joined t m))
whole-coded t m h n = ap whole_of (octets-joined t m n) ∙ coded t (more m) m (more-wide m h) n

whole-all : (t : Bool) (m : ℕ) → (t ≡ false → m ≡ 0 → ⊥) → T (octets (whole_octets (joined t m)))
unfolding octets
whole-all t m n = subst (λ (o : List ℕ). T (octets o)) (sym (octets-joined t m n)) (turned-octets t (octs (suc (more m)) m []) (octets-octs (suc (more m)) m [] tt))

signed-zero : signed [] ≡ pos 0
unfolding signed
signed-zero = refl

zero-octets : whole_octets (pos 0) ≡ []
unfolding whole_octets
zero-octets = refl

-- octets that are read as a number are its octets
pub whole-octets-of : (z : ℤ) (o : List ℕ) → T (octets o) → whole_of o ≡ Some (Whole z) → whole_octets z ≡ o
whole-octets-of z [] t e = ap whole_octets (sym (whole_says z [] e).value ∙ signed-zero) ∙ zero-octets
whole-octets-of z (b ∷ l) t e =
    let w : Says z (b ∷ l) = whole_says z (b ∷ l) e in
    let s = sign b (octets-head b l t) in
    let m : ℕ = be 0 (map (turned s.0) (b ∷ l)) in
    let k : Sized s.0 (length l) m = sized s.0 b l t w.short s.1 in
    let few : length l ≤ 7 = (let f : suc (length l) ≤ 8 = w.few in omega arith) in
    let h : m < 2 ^ 63 = half s.0 b l t s.1 few in
    let n : s.0 ≡ false → m ≡ 0 → ⊥ = λ p q. positive m (k.some p) q in
    let v : z ≡ joined s.0 m = sym w.value ∙ signed_by s.0 b l t s.1 in
    ap whole_octets v
    ∙ whole-one (joined s.0 m) (whole_octets (joined s.0 m)) (b ∷ l) (whole-all s.0 m n) t (whole-coded s.0 m h n) (e ∙ ap (λ (x : ℤ). Some (Whole x)) v)
  where
    positive : (m : ℕ) → 0 < m → m ≡ 0 → ⊥
    positive m p q = omega arith

-- ---- floats

module _ (f : Format) (k : ℕ) (s : Size f k) (made : Float → Value) (inj : (a b : Float) → ◌≡◌ {A = Typing} (Some (made a)) (Some (made b)) → a ≡ b) (x : Float) where
  -- octets that are read as a float are its octets
  pub float-octets-of : (o : List ℕ) → T (octets o) → float_of f k made o ≡ Some (made x) → float_octets f k x ≡ some o
  unfolding float_octets octets
  float-octets-of o t e =
      let w = float-bits f k s made inj x o t e in
      let l : be 0 o < 256 ^ k = subst (λ (n : ℕ). be 0 o < 256 ^ n) w.0 (subst (λ (y : ℕ). be 0 o < y) (one-mul (256 ^ length o)) (be-lt 0 o t)) in
      let z : length (octs k (be 0 o) []) ≡ k = length-octs k (be 0 o) [] ∙ (let y : k + 0 ≡ k = omega arith in y) in
      picked _ _ w.2
      ∙ ap some (ap (λ (n : ℕ). octs k n []) (sym w.1) ∙ be-inj (octs k (be 0 o) []) o (octets-octs k (be 0 o) [] tt) t (z ∙ sym w.0) (be-octs k (be 0 o) l))

  -- the octets of a float are read as the float
  pub float-octets-read : T (fits f x) → (o : List ℕ) → float_octets f k x ≡ some o → float_of f k made o ≡ Some (made x)
  unfolding float_octets
  float-octets-read h o e =
      pick-cases (finite f (to_bits f x)) (some (octs k (to_bits f x) [])) none e
      (λ p q. some_same (λ (y : List ℕ). float_of f k made y ≡ Some (made x)) q (float-coded f k s made inj x h p))
      (λ p q. none-some q)

single-size : Size binary32 4
single-size = record { wide = refl }

double-size : Size binary64 8
double-size = record { wide = refl }

single_inj : (a b : Float) → ◌≡◌ {A = Typing} (Some (Single a)) (Some (Single b)) → a ≡ b
single_inj a b e = cc

double-inj : (a b : Float) → ◌≡◌ {A = Typing} (Some (Double a)) (Some (Double b)) → a ≡ b
double-inj a b e = cc

-- ---- whatever was read

same-is : (a b : Value) → ◌≡◌ {A = Typing} (Some a) (Some b) → b ≡ a
same-is a b e = cc

never : {G : Type 0} (b : Value) → None ≡ Some b → G
never b e = let z : ◌≡◌ {A = ℕ} 0 1 = cc in absurd (no z)
  where
    no : ◌≡◌ {A = ℕ} 0 1 → ⊥
    no z = omega arith

float_is : (f : Format) (k : ℕ) (made : Float → Value) (o : List ℕ) (v : Value) → float_of f k made o ≡ Some v → (x : Float) × (v ≡ made x)
unfolding float_of
float_is f k made o v e = by_bool (eqb (length o) k && finite f (be 0 o))
    (λ t. (of_bits f (be 0 o), same-is (made (of_bits f (be 0 o))) v (sym (pick_yes (eqb (length o) k && finite f (be 0 o)) (Some (made (of_bits f (be 0 o)))) None t) ∙ e)))
    (λ t. never v (sym (pick_no (eqb (length o) k && finite f (be 0 o)) (Some (made (of_bits f (be 0 o)))) None t) ∙ e))

whole_is : (o : List ℕ) (v : Value) → whole_of o ≡ Some v → (x : ℤ) × (v ≡ Whole x)
unfolding whole_of
whole_is o v e = by_bool (leb (length o) 8 && shortest o)
    (λ t. (signed o, same-is (Whole (signed o)) v (sym (pick_yes (leb (length o) 8 && shortest o) (Some (Whole (signed o))) None t) ∙ e)))
    (λ t. never v (sym (pick_no (leb (length o) 8 && shortest o) (Some (Whole (signed o))) None t) ∙ e))

module _ (src o : List ℕ) (v : Value) (t : T (octets o)) where
  single-back : single_of o ≡ Some v → coding src v ≡ some o
  unfolding coding
  single-back e =
      let x = float_is binary32 4 (λ y. Single y) o v e in
      ap (coding src) x.1 ∙ float-octets-of binary32 4 single-size (λ y. Single y) single_inj x.0 o t (e ∙ ap (λ (u : Value). Some u) x.1)

  double-back : double_of o ≡ Some v → coding src v ≡ some o
  unfolding coding
  double-back e =
      let x = float_is binary64 8 (λ y. Double y) o v e in
      ap (coding src) x.1 ∙ float-octets-of binary64 8 double-size (λ y. Double y) double-inj x.0 o t (e ∙ ap (λ (u : Value). Some u) x.1)

  whole_back : whole_of o ≡ Some v → coding src v ≡ some o
  unfolding coding
  whole_back e =
      let x = whole_is o v e in
      ap (coding src) x.1 ∙ ap some (whole-octets-of x.0 o t (e ∙ ap (λ (u : Value). Some u) x.1))

raw-back : (src : List ℕ) (s e : ℕ) (v : Value) → s ≤ e → e ≤ length src → Some (Raw s e) ≡ Some v → coding src v ≡ some (slice s e src)
unfolding coding raw_octets
raw-back src s e v a b h = ap (coding src) (same-is (Raw s e) v h) ∙ picked _ _ (true-both (le-leb s e a) (le-leb e (length src) b))

-- S 10.6: an accepted value writes back to the same octets of data, a raw one from its place
pub written_back : (k : ℕ) (src : List ℕ) (s e : ℕ) (v : Value) → T (octets src) → s ≤ e → e ≤ length src → value_at k src s e ≡ Some v → coding src v ≡ some (slice s e src)
unfolding value_at
written_back k src s e v t a b h =
    let o : List ℕ = slice s e src in
    let all : T (octets o) = octets-slice s e src t in
    let last : Typing = pick (eqb k 3) (whole_of o) (Some (Raw s e)) in
    let mid : Typing = pick (eqb k 2) (double_of o) last in
    by_bool (eqb k 1)
    (λ p. single-back src o v all (sym (pick_yes (eqb k 1) (single_of o) mid p) ∙ h))
    (λ p.
    let h₁ : mid ≡ Some v = sym (pick_no (eqb k 1) (single_of o) mid p) ∙ h in
    by_bool (eqb k 2)
    (λ q. double-back src o v all (sym (pick_yes (eqb k 2) (double_of o) last q) ∙ h₁))
    (λ q.
    let h₂ : last ≡ Some v = sym (pick_no (eqb k 2) (double_of o) last q) ∙ h₁ in
    by_bool (eqb k 3)
    (λ r. whole_back src o v all (sym (pick_yes (eqb k 3) (whole_of o) (Some (Raw s e)) r) ∙ h₂))
    (λ r. raw-back src s e v a b (sym (pick_no (eqb k 3) (whole_of o) (Some (Raw s e)) r) ∙ h₂))))
