-- What the writers leave.
use Prim.Native.Nat.{ℕ, zero, suc, ◌+◌, ◌-◌, ◌*◌, ◌%◌, ◌≤◌, ◌<◌, max}
use native.Mathlib.Omega.{arith}
use native.Mathlib.Numerals.{add-one}
use mathlib.Core.Path.{◌≡◌, refl, sym, ap, ap₂, ◌∙◌, subst}
use mathlib.Core.Bool.{Bool, true, false}
use mathlib.Core.Option.{Option, none, some}
use mathlib.Core.List.{List, [], ◌∷◌, ◌++◌, map}
use lib.Dec.{T, ltb}
use lib.IntN.{ℤ, pos}
use mir.Syntax.{w64}
use mir.Val.{SFits, to_z, of_z}
use mir.ValLaws.{to_z-of_z}
use lib.ListN.{length, take, drop}
use lib.Seq.{slice, length-slice, sets}
use lib.Ieee.{Float, nan, Format, binary32, binary64, to_bits, ne, top, ones, hid}
use lib.Ieee.Compare.{differs_from_itself}
use borrow.Author.Tests.{lt-ltb, le-ltb, le-leb, lt-leb}
use Rattle.std.specs.Prelude.{Ok, Err}
use Rattle.base.specs.Choice.{pick, is_none}
use Rattle.base.proofs.Cases.{picked, unpicked, true-both, by_bool}
use Rattle.base.proofs.Stores.{sets-all}
use Rattle.model.specs.Limits.{refusal_not_own}
use Rattle.model.specs.Answers.{settled, verdict, judged}
use Rattle.scan.specs.Writes.{Wrote}
use Rattle.answers.specs.Cases.{Writing, output}
use Rattle.answers.specs.Refusals.{number_of, place_in}
use Rattle.answers.specs.declared.refusal.Refusal.{Refusal}
use Rattle.answers.specs.declared.refusal.Refusal.TheVariants.{Size, NotOwn, NotTyped}
use Rattle.typed.specs.Octets.{octs, turned}
use Rattle.typed.specs.Typed.{finite}
use Rattle.typed.specs.Coding.{refusal_not_typed, more, whole_octets, float_octets, raw_octets, coding, is_raw, the_octets, putting_checks, putting}
use Rattle.typed.specs.declared.Value.{Value}
use Rattle.typed.specs.declared.Value.TheVariants.{Single, Double, Whole, Raw}
use Rattle.typed.proofs.Wide.{joined}
use Rattle.typed.proofs.Floats.{length-octs}
use Rattle.typed.proofs.Floating.{finite-yes, finite-no, unturned}
use Rattle.typed.proofs.Wholly.{length-turned}
use Rattle.typed.proofs.Roundtrip.{octets-joined}
use Rattle.values.specs.Laid.{laid}

-- ---- an answer of each case

module _ (n : ℕ) (o : Option (List ℕ)) (out : List ℕ) where
  pub laid_none : (f : Refusal) → number_of f ≡ n → place_in f ≡ 0 → o ≡ none → output (Err f) out ≡ laid n o out
  unfolding laid output
  laid_none f p q e = rw (p, q, e)

  module _ (x : List ℕ) (e : o ≡ some x) where
    pub laid-full : length out < length x → output (Err Size) out ≡ laid n o out
    unfolding laid output
    laid-full h = sym (picked _ _ (lt-ltb _ _ h)) ∙ ap (λ (y : Option (List ℕ)). laid n y out) (sym e)

    settled-front : settled out 0 x ≡ x ++ drop (length x) out
    unfolding settled
    settled-front = let a : 0 - length x ≡ 0 = omega arith in let b : max 0 (length x) ≡ length x = omega arith in rw (a, b)

    pub laid_done : (k : ℕ) → k ≡ length x → k ≤ length out → (out' : List ℕ) → out' ≡ x ++ drop k out → output (Ok k) out' ≡ laid n o out
    unfolding laid output
    laid_done k l h out' q =
        ap₂ (λ (m : ℕ) (y : List ℕ). output (Ok m) y) l (q ∙ ap (λ (m : ℕ). x ++ drop m out) l ∙ sym settled-front)
        ∙ sym (unpicked _ _ (le-ltb _ _ (subst (λ (m : ℕ). m ≤ length out) l h)))
        ∙ ap (λ (y : Option (List ℕ)). laid n y out) (sym e)

-- ---- floats

module _ (f : Format) (k : ℕ) (x : Float) (out : List ℕ) where
  finite-none : finite f (to_bits f x) ≡ false → float_octets f k x ≡ none
  unfolding float_octets
  finite-none e = unpicked _ _ e

  finite-some : finite f (to_bits f x) ≡ true → float_octets f k x ≡ some (octs k (to_bits f x) [])
  unfolding float_octets
  finite-some e = picked _ _ e

  pub float-nan : finite f (to_bits f nan) ≡ false → ne x x ≡ true → output (Err NotTyped) out ≡ laid refusal_not_typed (float_octets f k x) out
  float-nan z e = laid_none refusal_not_typed (float_octets f k x) out NotTyped refl refl (finite-none (ap (λ (y : Float). finite f (to_bits f y)) (differs_from_itself x (subst T (sym e) tt)) ∙ z))

  pub float-inf : ones f * hid f ≤ to_bits f x % top f → output (Err NotTyped) out ≡ laid refusal_not_typed (float_octets f k x) out
  float-inf h = laid_none refusal_not_typed (float_octets f k x) out NotTyped refl refl (finite-none (finite-no f (to_bits f x) h))

  module _ (l : to_bits f x % top f < ones f * hid f) where
    long : length (octs k (to_bits f x) []) ≡ k
    long = length-octs k (to_bits f x) [] ∙ (let z : k + 0 ≡ k = omega arith in z)

    is : float_octets f k x ≡ some (octs k (to_bits f x) [])
    is = finite-some (finite-yes f (to_bits f x) l)

    pub float-full : length out < k → output (Err Size) out ≡ laid refusal_not_typed (float_octets f k x) out
    float-full h = laid-full refusal_not_typed (float_octets f k x) out (octs k (to_bits f x) []) is (subst (λ (n : ℕ). length out < n) (sym long) h)

    pub float-done : k ≤ length out → (out' : List ℕ) → out' ≡ map (turned false) (octs k (to_bits f x) []) ++ drop k out → output (Ok k) out' ≡ laid refusal_not_typed (float_octets f k x) out
    float-done h out' q =
        laid_done refusal_not_typed (float_octets f k x) out (octs k (to_bits f x) []) is k (sym long) h out' (q ∙ ap (λ (y : List ℕ). y ++ drop k out) (unturned (octs k (to_bits f x) [])))

single-nan : finite binary32 (to_bits binary32 nan) ≡ false
unfolding finite to_bits
single-nan = refl

double-nan : finite binary64 (to_bits binary64 nan) ≡ false
unfolding finite to_bits
double-nan = refl

pub put-nan-32 : (x : Float) (out : List ℕ) → ne x x ≡ true → output (Err NotTyped) out ≡ laid refusal_not_typed (float_octets binary32 4 x) out
put-nan-32 x out e = float-nan binary32 4 x out single-nan e

pub put-nan-64 : (x : Float) (out : List ℕ) → ne x x ≡ true → output (Err NotTyped) out ≡ laid refusal_not_typed (float_octets binary64 8 x) out
put-nan-64 x out e = float-nan binary64 8 x out double-nan e

-- ---- whole numbers

pub whole-none : (x : ℤ) (out : List ℕ) → x ≡ pos 0 → output (Ok 0) out ≡ laid refusal_not_typed (some (whole_octets x)) out
unfolding whole_octets
whole-none x out e = laid_done refusal_not_typed (some (whole_octets x)) out [] (ap (λ (z : ℤ). some (whole_octets z)) e) 0 refl (omega arith) out refl

module _ (x : ℤ) (t : Bool) (m k : ℕ) (e : x ≡ joined t m) (n : t ≡ false → m ≡ 0 → ⊥) (w : k ≡ more m) (out : List ℕ) where
  abbrev o : List ℕ
  o = map (turned t) (octs (k + 1) m [])

  coded : some (whole_octets x) ≡ some o
  coded = ap some (ap whole_octets e ∙ octets-joined t m n ∙ ap (λ (j : ℕ). map (turned t) (octs j m [])) (sym (add-one (more m) ∙ refl) ∙ ap (λ (j : ℕ). j + 1) (sym w)))

  whole_long : length o ≡ k + 1
  whole_long = length-turned t (octs (k + 1) m []) ∙ length-octs (k + 1) m [] ∙ (let z : k + 1 + 0 ≡ k + 1 = omega arith in z)

  pub whole-full : length out < k + 1 → output (Err Size) out ≡ laid refusal_not_typed (some (whole_octets x)) out
  whole-full h = laid-full refusal_not_typed (some (whole_octets x)) out o coded (subst (λ (j : ℕ). length out < j) (sym whole_long) h)

  pub whole-done : k + 1 ≤ length out → (out' : List ℕ) → out' ≡ o ++ drop (k + 1) out → output (Ok (k + 1)) out' ≡ laid refusal_not_typed (some (whole_octets x)) out
  whole-done h out' q = laid_done refusal_not_typed (some (whole_octets x)) out o coded (k + 1) (sym whole_long) h out' q

-- ---- copies

pub part_slice : (s e : ℕ) (l : List ℕ) → take (e - s) (drop s l) ≡ slice s e l
part_slice zero e l = let z : e - 0 ≡ e = omega arith in ap (λ (n : ℕ). take n l) z
part_slice (suc s) zero l = let z : 0 - suc s ≡ 0 = omega arith in ap (λ (n : ℕ). take n (drop (suc s) l)) z
part_slice (suc s) (suc e) [] = none (suc e - suc s)
  where
    none : (n : ℕ) → take {A = ℕ} n [] ≡ []
    none zero = refl
    none (suc n) = refl
part_slice (suc s) (suc e) (x ∷ l) = let z : suc e - suc s ≡ e - s = omega arith in ap (λ (n : ℕ). take n (drop s l)) z ∙ part_slice s e l

module _ (src : List ℕ) (s e : ℕ) (out : List ℕ) where
  pub raw-order : e < s → output (Err NotOwn) out ≡ laid refusal_not_own (raw_octets src s e) out
  unfolding raw_octets
  raw-order h = laid_none refusal_not_own (raw_octets src s e) out NotOwn refl refl (unpicked _ _ (unpicked _ _ (lt-leb s e h)))

  module _ (a : s ≤ e) where
    pub raw-outside : length src < e → output (Err NotOwn) out ≡ laid refusal_not_own (raw_octets src s e) out
    unfolding raw_octets
    raw-outside h = laid_none refusal_not_own (raw_octets src s e) out NotOwn refl refl (unpicked _ _ (picked _ _ (le-leb s e a) ∙ lt-leb e (length src) h))

    module _ (b : e ≤ length src) where
      raw-some : raw_octets src s e ≡ some (slice s e src)
      unfolding raw_octets
      raw-some = picked _ _ (true-both (le-leb s e a) (le-leb e (length src) b))

      pub raw-full : length out < e - s → output (Err Size) out ≡ laid refusal_not_own (raw_octets src s e) out
      raw-full h = laid-full refusal_not_own (raw_octets src s e) out (slice s e src) raw-some (subst (λ (n : ℕ). length out < n) (sym (length-slice s e src b)) h)

      pub raw-done : e - s ≤ length out → (out' : List ℕ) (p : ℕ) → Wrote (take (e - s) (drop s src)) 0 out out' p → output (Ok (e - s)) out' ≡ laid refusal_not_own (raw_octets src s e) out
      raw-done h out' p w =
          laid_done refusal_not_own (raw_octets src s e) out (slice s e src) raw-some (e - s) (sym (length-slice s e src b)) h out'
          (w.same ∙ ap (λ (x : List ℕ). sets out 0 x) (part_slice s e src) ∙ sets-all out (slice s e src) (subst (λ (n : ℕ). n ≤ length out) (sym (length-slice s e src b)) h)
          ∙ ap (λ (n : ℕ). slice s e src ++ drop n out) (length-slice s e src b))

-- ---- whatever the value is

laid-judged : (raw : Bool) (n : ℕ) (o : Option (List ℕ)) (v : Value) (src out : List ℕ) → coding src v ≡ o → is_raw v ≡ raw → n ≡ pick raw refusal_not_own refusal_not_typed → laid n o out ≡ putting v src out
unfolding laid putting putting_checks judged verdict is_none the_octets
laid-judged true n none v src out e q z = rw (e, q, z)
laid-judged false n none v src out e q z = rw (e, q, z)
laid-judged true n (some o) v src out e q z = rw (e, q) (by_bool (ltb (length out) (length o)) (λ t. rw t) (λ t. rw t))
laid-judged false n (some o) v src out e q z = rw (e, q) (by_bool (ltb (length out) (length o)) (λ t. rw t) (λ t. rw t))

module _ (src out out' : List ℕ) (r : Writing) (v : Value) where
  pub put-single : (x : Float) → v ≡ Single x → output r out' ≡ laid refusal_not_typed (float_octets binary32 4 x) out → output r out' ≡ putting v src out
  unfolding coding
  put-single x e w = w ∙ laid-judged false refusal_not_typed (float_octets binary32 4 x) v src out (ap (coding src) e) (ap is_raw e) refl

  pub put-double : (x : Float) → v ≡ Double x → output r out' ≡ laid refusal_not_typed (float_octets binary64 8 x) out → output r out' ≡ putting v src out
  unfolding coding
  put-double x e w = w ∙ laid-judged false refusal_not_typed (float_octets binary64 8 x) v src out (ap (coding src) e) (ap is_raw e) refl

  pub put_whole : (x : ℤ) → v ≡ Whole x → SFits w64 x → output r out' ≡ laid refusal_not_typed (some (whole_octets (to_z w64 (of_z w64 x)))) out → output r out' ≡ putting v src out
  unfolding coding
  put_whole x e h w =
      w ∙ ap (λ (z : ℤ). laid refusal_not_typed (some (whole_octets z)) out) (to_z-of_z w64 x h)
      ∙ laid-judged false refusal_not_typed (some (whole_octets x)) v src out (ap (coding src) e) (ap is_raw e) refl

  pub put-raw : (s e : ℕ) → v ≡ Raw s e → output r out' ≡ laid refusal_not_own (raw_octets src s e) out → output r out' ≡ putting v src out
  unfolding coding
  put-raw s e q w = w ∙ laid-judged true refusal_not_own (raw_octets src s e) v src out (ap (coding src) q) (ap is_raw q) refl
