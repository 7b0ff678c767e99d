-- Form 2: groups of four letters, what is left after them, and the braces.
use Prim.Native.Nat.{ℕ, ◌+◌, ◌*◌, ◌-◌, ◌/◌, ◌%◌, ◌≤◌, ◌<◌}
use native.Mathlib.Omega.{arith}
use native.Mathlib.Numerals.{add-one, add-two, add-three}
use mathlib.Core.Path.{◌≡◌, refl, sym, ap, ◌∙◌}
use mathlib.Core.List.{List, [], ◌∷◌, ◌++◌, append-nil}
use lib.ListN.{length, drop, get_or, length-append, length-drop, drop_of_length-le, set, length-set}
use mir.Val.{Fits}
use mir.Syntax.{w64}
use Rattle.model.specs.Answers.{the}
use Rattle.model.specs.Decode.{decode₁}
use Rattle.model.specs.Tree.{Tree, canon}
use Rattle.model.specs.Write.{base_all, basic}
use Rattle.model.proofs.Exact.{canon-sound}
use Rattle.model.proofs.OutputSizes.{base-length}
use Rattle.scan.specs.Writes.{Wrote}
use Rattle.scan.proofs.Places.{one-here, two_here}
use Rattle.letters.specs.Groups.{letters_of}
use Rattle.writer.proofs.Putting.{Putting, put-start, put-room, put_on, put-done, wrote-length, wrote_one, wrote-both}
use Rattle.writer.specs.Sheets.{Sheet, quartet}
use Rattle.writer.proofs.Lefts.{sheet-tree}

-- ---- four letters

module _ (out : List ℕ) (pos a : ℕ) (h : pos + 4 ≤ length out) where
  pub four-second : pos + 1 < length (set out pos a)
  four-second = omega (arith, length-set out pos a)

  module _ (b : ℕ) where
    pub four-third : pos + 2 < length (set (set out pos a) (pos + 1) b)
    four-third = omega (arith, length-set out pos a, length-set (set out pos a) (pos + 1) b)

    pub four-fourth : (c : ℕ) → pos + 3 < length (set (set (set out pos a) (pos + 1) b) (pos + 2) c)
    four-fourth c = omega (arith, length-set out pos a, length-set (set out pos a) (pos + 1) b, length-set (set (set out pos a) (pos + 1) b) (pos + 2) c)

pub four-wrote : (out : List ℕ) (pos a b c d : ℕ) → Wrote (a ∷ b ∷ c ∷ d ∷ []) pos out (set (set (set (set out pos a) (pos + 1) b) (pos + 2) c) (pos + 3) d) (pos + 4)
four-wrote out pos a b c d = record { place = refl; same = rw (add-one pos, add-two pos, add-three pos) }

pub group-wrote : (q out out' : List ℕ) (pos r a b c : ℕ) → q ≡ letters_of a b c → Wrote (quartet q) pos out out' r → Wrote (letters_of a b c) pos out out' r
group-wrote q out out' pos r a b c e v = rw e at v

-- ---- what is left after whole groups

module _ (src : List ℕ) (at : ℕ) where
  none_left : length src - at ≡ 0 → drop at src ≡ []
  none_left e = let k : length src ≤ at = omega arith in drop_of_length-le src k

  one_left : length src - at ≡ 1 → drop at src ≡ get_or src at 0 ∷ []
  one_left e = let k : length src ≤ at + 1 = omega arith in one-here src at (omega arith) ∙ ap (λ (l : List ℕ). get_or src at 0 ∷ l) (drop_of_length-le src k)

  two-left : length src - at ≡ 2 → drop at src ≡ get_or src at 0 ∷ get_or src (at + 1) 0 ∷ []
  two-left e =
      let k : length src ≤ at + 2 = omega arith in
      two_here src at (omega arith) ∙ ap (λ (l : List ℕ). get_or src at 0 ∷ get_or src (at + 1) 0 ∷ l) (drop_of_length-le src k)

  pub rest-room : (pos : ℕ) (out : List ℕ) → length src - at < 3 → (length src - at ≡ 0 → ⊥) → pos + length (base_all (drop at src)) ≤ length out → pos + 4 ≤ length out
  rest-room pos out h n k = omega (arith, base-length (drop at src), length-drop at src)

  pub rest-none : (pos : ℕ) (out : List ℕ) → length src - at ≡ 0 → Wrote (base_all (drop at src)) pos out out pos
  unfolding base_all
  rest-none pos out e = rw (none_left e) (record { place = omega arith; same = refl })

  module _ (q out out' : List ℕ) (pos r : ℕ) where
    pub rest-one : length src - at ≡ 1 → q ≡ letters_of (get_or src at 0) 0 0 → Wrote (get_or q 0 0 ∷ get_or q 1 0 ∷ 61 ∷ 61 ∷ []) pos out out' r → Wrote (base_all (drop at src)) pos out out' r
    unfolding base_all
    rest-one e f w =
        let z : get_or src at 0 % 4 * 16 ≡ get_or src at 0 % 4 * 16 + 0 / 16 = omega arith in
        rw (one_left e, z) (rw f at w)

    pub rest-two : length src - at < 3 → (length src - at ≡ 0 → ⊥) → (length src - at ≡ 1 → ⊥) → q ≡ letters_of (get_or src at 0) (get_or src (at + 1) 0) 0
        → Wrote (get_or q 0 0 ∷ get_or q 1 0 ∷ get_or q 2 0 ∷ 61 ∷ []) pos out out' r → Wrote (base_all (drop at src)) pos out out' r
    unfolding base_all
    rest-two h n m f w =
        let z : get_or src (at + 1) 0 % 16 * 4 ≡ get_or src (at + 1) 0 % 16 * 4 + 0 / 64 = omega arith in
        rw (two-left (omega arith), z) (rw f at w)

-- ---- all groups

-- those from i on are left
pub record Lettering (src : List ℕ) (pos : ℕ) (out₀ out : List ℕ) (i o : ℕ) : Type 0 where
  pub within : i ≤ length src
  pub put : Putting (base_all src) pos out₀ out (base_all (drop i src)) o

pub letters-start : (src : List ℕ) (pos : ℕ) (out : List ℕ) → pos + length (base_all src) ≤ length out → Lettering src pos out out 0 pos
letters-start src pos out h = record { within = omega arith; put = put-start (base_all src) pos out h }

three-here : (src : List ℕ) (i : ℕ) → 3 ≤ length src - i → drop i src ≡ get_or src i 0 ∷ get_or src (i + 1) 0 ∷ get_or src (i + 2) 0 ∷ drop (i + 3) src
three-here src i h =
    let z : i + 2 + 1 ≡ i + 3 = omega arith in
    two_here src i (omega arith) ∙ ap (λ (l : List ℕ). get_or src i 0 ∷ get_or src (i + 1) 0 ∷ l) (rw z at (one-here src (i + 2) (omega arith)))

module _ (src : List ℕ) (pos : ℕ) (out₀ out : List ℕ) (i o : ℕ) (w : Lettering src pos out₀ out i o) where
  module _ (h : 3 ≤ length src - i) where
    abbrev group : List ℕ
    group = letters_of (get_or src i 0) (get_or src (i + 1) 0) (get_or src (i + 2) 0)

    splits : base_all (drop i src) ≡ group ++ base_all (drop (i + 3) src)
    unfolding base_all
    splits = ap base_all (three-here src i h)

    pub letters-room : o + 4 ≤ length out
    letters-room = put-room (base_all src) pos out₀ out _ o w.put group (base_all (drop (i + 3) src)) splits

    pub letters-on : (out' : List ℕ) (r : ℕ) → Wrote group o out out' r → Lettering src pos out₀ out' (i + 3) r
    letters-on out' r v =
        record { within = omega arith; put = put_on (base_all src) pos out₀ out _ o w.put group (base_all (drop (i + 3) src)) splits out' r v }

  pub letters-left : o + length (base_all (drop i src)) ≤ length out
  letters-left = omega (arith, w.put.fits, w.put.long)

  pub letters-end : (out' : List ℕ) (r : ℕ) → Wrote (base_all (drop i src)) o out out' r → Wrote (base_all src) pos out₀ out' r
  letters-end out' r v =
      put-done (base_all src) pos out₀ out' [] r
      (put_on (base_all src) pos out₀ out (base_all (drop i src)) o w.put (base_all (drop i src)) [] (sym (append-nil (base_all (drop i src)))) out' r v) refl

  pub letters-long : length out ≡ length out₀
  letters-long = w.put.long

-- ---- the braces

module _ (src : List ℕ) (s : Sheet src) where
  braced : basic (the (decode₁ src)) ≡ 123 ∷ base_all src ++ 125 ∷ []
  unfolding basic
  braced = ap (λ (t : Tree). 123 ∷ base_all (canon t) ++ 125 ∷ []) (sheet-tree src s) ∙ ap (λ (l : List ℕ). 123 ∷ base_all l ++ 125 ∷ []) (sym (canon-sound src s.tree s.is))

  basic-size : length (basic (the (decode₁ src))) ≡ length (base_all src) + 2
  basic-size = omega (arith, ap length braced, length-append (base_all src) (125 ∷ []))

  module _ (out : List ℕ) (h : length (basic (the (decode₁ src))) ≤ length out) where
    pub brace-first : 0 < length out
    brace-first = omega (arith, basic-size)

    pub brace-body : 1 + length (base_all src) ≤ length (set out 0 123)
    brace-body = omega (arith, basic-size, length-set out 0 123)

    module _ (out' : List ℕ) (o : ℕ) (w : Wrote (base_all src) 1 (set out 0 123) out' o) where
      brace-kept : length out' ≡ length out
      brace-kept = wrote-length (base_all src) 1 (set out 0 123) out' o w ∙ length-set out 0 123

      pub brace-last : o < length out'
      brace-last = omega (arith, brace-kept, basic-size, w.place)

      pub brace-long : length (set out' o 125) ≡ length out
      brace-long = length-set out' o 125 ∙ brace-kept

      pub brace-fits : Fits w64 (o + 1)
      brace-fits = record { fits = omega (arith, w.place, base-length src, s.short) }

      pub brace-wrote : Wrote (basic (the (decode₁ src))) 0 out (set out' o 125) (o + 1)
      brace-wrote =
          rw braced
          (wrote-both (123 ∷ base_all src) (125 ∷ []) 0 o (o + 1) out out' (set out' o 125) (wrote-both (123 ∷ []) (base_all src) 0 1 o out (set out 0 123) out' (wrote_one out 0 123) w) (wrote_one out' o 125))
