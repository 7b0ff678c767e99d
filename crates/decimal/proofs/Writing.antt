-- How many digits a number has, and its digits written from the first to the last.
use Prim.Native.Nat.{ℕ, zero, suc, ◌+◌, ◌*◌, ◌-◌, ◌/◌, ◌%◌, ◌≤◌, ◌<◌}
use native.Mathlib.Omega.{arith}
use native.Mathlib.Numerals.{add-one}
use native.Mathlib.Nat.{add-mul, one-mul, mul-add-div_right, div-eq_of_lt, mul-add-mod_self_right, mod-eq_of_lt}
use mathlib.Core.Path.{◌≡◌, refl, sym, ap, ap₂, ◌∙◌}
use mathlib.Core.List.{List, [], ◌∷◌, ◌++◌}
use borrow.Author.Tests.{lt-ltb, le-ltb}
use lib.ListN.{length, length-append, set, length-set, get_or}
use lib.Seq.{sets}
use mir.Syntax.{w8}
use mir.Val.{Fits}
use Rattle.base.proofs.Cases.{by_le, by-eq}
use Rattle.model.specs.Limits.{max_source}
use Rattle.model.specs.Tree.{digits}
use Rattle.model.proofs.Digits.{digits-small, digits_more}
use Rattle.model.proofs.Sizes.{digits-length}
use Rattle.scan.specs.Writes.{Wrote}
use Rattle.decimal.specs.Numbers.{Wide}
use Rattle.decimal.specs.Places.{Split, Took, Led, taken, ending}
use Rattle.decimal.specs.declared.digits.Part.{Part}

small_width : (n : ℕ) → n < 10 → length (digits n) ≡ 1
small_width n h = ap length (digits-small n h)

more-width : (n : ℕ) → 10 ≤ n → length (digits n) ≡ length (digits (n / 10)) + 1
more-width n h = ap length (digits_more n h) ∙ length-append (digits (n / 10)) _

two-width : (n : ℕ) → 10 ≤ n → n < 100 → length (digits n) ≡ 2
two-width n h k = omega (arith, more-width n h, small_width (n / 10) (omega arith))

three-width : (n : ℕ) → 100 ≤ n → n < 1000 → length (digits n) ≡ 3
three-width n h k = omega (arith, more-width n (omega arith), two-width (n / 10) (omega arith) (omega arith))

four-width : (n : ℕ) → 1000 ≤ n → n < 10000 → length (digits n) ≡ 4
four-width n h k = omega (arith, more-width n (omega arith), three-width (n / 10) (omega arith) (omega arith))

pub wide-1 : (n : ℕ) → n < 10 → Wide n 1
wide-1 n h = record { is = sym (small_width n h); few = omega arith }

pub wide-2 : (n : ℕ) → 10 ≤ n → n < 100 → Wide n 2
wide-2 n h k = record { is = sym (two-width n h k); few = omega arith }

pub wide-3 : (n : ℕ) → 100 ≤ n → n < 1000 → Wide n 3
wide-3 n h k = record { is = sym (three-width n h k); few = omega arith }

pub wide-4 : (n : ℕ) → 1000 ≤ n → n < 10000 → Wide n 4
wide-4 n h k = record { is = sym (four-width n h k); few = omega arith }

pub wide-5 : (n : ℕ) → 10000 ≤ n → n ≤ max_source → Wide n 5
wide-5 n h k = record { is = omega (arith, more-width n (omega arith), four-width (n / 10) (omega arith) (omega arith)); few = omega arith }

-- ---- a part taken away
-- taking `times` the power away, if it is there, halves what may be left
took : (n power times : ℕ) (p : Part) → Split n power (times + times) p → Split n power times (taken p times (times * power))
unfolding taken
took n power times p s =
    by_le (times * power) p.left
    (λ h. rw (le-ltb p.left (times * power) h) (record { whole = omega (arith, add-mul p.digit times power, s.whole); low = omega (arith, add-mul times times power, s.low); few = omega (arith, s.few) }))
    (λ h. rw (lt-ltb p.left (times * power) h) (record { whole = s.whole; low = h; few = omega (arith, s.few) }))

pub took-none : (p : Part) (times much : ℕ) → p.left < much → Took p times much p
unfolding taken
took-none p times much h = record { is = rw (lt-ltb p.left much h); few = omega arith }

pub took_one : (p : Part) (times much : ℕ) → much ≤ p.left → Took p times much (record { digit = p.digit + times; left = p.left - much })
unfolding taken
took_one p times much h = record { is = rw (le-ltb p.left much h); few = omega arith }

halves : (n power times much : ℕ) (p r : Part) → times * power ≡ much → Took p times much r → Split n power (times + times) p → Split n power times r
halves n power times much p r e t s = rw (t.is, ← e) (took n power times p s)

pub four-times : (n power : ℕ) (a b c d : Part) → n < 10 * power → Took (record { digit = 0; left = n }) 8 (8 * power) a → Took a 4 (4 * power) b → Took b 2 (2 * power) c → Took c 1 power d → Split n power 1 d
four-times n power a b c d h i j k l =
    let none : Split n power 16 (record { digit = 0; left = n }) = record { whole = omega arith; low = omega arith; few = omega arith } in
    halves n power 1 power c d (one-mul power) l (halves n power 2 _ b c refl k (halves n power 4 _ a b refl j (halves n power 8 _ _ a refl i none)))

-- ---- digits one after the other
pub led : (n power pos : ℕ) (before : List ℕ) (p : Part) → Split n power 1 p → Led n power pos before (set before pos (48 + p.digit)) p.left
led n power pos before p s = record { digit = p.digit; whole = s.whole; low = omega (arith, s.low, one-mul power); same = refl }

module _ (n power pos : ℕ) (before after : List ℕ) (left : ℕ) (l : Led n power pos before after left) where
  of-power : n / power ≡ l.digit
  of-power = ap (λ (x : ℕ). x / power) (sym l.whole) ∙ mul-add-div_right (omega (arith, l.low)) l.digit left ∙ omega (arith, div-eq_of_lt l.low)

  below_power : n % power ≡ left
  below_power = ap (λ (x : ℕ). x % power) (sym l.whole) ∙ mul-add-mod_self_right l.digit power left ∙ mod-eq_of_lt l.low

  pub led-more : (ps : List ℕ) (after' : List ℕ) (r : ℕ) → Wrote (ending ps left) (pos + 1) after after' r → Wrote (ending (power ∷ ps) n) pos before after' r
  unfolding ending
  led-more ps after' r w =
      rw (of-power, below_power)
      (record {
        place = omega (arith, w.place);
        same = w.same ∙ ap₂ (λ (m : List ℕ) (i : ℕ). sets m i (ending ps left)) l.same (add-one pos);
      })

  pub led-last : Wrote (ending (power ∷ []) n) pos before (set after (pos + 1) (48 + left)) (pos + 2)
  unfolding ending
  led-last = led-more [] (set after (pos + 1) (48 + left)) (pos + 2) (record { place = omega arith; same = refl })

-- ---- they are the number's digits
-- with one power more
one_more : (p : ℕ) (ps qs : List ℕ) (n : ℕ) → ((m : ℕ) → ending qs m ≡ ending ps (m / 10) ++ ((48 + m % 10) ∷ [])) → n / (10 * p) ≡ n / 10 / p → n % (10 * p) / 10 ≡ n / 10 % p → n % (10 * p) % 10 ≡ n % 10 → ending (10 * p ∷ qs) n ≡ ending (p ∷ ps) (n / 10) ++ ((48 + n % 10) ∷ [])
unfolding ending
one_more p ps qs n e a b c = rw (a, e (n % (10 * p)), b, c)

ten : (n : ℕ) → ending (10 ∷ []) n ≡ ending [] (n / 10) ++ ((48 + n % 10) ∷ [])
unfolding ending
ten n = refl

hundred : (n : ℕ) → ending (100 ∷ 10 ∷ []) n ≡ ending (10 ∷ []) (n / 10) ++ ((48 + n % 10) ∷ [])
hundred n = one_more 10 [] (10 ∷ []) n ten (omega arith) (omega arith) (omega arith)

thousand : (n : ℕ) → ending (1000 ∷ 100 ∷ 10 ∷ []) n ≡ ending (100 ∷ 10 ∷ []) (n / 10) ++ ((48 + n % 10) ∷ [])
thousand n = one_more 100 (10 ∷ []) (100 ∷ 10 ∷ []) n hundred (omega arith) (omega arith) (omega arith)

ten-thousand : (n : ℕ) → ending (10000 ∷ 1000 ∷ 100 ∷ 10 ∷ []) n ≡ ending (1000 ∷ 100 ∷ 10 ∷ []) (n / 10) ++ ((48 + n % 10) ∷ [])
ten-thousand n = one_more 1000 (100 ∷ 10 ∷ []) (1000 ∷ 100 ∷ 10 ∷ []) n thousand (omega arith) (omega arith) (omega arith)

shown : (n : ℕ) (ps qs : List ℕ) → 10 ≤ n → ending qs n ≡ ending ps (n / 10) ++ ((48 + n % 10) ∷ []) → digits (n / 10) ≡ ending ps (n / 10) → digits n ≡ ending qs n
shown n ps qs h e d = digits_more n h ∙ ap (λ (x : List ℕ). x ++ ((48 + n % 10) ∷ [])) d ∙ sym e

one-digit : (n : ℕ) → n < 10 → digits n ≡ ending [] n
unfolding ending
one-digit n h = digits-small n h

two_digits : (n : ℕ) → 10 ≤ n → n < 100 → digits n ≡ ending (10 ∷ []) n
two_digits n h k = shown n [] (10 ∷ []) h (ten n) (one-digit (n / 10) (omega arith))

three-digits : (n : ℕ) → 100 ≤ n → n < 1000 → digits n ≡ ending (100 ∷ 10 ∷ []) n
three-digits n h k = shown n (10 ∷ []) (100 ∷ 10 ∷ []) (omega arith) (hundred n) (two_digits (n / 10) (omega arith) (omega arith))

four-digits : (n : ℕ) → 1000 ≤ n → n < 10000 → digits n ≡ ending (1000 ∷ 100 ∷ 10 ∷ []) n
four-digits n h k = shown n (100 ∷ 10 ∷ []) (1000 ∷ 100 ∷ 10 ∷ []) (omega arith) (thousand n) (three-digits (n / 10) (omega arith) (omega arith))

five-digits : (n : ℕ) → 10000 ≤ n → n < 100000 → digits n ≡ ending (10000 ∷ 1000 ∷ 100 ∷ 10 ∷ []) n
five-digits n h k = shown n (1000 ∷ 100 ∷ 10 ∷ []) (10000 ∷ 1000 ∷ 100 ∷ 10 ∷ []) (omega arith) (ten-thousand n) (four-digits (n / 10) (omega arith) (omega arith))

module _ (n pos : ℕ) (out : List ℕ) where
  pub room-1 : pos + length (digits n) ≤ length out → pos < length out
  room-1 h = omega (arith, (digits-length n).0)

  pub room-2 : pos + length (digits n) ≤ length out → 10 ≤ n → n < 100 → pos + 2 ≤ length out
  room-2 h a b = omega (arith, two-width n a b)

  pub wrote-1 : n < 10 → Wrote (digits n) pos out (set out pos (48 + n)) (pos + 1)
  wrote-1 h = rw (digits-small n h) (record { place = refl; same = refl })

  pub wrote-2 : (out' : List ℕ) (r : ℕ) → 10 ≤ n → n < 100 → Wrote (ending (10 ∷ []) n) pos out out' r → Wrote (digits n) pos out out' r
  wrote-2 out' r h k w = rw (two_digits n h k) w

pub some-width : (n w : ℕ) → Wide n w → 1 ≤ w
some-width n w v = omega (arith, v.is, (digits-length n).0)

-- ---- three digits and more, in a loop
abbrev pub powers₀ : List ℕ
powers₀ = 10 ∷ 100 ∷ 1000 ∷ 10000 ∷ []

-- what is left with k digits to come besides the last one is below this
unfoldable pub bound : ℕ → ℕ
bound k = get_or (10 ∷ 100 ∷ 1000 ∷ 10000 ∷ 100000 ∷ []) k 0

-- the powers of these k digits, from the largest
unfoldable pub largest : ℕ → List ℕ
largest zero = []
largest (suc k) = get_or powers₀ k 0 ∷ largest k

largest-more : (k : ℕ) → 0 < k → largest k ≡ get_or powers₀ (k - 1) 0 ∷ largest (k - 1)
unfolding largest
largest-more zero h = absurd (omega arith)
largest-more (suc k) h = let e : suc k - 1 ≡ k = omega arith in rw e refl

tenfold : (k : ℕ) → 0 < k → k ≤ 4 → (10 * get_or powers₀ (k - 1) 0 ≡ bound k) × (get_or powers₀ (k - 1) 0 ≡ bound (k - 1)) × (get_or powers₀ (k - 1) 0 ≤ 10000)
unfolding bound
tenfold k h l =
    by-eq k 1 (λ e. rw e (refl, refl, omega arith))
    (λ a. by-eq k 2 (λ e. rw e (refl, refl, omega arith))
    (λ b. by-eq k 3 (λ e. rw e (refl, refl, omega arith))
    (λ c. by-eq k 4 (λ e. rw e (refl, refl, omega arith))
    (λ d. absurd (omega arith)))))

pub record More (n pos : ℕ) (out₀ powers out : List ℕ) (k left i : ℕ) : Type 0 where
  pub table : powers ≡ powers₀
  pub few : k ≤ 4
  pub low : left < bound k
  pub place : i + k + 1 ≡ pos + length (digits n)
  pub long : length out ≡ length out₀
  pub fits : pos + length (digits n) ≤ length out₀
  pub same : sets out i (ending (largest k) left) ≡ sets out₀ pos (digits n)

first_more : (n pos : ℕ) (out : List ℕ) (k : ℕ) → k ≤ 4 → n < bound k → k + 1 ≡ length (digits n) → pos + length (digits n) ≤ length out → digits n ≡ ending (largest k) n → More n pos out powers₀ out k n pos
first_more n pos out k f l w h e = record { table = refl; few = f; low = l; place = omega arith; long = refl; fits = h; same = ap (sets out pos) (sym e) }

pub more-first : (n pos : ℕ) (out : List ℕ) (w : ℕ) → 100 ≤ n → n ≤ max_source → pos + length (digits n) ≤ length out → Wide n w → More n pos out powers₀ out (w - 1) n pos
unfolding bound largest
more-first n pos out w a b h v =
    by_le 1000 n
    (λ c. by_le 10000 n
    (λ d. rw (v.is ∙ sym (wide-5 n d b).is) (first_more n pos out 4 (omega arith) (omega arith) (wide-5 n d b).is h (five-digits n d (omega arith))))
    (λ d. rw (v.is ∙ sym (wide-4 n c d).is) (first_more n pos out 3 (omega arith) (omega arith) (wide-4 n c d).is h (four-digits n c d))))
    (λ c. rw (v.is ∙ sym (wide-3 n a c).is) (first_more n pos out 2 (omega arith) (omega arith) (wide-3 n a c).is h (three-digits n a c)))

module _ (n pos : ℕ) (out₀ powers out : List ℕ) (k left i : ℕ) (m : More n pos out₀ powers out k left i) where
  pub more-inside : i < length out
  more-inside = omega (arith, m.place, m.long, m.fits)

  pub more-below : 0 < k → k - 1 < 4
  more-below h = omega (arith, m.few)

  pub more-power : 0 < k → left < 10 * get_or powers (k - 1) 0
  more-power h = rw m.table (omega (arith, (tenfold k h m.few).0, m.low))

  pub more-large : 0 < k → get_or powers (k - 1) 0 ≤ 10000
  more-large h = rw m.table (tenfold k h m.few).2

  pub more-again : 0 < k → (out' : List ℕ) (left' : ℕ) → Led left (get_or powers (k - 1) 0) i out out' left' → More n pos out₀ powers out' (k - 1) left' (i + 1)
  more-again h out' left' l =
      let p : Led left (get_or powers₀ (k - 1) 0) i out out' left' = rw m.table at l in
      let w : Wrote (ending (get_or powers₀ (k - 1) 0 ∷ largest (k - 1)) left) i out (sets out' (i + 1) (ending (largest (k - 1)) left')) _ =
      led-more left (get_or powers₀ (k - 1) 0) i out out' left' p (largest (k - 1)) _ _ (record { place = refl; same = refl }) in
      record {
        table = m.table;
        few = omega (arith, m.few);
        low = omega (arith, p.low, (tenfold k h m.few).1);
        place = omega (arith, m.place);
        long = ap length p.same ∙ length-set out i (48 + p.digit) ∙ m.long;
        fits = m.fits;
        same = w.same ∙ ap (λ (x : List ℕ). sets out i (ending x left)) (sym (largest-more k h)) ∙ m.same;
      }

  pub more-small : k ≤ 0 → left < 10
  unfolding bound
  more-small h = let e : k ≡ 0 = omega arith in let z : left < bound 0 = rw e at m.low in z

  pub more-octet : k ≤ 0 → Fits w8 left
  more-octet h = omega (arith, more-small h)

  pub more-digit : k ≤ 0 → Fits w8 (48 + left)
  more-digit h = omega (arith, more-small h)

  pub more-last : k ≤ 0 → Wrote (digits n) pos out₀ (set out i (48 + left)) (i + 1)
  unfolding largest ending
  more-last h =
      let e : k ≡ 0 = omega arith in
      let z : sets out i (ending (largest 0) left) ≡ sets out₀ pos (digits n) = rw e at m.same in
      record { place = omega (arith, m.place); same = z }
