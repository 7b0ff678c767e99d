-- Which spelling octets have, by their classes.
use Prim.Native.Nat.{ℕ, ◌+◌, ◌≤◌, ◌<◌}
use native.Mathlib.Omega.{arith}
use mathlib.Core.Path.{◌≡◌, refl, sym, ap, ◌∙◌}
use mathlib.Core.Bool.{Bool, true, false, ◌&&◌}
use mathlib.Core.List.{List, [], ◌∷◌}
use lib.ListN.{length, get_or}
use borrow.Author.Tests.{le-leb, lt-leb, ne_eqb, eqb-false}
use Rattle.std.specs.List.{list_all}
use Rattle.base.specs.Choice.{either, among, every}
use Rattle.base.proofs.Cases.{by_bool, by_le, by-eq, differ, picked, unpicked, either-cases, neither, among-true, among_in, among-low, among-high}
use Rattle.model.specs.Octets.{is_token_start, is_token_octet, is_printable}
use Rattle.model.specs.Write.{is_token, quote_all, hex_all, shown}
use Rattle.octets.specs.Classes.{Class}
use Rattle.scan.specs.Runs.{AtLeast, Under, Reach}
use Rattle.scan.proofs.Reaching.{reach-by}
use Rattle.spelling.specs.Spelled.{cut, framed, Standing, TokenEnd}
use Rattle.spelling.proofs.Cuts.{cut-none, cut-one}

-- ---- an octet, by its class

-- one that stands for itself is printable
over-printed : (b c : ℕ) → Class b c → 4 ≤ c → among 32 126 b ≡ true
unfolding is_printable
over-printed b c k h =
    either-cases (among 32 33 b) _ (k.printable ∙ le-leb 4 c h)
    (λ t. among_in 32 126 b (omega (arith, among-true 32 33 b t)) (omega (arith, among-true 32 33 b t)))
    (λ u. either-cases (among 35 91 b) (among 93 126 b) u
    (λ t. among_in 32 126 b (omega (arith, among-true 35 91 b t)) (omega (arith, among-true 35 91 b t)))
    (λ t. among_in 32 126 b (omega (arith, among-true 93 126 b t)) (omega (arith, among-true 93 126 b t))))

-- whatever is printable has a class from 4 on, but for the quotation mark and the backslash
pub class-unprinted : (b c : ℕ) → Class b c → (c < 4) → (c ≡ 1 → ⊥) → (c ≡ 2 → ⊥) → among 32 126 b ≡ false
unfolding is_printable
class-unprinted b c k h n m =
    by_bool (among 32 126 b)
    (λ t.
    let p : (32 ≤ b) × (b ≤ 126) = among-true 32 126 b t in
    let q : b ≡ 34 → ⊥ = eqb-false b 34 (k.quote ∙ ne_eqb c 1 n) in
    let s : b ≡ 92 → ⊥ = eqb-false b 92 (k.backslash ∙ ne_eqb c 2 m) in
    let u : is_printable b ≡ false = k.printable ∙ lt-leb 4 c h in
    let v : (among 32 33 b ≡ false) × (either (among 35 91 b) (among 93 126 b) ≡ false) = neither (among 32 33 b) _ u in
    let w : (among 35 91 b ≡ false) × (among 93 126 b ≡ false) = neither (among 35 91 b) (among 93 126 b) v.1 in
    by_le b 33
    (λ l. differ (among_in 32 33 b p.0 l) v.0)
    (λ l. by_le b 91 (λ i. differ (among_in 35 91 b (omega arith) i) w.0) (λ i. differ (among_in 93 126 b (omega arith) p.1) w.1)))
    (λ t. t)

over-token : (b c : ℕ) → Class b c → 14 ≤ c → is_token_octet b ≡ true
over-token b c k h = k.token_octet ∙ le-leb 14 c h

-- ---- a test of every octet

every_one : (F : ℕ → Bool) (b : ℕ) (s : List ℕ) → F b ≡ true → every F (b ∷ s) ≡ every F s
unfolding every
every_one F b s e = picked _ _ e

every-not : (F : ℕ → Bool) (b : ℕ) (s : List ℕ) → F b ≡ false → every F (b ∷ s) ≡ false
unfolding every
every-not F b s e = unpicked _ _ e

module _ (F : ℕ → Bool) (src : List ℕ) (end : ℕ) (long : end ≤ length src) where
  every-none : (i : ℕ) → end ≤ i → every F (cut src i end) ≡ true
  unfolding every
  every-none i h = rw (cut-none src i end h)

  every_here : (i : ℕ) → i < end → F (get_or src i 0) ≡ true → every F (cut src i end) ≡ every F (cut src (i + 1) end)
  every_here i h e = ap (every F) (cut-one src i end h long) ∙ every_one F (get_or src i 0) (cut src (i + 1) end) e

  every-stops : (i : ℕ) → i < end → F (get_or src i 0) ≡ false → every F (cut src i end) ≡ false
  every-stops i h e = ap (every F) (cut-one src i end h long) ∙ every-not F (get_or src i 0) (cut src (i + 1) end) e

  -- octets of classes that pass it
  every-past : (low : ℕ) → ((b c : ℕ) → Class b c → low ≤ c → F b ≡ true) → (start to r : ℕ) → Reach src start to low r → r ≤ end → every F (cut src start end) ≡ every F (cut src r end)
  every-past low by start to r w h =
      reach-by (λ (i : ℕ). every F (cut src start end) ≡ every F (cut src i end)) src start to low r w refl
      (λ i f l a e. e ∙ every_here i (omega arith) (by (get_or src i 0) a.class a.is a.over))

-- ---- whether octets make a token

still : (src : List ℕ) (start : ℕ) → Standing src start start
still src start = record { from = omega arith; within = omega arith; all = λ k f l. absurd (omega arith); stop = λ l. absurd (omega arith) }

token-cons : (b : ℕ) (s : List ℕ) → is_token_start b ≡ true → is_token (b ∷ s) ≡ every is_token_octet s
unfolding is_token
token-cons b s e = picked _ _ e

token-never : (b : ℕ) (s : List ℕ) → is_token_start b ≡ false → is_token (b ∷ s) ≡ false
unfolding is_token
token-never b s e = unpicked _ _ e

module _ (src : List ℕ) (start end : ℕ) (long : end ≤ length src) where
  module _ (h : start < end) (c : ℕ) (k : Class (get_or src start 0) c) where
    first : cut src start end ≡ get_or src start 0 ∷ cut src (start + 1) end
    first = cut-one src start end h long

    other : among 14 17 c ≡ false → TokenEnd src start end start
    other e =
        record {
          from = omega arith;
          within = omega arith;
          standing = still src start;
          made = λ m. absurd (omega arith);
          unmade = λ l. ap is_token first ∙ token-never (get_or src start 0) (cut src (start + 1) end) (k.token_start ∙ e);
        }

    pub token-low : c < 14 → TokenEnd src start end start
    token-low l = other (among-low 14 17 c l)

    pub token-high : 17 < c → TokenEnd src start end start
    token-high l = other (among-high 14 17 c l)

    module _ (lo : 14 ≤ c) (hi : c ≤ 17) (r : ℕ) (w : Reach src (start + 1) end 14 r) where
      begun : is_token (cut src start end) ≡ every is_token_octet (cut src r end)
      begun =
          ap is_token first ∙ token-cons (get_or src start 0) (cut src (start + 1) end) (k.token_start ∙ among_in 14 17 c lo hi)
          ∙ every-past is_token_octet src end long 14 over-token (start + 1) end r w w.within

      above : (j : ℕ) → start ≤ j → j < r → AtLeast 4 (get_or src j 0)
      above j f g =
          by-eq j start
          (λ e. rw e (record { class = c; is = k; over = omega arith }))
          (λ n. let a : AtLeast 14 (get_or src j 0) = w.all j (omega arith) g in record { class = a.class; is = a.is; over = omega (arith, a.over) })

      pub token-run : TokenEnd src start end r
      token-run =
          record {
            from = omega (arith, w.from);
            within = w.within;
            standing = record { from = omega (arith, w.from); within = omega arith; all = above; stop = λ l. absurd (omega arith) };
            made = λ m. begun ∙ every-none is_token_octet src end long r m;
            unmade = λ l. let u : Under 14 (get_or src r 0) = w.stop l in begun ∙ every-stops is_token_octet src end long r l (u.is.token_octet ∙ lt-leb 14 u.class u.under);
          }

-- ---- whether octets are printable

pub every-all : (test : ℕ → Bool) (s : List ℕ) → list_all test s ≡ every test s
unfolding every
every-all test [] = refl
every-all test (b ∷ s) =
    by_bool (test b)
    (λ e. ap (λ (t : Bool). t && list_all test s) e ∙ every-all test s ∙ sym (picked _ _ e))
    (λ e. ap (λ (t : Bool). t && list_all test s) e ∙ sym (unpicked _ _ e))

-- ---- the spelling

pub shown-empty : (src : List ℕ) (start end : ℕ) → end ≤ start → shown (cut src start end) ≡ 34 ∷ 34 ∷ []
unfolding shown is_token every quote_all
shown-empty src start end h = rw (cut-none src start end h)

pub shown-token : (d : List ℕ) → is_token d ≡ true → shown d ≡ d
unfolding shown
shown-token d e = picked _ _ e

pub shown-quoted : (d : List ℕ) → is_token d ≡ false → every (among 32 126) d ≡ true → shown d ≡ framed 34 (quote_all d)
unfolding shown
shown-quoted d e f = unpicked _ _ e ∙ picked _ _ f

pub shown-hex : (d : List ℕ) → is_token d ≡ false → every (among 32 126) d ≡ false → shown d ≡ framed 35 (hex_all d)
unfolding shown
shown-hex d e f = unpicked _ _ e ∙ unpicked _ _ f

-- printable from `from` on is printable at all, where those before stand for themselves
pub print-past : (src : List ℕ) (start from end : ℕ) → end ≤ length src → Standing src start from → from ≤ end → every (among 32 126) (cut src start end) ≡ every (among 32 126) (cut src from end)
print-past src start from end long w h = every-past (among 32 126) src end long 4 over-printed start from from w h
