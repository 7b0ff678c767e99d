-- The loop over a run's lexemes: what is wanted from here on is what was wanted from the start.
use Prim.Native.Nat.{ℕ, zero, suc, ◌+◌, ◌-◌, ◌≤◌, ◌<◌}
use native.Mathlib.Omega.{arith}
use mathlib.Core.Path.{◌≡◌, refl, sym, ap, ◌∙◌, subst}
use mathlib.Core.List.{List, []}
use lib.ListN.{length, drop, length-append, length-drop, drop_of_length-le}
use Rattle.model.specs.Lexemes.{Lexeme, opening, closing, atom, hinting, strict_lexeme}
use Rattle.model.specs.Strings.{got}
use Rattle.model.specs.Tree.{canon}
use Rattle.model.proofs.Sizes.{verbatim-length}
use Rattle.canonical.specs.Lexed.{Plainly, Hintedly, ItemAt}
use Rattle.std.specs.Prelude.{Option, Some, None}
use Rattle.canonical.specs.declared.Item.{Item}
use Rattle.canonical.specs.declared.Item.TheVariants.{Open, Close, Plain, Hinted}
use Rattle.batch.specs.Runs.{first_sheet}
use Rattle.batch.proofs.First.{Begins, first-is, first-none}
use Rattle.batch.proofs.Wanted.{Ends, Wants, Next, lexeme-next, no-lexeme, lexeme-back}

-- with o lists open at a place
pub record Going (run : List ℕ) (at o : ℕ) : Type 0 where
  pub inside : at ≤ length run
  pub few : o ≤ at
  pub forth : (r : List ℕ) → Begins run r → Wants o (drop at run) r
  pub back : (r : List ℕ) → Wants o (drop at run) r → Begins run r

pub going_start : (run : List ℕ) → Going run 0 0
unfolding Wants
going_start run = record { inside = omega arith; few = omega arith; forth = λ r b. b; back = λ r b. b }

-- while a list is open, the two are one
wanted : (o : ℕ) (s r : List ℕ) → 0 < o → Ends o s r → Wants o s r
unfolding Wants
wanted zero s r h x = absurd (omega arith)
wanted (suc o) s r h x = x

unwanted : (o : ℕ) (s r : List ℕ) → 0 < o → Wants o s r → Ends o s r
unfolding Wants
unwanted zero s r h x = absurd (omega arith)
unwanted (suc o) s r h x = x

module _ (run : List ℕ) (at o : ℕ) (w : Going run at o) where
  -- nothing goes on as wanted
  none : ((r : List ℕ) → Wants o (drop at run) r → ⊥) → 0 ≡ first_sheet run
  none f = sym (first-none run (λ r b. f r (w.forth r b)))

  no-octet : (o : ℕ) (r : List ℕ) → Wants o [] r → ⊥
  unfolding strict_lexeme
  no-octet o r x = no-lexeme o [] r refl x

  pub going-short : length run ≤ at → 0 ≡ first_sheet run
  going-short h = none (λ r x. no-octet o r (subst (λ (s : List ℕ). Wants o s r) (drop_of_length-le run h) x))

  -- the first sheet ends here
  done : (next : ℕ) → next ≤ length run → Wants o (drop at run) (drop next run) → next ≡ first_sheet run
  done next i x =
      let b : Begins run (drop next run) = w.back (drop next run) x in
      let l = length-append (canon b.tree) (drop next run) in
      omega (arith, first-is run (drop next run) b.tree b.is, ap length b.is, l, length-drop next run)

  module _ (l : Lexeme) (next : ℕ) (e : strict_lexeme (drop at run) ≡ got l (drop next run)) (i : next ≤ length run) where
    ends-here : Next l o (drop next run) (drop next run) → next ≡ first_sheet run
    ends-here x = done next i (lexeme-back o (drop at run) (drop next run) l (drop next run) e x)

    goes_on : (p : ℕ) → p ≤ next → ((r : List ℕ) → Next l o (drop next run) r → Wants p (drop next run) r)
        → ((r : List ℕ) → Wants p (drop next run) r → Next l o (drop next run) r) → Going run next p
    goes_on p f a b =
        record {
          inside = i;
          few = f;
          forth = λ r x. a r (lexeme-next o (drop at run) r l (drop next run) e (w.forth r x));
          back = λ r x. w.back r (lexeme-back o (drop at run) r l (drop next run) e (b r x));
        }

  module _ (h : at < length run) (r : Option Item) (v : ItemAt run at r) where
    pub going-other : r ≡ None → 0 ≡ first_sheet run
    unfolding ItemAt
    going-other z = none (λ k x. no-lexeme o (drop at run) k (subst (ItemAt run at) z v) x)

    module _ (d : Item) (some : r ≡ Some d) where
      is : (x : Item) → d ≡ x → ItemAt run at (Some x)
      is x e = subst (ItemAt run at) (some ∙ ap (λ (y : Item). Some y) e) v

      pub going-open : d ≡ Open → Going run (at + 1) (o + 1)
      unfolding ItemAt Next Wants
      going-open z =
          let n : o + 1 ≡ suc o = omega arith in
          subst (Going run (at + 1)) (sym n)
          (goes_on opening (at + 1) (is Open z) (omega arith) (suc o) (omega (arith, w.few)) (λ k x. x) (λ k x. x))

      module _ (z : d ≡ Close) where
        abbrev behind : List ℕ
        behind = drop (at + 1) run

        closes : strict_lexeme (drop at run) ≡ got closing (drop (at + 1) run)
        unfolding ItemAt
        closes = is Close z

        pub going-unopened : o ≡ 0 → 0 ≡ first_sheet run
        unfolding Next
        going-unopened q =
            none (λ k x. subst (λ (n : ℕ). Next closing n behind k) q (lexeme-next o (drop at run) k closing behind closes x))

        pub going-closed : o ≡ 1 → at + 1 ≡ first_sheet run
        unfolding Next Ends
        going-closed q =
            ends-here closing (at + 1) closes (omega arith) (subst (λ (n : ℕ). Next closing n behind behind) (sym q) refl)

        pub going-close : (o ≡ 0 → ⊥) → (o ≡ 1 → ⊥) → Going run (at + 1) (o - 1)
        unfolding Next Wants
        going-close a b =
            let p : o ≡ suc (suc (o - 2)) = omega arith in
            let q : o - 1 ≡ suc (o - 2) = omega arith in
            goes_on closing (at + 1) closes (omega arith) (o - 1) (omega (arith, w.few))
            (λ k x. subst (λ (n : ℕ). Wants n behind k) (sym q) (subst (λ (n : ℕ). Next closing n behind k) p x))
            (λ k x. subst (λ (n : ℕ). Next closing n behind k) (sym p) (subst (λ (n : ℕ). Wants n behind k) q x))

      -- a string: no list is open, and the sheet is this string; or it goes on
      module _ (l : Lexeme) (e : ℕ) (reads : strict_lexeme (drop at run) ≡ got l (drop e run)) (i : e ≤ length run) (ahead : at < e)
          (next-ends : (k r : List ℕ) → Next l o k r → Ends o k r)
          (Ends-next : (k r : List ℕ) → Ends o k r → Next l o k r)
        where
          string-done : o ≡ 0 → e ≡ first_sheet run
          unfolding Ends
          string-done q =
              ends-here l e reads i (Ends-next (drop e run) (drop e run) (subst (λ (n : ℕ). Ends n (drop e run) (drop e run)) (sym q) refl))

          string-on : (o ≡ 0 → ⊥) → Going run e o
          string-on q =
              goes_on l e reads i o (omega (arith, w.few))
              (λ k x. wanted o (drop e run) k (omega arith) (next-ends (drop e run) k x))
              (λ k x. Ends-next (drop e run) k (unwanted o (drop e run) k (omega arith) x))

      module _ (s e : ℕ) (z : d ≡ Plain s e) where
        plainly : Plainly run at s e
        unfolding ItemAt
        plainly = is (Plain s e) z

        plain-ahead : at < e
        plain-ahead = omega (arith, plainly.ends, verbatim-length plainly.octets)

        plain-within : e ≤ length run
        plain-within = plainly.within

        pub plain-less : length run - e < length run - at
        plain-less = omega (arith, plain-ahead, plain-within)

        pub going-plain : o ≡ 0 → e ≡ first_sheet run
        unfolding Next
        going-plain q = string-done (atom plainly.octets) e plainly.reads plain-within plain-ahead (λ k r x. x) (λ k r x. x) q

        pub past-plain : (o ≡ 0 → ⊥) → Going run e o
        unfolding Next
        past-plain q = string-on (atom plainly.octets) e plainly.reads plain-within plain-ahead (λ k r x. x) (λ k r x. x) q

      module _ (hs he s e : ℕ) (z : d ≡ Hinted hs he s e) where
        hintedly : Hintedly run at hs he s e
        unfolding ItemAt
        hintedly = is (Hinted hs he s e) z

        hinted-ahead : at < e
        hinted-ahead = omega (arith, hintedly.ends, hintedly.hint_ends)

        hinted-within : e ≤ length run
        hinted-within = hintedly.within

        pub hinted-less : length run - e < length run - at
        hinted-less = omega (arith, hinted-ahead, hinted-within)

        pub going-hinted : o ≡ 0 → e ≡ first_sheet run
        unfolding Next
        going-hinted q =
            string-done (hinting hintedly.hint hintedly.octets) e hintedly.reads hinted-within hinted-ahead
            (λ k r x. x) (λ k r x. x) q

        pub past-hinted : (o ≡ 0 → ⊥) → Going run e o
        unfolding Next
        past-hinted q =
            string-on (hinting hintedly.hint hintedly.octets) e hintedly.reads hinted-within hinted-ahead
            (λ k r x. x) (λ k r x. x) q
