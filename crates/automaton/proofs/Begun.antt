-- How far a run goes from between two lexemes, where no lexeme follows.
use Prim.Native.Nat.{ℕ, ◌+◌, ◌*◌, ◌-◌, ◌≤◌, ◌<◌}
use native.Mathlib.Omega.{arith}
use mathlib.Core.Path.{◌≡◌, refl, sym, ap, ◌∙◌}
use mathlib.Core.Bool.{Bool, true, false}
use mathlib.Core.List.{List, [], ◌∷◌, ◌++◌}
use lib.ListN.{length}
use lib.Dec.{leb, ltb, eqb}
use borrow.Author.Tests.{lt-ltb, eq-eqb, ne_eqb, eqb-true, eqb-false, leb-false}
use Rattle.base.specs.Choice.{both}
use Rattle.base.proofs.Cases.{by_bool, pick-cases, picked, unpicked, among-true}
use Rattle.model.specs.Automaton.{between, sizing, counting, bracket, dead, State, state, free, ended, coming, step_at, step, run}
use Rattle.model.specs.Count.{Count, shut}
use Rattle.model.specs.Lexemes.{hinting, close_strict}
use Rattle.model.specs.Octets.{is_digit}
use Rattle.model.specs.Strings.{Read, got, refused, bind, number, decimal, first, after_length, verbatim_of}
use Rattle.model.specs.Tree.{verbatim}
use Rattle.automaton.specs.Begun.{digits_on, begun, begun_after}
use Rattle.automaton.proofs.Runs.{dead-run}
use Rattle.automaton.proofs.Through.{digit-step, hint-step, ready-between, Ready, ready-sizing, verbatim-run}

-- a got is no refusal
not-got : {A G : Type 0} {a : A} {k : List ℕ} → got a k ≡ refused → G
not-got e = let z : ◌≡◌ {A = ℕ} 0 1 = cc in absurd (omega arith)

unread : (h : List ℕ) (r : Read (List ℕ)) → bind r (λ d k. got (hinting h d) k) ≡ refused → r ≡ refused
unfolding bind
unread h (got d k) e = not-got e
unread h refused e = refl

-- ---- within the text

pub digits_on-within : (s : List ℕ) → digits_on s ≤ length s
unfolding digits_on
digits_on-within [] = omega arith
digits_on-within (b ∷ s) =
    by_bool (eqb b 58) (λ t. rw t (omega arith))
    (λ t. rw t (by_bool (is_digit b) (λ u. rw u (omega (arith, digits_on-within s))) (λ u. rw u (omega arith))))

pub begun-within : (s : List ℕ) → begun s ≤ length s
unfolding begun
begun-within [] = omega arith
begun-within (b ∷ s) =
    by_bool (is_digit b)
    (λ t. rw t (by_bool (eqb b 48) (λ u. rw u (omega arith)) (λ u. rw u (omega (arith, digits_on-within s)))))
    (λ t. rw t (omega arith))

pub begun_after-within : (s : List ℕ) → begun_after s ≤ length s
unfolding begun_after
begun_after-within [] = omega arith
begun_after-within (b ∷ s) = by_bool (eqb b 93) (λ t. rw t (omega (arith, begun-within s))) (λ t. rw t (omega arith))

-- ---- runs

abbrev taken : State → List ℕ → ℕ
taken x s = (run free x s).taken

-- it dies at once
dies : (x : State) (c : Count) (at b : ℕ) (s : List ℕ) → step free x b ≡ state dead c at → taken x (b ∷ s) ≡ at
unfolding run
dies x c at b s e = ap (λ (y : State). taken y s) e ∙ ap (λ (y : State). y.taken) (dead-run free s c at)

-- fewer octets than are to come
filling-taken : (s : List ℕ) (h : Bool) (n : ℕ) (c : Count) (at : ℕ) → length s < n → taken (coming free h n c at) s ≡ at + length s
unfolding run coming step_at
filling-taken [] h n c at l = rw (lt-ltb 0 n l) (omega arith)
filling-taken (b ∷ s) h n c at l =
    rw (lt-ltb 0 n (omega arith)) (filling-taken s h (n - 1) c (at + 1) (omega arith) ∙ omega arith)

-- so many octets don't follow
too_few : (n : ℕ) (s : List ℕ) → after_length n (58 ∷ s) ≡ refused → length s < n
unfolding after_length first
too_few n s e = pick-cases (leb n (length s)) _ _ e (λ t f. not-got f) (λ t f. leb-false n (length s) t)

colon-step : (h : Bool) (n b : ℕ) (c : Count) (at : ℕ) → eqb b 58 ≡ true → step_at free (counting h n) c at b ≡ coming free h n c (at + 1)
unfolding step_at
colon-step h n b c at t = picked _ _ t

closed-step : (b : ℕ) (c : Count) (at : ℕ) → eqb b 93 ≡ true → step_at free bracket c at b ≡ state (sizing false) c (at + 1)
unfolding step_at
closed-step b c at t = picked _ _ t

counting-taken : (s : List ℕ) (h : Bool) (n : ℕ) (c : Count) (at : ℕ) → 0 < n → bind (number n s) after_length ≡ refused → taken (state (counting h n) c at) s ≡ at + digits_on s
unfolding run digits_on number bind step_at
counting-taken [] h n c at l e = omega arith
counting-taken (b ∷ s) h n c at l e =
    by_bool (eqb b 58) (λ t. colon t (eqb-true b 58 t))
    (λ t. by_bool (is_digit b) (λ u. digit t u (λ m l' g. counting-taken s h m c (at + 1) l' g)) (λ u. other t u))
  where
    colon : eqb b 58 ≡ true → b ≡ 58 → taken (state (counting h n) c at) (b ∷ s) ≡ at + digits_on (b ∷ s)
    colon t f =
        let g : after_length n (58 ∷ s) ≡ refused = ap (λ (x : ℕ). bind (number n (x ∷ s)) after_length) (sym f) ∙ e in
        rw t (ap (λ (y : State). taken y s) (colon-step h n b c at t) ∙ filling-taken s h n c (at + 1) (too_few n s g) ∙ omega arith)

    digit : eqb b 58 ≡ false → is_digit b ≡ true → ((m : ℕ) → 0 < m → bind (number m s) after_length ≡ refused → taken (state (counting h m) c (at + 1)) s ≡ at + 1 + digits_on s)
        → taken (state (counting h n) c at) (b ∷ s) ≡ at + digits_on (b ∷ s)
    digit t u more =
        let a : (48 ≤ b) × (b ≤ 57) = among-true 48 57 b u in
        let g : bind (number (n * 10 + (b - 48)) s) after_length ≡ refused = rw (u, number) at e in
        rw (t, u)
        (ap (λ (y : State). taken y s) (digit-step h n b c at l a.0 a.1) ∙ more (n * 10 + (b - 48)) (omega arith) g ∙ omega arith)

    other : eqb b 58 ≡ false → is_digit b ≡ false → taken (state (counting h n) c at) (b ∷ s) ≡ at + digits_on (b ∷ s)
    other t u =
        let f : both (ltb 0 n) (is_digit b) ≡ false = rw (lt-ltb 0 n l) u in
        rw (t, u) (dies (state (counting h n) c at) c at b s (unpicked _ _ t ∙ unpicked _ _ f) ∙ omega arith)

-- a length 0, which no colon follows
zero-taken : (s : List ℕ) (h : Bool) (c : Count) (at : ℕ) → after_length 0 s ≡ refused → taken (state (counting h 0) c at) s ≡ at
unfolding run step_at
zero-taken [] h c at e = refl
zero-taken (b ∷ s) h c at e = by_bool (eqb b 58) (λ t. colon (eqb-true b 58 t)) (λ t. other t)
  where
    colon : b ≡ 58 → taken (state (counting h 0) c at) (b ∷ s) ≡ at
    colon f = let g : length s < 0 = too_few 0 s (ap (λ (x : ℕ). after_length 0 (x ∷ s)) (sym f) ∙ e) in absurd (omega arith)

    other : eqb b 58 ≡ false → taken (state (counting h 0) c at) (b ∷ s) ≡ at
    other t = dies (state (counting h 0) c at) c at b s (unpicked _ _ t)

-- the first digit was read
digit-taken : (b : ℕ) (s : List ℕ) (h : Bool) (c : Count) (at : ℕ) → is_digit b ≡ true → verbatim_of (b ∷ s) ≡ refused → taken (state (counting h (b - 48)) c (at + 1)) s ≡ at + begun (b ∷ s)
unfolding begun verbatim_of decimal bind
digit-taken b s h c at u e = by_bool (eqb b 48) (λ t. naught t (eqb-true b 48 t)) (λ t. more t (eqb-false b 48 t))
  where
    a : (48 ≤ b) × (b ≤ 57)
    a = among-true 48 57 b u

    reads : bind (decimal b s) after_length ≡ refused
    reads = rw (u, verbatim_of) at e

    naught : eqb b 48 ≡ true → b ≡ 48 → taken (state (counting h (b - 48)) c (at + 1)) s ≡ at + begun (b ∷ s)
    naught t f =
        let g : after_length 0 s ≡ refused = rw (t, decimal) at reads in
        let z : b - 48 ≡ 0 = omega arith in
        rw (u, t, z) (zero-taken s h c (at + 1) g ∙ omega arith)

    more : eqb b 48 ≡ false → (b ≡ 48 → ⊥) → taken (state (counting h (b - 48)) c (at + 1)) s ≡ at + begun (b ∷ s)
    more t f =
        let g : bind (number (b - 48) s) after_length ≡ refused = rw (t, decimal) at reads in
        rw (u, t) (counting-taken s h (b - 48) c (at + 1) (omega (arith, a.0)) g ∙ omega arith)

-- a verbatim string should begin
sizing-taken : (s : List ℕ) (h : Bool) (c : Count) (at : ℕ) → verbatim_of s ≡ refused → taken (state (sizing h) c at) s ≡ at + begun s
unfolding run begun Ready step_at
sizing-taken [] h c at e = omega arith
sizing-taken (b ∷ s) h c at e = by_bool (is_digit b) (λ u. digit u) (λ u. other u)
  where
    digit : is_digit b ≡ true → taken (state (sizing h) c at) (b ∷ s) ≡ at + begun (b ∷ s)
    digit u = ap (λ (y : State). taken y s) (ready-sizing h c at b u) ∙ digit-taken b s h c at u e

    other : is_digit b ≡ false → taken (state (sizing h) c at) (b ∷ s) ≡ at + begun (b ∷ s)
    other u = rw u (dies (state (sizing h) c at) c at b s (unpicked _ _ u) ∙ omega arith)

-- ---- between two lexemes

module _ (s : List ℕ) (c : Count) (at : ℕ) where
  -- the tree is whole
  pub shut-taken : shut c ≡ true → taken (state between c at) s ≡ at
  unfolding run step_at
  shut-taken t = by s
    where
      by : (s : List ℕ) → taken (state between c at) s ≡ at
      by [] = refl
      by (b ∷ s) = dies (state between c at) c at b s (picked _ _ t)

  module _ (o : shut c ≡ false) where
    -- no list is open
    pub close-taken : c.opened ≡ 0 → taken (state between c at) (41 ∷ s) ≡ at
    unfolding step_at
    close-taken z = dies (state between c at) c at 41 s (unpicked _ _ o ∙ picked _ _ (eq-eqb c.opened 0 z))

    -- no lexeme begins so, but for a string
    pub other-taken : (b : ℕ) → (b ≡ 40 → ⊥) → (b ≡ 41 → ⊥) → (b ≡ 91 → ⊥) → verbatim_of (b ∷ s) ≡ refused → taken (state between c at) (b ∷ s) ≡ at + begun (b ∷ s)
    unfolding run begun Ready step_at
    other-taken b n m k e = by_bool (is_digit b) (λ u. digit u) (λ u. other u)
      where
        digit : is_digit b ≡ true → taken (state between c at) (b ∷ s) ≡ at + begun (b ∷ s)
        digit u = ap (λ (y : State). taken y s) (ready-between c at o b u) ∙ digit-taken b s false c at u e

        other : is_digit b ≡ false → taken (state between c at) (b ∷ s) ≡ at + begun (b ∷ s)
        other u =
            rw u (dies (state between c at) c at b s (unpicked _ _ o ∙ unpicked _ _ (ne_eqb b 40 n) ∙ unpicked _ _ (ne_eqb b 41 m) ∙ unpicked _ _ (ne_eqb b 91 k) ∙ unpicked _ _ u) ∙ omega arith)

    -- a hint should begin
    pub hint-taken : verbatim_of s ≡ refused → taken (state between c at) (91 ∷ s) ≡ at + 1 + begun s
    unfolding run
    hint-taken e = ap (λ (y : State). taken y s) (hint-step c at o) ∙ sizing-taken s true c (at + 1) e

  -- after a hint
  bracket-taken : (h : List ℕ) → close_strict h s ≡ refused → taken (state bracket c at) s ≡ at + begun_after s
  unfolding run begun_after close_strict step_at bind
  bracket-taken h e = by s e
    where
      by : (s : List ℕ) → close_strict h s ≡ refused → taken (state bracket c at) s ≡ at + begun_after s
      by [] e = omega arith
      by (b ∷ s) e =
          by_bool (eqb b 93)
          (λ t.
          let g : verbatim_of s ≡ refused = unread h (verbatim_of s) (rw (t, close_strict) at e) in
          rw t (ap (λ (y : State). taken y s) (closed-step b c at t) ∙ sizing-taken s false c (at + 1) g ∙ omega arith))
          (λ t. rw t (dies (state bracket c at) c at b s (unpicked _ _ t) ∙ omega arith))

pub after-taken : (h s : List ℕ) (c : Count) (at : ℕ) → shut c ≡ false → close_strict h s ≡ refused → taken (state between c at) (91 ∷ (verbatim h ++ s)) ≡ at + 1 + length (verbatim h) + begun_after s
unfolding run ended
after-taken h s c at o e =
    ap (λ (y : State). taken y (verbatim h ++ s)) (hint-step c at o)
    ∙ ap (λ (y : State). y.taken) (verbatim-run true c (at + 1) (state (sizing true) c (at + 1)) (ready-sizing true c (at + 1)) h s)
    ∙ bracket-taken s c (at + 1 + length (verbatim h)) h e
