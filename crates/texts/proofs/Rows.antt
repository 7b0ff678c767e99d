-- Rows 1 and 2, whatever is judged after them.
use Prim.Native.Nat.{ℕ, zero, suc, ◌≤◌, ◌<◌}
use native.Mathlib.Omega.{arith}
use mathlib.Core.Path.{◌≡◌, refl, sym, ap, ◌∙◌}
use mathlib.Core.Bool.{false}
use mathlib.Core.List.{List, ◌∷◌}
use lib.ListN.{length}
use lib.Dec.{ltb, eqb}
use borrow.Author.Tests.{lt-ltb, le-ltb, ltb-false}
use Rattle.base.specs.Choice.{is_none}
use Rattle.base.proofs.Cases.{by_bool, picked, unpicked, not-false, among_in, among-low, among-high, among-true}
use Rattle.model.specs.Answers.{Check, when, judged, no_form, text_checks}
use Rattle.model.specs.Decode.{decode}
use Rattle.model.specs.Limits.{max_source, refusal_syntax}
use Rattle.model.proofs.Judging.{judged-refused, verdict-here, verdict-past}
use Rattle.texts.specs.Texts.{text_verdict}

-- ---- the function

module _ (form len : ℕ) where
  pub row_low : form < 1 → 1 ≡ text_verdict form len
  unfolding text_verdict no_form
  row_low h = sym (picked _ _ (unpicked _ _ (among-low 1 4 form h)))

  pub row-high : 4 < form → 1 ≡ text_verdict form len
  unfolding text_verdict no_form
  row-high h = sym (picked _ _ (unpicked _ _ (among-high 1 4 form h)))

  known : 1 ≤ form → form ≤ 4 → no_form form ≡ false
  unfolding no_form
  known lo hi = picked _ _ (among_in 1 4 form lo hi)

  pub row-long : 1 ≤ form → form ≤ 4 → max_source < len → 2 ≡ text_verdict form len
  unfolding text_verdict
  row-long lo hi h = sym (unpicked _ _ (known lo hi) ∙ picked _ _ (lt-ltb max_source len h))

  pub row-none : 1 ≤ form → form ≤ 4 → len ≤ max_source → 0 ≡ text_verdict form len
  unfolding text_verdict
  row-none lo hi h = sym (unpicked _ _ (known lo hi) ∙ unpicked _ _ (le-ltb max_source len h))

-- ---- what it tells

pub row_other : (form len n : ℕ) → n ≡ text_verdict form len → eqb n refusal_syntax ≡ false
unfolding text_verdict
row_other form len n e =
    rw e (by_bool (no_form form) (λ t. rw t refl) (λ t. rw t (by_bool (ltb max_source len) (λ u. rw u refl) (λ u. rw u refl))))

-- neither row applies
pub record Taken (form len : ℕ) : Type 0 where
  pub formed : no_form form ≡ false
  pub low : 1 ≤ form
  pub high : form ≤ 4
  pub short : len ≤ max_source

pub taken : (form len n : ℕ) → n ≡ text_verdict form len → n ≤ 0 → Taken form len
unfolding text_verdict no_form
taken form len n e h =
    by_bool (no_form form)
    (λ t. absurd (omega (arith, e ∙ picked _ _ t)))
    (λ f. by_bool (ltb max_source len)
    (λ t. absurd (omega (arith, e ∙ unpicked _ _ f ∙ picked _ _ t)))
    (λ g. let a = among-true 1 4 form (not-false f) in record { formed = f; low = a.0; high = a.1; short = ltb-false max_source len g }))

module _ {A : Type 0} (form : ℕ) (text : List ℕ) (more : List Check) (accepted : A) (refused : ℕ → A) (n : ℕ) (e : n ≡ text_verdict form (length text)) where
  pub text-refused : 0 < n → judged (text_checks form text more) accepted refused ≡ refused n
  unfolding text_verdict text_checks
  text-refused h =
      by_bool (no_form form)
      (λ t.
      let o : 1 ≡ n = sym (e ∙ picked _ _ t) in
      judged-refused _ _ _ 1 (verdict-here 1 (no_form form) _ t) (omega arith) ∙ ap refused o)
      (λ f. by_bool (ltb max_source (length text))
      (λ t.
      let o : 2 ≡ n = sym (e ∙ unpicked _ _ f ∙ picked _ _ t) in
      judged-refused _ _ _ 2 (verdict-past 1 (no_form form) _ f ∙ verdict-here 2 (ltb max_source (length text)) _ t) (omega arith) ∙ ap refused o)
      (λ g. absurd (omega (arith, e ∙ unpicked _ _ f ∙ unpicked _ _ g))))

  pub text-taken : n ≤ 0 → judged (text_checks form text more) accepted refused ≡ judged (when refusal_syntax (is_none (decode form text)) ∷ more) accepted refused
  unfolding text_checks judged
  text-taken h =
      let t = taken form (length text) n e h in
      ap (λ (v : ℕ). elim v [ zero ↦ accepted | suc m ↦ refused (suc m) ])
      (verdict-past 1 (no_form form) (when 2 (ltb max_source (length text)) ∷ when refusal_syntax (is_none (decode form text)) ∷ more) t.formed
      ∙ verdict-past 2 (ltb max_source (length text)) (when refusal_syntax (is_none (decode form text)) ∷ more) (le-ltb max_source (length text) t.short))
