-- Each case of an answer for values and hours, handed out as a number and values.
use Prim.Native.Nat.{ℕ}
use mathlib.Core.Path.{◌≡◌, refl, sym, ap, ◌∙◌}
use mathlib.Core.Bool.{true, false}
use mathlib.Core.List.{List}
use lib.Dec.{eqb, eqb-suc-zero}
use lib.IntN.{ℤ, pos}
use mir.Syntax.{w64}
use mir.Val.{SFits, to_z, of_z}
use mir.ValLaws.{to_z-of_z}
use lib.Ieee.{Float}
use lib.ListN.{length}
use borrow.Author.Tests.{eq-eqb, ne_eqb}
use Rattle.base.proofs.Cases.{picked, unpicked}
use Rattle.model.specs.Answers.{settled, Output, unwritten_at, unwritten}
use Rattle.model.proofs.Judging.{judged-holds}
use Rattle.answers.specs.Cases.{output}
use Rattle.answers.specs.Cases.{Writing}
use Rattle.answers.specs.Refusals.{number_of, place_in}
use Rattle.answers.specs.declared.refusal.Refusal.{Refusal}
use Rattle.std.specs.Prelude.{Ok, Err}
use Rattle.typed.specs.Coding.{coding, the_octets, putting_checks, putting}
use Rattle.typed.specs.Cases.{Valuing, Totalling, Lining, Summing, Valued, valued, Totalled, totalled, Lined, lined, Summed, summed}
use Rattle.typed.specs.declared.Value.{Value}
use Rattle.typed.specs.declared.Value.TheVariants.{Single, Double, Whole, Raw}
use Rattle.typed.specs.declared.Line.{Line}
use Rattle.typed.specs.declared.Total.{Total}
use Rattle.typed.specs.declared.Shift.{Shift}
use Rattle.typed.specs.declared.Week.{Week}
use Rattle.typed.specs.declared.Misfit.{Misfit}
use Rattle.etglavino_c.specs.Pointers.{output_of}
use Rattle.etglavino_c.specs.Values.{nil32, nil64, value_out, carried, handed_value, HandsValue, value_for, total_out, total_given, handed_total, line_out, line_given, handed_line, HandsLine, week_out, week_given, handed_week, HandsWeek}

module _ (r : Valuing) where
  module _ (v : Value) (e : r ≡ Ok v) where
    given : (u : Value) → v ≡ u → handed_value (valued (Ok u)) ≡ handed_value (valued r)
    given u q = sym (ap (λ (x : Valuing). handed_value (valued x)) (e ∙ ap (λ (x : Value). Ok x) q))

    pub hand-single : (x : Float) → v ≡ Single x → HandsValue r 0 1 x nil64 (pos 0) 0 0
    unfolding valued handed_value carried
    hand-single x q = given (Single x) q

    pub hand-double : (y : Float) → v ≡ Double y → HandsValue r 0 2 nil32 y (pos 0) 0 0
    unfolding valued handed_value carried
    hand-double y q = given (Double y) q

    -- a signed number is read back from its bits
    pub hand-whole : (w : ℤ) → v ≡ Whole w → SFits w64 w → HandsValue r 0 3 nil32 nil64 (to_z w64 (of_z w64 w)) 0 0
    unfolding valued handed_value carried
    hand-whole w q h = ap (λ (z : ℤ). value_out 0 3 nil32 nil64 z 0 0) (to_z-of_z w64 w h) ∙ given (Whole w) q

    pub hand-raw : (s t : ℕ) → v ≡ Raw s t → HandsValue r 0 4 nil32 nil64 (pos 0) s t
    unfolding valued handed_value carried
    hand-raw s t q = given (Raw s t) q

  pub hand-unvalued : (f : Refusal) → r ≡ Err f → HandsValue r (number_of f) 0 nil32 nil64 (pos 0) 0 0
  unfolding valued handed_value carried
  hand-unvalued f e = sym (ap (λ (x : Valuing). handed_value (valued x)) e)

  pub value-handed : (o : Valued) → valued r ≡ o → (n k : ℕ) (x y : Float) (w : ℤ) (s t : ℕ) → HandsValue r n k x y w s t → value_out n k x y w s t ≡ handed_value o
  value-handed o e n k x y w s t h = h ∙ ap handed_value e

module _ (r : Lining) where
  pub hand-lined : (s : Shift) → r ≡ Ok s → HandsLine r 0 s.line.ordinary s.line.night s.line.holiday s.total.quarters s.total.hours
  unfolding lined handed_line line_given
  hand-lined s e = sym (ap (λ (x : Lining). handed_line (lined x)) e)

  pub hand-unlined : (f : Refusal) → r ≡ Err f → HandsLine r (number_of f) nil64 nil64 nil64 0 nil64
  unfolding lined handed_line line_given
  hand-unlined f e = sym (ap (λ (x : Lining). handed_line (lined x)) e)

  pub line-handed : (o : Lined) → lined r ≡ o → (n : ℕ) (x y z : Float) (q : ℕ) (h : Float) → HandsLine r n x y z q h → line_out n x y z q h ≡ handed_line o
  line-handed o e n x y z q h w = w ∙ ap handed_line e

module _ (r : Summing) where
  pub hand-summed : (w : Week) → r ≡ Ok w → HandsWeek r 0 w.lines w.total.quarters w.total.hours 0
  unfolding summed handed_week week_given
  hand-summed w e = sym (ap (λ (x : Summing). handed_week (summed x)) e)

  pub hand-unsummed : (m : Misfit) → r ≡ Err m → HandsWeek r (number_of m.refusal) 0 0 nil64 m.node
  unfolding summed handed_week week_given
  hand-unsummed m e = sym (ap (λ (x : Summing). handed_week (summed x)) e)

  pub week-handed : (o : Summed) → summed r ≡ o → (n l q : ℕ) (h : Float) (b : ℕ) → HandsWeek r n l q h b → week_out n l q h b ≡ handed_week o
  week-handed o e n l q h b w = w ∙ ap handed_week e

module _ (r : Totalling) (o : Totalled) (e : totalled r ≡ o) where
  pub total-handed : (s : Total) → r ≡ Ok s → total_out 0 s.quarters s.hours ≡ handed_total o
  unfolding totalled handed_total total_given
  total-handed s q = sym (ap (λ (x : Totalling). handed_total (totalled x)) q) ∙ ap handed_total e

  pub total-unhanded : (f : Refusal) → r ≡ Err f → total_out (number_of f) 0 nil64 ≡ handed_total o
  unfolding totalled handed_total total_given
  total-unhanded f q = sym (ap (λ (x : Totalling). handed_total (totalled x)) q) ∙ ap handed_total e

-- ---- writing

module _ (k : ℕ) (x y : Float) (w : ℤ) (s e : ℕ) where
  pub for-single : k ≡ 1 → Single x ≡ value_for k x y w s e
  unfolding value_for
  for-single q = sym (picked _ _ (eq-eqb k 1 q))

  module _ (n₁ : k ≡ 1 → ⊥) where
    pub for-double : k ≡ 2 → Double y ≡ value_for k x y w s e
    unfolding value_for
    for-double q = sym (unpicked _ _ (ne_eqb k 1 n₁) ∙ picked _ _ (eq-eqb k 2 q))

    module _ (n₂ : k ≡ 2 → ⊥) where
      pub for-whole : k ≡ 3 → SFits w64 w → Whole (to_z w64 (of_z w64 w)) ≡ value_for k x y w s e
      unfolding value_for
      for-whole q h = ap (λ (i : ℤ). Whole i) (to_z-of_z w64 w h) ∙ sym (unpicked _ _ (ne_eqb k 1 n₁) ∙ unpicked _ _ (ne_eqb k 2 n₂) ∙ picked _ _ (eq-eqb k 3 q))

      pub for-raw : (k ≡ 3 → ⊥) → Raw s e ≡ value_for k x y w s e
      unfolding value_for
      for-raw n₃ = sym (unpicked _ _ (ne_eqb k 1 n₁) ∙ unpicked _ _ (ne_eqb k 2 n₂) ∙ unpicked _ _ (ne_eqb k 3 n₃))

putting-tells : (v : Value) (src out : List ℕ) → ((putting v src out).accepted ≡ eqb (putting v src out).number 0) × ((putting v src out).place ≡ 0)
unfolding putting
putting-tells v src out =
    judged-holds (putting_checks v src out)
    (record { accepted = true; number = 0; place = 0; octets = length (the_octets (coding src v)); out = settled out 0 (the_octets (coding src v)) }) (λ n. unwritten n out)
    (λ (o : Output). (o.accepted ≡ eqb o.number 0) × (o.place ≡ 0)) (refl, refl) (λ n. (sym (eqb-suc-zero n), refl))

module _ (r : Writing) (out : List ℕ) (v : Value) (k : ℕ) (x' y' : Float) (w' : ℤ) (s e' : ℕ) (fits : SFits w64 w') (q : v ≡ value_for k x' y' (to_z w64 (of_z w64 w')) s e') (src x : List ℕ) (e : output r out ≡ putting v src x) where
  abbrev u : Value
  u = value_for k x' y' w' s e'

  same : output r out ≡ putting u src x
  same = e ∙ ap (λ (y : Value). putting y src x) (q ∙ ap (λ (z : ℤ). value_for k x' y' z s e') (to_z-of_z w64 w' fits))

  pub put-accepted : (len : ℕ) → r ≡ Ok len → output_of 0 len out ≡ putting u src x
  unfolding output
  put-accepted len z = sym (ap (λ (r : Writing). output r out) z) ∙ same

  pub put_refused : (f : Refusal) → r ≡ Err f → output_of (number_of f) 0 out ≡ putting u src x
  unfolding output
  put_refused f z =
      let w : unwritten_at (number_of f) (place_in f) out ≡ putting u src x = sym (ap (λ (r : Writing). output r out) z) ∙ same in
      let y : eqb (number_of f) 0 ≡ false = ap (λ (o : Output). eqb o.number 0) w ∙ sym (putting-tells u src x).0 ∙ sym (ap (λ (o : Output). o.accepted) w) in
      let p : 0 ≡ (place_in f) = sym (ap (λ (o : Output). o.place) w ∙ (putting-tells u src x).1) in
      (λ i. record { accepted = y i; number = (number_of f); place = p i; octets = 0; out = out }) ∙ w
