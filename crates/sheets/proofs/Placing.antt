-- The loop that notes a text, against the automaton: between two lexemes it is where the automaton is, and where no lexeme follows the
-- automaton tells how far the text begins a tree.
use Prim.Native.Nat.{ℕ, ◌+◌, ◌≤◌, ◌<◌}
use native.Mathlib.Omega.{arith}
use mathlib.Core.Path.{◌≡◌, refl, sym, ap, ◌∙◌}
use mathlib.Core.Bool.{true, false}
use mathlib.Core.Option.{some}
use mathlib.Core.List.{List, ◌∷◌, ◌++◌}
use lib.ListN.{length, drop, get_or, length-drop, length-append, drop_of_length-le}
use Rattle.model.specs.Automaton.{State, state, between, start, free, run, place}
use Rattle.model.specs.Count.{count, shut_by, step}
use Rattle.model.specs.Lexemes.{Lexeme, close_strict, strict_lexeme}
use Rattle.model.specs.Strings.{got, refused, verbatim_of}
use Rattle.model.specs.Tree.{verbatim}
use Rattle.model.proofs.Strict.{octets_of_lexeme, strict-sound, verb-sound}
use Rattle.automaton.specs.Begun.{begun, begun_after}
use Rattle.automaton.proofs.Begun.{shut-taken, close-taken, other-taken, hint-taken, after-taken}
use Rattle.automaton.proofs.Through.{Runs, lexeme-run}
use Rattle.scan.proofs.Places.{one-here}

pub record Ran (src : List ℕ) (at o d n : ℕ) : Type 0 where
  pub inside : at ≤ length src
  pub is : run free start src ≡ run free (state between (count o d n) at) (drop at src)

pub ran-start : (src : List ℕ) → Ran src 0 0 0 0
ran-start src = record { inside = omega arith; is = refl }

module _ (src : List ℕ) (at o d n : ℕ) (w : Ran src at o d n) where
  -- what the automaton takes is the place
  taken-place : (p : ℕ) → (run free (state between (count o d n) at) (drop at src)).taken ≡ p → p ≡ place src
  unfolding place
  taken-place p e = sym (ap (λ (x : State). x.taken) w.is ∙ e)

  pub ran-shut : shut_by o n ≡ true → at ≡ place src
  ran-shut t = taken-place at (shut-taken (drop at src) (count o d n) at t)

  pub ran-end : length src ≤ at → at ≡ place src
  unfolding run
  ran-end h = taken-place at (ap (λ (s : List ℕ). (run free (state between (count o d n) at) s).taken) (drop_of_length-le src h))

  module _ (t : shut_by o n ≡ false) where
    -- a lexeme
    pub ran_on : (l : Lexeme) (next o' d' n' : ℕ) → next ≤ length src → strict_lexeme (drop at src) ≡ got l (drop next src) → step l (count o d n) ≡ some (count o' d' n') → Ran src next o' d' n'
    unfolding Runs
    ran_on l next o' d' n' h r s =
        let e : drop at src ≡ octets_of_lexeme l ++ drop next src = strict-sound (drop at src) r in
        let m : at + length (octets_of_lexeme l) ≡ next = omega (arith, ap length e, length-append (octets_of_lexeme l) (drop next src), length-drop at src, length-drop next src, w.inside) in
        record {
          inside = h;
          is =
              w.is ∙ ap (run free (state between (count o d n) at)) e ∙ lexeme-run l (drop next src) (count o d n) (count o' d' n') at t s
              ∙ ap (λ (i : ℕ). run free (state between (count o' d' n') i) (drop next src)) m;
        }

    module _ (h : at < length src) where
      from-here : (b : ℕ) → get_or src at 0 ≡ b → drop at src ≡ b ∷ drop (at + 1) src
      from-here b e = one-here src at h ∙ ap (λ (x : ℕ). x ∷ drop (at + 1) src) e

      pub ran-close : get_or src at 0 ≡ 41 → o ≡ 0 → at ≡ place src
      ran-close e z =
          taken-place at (ap (λ (s : List ℕ). (run free (state between (count o d n) at) s).taken) (from-here 41 e) ∙ close-taken (drop (at + 1) src) (count o d n) at t z)

      pub ran-other : (get_or src at 0 ≡ 40 → ⊥) → (get_or src at 0 ≡ 41 → ⊥) → (get_or src at 0 ≡ 91 → ⊥) → verbatim_of (drop at src) ≡ refused → at + begun (drop at src) ≡ place src
      ran-other a b c e =
          let f : drop at src ≡ get_or src at 0 ∷ drop (at + 1) src = one-here src at h in
          taken-place _
          (ap (λ (s : List ℕ). (run free (state between (count o d n) at) s).taken) f
          ∙ other-taken (drop (at + 1) src) (count o d n) at t (get_or src at 0) a b c (ap verbatim_of (sym f) ∙ e) ∙ ap (λ (s : List ℕ). at + begun s) (sym f))

      module _ (e : get_or src at 0 ≡ 91) where
        pub ran-unhinted : verbatim_of (drop (at + 1) src) ≡ refused → at + 1 + begun (drop (at + 1) src) ≡ place src
        ran-unhinted f =
            taken-place _ (ap (λ (s : List ℕ). (run free (state between (count o d n) at) s).taken) (from-here 91 e) ∙ hint-taken (drop (at + 1) src) (count o d n) at t f)

        pub ran-unfollowed : (x : List ℕ) (to : ℕ) → to ≤ length src → verbatim_of (drop (at + 1) src) ≡ got x (drop to src) → close_strict x (drop to src) ≡ refused → to + begun_after (drop to src) ≡ place src
        ran-unfollowed x to k f g =
            let y : drop (at + 1) src ≡ verbatim x ++ drop to src = verb-sound (drop (at + 1) src) f in
            let m : at + 1 + length (verbatim x) ≡ to = omega (arith, ap length y, length-append (verbatim x) (drop to src), length-drop (at + 1) src, length-drop to src) in
            taken-place _
            (ap (λ (s : List ℕ). (run free (state between (count o d n) at) s).taken) (from-here 91 e ∙ ap (λ (s : List ℕ). 91 ∷ s) y)
            ∙ after-taken x (drop to src) (count o d n) at t g ∙ ap (λ (i : ℕ). i + begun_after (drop to src)) m)
