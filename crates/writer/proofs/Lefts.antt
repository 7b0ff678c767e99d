-- What is left of form 3 in a loop over the lexemes of a sheet.
use Prim.Native.Nat.{ℕ, ◌+◌, ◌≤◌, ◌<◌}
use native.Mathlib.Omega.{arith}
use mathlib.Core.Path.{◌≡◌, refl, sym, ap, ◌∙◌}
use mathlib.Core.Bool.{Bool, false}
use mathlib.Core.Option.{some}
use mathlib.Core.List.{List, [], ◌++◌}
use lib.ListN.{length, drop, get_or, drop_of_length-le}
use Rattle.base.proofs.Cases.{some_same, none-some, chain-cases}
use Rattle.model.specs.Answers.{the}
use Rattle.model.specs.Decode.{nest, decode₁}
use Rattle.model.specs.Lexemes.{Lexeme, strict_lexeme, strict_lexemes}
use Rattle.model.specs.Strings.{refused}
use Rattle.model.specs.Write.{advanced}
use Rattle.model.proofs.LexemeLoop.{strict-end, strict_next, strict_none}
use Rattle.model.proofs.Lexemes.{before-cases}
use Rattle.model.proofs.Nesting.{nest-sound}
use Rattle.scan.proofs.Places.{one-here}
use Rattle.writer.specs.Elements.{spelled_one, due_after, spelled_all}
use Rattle.writer.specs.Sheets.{Sheet}
use Rattle.writer.proofs.Places.{Next}
use Rattle.writer.proofs.Spelled.{spelled-whole}

-- x is what the lexemes from `at` on give
pub record Left (src : List ℕ) (at : ℕ) (due : Bool) (x : List ℕ) : Type 0 where
  pub inside : at ≤ length src
  pub lexemes : List Lexeme
  pub reads : strict_lexemes (drop at src) ≡ some lexemes
  pub is : x ≡ spelled_all due lexemes

pub sheet-tree : (src : List ℕ) (s : Sheet src) → the (decode₁ src) ≡ s.tree
unfolding the
sheet-tree src s = rw s.is

pub left-start : (src : List ℕ) → Sheet src → Left src 0 false (advanced (the (decode₁ src)))
unfolding decode₁
left-start src s =
    chain-cases (strict_lexemes src) nest s.is
    (λ ls h₁ h₂. record {
      inside = omega arith;
      lexemes = ls;
      reads = h₁;
      is = ap advanced (sheet-tree src s) ∙ sym (spelled-whole s.tree) ∙ ap (spelled_all false) (sym (nest-sound ls s.tree h₂));
    })

module _ (src : List ℕ) (at : ℕ) (due : Bool) (x : List ℕ) (w : Left src at due x) where
  pub left_end : length src ≤ at → x ≡ []
  unfolding spelled_all
  left_end h =
      w.is ∙ some_same (λ (ls : List Lexeme). spelled_all due ls ≡ []) (sym (ap strict_lexemes (drop_of_length-le src h) ∙ strict-end) ∙ w.reads) refl

  pub left-never : {G : Type 0} → at < length src → strict_lexeme (drop at src) ≡ refused → G
  left-never h e =
      none-some
      (sym (ap strict_lexemes (one-here src at h) ∙ strict_none (get_or src at 0) (drop (at + 1) src) (ap strict_lexeme (sym (one-here src at h)) ∙ e)) ∙ w.reads)

  module _ (l : Lexeme) (next : ℕ) where
    -- what is left after a lexeme
    pub record Rest : Type 0 where
      pub rest : List ℕ
      pub left : Left src next (due_after l) rest
      pub is : x ≡ spelled_one due l ++ rest

    pub after-lexeme : Next src at l next → Rest
    unfolding spelled_all
    after-lexeme n =
        before-cases l (strict_lexemes (drop next src)) (sym (strict_next (drop at src) (drop next src) l n.reads) ∙ w.reads)
        (λ ls p q. record {
          rest = spelled_all (due_after l) ls;
          left = record { inside = n.within; lexemes = ls; reads = p; is = refl };
          is = w.is ∙ some_same (λ (y : List Lexeme). spelled_all due y ≡ spelled_one due l ++ spelled_all (due_after l) ls) q refl;
        })
