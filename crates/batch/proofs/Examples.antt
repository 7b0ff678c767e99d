-- Runs, computed: their first sheets, and all of them.
use mathlib.Core.Path.{◌≡◌, refl}
use mathlib.Core.List.{List, [], ◌∷◌, map}
use Prim.Native.Nat.{ℕ}
use Rattle.base.specs.Choice.{chain, is_none}
use Rattle.model.specs.Decode.{nestings, onto, enclose, place, place_in, only_tree, only_in, nest, decode₁}
use Rattle.model.specs.Lexemes.{close_strict, strict_lexeme, before, lexemes_by, strict_lexemes}
use Rattle.model.specs.Strings.{bind, number, decimal, first, after_length, verbatim_of}
use Rattle.batch.specs.Runs.{first_up_to, first_sheet, parted, part_up_to, part_run}

record Case : Type 0 where
  run : List ℕ
  first : ℕ

abbrev case : List ℕ → ℕ → Case
case s n = record { run = s; first = n }

cases : List Case
cases =
    -- nothing; 0:; 2:ab and ( after it; (1:a)() and 0: after it; [1:h]0: and x
    case [] 0
    ∷ case (48 ∷ 58 ∷ []) 2
    ∷ case (50 ∷ 58 ∷ 97 ∷ 98 ∷ 40 ∷ []) 4
    ∷ case (40 ∷ 49 ∷ 58 ∷ 97 ∷ 41 ∷ 40 ∷ 41 ∷ 48 ∷ 58 ∷ []) 5
    ∷ case (91 ∷ 49 ∷ 58 ∷ 104 ∷ 93 ∷ 48 ∷ 58 ∷ 120 ∷ []) 7
    -- (() ends too soon; )0:; 3:ab is short; 99999: is longer than the run; 01:a has a needless 0; a blank before 0:
    ∷ case (40 ∷ 40 ∷ 41 ∷ []) 0
    ∷ case (41 ∷ 48 ∷ 58 ∷ []) 0
    ∷ case (51 ∷ 58 ∷ 97 ∷ 98 ∷ []) 0
    ∷ case (57 ∷ 57 ∷ 57 ∷ 57 ∷ 57 ∷ 58 ∷ []) 0
    ∷ case (48 ∷ 49 ∷ 58 ∷ 97 ∷ []) 0
    ∷ case (32 ∷ 48 ∷ 58 ∷ []) 0
    ∷ []

firsts : map (λ (c : Case). first_sheet c.run) cases ≡ map (λ (c : Case). c.first) cases
unfolding cases first_sheet first_up_to is_none chain decode₁ strict_lexemes lexemes_by before strict_lexeme close_strict verbatim_of bind number decimal first after_length nest nestings place_in place onto enclose only_in only_tree
firsts = refl

-- 0:(1:a)2: has two sheets, and 2: is left
all : part_run (48 ∷ 58 ∷ 40 ∷ 49 ∷ 58 ∷ 97 ∷ 41 ∷ 50 ∷ 58 ∷ [])
    ≡ parted ((48 ∷ 58 ∷ []) ∷ (40 ∷ 49 ∷ 58 ∷ 97 ∷ 41 ∷ []) ∷ []) (50 ∷ 58 ∷ [])
unfolding part_run part_up_to first_sheet first_up_to is_none chain decode₁ strict_lexemes lexemes_by before strict_lexeme close_strict verbatim_of bind number decimal first after_length nest nestings place_in place onto enclose only_in only_tree
all = refl
