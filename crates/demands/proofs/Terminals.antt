-- Form 4 (S 3.3, 3.15).
use Prim.Native.Nat.{ℕ}
use native.Mathlib.Omega.{arith}
use mathlib.Core.Path.{◌≡◌, refl}
use mathlib.Core.Option.{some}
use mathlib.Core.List.{List, [], ◌∷◌}
use Rattle.model.specs.Answers.{no_out_form, unwritten, writing_checks, writing}
use Rattle.model.specs.Decode.{decode}
use Rattle.model.specs.Grammar.{Whitespaces, Base64Chars, CSexp, braced-value, sexp, form-4, rules}
use Rattle.model.specs.Tree.{Tree}
use Rattle.model.proofs.Judging.{judged-refused, verdict-here}
use Rattle.model.proofs.Laws.{decode-exact}
use Rattle.model.proofs.Wider.{form-3-in-4}

-- S 3.15: form 4 accepts what form 3 accepts, with the same tree
pub accepted-in-4 : (s : List ℕ) (t : Tree) → decode 3 s ≡ some t → decode 4 s ≡ some t
accepted-in-4 s t e = (decode-exact 4 s t).1 (form-3-in-4 ((decode-exact 3 s t).0 e))

-- S 3.3: braces are a value where they hold one canonical form; alone, with whitespace around them
pub braces-alone : (s r r₁ d k : List ℕ) (t : Tree) → Whitespaces s (123 ∷ r) → Whitespaces r r₁ → Base64Chars rules 125 r₁ d k → CSexp d t [] → Whitespaces k [] → decode 4 s ≡ some t
braces-alone s r r₁ d k t w v b c x = (decode-exact 4 s t).1 (form-4 (sexp w (braced-value refl v b c) x))

-- S 3.3, row 1: form 4 is never written
pub never-written : (canonical : List ℕ) (len : ℕ) (out : List ℕ) → writing 4 canonical len out ≡ unwritten 1 out
unfolding writing writing_checks no_out_form
never-written canonical len out = judged-refused _ _ _ 1 (verdict-here 1 (no_out_form 4) _ refl) (omega arith)
