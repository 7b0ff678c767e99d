-- S 3.14: request 2, no stray bits in base-64.
use Prim.Native.Nat.{ℕ}
use native.Mathlib.Omega.{arith}
use mathlib.Core.Path.{◌≡◌, refl}
use mathlib.Core.Option.{some}
use mathlib.Core.List.{List, [], ◌∷◌, ◌++◌}
use Rattle.model.specs.Amended.{Wider, ignoring, minding, Spelling}
use Rattle.model.specs.Decode.{decode_under, decode}
use Rattle.model.specs.Grammar.{Whitespaces, Base64Chars, Language, rules}
use Rattle.model.specs.Octets.{letter, escape}
use Rattle.model.specs.Tree.{Tree}
use Rattle.model.proofs.Apart.{rules-apart, ignoring-apart}
use Rattle.model.proofs.Laws.{one-tree, decoder-wider}
use Rattle.model.proofs.Spellings.{spellings-differ, braces-differ}
use Rattle.model.proofs.Wider.{language-wider}

-- S 3.14, one spelling: between bars, texts with the same octets differ only in whitespace and in "=" at the end; s and s' begin where
-- whitespace after the bar has ended
pub one-spelling-in-bars : (x y d k l s s' : List ℕ) → Whitespaces (x ++ 124 ∷ k) s → Base64Chars rules 124 s d k → Whitespaces (y ++ 124 ∷ l) s' → Base64Chars rules 124 s' d l → Spelling x y
unfolding letter
one-spelling-in-bars = spellings-differ 124 refl (λ e. omega arith)

-- and between braces
pub one-spelling-in-braces : (x y d k l s s' : List ℕ) → Whitespaces (x ++ 125 ∷ k) s → Base64Chars rules 125 s d k → Whitespaces (y ++ 125 ∷ l) s' → Base64Chars rules 125 s' d l → Spelling x y
unfolding letter
one-spelling-in-braces = spellings-differ 125 refl (λ e. omega arith)

-- whole texts of form 2 with one tree: one spelling, but for whitespace and "="
pub one-spelling-in-form-2 : (x y : List ℕ) (t : Tree) → decode 2 (123 ∷ x ++ 125 ∷ []) ≡ some t → decode 2 (123 ∷ y ++ 125 ∷ []) ≡ some t → Spelling x y
unfolding decode
one-spelling-in-form-2 = braces-differ

-- S 3.14: whatever the escapes are, a text with a tree had that tree when stray bits were ignored
pub stray-wider : (escape : ℕ → ℕ) → Wider (minding escape) (ignoring escape)
stray-wider escape = record { leftovers = λ n h. refl; escapes = λ c h. refl }

pub stray-narrows : (escape : ℕ → ℕ) {form : ℕ} {s : List ℕ} {t : Tree} → Language (minding escape) form s t → Language (ignoring escape) form s t
stray-narrows escape = language-wider (stray-wider escape)

-- so it is for what is accepted now: the decoder that ignored them gave the same tree
pub accepted-before : (form : ℕ) (s : List ℕ) (t : Tree) → decode form s ≡ some t → decode_under (ignoring escape) form s ≡ some t
unfolding decode
accepted-before form s t e = decoder-wider (minding escape) (ignoring escape) (stray-wider escape) rules-apart ignoring-apart form s t e

-- and a text had no other tree then
pub one-tree-before : (form : ℕ) (s : List ℕ) (t u : Tree) → Language (ignoring escape) form s t → Language (ignoring escape) form s u → t ≡ u
one-tree-before = one-tree (ignoring escape) ignoring-apart
