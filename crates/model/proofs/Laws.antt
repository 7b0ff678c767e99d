-- The laws of the model, clause by clause.
use Prim.Native.Nat.{ℕ, ◌*◌, ◌≤◌}
use native.Mathlib.Omega.{arith}
use mathlib.Core.Path.{◌≡◌, sym, subst}
use mathlib.Core.Bool.{true, false}
use mathlib.Core.Option.{some}
use mathlib.Core.List.{List, [], ◌++◌}
use lib.ListN.{length}
use mathlib.Core.Logic.{◌↔◌}
use lib.Dec.{leb}
use borrow.Author.Tests.{ne_eqb, leb-true}
use Rattle.base.proofs.Cases.{by-eq, both_true, not-false, among-true}
use Rattle.model.specs.Amended.{Wider, Apart}
use Rattle.model.specs.Answers.{no_out_form, fits}
use Rattle.model.specs.Decode.{decode_under, decode}
use Rattle.model.specs.Grammar.{Rules, CSexp, Language, rules}
use Rattle.model.specs.Limits.{max_source, max_depth, max_canonical, most_nodes}
use Rattle.model.specs.Tree.{Tree, canon, nodes, depth, Bytes, TreeBytes}
use Rattle.model.specs.Write.{advanced, encode}
use Rattle.model.proofs.Apart.{rules-apart}
use Rattle.model.proofs.Bytes.{canon-bytes, language-tree, language-bytes}
use Rattle.model.proofs.Exact.{canon-complete, sound, complete, unique, language-tripled}
use Rattle.model.proofs.OutputSizes.{doubled, basic-length, nodes-half}
use Rattle.model.proofs.Rules.{c-sexp-strip, strip-c-sexp}
use Rattle.model.proofs.Unique.{canon-inj, prefix-free}
use Rattle.model.proofs.Wider.{language-wider}
use Rattle.model.proofs.Written.{round-trip₃}
use Rattle.model.proofs.WrittenBasic.{round-trip₂}

-- S 2.4: different trees have different canonical forms.
pub canonical-unique : (t u : Tree) → canon t ≡ canon u → t ≡ u
canonical-unique t u e = canon-inj t u e

-- S 2.4: no canonical form begins another.
pub canonical-prefix-free : (t u : Tree) (k : List ℕ) → canon t ++ k ≡ canon u → (t ≡ u) × (k ≡ [])
canonical-prefix-free t u k e = prefix-free t u k e

-- S 3.1: the RFC's rule c-sexp is the function `canon`.
pub canonical-rule : (s : List ℕ) (t : Tree) (k : List ℕ) → CSexp s t k ↔ (s ≡ canon t ++ k)
canonical-rule s t k = (λ x. c-sexp-strip x, λ e. subst (λ (x : List ℕ). CSexp x t k) (sym e) (strip-c-sexp t k))

-- S 3.1 to 3.3: under any rules the decoder reads each form's language and nothing else.
pub decoder-exact : (ρ : Rules) → Apart ρ → (form : ℕ) (s : List ℕ) (t : Tree) → (decode_under ρ form s ≡ some t) ↔ Language ρ form s t
decoder-exact ρ a form s t = (sound a form s t, λ x. complete a x)

-- under those in force
pub decode-exact : (form : ℕ) (s : List ℕ) (t : Tree) → (decode form s ≡ some t) ↔ Language rules form s t
unfolding decode
decode-exact form s t = decoder-exact rules rules-apart form s t

-- a text has at most one tree in a form, whatever the rules are
pub one-tree : (ρ : Rules) → Apart ρ → (form : ℕ) (s : List ℕ) (t u : Tree) → Language ρ form s t → Language ρ form s u → t ≡ u
one-tree ρ a form s t u x y = unique a x y

-- wider rules accept what the others do, with the same tree: the decoder of both
pub decoder-wider : (ρ σ : Rules) → Wider ρ σ → Apart ρ → Apart σ → (form : ℕ) (s : List ℕ) (t : Tree) → decode_under ρ form s ≡ some t → decode_under σ form s ≡ some t
decoder-wider ρ σ w a b form s t e = complete b (language-wider w (sound a form s t e))

-- S 5.3: what goes out in any form is read back, for a tree of octets.
pub round_trip : (form : ℕ) (t : Tree) → no_out_form form ≡ false → TreeBytes t → decode form (encode form t) ≡ some t
unfolding decode encode no_out_form
round_trip form t f x =
    by-eq form 1
    (λ e. rw e (canon-complete t))
    (λ n. by-eq form 2
    (λ e. rw e (round-trip₂ t (canon-bytes x)))
    (λ m. by-eq form 3
    (λ e. rw e (round-trip₃ t x))
    (λ l. let r : (1 ≤ form) × (form ≤ 3) = among-true 1 3 form (not-false f) in absurd (omega arith))))

-- octets in, octets out
pub octets-in-octets-out : (form : ℕ) (s : List ℕ) (t : Tree) → Language rules form s t → Bytes s → TreeBytes t × Bytes (canon t)
octets-in-octets-out form s t x b = (language-tree b x, language-bytes b x)

-- ---- S 6.2: sizes

-- what a source of n octets says has 3n at most in canonical form
pub canonical-within-3n : (form : ℕ) (s : List ℕ) (t : Tree) → Language rules form s t → length (canon t) ≤ 3 * length s
canonical-within-3n form s t x = language-tripled x

-- n octets of canonical form have n/2 nodes at most
pub nodes-within-half : (t : Tree) → 2 * nodes t ≤ length (canon t)
nodes-within-half t = nodes-half t

-- S 6.2: 8,192 nodes at most, in 16,384 octets
pub small-nodes : (t : Tree) → length (canon t) ≤ max_canonical → nodes t ≤ most_nodes
small-nodes t h = omega (arith, nodes-half t)

-- what fits: the depth, and the length of the canonical form
pub fits-within : (t : Tree) → fits t ≡ true → (depth t ≤ max_depth) × (length (canon t) ≤ max_canonical)
unfolding fits
fits-within t f =
    let w : (leb (depth t) max_depth ≡ true) × (leb (length (canon t)) max_canonical ≡ true) = both_true f in
    (leb-true _ _ w.0, leb-true _ _ w.1)

-- so what fits needs no node limit
pub fitting-nodes : (t : Tree) → fits t ≡ true → nodes t ≤ most_nodes
fitting-nodes t f = small-nodes t (fits-within t f).1

-- n octets go out in form 3 in 2n at most
pub advanced-within-2n : (t : Tree) → length (advanced t) ≤ 2 * length (canon t)
advanced-within-2n t = doubled t

-- S 6.2: what is written of a tree that fits is short enough to be read
pub written-within-source : (form : ℕ) (t : Tree) → fits t ≡ true → length (encode form t) ≤ max_source
unfolding encode
written-within-source form t f =
    let n : length (canon t) ≤ max_canonical = (fits-within t f).1 in
    by-eq form 1
    (λ e. rw e (omega arith))
    (λ y. by-eq form 2
    (λ e. rw e (omega (arith, basic-length t)))
    (λ z. by-eq form 3
    (λ e. rw e (omega (arith, doubled t)))
    (λ l. rw (ne_eqb form 1 y, ne_eqb form 2 z, ne_eqb form 3 l) (omega arith))))
