-- What is written in form 3 is read again.
use Prim.Native.Nat.{ℕ, ◌/◌, ◌%◌, ◌≤◌, ◌<◌}
use native.Mathlib.Omega.{arith}
use mathlib.Core.Path.{◌≡◌, refl, sym, ◌∙◌, subst}
use mathlib.Core.Bool.{Bool, true, false}
use mathlib.Core.Option.{some}
use mathlib.Core.List.{List, [], ◌∷◌, ◌++◌, append_assoc, append-nil}
use lib.Dec.{eqb}
use borrow.Author.Tests.{ne_eqb, eqb-true}
use Rattle.base.specs.Choice.{pick, either, among, member, every}
use Rattle.base.proofs.Below.{below, below_at}
use Rattle.base.proofs.Cases.{by_bool, by-eq, untrue, pick-cases, picked, unpicked, among-true}
use Rattle.base.proofs.Lists.{every-cases}
use Rattle.model.specs.Decode.{decode₃}
use Rattle.model.specs.Grammar.{no-whitespace, Quotable, escaped-octet, Quotables, dquote, quotable, Run, run_more, run_end, run-stop, Display, Value, display-string, list-value, Values, closing-parenthesis, a-whitespace, Advanced, sexp, rules}
use Rattle.model.specs.Octets.{is_whitespace, is_alpha, is_simple_punc, is_token_start, is_token_octet, is_printable, hexval, find, escape}
use Rattle.model.specs.Tree.{Tree, plain, hinted, list, Forest, nil, cons, Bytes, no_byte, a_byte, TreeBytes, plain-bytes, hinted-bytes, list-bytes, ForestBytes, nil-bytes, cons-bytes}
use Rattle.model.specs.Write.{is_token, quote_one, quote_all, hex_digit, hex_all, shown, advanced, elements, following}
use Rattle.model.proofs.Apart.{rules-apart}
use Rattle.model.proofs.Classes.{hex-unwhite}
use Rattle.model.proofs.Exact.{complete₃}
use Rattle.model.proofs.Rules.{hex-unmark, strip-simple}
use Rattle.model.proofs.Stripped.{Upto, upto-mark, upto-other, Hex, no-hex, two-hex, in-quotes, in-hashes, Simple, simple-token, unmeasured}

-- what a token may stand before
data Ends : List ℕ → Type 0 where
  at-end : Ends []
  at_other : {b : ℕ} {k : List ℕ} → is_token_octet b ≡ false → Ends (b ∷ k)

-- ---- tokens

stops : {k : List ℕ} → Ends k → Run k [] k
stops at-end = run_end
stops (at_other t) = run-stop t

runs : (d : List ℕ) {k : List ℕ} → every is_token_octet d ≡ true → Ends k → Run (d ++ k) d k
runs [] e z = stops z
runs (b ∷ d) e z = every-cases is_token_octet b d e (λ t h. run_more t (runs d h z))

token-shown : (d : List ℕ) {k : List ℕ} → is_token d ≡ true → Ends k → Simple rules (d ++ k) d k
unfolding is_token
token-shown [] e z = untrue e
token-shown (b ∷ d) e z = pick-cases (is_token_start b) _ _ e (λ t h. simple-token t (runs d h z)) (λ t h. untrue h)

-- ---- quoted

-- 32 to 126 but for the quotation mark and the backslash
printable-or : ℕ → Bool
printable-or b = pick (among 32 126 b) (either (eqb b 34) (either (eqb b 92) (is_printable b))) true

printable-tested : below 127 printable-or ≡ true
unfolding below printable-or is_printable
printable-tested = refl

printable-else : (b : ℕ) → among 32 126 b ≡ true → (b ≡ 34 → ⊥) → (b ≡ 92 → ⊥) → is_printable b ≡ true
unfolding printable-or
printable-else b t y z =
    let r : (32 ≤ b) × (b ≤ 126) = among-true 32 126 b t in
    sym (unpicked _ _ (ne_eqb b 34 y) ∙ unpicked _ _ (ne_eqb b 92 z)) ∙ sym (picked _ _ t) ∙ below_at 127 printable-or printable-tested b (omega arith)

piece-shown : (b : ℕ) (k : List ℕ) → among 32 126 b ≡ true → Quotable rules (quote_one b ++ k) (b ∷ []) k
unfolding quote_one escape find
piece-shown b k t =
    by-eq b 34
    (λ z. rw z (escaped-octet {e = 34} (omega arith)))
    (λ z. by-eq b 92
    (λ y. rw y (escaped-octet {e = 92} (omega arith)))
    (λ y. rw (ne_eqb b 34 z, quote_one, ne_eqb b 92 y) (Quotable.printable (printable-else b t z y))))

quoted-shown : (d k : List ℕ) → every (among 32 126) d ≡ true → Quotables rules (quote_all d ++ 34 ∷ k) d k
unfolding quote_all
quoted-shown [] k e = dquote
quoted-shown (b ∷ d) k e = every-cases (among 32 126) b d e (λ t h. rw (append_assoc (quote_one b)) (quotable (piece-shown b _ t) (quoted-shown d k h)))

-- ---- hexadecimal

hex-tested : below 16 (λ n. eqb (hexval (hex_digit n)) n) ≡ true
unfolding below hexval hex_digit
hex-tested = refl

hex-value : (n : ℕ) → n < 16 → hexval (hex_digit n) ≡ n
hex-value n h = eqb-true _ _ (below_at 16 (λ n. eqb (hexval (hex_digit n)) n) hex-tested n h)

hex-upto-one : (n : ℕ) {s l k : List ℕ} → n < 16 → Upto 35 s l k → Upto 35 (hex_digit n ∷ s) (hex_digit n ∷ l) k
hex-upto-one n h u = let v : hexval (hex_digit n) ≡ n = hex-value n h in upto-other (hex-unwhite (hex_digit n) (omega arith)) (hex-unmark (hex_digit n) (omega arith)) u

hex-upto : (d k : List ℕ) → Bytes d → Upto 35 (hex_all d ++ 35 ∷ k) (hex_all d) k
unfolding hex_all
hex-upto [] k no_byte = upto-mark
hex-upto (b ∷ d) k (a_byte h x) = hex-upto-one (b / 16) (omega arith) (hex-upto-one (b % 16) (omega arith) (hex-upto d k x))

hex-shown : (d : List ℕ) → Bytes d → Hex (hex_all d) d
unfolding hex_all
hex-shown [] no_byte = no-hex
hex-shown (b ∷ d) (a_byte h x) =
    let p : hexval (hex_digit (b / 16)) ≡ b / 16 = hex-value (b / 16) (omega arith) in
    let q : hexval (hex_digit (b % 16)) ≡ b % 16 = hex-value (b % 16) (omega arith) in
    subst (λ (y : ℕ). Hex (hex_digit (b / 16) ∷ hex_digit (b % 16) ∷ hex_all d) (y ∷ d)) (omega arith) (two-hex (omega arith) (omega arith) (hex-shown d x))

-- ---- simple strings

simple-shown : (d : List ℕ) {k : List ℕ} → Bytes d → Ends k → Simple rules (shown d ++ k) d k
unfolding shown
simple-shown d {k} x z =
    by_bool (is_token d)
    (λ t. rw (t, shown) (token-shown d t z))
    (λ t. by_bool (every (among 32 126) d)
    (λ u. rw (t, shown, u, append_assoc (quote_all d)) (unmeasured (in-quotes (quoted-shown d k u))))
    (λ u. rw (t, shown, u, append_assoc (hex_all d)) (unmeasured (in-hashes (hex-upto d k x) (hex-shown d x)))))

-- ---- trees

bracket-ends : (k : List ℕ) → Ends (93 ∷ k)
unfolding is_token_octet is_token_start is_alpha is_simple_punc member
bracket-ends k = at_other refl

paren-ends : (k : List ℕ) → Ends (41 ∷ k)
unfolding is_token_octet is_token_start is_alpha is_simple_punc member
paren-ends k = at_other refl

space-ends : (k : List ℕ) → Ends (32 ∷ k)
unfolding is_token_octet is_token_start is_alpha is_simple_punc member
space-ends k = at_other refl

space-white : is_whitespace 32 ≡ true
unfolding is_whitespace member
space-white = refl

following-ends : (f : Forest) (k : List ℕ) → Ends (following f ++ 41 ∷ k)
unfolding following
following-ends nil k = paren-ends k
following-ends (cons t f) k = space-ends _

hinted-shown : (h d : List ℕ) {k : List ℕ} → Bytes h → Bytes d → Ends k → Value rules false (91 ∷ (shown h ++ 93 ∷ (shown d ++ k))) (hinted h d) k
hinted-shown h d x y z = display-string (Display.display no-whitespace (strip-simple (simple-shown h x (bracket-ends _))) no-whitespace no-whitespace) (strip-simple (simple-shown d y z))

mutual
  unfolding advanced

  value-shown : (t : Tree) (k : List ℕ) → TreeBytes t → Ends k → Value rules false (advanced t ++ k) t k
  value-shown (plain d) k (plain-bytes x) z = Value.string (strip-simple (simple-shown d x z))
  value-shown (hinted h d) k (hinted-bytes x y) z = rw (append_assoc (shown h)) (hinted-shown h d x y z)
  value-shown (list f) k (list-bytes x) z = rw (append_assoc (elements f)) (list-value (elements-shown f k x))

  elements-shown : (f : Forest) (k : List ℕ) → ForestBytes f → Values rules false (elements f ++ 41 ∷ k) f k
  elements-shown nil k nil-bytes = closing-parenthesis
  elements-shown (cons t f) k (cons-bytes x y) = rw (append_assoc (advanced t)) (Values.value (value-shown t _ x (following-ends f k)) (following-shown f k y))

  following-shown : (f : Forest) (k : List ℕ) → ForestBytes f → Values rules false (following f ++ 41 ∷ k) f k
  following-shown nil k nil-bytes = closing-parenthesis
  following-shown (cons t f) k (cons-bytes x y) =
      rw (append_assoc (advanced t)) (a-whitespace space-white (Values.value (value-shown t _ x (following-ends f k)) (following-shown f k y)))

pub advanced-is : (t : Tree) → TreeBytes t → Advanced rules false (advanced t) t
advanced-is t x = sexp no-whitespace (subst (λ (s : List ℕ). Value rules false s t []) (append-nil (advanced t)) (value-shown t [] x at-end)) no-whitespace

pub round-trip₃ : (t : Tree) → TreeBytes t → decode₃ rules false (advanced t) ≡ some t
round-trip₃ t x = complete₃ rules-apart (advanced-is t x)
