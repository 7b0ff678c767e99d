-- Two strings without hints, side by side.
use Prim.Native.Nat.{ℕ, ◌-◌, ◌<◌}
use native.Mathlib.Omega.{arith}
use mathlib.Core.Path.{◌≡◌, refl, sym, ap, ◌∙◌}
use mathlib.Core.Bool.{Bool, true, false}
use mathlib.Core.List.{List}
use lib.ListN.{length}
use Rattle.base.specs.Choice.{both, equal}
use Rattle.base.proofs.Lists.{equal-same}
use Rattle.model.specs.Answers.{the}
use Rattle.model.specs.Compare.{same}
use Rattle.model.specs.Decode.{decode₁}
use Rattle.model.specs.Lexemes.{atom}
use Rattle.std.specs.Prelude.{Some}
use Rattle.canonical.specs.declared.Item.TheVariants.{Plain}
use Rattle.sheets.specs.Places.{start_of, end_of, StringAt}
use Rattle.sheets.proofs.Items.{string-item}
use Rattle.lookup.specs.Alike.{kind_of, hint_or, data_of, matches}
use Rattle.lookup.specs.Strings.{Span, spanned}
use Rattle.lookup.specs.Tokens.{part_of, lexeme_of, TokenAt}
use Rattle.lookup.proofs.Matching.{atoms}
use Rattle.lookup.proofs.SideBySide.{Matching, left-reads, right-reads, token-plain, match-differs, match-on}
use Rattle.lookup.specs.declared.alike.Token.{Token}

pub spans-equal : (a b : List ℕ) (r q s e f l : ℕ) → s ≡ start_of r → e ≡ end_of r → f ≡ start_of q → l ≡ end_of q → (t : Bool) → t ≡ equal (part_of a s e) (part_of b f l) → t ≡ equal (spanned a r) (spanned b q)
spans-equal a b r q s e f l x y z w t k = rw (sym x, sym y, sym z, sym w) k

-- the lexeme of a span
abbrev token_of : ℕ → Token
token_of r = record { sort = 2; hinted = false; from = 0; to = 0; start = start_of r; end = end_of r; next = end_of r }

atom-of : (src : List ℕ) (r : ℕ) → lexeme_of src (token_of r) ≡ atom (spanned src r)
atom-of src r = atoms src (token_of r) refl refl

atoms-match : (x d e : List ℕ) → matches x (atom d) (atom e) ≡ equal d e
unfolding matches kind_of hint_or data_of
atoms-match x d e = ap (λ (t : Bool). both t (equal d e)) (equal-same x)

module _ (a b x : List ℕ) (i j : ℕ) (w : Matching a b x i j) (h : i < length a) (l : j < length b) (r q : ℕ) (u : StringAt a i (Some r)) (v : StringAt b j (Some q)) where
  left-token : TokenAt a i (token_of r)
  left-token = token-plain a i (left-reads a b x i j w h) (Some (Plain (start_of r) (end_of r))) (string-item a i h r u) (Plain (start_of r) (end_of r)) refl (start_of r) (end_of r) refl

  right-token : TokenAt b j (token_of q)
  right-token = token-plain b j (right-reads a b x i j w h l) (Some (Plain (start_of q) (end_of q))) (string-item b j l q v) (Plain (start_of q) (end_of q)) refl (start_of q) (end_of q) refl

  pub left-span : Span (length a) r
  left-span = record { ordered = left-token.lies.ordered; ended = left-token.lies.ended }

  pub right-span : Span (length b) q
  right-span = record { ordered = right-token.lies.ordered; ended = right-token.lies.ended }

  module _ (t : Bool) (e : t ≡ equal (spanned a r) (spanned b q)) where
    matched : t ≡ matches x (lexeme_of a (token_of r)) (lexeme_of b (token_of q))
    matched = e ∙ sym (atoms-match x (spanned a r) (spanned b q)) ∙ sym (rw (atom-of a r, atom-of b q))

    pub spans-differ : t ≡ false → false ≡ same (the (decode₁ a)) (the (decode₁ b)) x
    spans-differ z = match-differs a b x i j w h (token_of r) (token_of q) left-token right-token t matched z

    module _ (z : t ≡ true) (n m : ℕ) (c : n ≡ end_of r) (d : m ≡ end_of q) where
      pub spans-less : length a - n < length a - i
      spans-less = omega (arith, c, left-token.ahead, left-token.within)

      pub spans_on : Matching a b x n m
      spans_on = rw (c, d) (match-on a b x i j w h (token_of r) (token_of q) left-token right-token t matched z)
