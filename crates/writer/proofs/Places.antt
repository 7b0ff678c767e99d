-- Where the octets of a lexeme stand in canonical text.
use Prim.Native.Nat.{ℕ, ◌+◌, ◌-◌, ◌≤◌, ◌<◌}
use native.Mathlib.Omega.{arith}
use mathlib.Core.Path.{◌≡◌, refl, sym, ap, ap₂, ◌∙◌}
use mathlib.Core.List.{List, [], ◌∷◌, ◌++◌, append_assoc}
use lib.ListN.{length, take, drop, length-append}
use lib.Seq.{take_at, drop_at, drop-drop}
use Rattle.model.specs.Lexemes.{Lexeme, opening, closing, atom, hinting, strict_lexeme}
use Rattle.model.specs.Strings.{got, refused}
use Rattle.model.specs.Table.{body_start, body_end}
use Rattle.model.specs.Tree.{digits, verbatim}
use Rattle.model.proofs.Sizes.{verbatim-length}
use Rattle.model.proofs.Strict.{octets_of_lexeme, strict-sound}
use Rattle.canonical.specs.Lexed.{Plainly, Hintedly, ItemAt}
use Rattle.spelling.specs.Spelled.{cut}
use Rattle.writer.specs.Sheets.{Strings}
use Rattle.std.specs.Prelude.{Some, None}
use Rattle.canonical.specs.declared.Item.TheVariants.{Open, Close, Plain, Hinted}

after : (src a b : List ℕ) (at : ℕ) → drop at src ≡ a ++ b → drop (at + length a) src ≡ b
after src a b at x = sym (drop-drop (length a) at src) ∙ ap (drop (length a)) x ∙ drop_at a b (length a) refl

cut-is : (src d b : List ℕ) (s e : ℕ) → drop s src ≡ d ++ b → e ≡ s + length d → cut src s e ≡ d
cut-is src d b s e x y = let z : length d ≡ e - s = omega arith in ap (take (e - s)) x ∙ take_at d b (e - s) z

verb-split : (d k : List ℕ) → verbatim d ++ k ≡ (digits (length d) ++ 58 ∷ []) ++ (d ++ k)
unfolding verbatim
verb-split d k = simp append_assoc

-- a verbatim string
body_is : (src d b : List ℕ) (at s e : ℕ) → drop at src ≡ verbatim d ++ b → s ≡ body_start at d → e ≡ body_end at d → cut src s e ≡ d
body_is src d b at s e x y z =
    let a : at + length (digits (length d) ++ 58 ∷ []) ≡ s = omega (arith, length-append (digits (length d)) (58 ∷ [])) in
    let u : drop s src ≡ d ++ b = ap (λ (n : ℕ). drop n src) (sym a) ∙ after src (digits (length d) ++ 58 ∷ []) (d ++ b) at (x ∙ verb-split d b) in
    cut-is src d b s e u (omega (arith, verbatim-length d))

-- a lexeme is read at a place, up to another
pub record Next (src : List ℕ) (at : ℕ) (l : Lexeme) (next : ℕ) : Type 0 where
  pub reads : strict_lexeme (drop at src) ≡ got l (drop next src)
  pub on : at < next
  pub within : next ≤ length src

pub next-less : (src : List ℕ) (at : ℕ) (l : Lexeme) (next : ℕ) → Next src at l next → length src - next < length src - at
next-less src at l next n = omega (arith, n.on, n.within)

module _ (src : List ℕ) (at : ℕ) where
  module _ (h : at < length src) where
    pub open_next : ItemAt src at (Some Open) → Next src at opening (at + 1)
    unfolding ItemAt
    open_next v = record { reads = v; on = omega arith; within = omega arith }

    pub close-next : ItemAt src at (Some Close) → Next src at closing (at + 1)
    unfolding ItemAt
    close-next v = record { reads = v; on = omega arith; within = omega arith }

  pub other_none : ItemAt src at None → strict_lexeme (drop at src) ≡ refused
  unfolding ItemAt
  other_none v = v

  module _ (s e : ℕ) (v : ItemAt src at (Some (Plain s e))) where
    plainly : Plainly src at s e
    unfolding ItemAt
    plainly = v

    plain-is : cut src s e ≡ plainly.octets
    unfolding octets_of_lexeme
    plain-is = let p : Plainly src at s e = plainly in body_is src p.octets (drop e src) at s e (strict-sound (drop at src) p.reads) p.begins p.ends

    pub plain-order : s ≤ e
    plain-order = let p : Plainly src at s e = plainly in omega (arith, p.begins, p.ends, verbatim-length p.octets)

    pub plain-within : e ≤ length src
    plain-within = plainly.within

    pub plain-next : Next src at (atom (cut src s e)) e
    plain-next =
        let p : Plainly src at s e = plainly in
        record { reads = p.reads ∙ ap (λ (x : List ℕ). got (atom x) (drop e src)) (sym plain-is); on = omega (arith, p.ends, verbatim-length p.octets); within = p.within }

  module _ (hs he s e : ℕ) (v : ItemAt src at (Some (Hinted hs he s e))) where
    hintedly : Hintedly src at hs he s e
    unfolding ItemAt
    hintedly = v

    -- what stands from the hint on, and from the string on
    hint-here : drop (at + 1) src ≡ verbatim hintedly.hint ++ (93 ∷ verbatim hintedly.octets ++ drop e src)
    unfolding octets_of_lexeme
    hint-here =
        let p : Hintedly src at hs he s e = hintedly in
        after src (91 ∷ []) (verbatim p.hint ++ (93 ∷ verbatim p.octets ++ drop e src)) at (strict-sound (drop at src) p.reads ∙ simp append_assoc)

    data-here : drop (he + 1) src ≡ verbatim hintedly.octets ++ drop e src
    data-here =
        let p : Hintedly src at hs he s e = hintedly in
        after src (93 ∷ []) (verbatim p.octets ++ drop e src) he
        (ap (λ (n : ℕ). drop n src) p.hint_ends ∙ after src (verbatim p.hint) (93 ∷ verbatim p.octets ++ drop e src) (at + 1) hint-here)

    hint-is : cut src hs he ≡ hintedly.hint
    hint-is = let p : Hintedly src at hs he s e = hintedly in body_is src p.hint _ (at + 1) hs he hint-here p.hint_begins p.hint_ends

    data_is : cut src s e ≡ hintedly.octets
    data_is = let p : Hintedly src at hs he s e = hintedly in body_is src p.octets (drop e src) (he + 1) s e data-here p.begins p.ends

    hinted-ahead : at < e
    hinted-ahead = let p : Hintedly src at hs he s e = hintedly in omega (arith, p.ends, p.hint_ends)

    pub hinted-strings : Strings src hs he s e
    hinted-strings =
        let p : Hintedly src at hs he s e = hintedly in
        record {
          hint_order = omega (arith, p.hint_begins, p.hint_ends, verbatim-length p.hint);
          hint_within = omega (arith, p.ends, p.within);
          order = omega (arith, p.begins, p.ends, verbatim-length p.octets);
          within = p.within;
        }

    pub hinted-next : Next src at (hinting (cut src hs he) (cut src s e)) e
    hinted-next =
        let p : Hintedly src at hs he s e = hintedly in
        record { reads = p.reads ∙ ap₂ (λ (x y : List ℕ). got (hinting x y) (drop e src)) (sym hint-is) (sym data_is); on = hinted-ahead; within = p.within }
