-- Lexemes at a place of a canonical text.
use Prim.Native.Nat.{ℕ, ◌+◌, ◌-◌, ◌≤◌, ◌<◌}
use native.Mathlib.Omega.{arith}
use mathlib.Core.Path.{◌≡◌, refl, sym, ap, ◌∙◌}
use mathlib.Core.Bool.{true}
use mathlib.Core.List.{List, [], ◌∷◌, ◌++◌}
use lib.ListN.{length, take, drop, get_or, length-append, length-take, length-drop, drop_of_length-le}
use lib.Seq.{drop-drop}
use borrow.Author.Tests.{le-leb, lt-leb, eq-eqb, ne_eqb}
use Rattle.base.proofs.Cases.{by-eq, picked, unpicked, among_in, among-low, among-high}
use Rattle.model.specs.Lexemes.{atom, hinting, close_strict, strict_lexeme}
use Rattle.model.specs.Octets.{is_digit}
use Rattle.model.specs.Strings.{got, refused, bind, decimal, first, after_length, verbatim_of}
use Rattle.model.specs.Table.{body_start, body_end}
use Rattle.model.specs.Tree.{digits}
use Rattle.model.proofs.Digits.{decimal-sound}
use Rattle.model.proofs.Sizes.{verbatim-length}
use Rattle.scan.proofs.Places.{one-here}
use Rattle.decimal.specs.Numbers.{Valued, Huge, Numbered}
use Rattle.canonical.specs.Lexed.{Follows, Spanned, Spans, ClosedBy, Closes, ItemAt}
use Rattle.canonical.specs.declared.Span.{Span}
use Rattle.canonical.specs.declared.Item.{Item}
use Rattle.canonical.specs.declared.Item.TheVariants.{Open, Close, Plain, Hinted}
use Rattle.decimal.specs.declared.Number.{Number}
use Rattle.std.specs.Prelude.{Option, Some, None}

-- a number that is larger than what is left is no length
too_long : (v : ℕ) (s : List ℕ) → length s < v → after_length v s ≡ refused
unfolding after_length first
too_long v [] h = refl
too_long v (b ∷ s) h = by-eq b 58 (λ e. picked _ _ (eq-eqb b 58 e) ∙ unpicked _ _ (lt-leb v (length s) (omega arith))) (λ e. unpicked _ _ (ne_eqb b 58 e))

-- ---- after a length

module _ (src : List ℕ) (at n : ℕ) where
  pub length-end : length src ≤ at → Follows src at n None
  unfolding Follows after_length
  length-end h = ap (after_length n) (drop_of_length-le src h)

  module _ (h : at < length src) where
    pub length-uncolon : (get_or src at 0 ≡ 58 → ⊥) → Follows src at n None
    unfolding Follows after_length
    length-uncolon z = ap (after_length n) (one-here src at h) ∙ unpicked _ _ (ne_eqb _ _ z)

    module _ (z : get_or src at 0 ≡ 58) where
      firsts : after_length n (drop at src) ≡ first n (drop (at + 1) src)
      unfolding after_length
      firsts = ap (after_length n) (one-here src at h) ∙ picked _ _ (eq-eqb _ _ z)

      pub length-short : length src - (at + 1) < n → Follows src at n None
      unfolding Follows first
      length-short k = firsts ∙ unpicked _ _ (lt-leb n (length (drop (at + 1) src)) (omega (arith, length-drop (at + 1) src)))

      pub length-span : n ≤ length src - (at + 1) → Follows src at n (Some (record { start = at + 1; end = at + 1 + n }))
      unfolding Follows first
      length-span k =
          record {
            begins = refl;
            ends = refl;
            within = omega arith;
            reads = firsts ∙ picked _ _ (le-leb n (length (drop (at + 1) src)) (omega (arith, length-drop (at + 1) src))) ∙ ap (got (take n (drop (at + 1) src))) (drop-drop n (at + 1) src);
          }

-- ---- a verbatim string

module _ (src : List ℕ) (at : ℕ) where
  pub verb-end : length src ≤ at → Spans src at None
  unfolding Spans verbatim_of
  verb-end h = ap verbatim_of (drop_of_length-le src h)

  module _ (h : at < length src) where
    pub verb-low : get_or src at 0 < 48 → Spans src at None
    unfolding Spans verbatim_of
    verb-low k = ap verbatim_of (one-here src at h) ∙ unpicked _ _ (among-low 48 57 (get_or src at 0) k)

    pub verb-high : 57 < get_or src at 0 → Spans src at None
    unfolding Spans verbatim_of
    verb-high k = ap verbatim_of (one-here src at h) ∙ unpicked _ _ (among-high 48 57 (get_or src at 0) k)

    module _ (lo : 48 ≤ get_or src at 0) (hi : get_or src at 0 ≤ 57) where
      pub verb-digit : is_digit (get_or src at 0) ≡ true
      verb-digit = among_in 48 57 (get_or src at 0) lo hi

      afters : verbatim_of (drop at src) ≡ bind (decimal (get_or src at 0) (drop (at + 1) src)) after_length
      unfolding verbatim_of
      afters = ap verbatim_of (one-here src at h) ∙ picked _ _ verb-digit

      -- a length past the text's
      pub verb-huge : Numbered src (decimal (get_or src at 0) (drop (at + 1) src)) at None → Spans src at None
      unfolding Numbered Spans bind
      verb-huge w = let g : Huge src (decimal (get_or src at 0) (drop (at + 1) src)) = w in
          afters ∙ rw g.reads (too_long g.value g.rest (omega (arith, g.large, g.short)))

      module _ (d : Number) (w : Numbered src (decimal (get_or src at 0) (drop (at + 1) src)) at (Some d)) where
        valued : Valued src (decimal (get_or src at 0) (drop (at + 1) src)) at d.value d.next
        unfolding Numbered
        valued = w

        pub value-within : d.next ≤ length src
        value-within = valued.within

        -- where the digits end
        digits-end : d.next ≡ at + length (digits d.value)
        digits-end =
            let x : drop at src ≡ digits d.value ++ drop d.next src = one-here src at h ∙ decimal-sound (get_or src at 0) (drop (at + 1) src) d.value (drop d.next src) verb-digit valued.reads in
            omega (arith, valued.within, ap length x, length-append (digits d.value) (drop d.next src), length-drop at src, length-drop d.next src)

        goes_on : verbatim_of (drop at src) ≡ after_length d.value (drop d.next src)
        unfolding bind
        goes_on = afters ∙ rw valued.reads

        pub verb-value : (p : Option Span) → Follows src d.next d.value p → Spans src at p
        unfolding Follows Spans
        verb-value (Some p) g =
            let s : ℕ = p.start in
            let a : length (take d.value (drop s src)) ≡ d.value = simp (length-take, length-drop) (omega (arith, g.begins, g.ends, g.within)) in
            let c : length (digits (length (take d.value (drop s src)))) ≡ length (digits d.value) = ap (λ (x : ℕ). length (digits x)) a in
            record {
              octets = take d.value (drop s src);
              reads = goes_on ∙ g.reads;
              begins = omega (arith, g.begins, digits-end);
              ends = omega (arith, g.begins, g.ends, digits-end, verbatim-length (take d.value (drop s src)));
              within = g.within;
            }
        verb-value None g = goes_on ∙ g

-- ---- after a hint

module _ (src : List ℕ) (from to : ℕ) where
  pub hint-end : length src ≤ to → Closes src from to None
  unfolding Closes close_strict
  hint-end n h = ap (close_strict h) (drop_of_length-le src n)

  module _ (n : to < length src) where
    pub hint-unclosed : (get_or src to 0 ≡ 93 → ⊥) → Closes src from to None
    unfolding Closes close_strict
    hint-unclosed z h = ap (close_strict h) (one-here src to n) ∙ unpicked _ _ (ne_eqb _ _ z)

    module _ (z : get_or src to 0 ≡ 93) where
      closes : (h : List ℕ) → close_strict h (drop to src) ≡ bind (verbatim_of (drop (to + 1) src)) (λ d q. got (hinting h d) q)
      unfolding close_strict
      closes h = ap (close_strict h) (one-here src to n) ∙ picked _ _ (eq-eqb _ _ z)

      pub hint-none : Spans src (to + 1) None → Closes src from to None
      unfolding Closes Spans bind
      hint-none w h = let g : verbatim_of (drop (to + 1) src) ≡ refused = w in closes h ∙ rw g

      pub hint-string : (d : Span) → Spans src (to + 1) (Some d) → Closes src from to (Some (Hinted from to d.start d.end))
      unfolding Closes Spans bind
      hint-string d w =
          let g : Spanned src (to + 1) d.start d.end = w in
          (refl, refl, record { octets = g.octets; reads = λ h. closes h ∙ rw g.reads; begins = g.begins; ends = g.ends; within = g.within })

-- ---- a lexeme

module _ (src : List ℕ) (at : ℕ) (h : at < length src) where
  pub lex-open : get_or src at 0 ≡ 40 → ItemAt src at (Some Open)
  unfolding ItemAt strict_lexeme
  lex-open e = ap strict_lexeme (one-here src at h) ∙ picked _ _ (eq-eqb _ _ e)

  module _ (a : get_or src at 0 ≡ 40 → ⊥) where
    pub lex-close : get_or src at 0 ≡ 41 → ItemAt src at (Some Close)
    unfolding ItemAt strict_lexeme
    lex-close e = ap strict_lexeme (one-here src at h) ∙ unpicked _ _ (ne_eqb _ _ a) ∙ picked _ _ (eq-eqb _ _ e)

    module _ (b : get_or src at 0 ≡ 41 → ⊥) where
      module _ (c : get_or src at 0 ≡ 91) where
        hinted : strict_lexeme (drop at src) ≡ bind (verbatim_of (drop (at + 1) src)) close_strict
        unfolding strict_lexeme
        hinted = ap strict_lexeme (one-here src at h) ∙ unpicked _ _ (ne_eqb _ _ a) ∙ unpicked _ _ (ne_eqb _ _ b) ∙ picked _ _ (eq-eqb _ _ c)

        pub lex-unhinted : Spans src (at + 1) None → ItemAt src at None
        unfolding ItemAt Spans bind
        lex-unhinted w = let g : verbatim_of (drop (at + 1) src) ≡ refused = w in hinted ∙ rw g

        module _ (d : Span) (w : Spans src (at + 1) (Some d)) where
          spanned : Spanned src (at + 1) d.start d.end
          unfolding Spans
          spanned = w

          pub hint-within : d.end ≤ length src
          hint-within = spanned.within

          followed : strict_lexeme (drop at src) ≡ close_strict spanned.octets (drop d.end src)
          unfolding bind
          followed = hinted ∙ rw spanned.reads

          pub lex-hinted : (l : Option Item) → Closes src d.start d.end l → ItemAt src at l
          unfolding Closes ItemAt
          lex-hinted (Some Open) t = absurd t
          lex-hinted (Some Close) t = absurd t
          lex-hinted (Some (Plain x y)) t = absurd t
          lex-hinted (Some (Hinted x y s' e')) t =
              let u : ClosedBy src d.end s' e' = t.2 in
              record {
                hint = spanned.octets;
                octets = u.octets;
                reads = followed ∙ u.reads spanned.octets;
                hint_begins = t.0 ∙ spanned.begins;
                hint_ends = t.1 ∙ spanned.ends;
                begins = u.begins ∙ ap (λ (z : ℕ). body_start (z + 1) u.octets) (sym t.1);
                ends = u.ends ∙ ap (λ (z : ℕ). body_end (z + 1) u.octets) (sym t.1);
                within = u.within;
              }
          lex-hinted None t = followed ∙ t spanned.octets

      module _ (c : get_or src at 0 ≡ 91 → ⊥) where
        stringed : strict_lexeme (drop at src) ≡ bind (verbatim_of (drop at src)) (λ d k. got (atom d) k)
        unfolding strict_lexeme
        stringed =
            ap strict_lexeme (one-here src at h) ∙ unpicked _ _ (ne_eqb _ _ a) ∙ unpicked _ _ (ne_eqb _ _ b) ∙ unpicked _ _ (ne_eqb _ _ c)
            ∙ ap (λ (s : List ℕ). bind (verbatim_of s) (λ d k. got (atom d) k)) (sym (one-here src at h))

        pub lex-none : Spans src at None → ItemAt src at None
        unfolding ItemAt Spans bind
        lex-none w = let g : verbatim_of (drop at src) ≡ refused = w in stringed ∙ rw g

        pub lex-plain : (d : Span) → Spans src at (Some d) → ItemAt src at (Some (Plain d.start d.end))
        unfolding ItemAt Spans bind
        lex-plain d w =
            let g : Spanned src at d.start d.end = w in
            record { octets = g.octets; reads = stringed ∙ rw g.reads; begins = g.begins; ends = g.ends; within = g.within }
