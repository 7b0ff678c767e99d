-- Strings with a hint and without one, at the front; three octets are written at most for each one read.
use Prim.Native.Nat.{ℕ, ◌+◌, ◌*◌, ◌≤◌, ◌<◌}
use native.Mathlib.Omega.{arith}
use mathlib.Core.Path.{◌≡◌, refl, sym, ap, ◌∙◌, subst}
use mathlib.Core.List.{List, [], ◌∷◌, ◌++◌, append_assoc}
use lib.ListN.{length, drop, get_or, length-append, length-drop, set, length-set, drop_of_length-le}
use borrow.Author.Tests.{ne_eqb, eq-eqb}
use Rattle.base.proofs.Cases.{unpicked, picked}
use Rattle.model.specs.Grammar.{rules}
use Rattle.model.specs.Lexemes.{atom, hinting, close_hint, lexeme}
use Rattle.model.specs.Strings.{got, refused, bind, skip, simple}
use Rattle.model.specs.Tree.{digits, verbatim}
use Rattle.model.proofs.Simples.{simple-sound}
use Rattle.model.specs.Limits.{max_source}
use Rattle.model.proofs.Sizes.{verbatim-length, run-size, marked-size, simple-size}
use Rattle.model.proofs.Stripped.{simple-verbatim, simple-token, unmeasured, measured}
use Rattle.model.proofs.Stripped as Stripped
use Rattle.blocks.proofs.Lengths.{few-digits}
use Rattle.model.proofs.Strict.{octets_of_lexeme}
use Rattle.model.specs.Count.{step}
use Rattle.scan.specs.Runs.{Skipped}
use Rattle.scan.proofs.Places.{one-here}
use Rattle.blocks.proofs.Laws.{front-one, front-both}
use Rattle.sheets.specs.Strung.{plainly, hintedly}
use Rattle.std.specs.Prelude.{Option, Some, None}
use Rattle.advanced.specs.Spelled.{Room, Spelled, Spells}
use Rattle.advanced.specs.Nodes.{Spare, hint_of, HintCloses, HintSpelled, HintSpells, Nodes}

-- a string has no more octets than it takes up
simple-fits : {s d k : List ℕ} → Stripped.Simple rules s d k → length d + length k ≤ length s
simple-fits (simple-verbatim d k) = omega (arith, length-append (verbatim d) k, verbatim-length d)
simple-fits (simple-token t r) = omega (arith, run-size r)
simple-fits (unmeasured m) = omega (arith, marked-size m)
simple-fits (measured {s = s} {d = d} m) = omega (arith, marked-size m, length-append (digits (length d)) s)

spelled-few : (src : List ℕ) (at pos : ℕ) (a b : List ℕ) (e next : ℕ) → length src ≤ max_source → Spelled src (simple rules (drop at src)) at pos a b e next → e + at ≤ pos + next + 6
spelled-few src at pos a b e next h s =
    let f : length s.octets + length (drop next src) ≤ length (drop at src) = simple-fits (simple-sound (drop at src) s.reads) in
    omega (arith, few-digits (length s.octets) (omega (arith, length-drop at src)), verbatim-length s.octets, length-drop at src, length-drop next src, s.front.place, s.on, s.within)

-- the law of three for each octet, at one string
spelled-low : (src : List ℕ) (at pos : ℕ) (a b : List ℕ) (e next : ℕ) → Spelled src (simple rules (drop at src)) at pos a b e next → e + 3 * at ≤ pos + 3 * next
spelled-low src at pos a b e next s = omega (arith, simple-size (simple-sound (drop at src) s.reads), length-drop at src, length-drop next src, s.front.place, s.on, s.within)

spelled-small : (src : List ℕ) (at pos : ℕ) (a b : List ℕ) (e next : ℕ) → length src ≤ max_source → (s : Spelled src (simple rules (drop at src)) at pos a b e next) → length s.octets ≤ max_source
spelled-small src at pos a b e next h s = omega (arith, simple-fits (simple-sound (drop at src) s.reads), length-drop at src)

pub kept-length : (a b : List ℕ) (i v : ℕ) → length b ≡ length (set a i v) → length b ≡ length a
kept-length a b i v e = e ∙ length-set a i v

pub kept_again : (a b c : List ℕ) (i v : ℕ) → length b ≡ length (set a i v) → length c ≡ length b → length c ≡ length a
kept_again a b c i v e f = f ∙ e ∙ length-set a i v

pub spare-room : (src : List ℕ) (at pos room : ℕ) → Spare src at pos room → Room src at pos room
spare-room src at pos room t = record { inside = t.inside; short = t.short; space = omega (arith, t.space) }

-- ---- a hint
module _ (src : List ℕ) (at pos : ℕ) (out : List ℕ) (h : at < length src) (t : Spare src at pos (length out)) where
  pub hint-store : pos < length out
  hint-store = omega (arith, t.space)

  module _ (i : ℕ) (p : Skipped src (at + 1) i) where
    pub hint-room : Room src i (pos + 1) (length (set out pos 91))
    hint-room = record { inside = p.within; short = t.short; space = omega (arith, p.from, p.within, t.space, length-set out pos 91) }

    module _ (out₁ : List ℕ) (e : ℕ) (r : Option ℕ) (s : Spells src (simple rules (drop i src)) i (pos + 1) (set out pos 91) out₁ e r) where
      hinted : hint_of (drop (at + 1) src) ≡ bind (simple rules (drop i src)) (λ x k. close_hint rules x (skip k))
      hinted = rw p.reads

      not-spelled : r ≡ None → simple rules (drop i src) ≡ refused
      unfolding Spells
      not-spelled z = subst (Spells src (simple rules (drop i src)) i (pos + 1) (set out pos 91) out₁ e) z s

      pub hint-none : r ≡ None → (b : List ℕ) (q : ℕ) → HintSpells src at pos out b q None
      unfolding HintSpells bind
      hint-none z b q = hinted ∙ rw (not-spelled z)

      module _ (next : ℕ) (z : r ≡ Some next) where
        got-it : Spelled src (simple rules (drop i src)) i (pos + 1) (set out pos 91) out₁ e next
        unfolding Spells
        got-it = subst (Spells src (simple rules (drop i src)) i (pos + 1) (set out pos 91) out₁ e) z s

        pub hint-inside : next ≤ length src
        hint-inside = got-it.within

        followed : hint_of (drop (at + 1) src) ≡ close_hint rules got-it.octets (skip (drop next src))
        unfolding bind
        followed = hinted ∙ rw got-it.reads

        pub hint-last : e < length out₁
        hint-last = omega (arith, got-it.on, spelled-few src i (pos + 1) (set out pos 91) out₁ e next t.short got-it, got-it.within, p.from, t.space, length-set out pos 91, got-it.front.long)

        pub hint-end : (out₂ : List ℕ) (q : ℕ) (k : Option ℕ) → HintCloses src next e out₁ out₂ q k → HintSpells src at pos out out₂ q k
        unfolding HintCloses HintSpells
        hint-end out₂ q None w = followed ∙ w got-it.octets
        hint-end out₂ q (Some k) w =
            record {
              hint = got-it.octets;
              reads = followed ∙ w.reads got-it.octets;
              on = omega (arith, p.from, got-it.on, w.on);
              within = w.within;
              few = omega (arith, spelled-few src i (pos + 1) (set out pos 91) out₁ e next t.short got-it, w.on, w.front.place, p.from);
              low = omega (arith, spelled-low src i (pos + 1) (set out pos 91) out₁ e next got-it, w.on, w.front.place, p.from);
              small = spelled-small src i (pos + 1) (set out pos 91) out₁ e next t.short got-it;
              front =
                  front-both (91 ∷ []) _ pos (pos + 1) q out (set out pos 91) out₂ (front-one out pos 91 hint-store)
                  (front-both (verbatim got-it.octets) (93 ∷ []) (pos + 1) e q (set out pos 91) out₁ out₂ got-it.front w.front);
            }

-- ---- its closing bracket
module _ (src : List ℕ) (at pos : ℕ) (out : List ℕ) (j : ℕ) (u : Skipped src at j) where
  closing_at : (h : List ℕ) → close_hint rules h (skip (drop at src)) ≡ close_hint rules h (drop j src)
  closing_at h = ap (close_hint rules h) u.reads

  pub close-cut : length src ≤ j → (b : List ℕ) (q : ℕ) → HintCloses src at pos out b q None
  unfolding HintCloses close_hint
  close-cut n b q = λ h. closing_at h ∙ ap (close_hint rules h) (drop_of_length-le src n)

  module _ (n : j < length src) where
    pub close_open : (get_or src j 0 ≡ 93 → ⊥) → (b : List ℕ) (q : ℕ) → HintCloses src at pos out b q None
    unfolding HintCloses close_hint
    close_open y b q = λ h. closing_at h ∙ ap (close_hint rules h) (one-here src j n) ∙ unpicked _ _ (ne_eqb _ _ y)

    pub close-some : get_or src j 0 ≡ 93 → pos < length out → (k : ℕ) → Skipped src (j + 1) k → HintCloses src at pos out (set out pos 93) (pos + 1) (Some k)
    unfolding HintCloses close_hint
    close-some y m k v =
        record {
          reads = λ h. closing_at h ∙ ap (close_hint rules h) (one-here src j n) ∙ picked _ _ (eq-eqb _ _ y) ∙ rw v.reads;
          on = omega (arith, u.from, v.from);
          within = v.within;
          front = front-one out pos 93 m;
        }

-- ---- a string
module _ (src : List ℕ) (at pos : ℕ) (out : List ℕ) (h : at < length src) (t : Spare src at pos (length out)) where
  module _ (c : get_or src at 0 ≡ 91) (out₁ : List ℕ) (e : ℕ) (r : Option ℕ) (s : HintSpells src at pos out out₁ e r) where
    bracketed : lexeme rules (drop at src) ≡ hint_of (drop (at + 1) src)
    unfolding lexeme
    bracketed =
        let a : get_or src at 0 ≡ 40 → ⊥ = λ z. omega (arith, z, c) in
        let b : get_or src at 0 ≡ 41 → ⊥ = λ z. omega (arith, z, c) in
        ap (lexeme rules) (one-here src at h) ∙ unpicked _ _ (ne_eqb _ _ a) ∙ unpicked _ _ (ne_eqb _ _ b) ∙ picked _ _ (eq-eqb _ _ c)

    pub node-unhinted : r ≡ None → (d : List ℕ) (m q : ℕ) → Nodes src at pos out d m q None
    unfolding HintSpells Nodes
    node-unhinted z d m q =
        let y : hint_of (drop (at + 1) src) ≡ refused = subst (HintSpells src at pos out out₁ e) z s in
        bracketed ∙ y

    module _ (from : ℕ) (z : r ≡ Some from) where
      hint-got : HintSpelled src at pos out out₁ e from
      unfolding HintSpells
      hint-got = subst (HintSpells src at pos out out₁ e) z s

      pub node-room : length out₁ ≡ length out → Room src from e (length out₁)
      node-room l = record { inside = hint-got.within; short = t.short; space = omega (arith, t.space, hint-got.few, hint-got.on, hint-got.within) }

      pub node-hinted : (out₂ : List ℕ) (q : ℕ) (k : Option ℕ) → Spells src (simple rules (drop from src)) from e out₁ out₂ q k → Nodes src at pos out out₂ e q k
      unfolding Spells Nodes bind step octets_of_lexeme
      node-hinted out₂ q None w = bracketed ∙ hint-got.reads ∙ rw w
      node-hinted out₂ q (Some next) w =
          let v : Spelled src (simple rules (drop from src)) from e out₁ out₂ q next = w in
          let g : List ℕ = hint-got.hint in
          let y : (91 ∷ (verbatim g ++ (93 ∷ []))) ++ verbatim v.octets ≡ 91 ∷ (verbatim g ++ (93 ∷ verbatim v.octets)) = ap (λ (x : List ℕ). 91 ∷ x) (append_assoc (verbatim g) (93 ∷ []) (verbatim v.octets)) in
          record {
            is = hinting g v.octets;
            reads = bracketed ∙ hint-got.reads ∙ rw v.reads;
            string = λ o d n. refl;
            on = omega (arith, hint-got.on, v.on);
            within = v.within;
            few = omega (arith, spelled-few src from e out₁ out₂ q next t.short v, hint-got.few);
            low = omega (arith, spelled-low src from e out₁ out₂ q next v, hint-got.low);
            strung = hintedly g v.octets (pos + 1 + length (verbatim g)) refl
                (omega (arith, hint-got.front.place, length-append (verbatim g) (93 ∷ [])))
                (record { long = refl; few = hint-got.small })
                (record { long = v.front.place; few = spelled-small src from e out₁ out₂ q next t.short v });
            front = rw y at (front-both (91 ∷ (verbatim g ++ (93 ∷ []))) (verbatim v.octets) pos e q out out₁ out₂ hint-got.front v.front);
          }

  module _ (a : get_or src at 0 ≡ 40 → ⊥) (b : get_or src at 0 ≡ 41 → ⊥) (c : get_or src at 0 ≡ 91 → ⊥) (out₁ : List ℕ) (q : ℕ) where
    plain : lexeme rules (drop at src) ≡ bind (simple rules (drop at src)) (λ d k. got (atom d) k)
    unfolding lexeme
    plain =
        ap (lexeme rules) (one-here src at h) ∙ unpicked _ _ (ne_eqb _ _ a) ∙ unpicked _ _ (ne_eqb _ _ b) ∙ unpicked _ _ (ne_eqb _ _ c)
        ∙ ap (λ (s : List ℕ). bind (simple rules s) (λ d k. got (atom d) k)) (sym (one-here src at h))

    pub node-plain : (r : Option ℕ) → Spells src (simple rules (drop at src)) at pos out out₁ q r → Nodes src at pos out out₁ 0 q r
    unfolding Spells Nodes bind step octets_of_lexeme
    node-plain None w = plain ∙ rw w
    node-plain (Some next) w =
        let v : Spelled src (simple rules (drop at src)) at pos out out₁ q next = w in
        record {
          is = atom v.octets;
          reads = plain ∙ rw v.reads;
          string = λ o d n. refl;
          on = v.on;
          within = v.within;
          few = omega (arith, spelled-few src at pos out out₁ q next t.short v);
          low = spelled-low src at pos out out₁ q next v;
          strung = plainly v.octets refl refl (record { long = v.front.place; few = spelled-small src at pos out out₁ q next t.short v });
          front = v.front;
        }
