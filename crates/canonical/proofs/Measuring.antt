-- The measuring loop, against the walk over lexemes.
use Prim.Native.Nat.{ℕ, ◌+◌, ◌-◌, ◌≤◌, ◌<◌, max}
use native.Mathlib.Omega.{arith}
use mathlib.Core.Path.{◌≡◌, refl, sym, ap, ◌∙◌, subst}
use mathlib.Core.Bool.{Bool, true, false}
use mathlib.Core.Option.{Option, none, some}
use mathlib.Core.List.{List, []}
use lib.ListN.{length, drop, get_or, drop_of_length-le}
use borrow.Author.Tests.{eq-eqb, ne_eqb}
use Rattle.base.specs.Choice.{chain}
use Rattle.base.proofs.Cases.{picked, unpicked}
use Rattle.model.specs.Decode.{decode₁}
use Rattle.model.specs.Lexemes.{Lexeme, opening, closing, atom, hinting, strict_lexeme, strict_lexemes}
use Rattle.model.specs.Strings.{Read, got, refused}
use Rattle.model.proofs.Exact.{canon-sound}
use Rattle.model.proofs.LexemeLoop.{strict-end, strict_next, strict_none}
use Rattle.model.proofs.Sizes.{verbatim-length}
use Rattle.scan.proofs.Places.{one-here}
use Rattle.model.specs.Count.{count, begin, shut_by, step}
use Rattle.walk.specs.Extent.{Measures}
use Rattle.walk.proofs.Chained.{walking, walking-shut, walking-step, walking-stop, walking-end, undecoded, decodes}
use Rattle.canonical.specs.Lexed.{Plainly, Hintedly, ItemAt}
use Rattle.std.specs.Prelude.{Some, None}
use Rattle.std.specs.Prelude as prelude
use Rattle.canonical.specs.declared.Item.{Item}
use Rattle.canonical.specs.declared.Item.TheVariants.{Open, Close, Plain, Hinted}
use Rattle.walk.specs.Extent.{Whole}

-- walking on from here gives what walking from the start gives
pub record Walking (src : List ℕ) (at o d n : ℕ) : Type 0 where
  pub inside : at ≤ length src
  pub few : (o ≤ at) × (d ≤ at) × (n ≤ at)
  pub same : walking (strict_lexemes src) begin ≡ walking (strict_lexemes (drop at src)) (count o d n)

pub walk_start : (src : List ℕ) → Walking src 0 0 0 0
walk_start src = record { inside = omega arith; few = (omega arith, omega arith, omega arith); same = refl }

-- the end of the text
at-end : (src : List ℕ) (at : ℕ) → length src ≤ at → strict_lexemes (drop at src) ≡ some []
at-end src at h = ap strict_lexemes (drop_of_length-le src h) ∙ strict-end

module _ (src : List ℕ) (at o d n : ℕ) (w : Walking src at o d n) (q : Bool) (x : q ≡ shut_by o n) where
  -- a lexeme after the tree
  past-shut : at < length src → shut_by o n ≡ true → walking (strict_lexemes (drop at src)) (count o d n) ≡ none
  unfolding chain
  past-shut h s = by (strict_lexeme (drop at src)) refl
    where
      by : (y : Read Lexeme) → strict_lexeme (drop at src) ≡ y → walking (strict_lexemes (drop at src)) (count o d n) ≡ none
      by (got l k) f = ap (λ (z : Option (List Lexeme)). walking z (count o d n)) (strict_next (drop at src) k l f) ∙ walking-shut l (strict_lexemes k) (count o d n) s
      by refused f =
          ap (λ (z : Option (List Lexeme)). walking z (count o d n))
          (ap strict_lexemes (one-here src at h) ∙ strict_none (get_or src at 0) (drop (at + 1) src) (ap strict_lexeme (sym (one-here src at h)) ∙ f))

  module _ (f : q ≡ true) where
    pub walk_more : at < length src → decode₁ src ≡ none
    unfolding Measures decode₁
    walk_more h = undecoded (strict_lexemes src) (w.same ∙ past-shut h (sym x ∙ f))

    pub walk-whole : length src ≤ at → Measures (decode₁ src) (Whole at n d)
    unfolding Measures decode₁
    walk-whole h =
        let y : walking (strict_lexemes src) begin ≡ some (count o d n) =
        w.same ∙ ap (λ (z : Option (List Lexeme)). walking z (count o d n)) (at-end src at h) ∙ walking-end (count o d n) ∙ picked _ _ (sym x ∙ f) in
        decodes (strict_lexemes src) (count o d n) y
        (λ t g c e. record { tree = t; is = g; long = omega (arith, w.inside, ap length (canon-sound src t g)); counted = c; deepest = e })

  module _ (f : q ≡ false) where
    pub walk-short : length src ≤ at → decode₁ src ≡ none
    unfolding Measures decode₁
    walk-short h =
        undecoded (strict_lexemes src) (w.same ∙ ap (λ (z : Option (List Lexeme)). walking z (count o d n)) (at-end src at h) ∙ walking-end (count o d n) ∙ unpicked _ _ (sym x ∙ f))

    module _ (h : at < length src) where
      stepped : (l : Lexeme) (next o' d' n' : ℕ) → strict_lexeme (drop at src) ≡ got l (drop next src) → step l (count o d n) ≡ some (count o' d' n')
          → next ≤ length src → (o' ≤ next) × (d' ≤ next) × (n' ≤ next) → Walking src next o' d' n'
      stepped l next o' d' n' r s i b =
          record {
            inside = i;
            few = b;
            same = w.same ∙ ap (λ (z : Option (List Lexeme)). walking z (count o d n)) (strict_next (drop at src) (drop next src) l r)
                ∙ walking-step l (strict_lexemes (drop next src)) (count o d n) (count o' d' n') (sym x ∙ f) s;
          }

      module _ (r : prelude.Option Item) (v : ItemAt src at r) where
        pub walk-other : r ≡ None → decode₁ src ≡ none
        unfolding ItemAt Measures decode₁ chain
        walk-other z =
            let g : strict_lexeme (drop at src) ≡ refused = subst (ItemAt src at) z v in
            undecoded (strict_lexemes src) (w.same ∙ ap (λ (y : Option (List Lexeme)). walking y (count o d n))
            (ap strict_lexemes (one-here src at h) ∙ strict_none (get_or src at 0) (drop (at + 1) src) (ap strict_lexeme (sym (one-here src at h)) ∙ g)))

        pub open-on : r ≡ Some Open → (m : ℕ) → m ≡ max d (o + 1) → Walking src (at + 1) (o + 1) m (n + 1)
        unfolding ItemAt step
        open-on z m g =
            let y : strict_lexeme (drop at src) ≡ got opening (drop (at + 1) src) = subst (ItemAt src at) z v in
            stepped opening (at + 1) (o + 1) m (n + 1) y (rw g) (omega arith) (omega (arith, w.few), omega (arith, w.few), omega (arith, w.few))

        module _ (z : r ≡ Some Close) where
          closes : strict_lexeme (drop at src) ≡ got closing (drop (at + 1) src)
          unfolding ItemAt
          closes = subst (ItemAt src at) z v

          pub close-none : o ≡ 0 → decode₁ src ≡ none
          unfolding Measures decode₁ step
          close-none g =
              undecoded (strict_lexemes src) (w.same ∙ ap (λ (y : Option (List Lexeme)). walking y (count o d n)) (strict_next (drop at src) (drop (at + 1) src) closing closes)
              ∙ walking-stop closing (strict_lexemes (drop (at + 1) src)) (count o d n) (sym x ∙ f) (picked _ _ (eq-eqb _ _ g)))

          pub close-on : (o ≡ 0 → ⊥) → Walking src (at + 1) (o - 1) d n
          unfolding step
          close-on g = stepped closing (at + 1) (o - 1) d n closes (unpicked _ _ (ne_eqb _ _ g)) (omega arith) (omega (arith, w.few), omega (arith, w.few), omega (arith, w.few))

        module _ (s e : ℕ) (z : r ≡ Some (Plain s e)) where
          plainly : Plainly src at s e
          unfolding ItemAt
          plainly = subst (ItemAt src at) z v

          pub plain-less : length src - e < length src - at
          plain-less = let p : Plainly src at s e = plainly in omega (arith, p.ends, p.within, verbatim-length p.octets)

          pub plain-on : Walking src e o d (n + 1)
          unfolding step
          plain-on =
              let p : Plainly src at s e = plainly in
              let l : at < e = omega (arith, p.ends, verbatim-length p.octets) in
              stepped (atom p.octets) e o d (n + 1) p.reads refl p.within (omega (arith, w.few), omega (arith, w.few), omega (arith, w.few))

        module _ (hs he s e : ℕ) (z : r ≡ Some (Hinted hs he s e)) where
          hintedly : Hintedly src at hs he s e
          unfolding ItemAt
          hintedly = subst (ItemAt src at) z v

          pub hinted-ahead : at < e
          hinted-ahead = let p : Hintedly src at hs he s e = hintedly in omega (arith, p.ends, p.hint_ends)

          pub hinted-less : length src - e < length src - at
          hinted-less = omega (arith, hinted-ahead, hintedly.within)

          pub hinted-on : Walking src e o d (n + 1)
          unfolding step
          hinted-on =
              let p : Hintedly src at hs he s e = hintedly in
              let l : at < e = hinted-ahead in
              stepped (hinting p.hint p.octets) e o d (n + 1) p.reads refl p.within (omega (arith, w.few), omega (arith, w.few), omega (arith, w.few))
