-- A tree in braces: what is decoded, that it has room, and what measuring it tells.
use mir.Syntax.{w64}
use mir.Val.{Fits}
use Prim.Native.Nat.{ℕ, ◌+◌, ◌-◌, ◌≤◌, ◌<◌}
use native.Mathlib.Omega.{arith}
use mathlib.Core.Path.{◌≡◌, refl, sym, ap, ◌∙◌, subst}
use mathlib.Core.Bool.{Bool, true, false}
use mathlib.Core.Option.{none, some}
use mathlib.Core.List.{List, []}
use lib.ListN.{length, take, drop, length-drop}
use lib.Seq.{length-take-le, drop_at, take-add}
use lib.Dec.{eqb}
use borrow.Author.Tests.{eq-eqb}
use Rattle.base.specs.Choice.{both}
use Rattle.model.specs.Decode.{decode₁, canonical_of, braces}
use Rattle.model.specs.Grammar.{rules}
use Rattle.model.specs.Limits.{max_source}
use Rattle.model.specs.Strings.{Read, got, refused, bind, upto, unbase}
use Rattle.model.specs.Tree.{Tree, canon}
use Rattle.model.proofs.Braces.{unbrace-test}
use Rattle.model.proofs.Canonical.{canon-sound}
use Rattle.model.proofs.Marks.{upto-sound, base-sound}
use Rattle.model.proofs.ReadCases.{bind-cases}
use Rattle.model.proofs.Simples.{reading-cases}
use Rattle.model.proofs.Sizes.{upto-size, base-size}
use Rattle.model.proofs.Streams.{between}
use Rattle.walk.specs.Extent.{Wholly, Measures}
use Rattle.walk.specs.Extent.{Measured}
use Rattle.walk.specs.declared.Extent.{Extent}
use Rattle.walk.specs.declared.Broken.{Broken}
use Rattle.std.specs.Prelude.{Ok, Err, Option, Some, None}
use Rattle.blocks.specs.Fronts.{Front}
use Rattle.marks.specs.Decoded.{Spacious, Decoded, Decodes}
use Rattle.sheets.specs.Notes.{Noted}
use Rattle.advanced.specs.Nodes.{Spare}
use Rattle.advanced.specs.Braced.{Holds}

-- what the letters give is no longer than they are
letters-short : (s : List ℕ) {d k : List ℕ} → between 125 (unbase rules) [] s ≡ got d k → length d + 1 + length k ≤ length s
letters-short s {d} {k} e =
    bind-cases (upto 125 s) _ e
    (λ l k₁ h₁ h₂. reading-cases (unbase rules l) k₁ h₂
    (λ d₁ h₃ h₄.
    let x : d₁ ≡ d = cc in
    let y : k₁ ≡ k = cc in
    omega (arith, upto-size (upto-sound 125 s h₁), base-size (base-sound l h₃), ap length x, ap length y)))

canonical-some : (d k : List ℕ) (t : Tree) → decode₁ d ≡ some t → canonical_of d k ≡ got d k
unfolding canonical_of
canonical-some d k t e = rw (canonical_of, e)

canonical-none : (d k : List ℕ) → decode₁ d ≡ none → canonical_of d k ≡ refused
unfolding canonical_of
canonical-none d k e = rw (canonical_of, e)

-- whether an octet opens braces
pub opens-other : (β : Bool) (b : ℕ) → (b ≡ 123 → ⊥) → false ≡ both β (eqb b 123)
opens-other β b n = sym (unbrace-test β b n)

pub opens-brace : (β : Bool) (b : ℕ) → b ≡ 123 → β ≡ both β (eqb b 123)
opens-brace true b e = sym (eq-eqb b 123 e)
opens-brace false b e = refl

module _ (src out : List ℕ) (at pos : ℕ) (g : (at < length src) × Spare src at pos (length out) × (pos ≤ max_source)) where
  pub tree-space : Spacious src (at + 1) pos (length out)
  tree-space = record { inside = omega (arith, g.0); space = omega (arith, g.0, g.1.space) }

  module _ (out' : List ℕ) (n : ℕ) (x : Option ℕ) (w : Decodes src (between 125 (unbase rules) [] (drop (at + 1) src)) (at + 1) pos out out' n x) where
    pub tree-none : x ≡ None → Holds src at pos out out' None
    unfolding Decodes Holds braces bind
    tree-none z =
        let y : between 125 (unbase rules) [] (drop (at + 1) src) ≡ refused = subst (Decodes src (between 125 (unbase rules) [] (drop (at + 1) src)) (at + 1) pos out out' n) z w in
        ap (λ (v : Read (List ℕ)). bind v canonical_of) y

    module _ (next : ℕ) (m : x ≡ Some next) where
      told : Decoded src (between 125 (unbase rules) [] (drop (at + 1) src)) (at + 1) pos out out' n next
      unfolding Decodes
      told = subst (Decodes src (between 125 (unbase rules) [] (drop (at + 1) src)) (at + 1) pos out out' n) m w

      many : n ≡ length told.octets
      many = omega (arith, told.front.place)

      fits : at + n + 1 < next
      fits = omega (arith, letters-short (drop (at + 1) src) told.reads, length-drop (at + 1) src, length-drop next src, told.within, many, g.0)

      pub tree-end : Fits w64 (pos + n)
      tree-end = omega (arith, fits, told.within, g.1.short, g.2)

      pub tree-within : pos + n ≤ length out'
      tree-within = omega (arith, told.front.fits, told.front.long)

      pub tree-from : pos ≤ pos + n
      tree-from = omega arith

      -- the part of scratch where it was decoded
      abbrev part : List ℕ
      part = take (pos + n - pos) (drop pos out')

      part-is : part ≡ told.octets
      part-is =
          let z : pos + n - pos ≡ n = omega arith in
          ap (λ (k : ℕ). take k (drop pos out')) z
          ∙ sym (drop_at (take pos out') (take n (drop pos out')) pos (length-take-le pos out' (omega (arith, tree-within))))
          ∙ ap (drop pos) (sym (take-add pos n out') ∙ told.front.same)
          ∙ drop_at (take pos out) told.octets pos (length-take-le pos out (omega (arith, told.front.place, told.front.fits)))

      pub tree-part : pos + n - pos ≡ length part
      tree-part = omega (arith, many, ap length part-is)

      pub tree-short : length part ≤ max_source
      tree-short = omega (arith, fits, tree-part, told.within, g.1.short)

      module _ (before after : List ℕ) (r : Measured) (v : Noted part before after r) where
        pub tree-refused : (q : Broken) → r ≡ Err q → Holds src at pos out out' None
        unfolding Holds braces bind Measures
        tree-refused q e =
            let d : decode₁ part ≡ none = subst (Measures (decode₁ part)) e v.measures in
            ap (λ (x : Read (List ℕ)). bind x canonical_of) told.reads ∙ canonical-none told.octets (drop next src) (ap decode₁ (sym part-is) ∙ d)

        pub tree-held : (s : Extent) → r ≡ Ok s → Holds src at pos out out' (Some (record { next = next; sizes = s }))
        unfolding Holds braces bind Measures
        tree-held s e =
            let y : Wholly (decode₁ part) s.len s.nodes s.depth = subst (Measures (decode₁ part)) e v.measures in
            let d : decode₁ told.octets ≡ some y.tree = ap decode₁ (sym part-is) ∙ y.is in
            let o : told.octets ≡ canon y.tree = canon-sound told.octets y.tree d in
            let q : s.len ≡ n = omega (arith, y.long, ap length o, many) in
            record {
              tree = y.tree;
              reads = ap (λ (x : Read (List ℕ)). bind x canonical_of) told.reads ∙ canonical-some told.octets (drop next src) y.tree d ∙ ap (λ (x : List ℕ). got x (drop next src)) o;
              within = told.within;
              few = omega (arith, fits, q);
              long = y.long;
              counted = y.counted;
              deepest = y.deepest;
              front = subst (λ (x : List ℕ). Front x pos out out' (pos + s.len)) o (subst (λ (x : ℕ). Front told.octets pos out out' (pos + x)) (sym q) told.front);
            }
