-- The converting loop goes on by a tree in braces, or ends at braces that hold none.
use mir.Syntax.{w64}
use mir.Val.{Fits}
use Prim.Native.Nat.{ℕ, ◌+◌, ◌*◌, ◌-◌, ◌≤◌, ◌<◌, max}
use native.Mathlib.Omega.{arith}
use mathlib.Core.Path.{◌≡◌, sym, ap, ap₂, ◌∙◌, subst}
use mathlib.Core.Bool.{Bool, true, false}
use mathlib.Core.Option.{Option}
use mathlib.Core.List.{List, [], ◌∷◌, ◌++◌}
use lib.ListN.{length, length-append, drop, get_or}
use lib.Dec.{eqb}
use borrow.Author.Tests.{eqb-true}
use Rattle.base.specs.Choice.{both, chain}
use Rattle.base.proofs.Cases.{differ, both_true}
use Rattle.model.specs.Grammar.{rules}
use Rattle.model.specs.Decode.{braces, lexemes, decode₃}
use Rattle.model.specs.Lexemes.{Lexeme}
use Rattle.model.specs.Limits.{max_canonical}
use Rattle.model.specs.Strings.{refused, skip}
use Rattle.model.specs.Tree.{canon}
use Rattle.model.proofs.Apart.{rules-apart}
use Rattle.model.proofs.Braces.{unnesting, held-lexemes, held_none}
use Rattle.model.proofs.Canonical.{unnest-canon}
use Rattle.model.proofs.Nesting.{unnest}
use Rattle.model.proofs.OutputSizes.{nodes-half, depth-within}
use Rattle.model.proofs.Strict.{octets_of_lexemes}
use Rattle.model.specs.Count.{count, shut_by, shut}
use Rattle.walk.specs.Extent.{Refused}
use Rattle.walk.proofs.Chained.{walking, walking-tree}
use Rattle.scan.specs.Runs.{Skipped}
use Rattle.scan.proofs.Places.{one-here}
use Rattle.blocks.specs.Fronts.{Front}
use Rattle.blocks.proofs.Laws.{front-both}
use Rattle.advanced.specs.Braced.{TreeAt, Holds}
use Rattle.advanced.specs.declared.braces.Inside.{Inside}
use Rattle.std.specs.Prelude.{Option as Optional, Some, None}
use Rattle.sheets.proofs.Stacking.{stacked-on}
use Rattle.advanced.specs.Converted.{Converts, Wrapped}
use Rattle.advanced.proofs.Passed.{prefixed, octets-both, prefixed-tree, held_of}
use Rattle.advanced.proofs.Converting.{Converting, refusal}

module _ (β : Bool) (src out₀ notes₀ out starts node_nos notes : List ℕ) (at len o d n : ℕ) (w : Converting β src out₀ notes₀ out starts node_nos notes at len o d n)
    (i : ℕ) (p : Skipped src at i) (q : Bool) (x : q ≡ shut_by o n) (f : q ≡ false) (h : i < length src) (r : ℕ) (goes : Wrapped len r) where
  not-shut : shut (count o d n) ≡ false
  not-shut = sym x ∙ f

  module _ (γ : Bool) (held : γ ≡ both β (eqb (get_or src i 0) 123)) (so : γ ≡ true) where
    pair : (β ≡ true) × (eqb (get_or src i 0) 123 ≡ true)
    pair = both_true (sym held ∙ so)

    here : skip (drop at src) ≡ 123 ∷ drop (i + 1) src
    here = p.reads ∙ one-here src i h ∙ ap (λ (b : ℕ). b ∷ drop (i + 1) src) (eqb-true _ _ pair.1)

    module _ (out₁ : List ℕ) (v : Optional Inside) (s : Holds src i r out out₁ v) where
      not-held : v ≡ None → braces rules (drop (i + 1) src) ≡ refused
      unfolding Holds
      not-held e = subst (Holds src i r out out₁) e s

      pub held-refused : v ≡ None → (b : List ℕ) → Converts β (decode₃ rules β src) b notes₀ notes (Refused 0)
      unfolding chain
      held-refused e b =
          refusal β src b notes₀ notes (w.same ∙ ap (λ (v : Option (List Lexeme)). walking v (count o d n))
          (held_none rules-apart β pair.0 (drop at src) (drop (i + 1) src) here (not-held e)))

      module _ (inner : Inside) (e : v ≡ Some inner) where
        at-tree : TreeAt src i r out out₁ inner.next inner.sizes.len inner.sizes.nodes inner.sizes.depth
        unfolding Holds
        at-tree = subst (Holds src i r out out₁) e s

        small : (2 * inner.sizes.nodes ≤ inner.sizes.len) × (inner.sizes.depth ≤ inner.sizes.nodes)
        small = (omega (arith, nodes-half at-tree.tree, at-tree.long, at-tree.counted), omega (arith, depth-within at-tree.tree, at-tree.counted, at-tree.deepest))

        pub held-less : length src - inner.next < length src - at
        held-less = omega (arith, p.from, at-tree.few, at-tree.within)

        pub held-deep : Fits w64 (o + inner.sizes.depth)
        held-deep = omega (arith, w.few, w.lent.short, w.inside, at-tree.few, at-tree.within, p.from, small)

        pub held-many : Fits w64 (n + inner.sizes.nodes)
        held-many = omega (arith, w.few, w.lent.short, w.inside, at-tree.few, at-tree.within, p.from, small)

        pub held-long : Fits w64 (len + inner.sizes.len)
        held-long = omega (arith, w.few, w.lent.short, w.inside, at-tree.few, at-tree.within, p.from)

        passes-tree : lexemes rules β (drop at src) ≡ unnesting at-tree.tree (lexemes rules β (drop inner.next src))
        passes-tree = held-lexemes rules-apart β pair.0 (drop at src) (drop (i + 1) src) (drop inner.next src) at-tree.tree here (held_of at-tree.reads)

        pub held_on : (d' : ℕ) → d' ≡ max d (o + inner.sizes.depth) → Converting β src out₀ notes₀ out₁ starts node_nos notes inner.next (len + inner.sizes.len) o d' (n + inner.sizes.nodes)
        held_on d' g =
            let z : octets_of_lexemes (w.passed ++ unnest at-tree.tree []) ≡ octets_of_lexemes w.passed ++ canon at-tree.tree =
            octets-both w.passed (unnest at-tree.tree []) ∙ ap (λ (x : List ℕ). octets_of_lexemes w.passed ++ x) (unnest-canon at-tree.tree) in
            record {
              inside = at-tree.within;
              lent = w.lent;
              long = at-tree.front.long ∙ w.long;
              few = (omega (arith, w.few, p.from, at-tree.few), omega (arith, w.few, p.from, at-tree.few, small, g), omega (arith, w.few, p.from, at-tree.few, small), omega (arith, w.few, p.from, at-tree.few));
              level = omega (arith, w.level, g);
              passed = w.passed ++ unnest at-tree.tree [];
              all = w.all ∙ ap (prefixed w.passed) passes-tree ∙ prefixed-tree w.passed at-tree.tree (lexemes rules β (drop inner.next src));
              same = w.same ∙ ap (λ (v : Option (List Lexeme)). walking v (count o d n)) passes-tree
                  ∙ walking-tree at-tree.tree (lexemes rules β (drop inner.next src)) (count o d n) not-shut w.level
                  ∙ ap₂ (λ (x y : ℕ). walking (lexemes rules β (drop inner.next src)) (count o x y)) (sym (g ∙ ap (λ (x : ℕ). max d (o + x)) at-tree.deepest)) (ap (λ (x : ℕ). n + x) (sym at-tree.counted));
              size = ap length z ∙ length-append (octets_of_lexemes w.passed) (canon at-tree.tree) ∙ omega (arith, w.size, at-tree.long);
              front = λ m.
                  let f : r ≡ len = goes.on (omega arith) in
                  subst (λ (x : List ℕ). Front x 0 out₀ out₁ (len + inner.sizes.len)) (sym z)
                  (front-both (octets_of_lexemes w.passed) (canon at-tree.tree) 0 len (len + inner.sizes.len) out₀ out out₁ (w.front (omega arith)) (subst (λ (x : ℕ). Front (canon at-tree.tree) x out out₁ (x + inner.sizes.len)) f at-tree.front));
              notes_long = w.notes_long;
              stacked = stacked-on starts node_nos (max_canonical + 1) o n w.stacked (max_canonical + 1) o (n + inner.sizes.nodes) (omega arith) (omega arith) (omega arith);
              coming = λ b g. differ pair.0 b;
            }
