-- The converting loop over lexemes, against the walk: what was passed stands at the front.
use Prim.Native.Nat.{ℕ, ◌+◌, ◌*◌, ◌≤◌, ◌<◌}
use native.Mathlib.Omega.{arith}
use mathlib.Core.Path.{◌≡◌, refl, sym, ap, ◌∙◌, subst}
use mathlib.Core.Bool.{Bool, true, false}
use mathlib.Core.Option.{Option, none, some}
use mathlib.Core.List.{List, [], ◌++◌, append-nil}
use lib.ListN.{length, length-append, drop, drop_of_length-le}
use lib.Seq.{sets}
use Rattle.base.proofs.Cases.{picked, unpicked, none-some}
use Rattle.model.specs.Grammar.{rules}
use Rattle.model.specs.Decode.{lexemes, decode₃}
use Rattle.model.specs.Lexemes.{Lexeme}
use Rattle.model.specs.Limits.{max_canonical, max_depth}
use Rattle.model.specs.Tree.{Tree, canon}
use Rattle.model.proofs.Nesting.{unnest}
use Rattle.model.proofs.LexemeLoop.{lexemes-end}
use Rattle.model.proofs.Strict.{octets_of_lexemes}
use Rattle.model.specs.Count.{count, begin, shut_by, shut}
use Rattle.walk.specs.Extent.{Measures}
use Rattle.walk.proofs.Extents.{place-equal}
use Rattle.walk.specs.Extent.{Whole, Refused}
use Rattle.walk.proofs.Chained.{walking, walking-end, undecoded, decodes}
use Rattle.scan.specs.Runs.{Skipped}
use Rattle.blocks.specs.Fronts.{Front}
use Rattle.blocks.proofs.Laws.{front-none}
use Rattle.sheets.specs.Notes.{noted, Stacks}
use Rattle.sheets.proofs.Noting.{whole-refused}
use Rattle.sheets.proofs.Stacking.{Stacked, stacked-none, Kept, kept-start, kept-end}
use Rattle.advanced.specs.Converted.{Sheetable, Converts, Lent}
use Rattle.advanced.proofs.Passed.{lexemes-canon, prefixed, prefixed-none, octets-both, past-shut, lexed}

-- keeping what is still to come of a tree's text gives its notes; places are those of the canonical form
pub record Coming (β : Bool) (src notes₀ starts node_nos notes : List ℕ) (at len opened deepest seen : ℕ) (t : Tree) : Type 0 where
  pub to-come : List Lexeme
  pub lexes : lexemes rules β (drop at src) ≡ some to-come
  pub kept : Kept (sets notes₀ 0 (noted t)) starts node_nos notes len opened deepest seen t to-come

pub record Converting (β : Bool) (src out₀ notes₀ out starts node_nos notes : List ℕ) (at len o d n : ℕ) : Type 0 where
  pub inside : at ≤ length src
  pub lent : Lent (length src) (length out₀)
  pub long : length out ≡ length out₀
  pub few : (o ≤ at) × (d ≤ at) × (n ≤ at) × (len ≤ 3 * at)
  pub level : o ≤ d
  pub passed : List Lexeme
  pub all : lexemes rules β src ≡ prefixed passed (lexemes rules β (drop at src))
  pub same : walking (lexemes rules β src) begin ≡ walking (lexemes rules β (drop at src)) (count o d n)
  pub size : length (octets_of_lexemes passed) ≡ len
  -- nothing was overwritten yet
  pub front : len ≤ max_canonical → Front (octets_of_lexemes passed) 0 out₀ out len
  -- the notes
  pub notes_long : length notes ≡ length notes₀
  pub stacked : Stacked starts node_nos (max_canonical + 1) o n
  pub coming : β ≡ false → (g : Sheetable (decode₃ rules β src) (length notes₀)) → Coming β src notes₀ starts node_nos notes at len o d n g.tree

pub convert-none : (β : Bool) (src out notes starts node_nos : List ℕ) → Lent (length src) (length out) → length starts ≡ max_depth → length node_nos ≡ max_depth
    → Converting β src out notes out starts node_nos notes 0 0 0 0 0
unfolding octets_of_lexemes
convert-none β src out notes starts node_nos k p q =
    record {
      inside = omega arith;
      lent = k;
      long = refl;
      few = (omega arith, omega arith, omega arith, omega arith);
      level = omega arith;
      passed = [];
      all = prefixed-none (lexemes rules β src);
      same = refl;
      size = refl;
      front = λ _. front-none out 0 (omega arith);
      notes_long = refl;
      stacked = stacked-none starts node_nos p q (max_canonical + 1);
      coming = λ _ g. record { to-come = unnest g.tree []; lexes = lexed β src g.tree g.is; kept = kept-start starts node_nos notes g.tree };
    }

-- no tree: nothing is promised of octets and notes
pub refusal : (β : Bool) (src out notes notes' : List ℕ) → walking (lexemes rules β src) begin ≡ none → Converts β (decode₃ rules β src) out notes notes' (Refused 0)
unfolding Measures decode₃
refusal β src out notes notes' e =
    let z : decode₃ rules β src ≡ none = undecoded (lexemes rules β src) e in
    record { measures = z; fails = λ p f. sym (place-equal f); octets = λ t x h. none-some (sym z ∙ x); kept = λ _ g. none-some (sym z ∙ g.is) }

module _ (β : Bool) (src out₀ notes₀ out starts node_nos notes : List ℕ) (at len o d n : ℕ) (w : Converting β src out₀ notes₀ out starts node_nos notes at len o d n) where
  pub convert-inside : at ≤ length src
  convert-inside = w.inside

  pub convert-long : length out ≡ length out₀
  convert-long = w.long

  pub convert-notes : length notes ≡ length notes₀
  convert-notes = w.notes_long

  pub convert-stacks : Stacks starts node_nos
  convert-stacks = w.stacked.stacks

  pub convert-numbers : length node_nos ≡ max_depth
  convert-numbers = w.stacked.stacks.numbers_long

  -- what was passed of a tree is no longer than the whole
  pub passed-short : (t : Tree) (ls : List Lexeme) → decode₃ rules β src ≡ some t → lexemes rules β (drop at src) ≡ some ls → len ≤ length (canon t)
  unfolding decode₃ prefixed
  passed-short t ls g e =
      let a : lexemes rules β src ≡ some (w.passed ++ ls) = w.all ∙ ap (prefixed w.passed) e in
      let c : octets_of_lexemes (w.passed ++ ls) ≡ canon t = lexemes-canon β src (w.passed ++ ls) t a g in
      omega (arith, w.size, ap length c, ap length (octets-both w.passed ls), length-append (octets_of_lexemes w.passed) (octets_of_lexemes ls))

  module _ (i : ℕ) (p : Skipped src at i) (q : Bool) (x : q ≡ shut_by o n) where
    -- the tree is whole
    module _ (f : q ≡ true) where
      is-shut : shut (count o d n) ≡ true
      is-shut = sym x ∙ f

      pub convert-more : i < length src → Converts β (decode₃ rules β src) out notes₀ notes (Refused 0)
      convert-more h = refusal β src out notes₀ notes (w.same ∙ past-shut β src at i p.reads h (count o d n) is-shut)

      pub convert-whole : length src ≤ i → Converts β (decode₃ rules β src) out notes₀ notes (Whole len n d)
      unfolding Measures decode₃ prefixed
      convert-whole h =
          let z : lexemes rules β (drop at src) ≡ some [] = lexemes-end rules β (drop at src) (p.reads ∙ drop_of_length-le src h) in
          let y : walking (lexemes rules β src) begin ≡ some (count o d n) = w.same ∙ ap (λ (v : Option (List Lexeme)). walking v (count o d n)) z ∙ walking-end (count o d n) ∙ picked _ _ is-shut in
          let a : lexemes rules β src ≡ some (w.passed ++ []) = w.all ∙ ap (prefixed w.passed) z in
          decodes (lexemes rules β src) (count o d n) y
          (λ t g u v.
          let c : octets_of_lexemes w.passed ≡ canon t = ap octets_of_lexemes (sym (append-nil w.passed)) ∙ lexemes-canon β src (w.passed ++ []) t a g in
          record {
            measures = record { tree = t; is = g; long = omega (arith, w.size, ap length c); counted = u; deepest = v };
            fails = λ p e. whole-refused e;
            octets = λ u x m. let q : t ≡ u = cc (g, x) in rw (← q, ← c, w.size) (w.front (omega (arith, w.size, ap length c, ap (λ (v : Tree). length (canon v)) q))).same;
            kept = λ b k.
                let q : Coming β src notes₀ starts node_nos notes at len o d n k.tree = w.coming b k in
                let p : some q.to-come ≡ some [] = sym q.lexes ∙ z in
                let e : q.to-come ≡ [] = cc in
                kept-end (sets notes₀ 0 (noted k.tree)) starts node_nos notes len o d n k.tree (subst (Kept (sets notes₀ 0 (noted k.tree)) starts node_nos notes len o d n k.tree) e q.kept);
          })

    module _ (f : q ≡ false) where
      not-shut : shut (count o d n) ≡ false
      not-shut = sym x ∙ f

      pub convert-short : length src ≤ i → Converts β (decode₃ rules β src) out notes₀ notes (Refused 0)
      convert-short h =
          let z : lexemes rules β (drop at src) ≡ some [] = lexemes-end rules β (drop at src) (p.reads ∙ drop_of_length-le src h) in
          refusal β src out notes₀ notes (w.same ∙ ap (λ (v : Option (List Lexeme)). walking v (count o d n)) z ∙ walking-end (count o d n) ∙ unpicked _ _ not-shut)
