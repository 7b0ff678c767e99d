-- The converting loop goes on by a lexeme: a parenthesis, or a string.
use mir.Syntax.{w64}
use mir.Val.{Fits}
use Prim.Native.Nat.{ℕ, ◌+◌, ◌*◌, ◌-◌, ◌≤◌, ◌<◌, max}
use native.Mathlib.Omega.{arith}
use mathlib.Core.Path.{◌≡◌, refl, sym, ap, ◌∙◌, subst}
use mathlib.Core.Bool.{Bool, false}
use mathlib.Core.Option.{Option, some}
use mathlib.Core.List.{List, [], ◌∷◌, ◌++◌}
use lib.ListN.{length, length-append, drop, get_or, set}
use lib.Seq.{sets}
use lib.Dec.{eqb}
use borrow.Author.Tests.{eq-eqb, ne_eqb}
use Rattle.base.specs.Choice.{both, chain}
use Rattle.base.proofs.Cases.{picked, unpicked}
use Rattle.model.specs.Grammar.{rules}
use Rattle.model.specs.Decode.{lexeme_in, lexemes, decode₃}
use Rattle.model.specs.Lexemes.{Lexeme, opening, closing, lexeme, before}
use Rattle.model.specs.Limits.{max_source, max_canonical, max_depth}
use Rattle.std.specs.Prelude.{Option as Optional, Some, None}
use Rattle.model.specs.Strings.{got, refused}
use Rattle.model.specs.Tree.{Tree, depth}
use Rattle.model.proofs.Braces.{unbrace-test}
use Rattle.model.proofs.Held.{lexeme-in-other}
use Rattle.model.proofs.Lexemes.{before-cases}
use Rattle.model.proofs.Strict.{octets_of_lexeme, octets_of_lexemes}
use Rattle.model.specs.Count.{count, shut_by, shut, step}
use Rattle.walk.specs.Extent.{Refused}
use Rattle.walk.proofs.Fronts.{frames_of}
use Rattle.walk.proofs.Chained.{walking, walking-step, walking-stop}
use Rattle.scan.specs.Runs.{Skipped}
use Rattle.scan.proofs.Places.{one-here}
use Rattle.blocks.specs.Fronts.{Front}
use Rattle.blocks.proofs.Laws.{front-one, front-both}
use Rattle.advanced.specs.Nodes.{Spare, Node, Nodes}
use Rattle.sheets.specs.Notes.{note_of, noted, up_of, Entered, Leaving, Left}
use Rattle.sheets.specs.Strung.{string_row_of, Keepable, KeptString}
use Rattle.sheets.proofs.Strings.{string-events}
use Rattle.sheets.proofs.Stacking.{Stacked, stacked-on, stacked-up, stacked-open, stacked-leaving, Kept, kept-open, kept-close, kept-string}
use Rattle.advanced.specs.Converted.{Sheetable, Converts, Wrapped}
use Rattle.advanced.proofs.Passed.{prefixed, prefixed-step, octets-more, place-next, place_none, enough}
use Rattle.advanced.proofs.Converting.{Coming, Converting, refusal, passed-short}

module _ (β : Bool) (src out₀ notes₀ out starts node_nos notes : List ℕ) (at len o d n : ℕ) (w : Converting β src out₀ notes₀ out starts node_nos notes at len o d n)
    (i : ℕ) (p : Skipped src at i) (q : Bool) (x : q ≡ shut_by o n) (f : q ≡ false) (h : i < length src) (r : ℕ) (goes : Wrapped len r) where
  not-shut : shut (count o d n) ≡ false
  not-shut = sym x ∙ f

  -- a lexeme more: what it does to the octets, to the lists that are open and to the notes
  module _ (l : Lexeme) (out' starts' node_nos' notes' : List ℕ) (next e o' d' n' : ℕ) (s : lexeme_in rules β (drop i src) ≡ got l (drop next src)) (on : i < next) (within : next ≤ length src)
      (g : step l (count o d n) ≡ some (count o' d' n')) (v : Front (octets_of_lexeme l) r out out' e) (k : e + 3 * i ≤ r + 3 * next)
      (c : (o' ≤ next) × (d' ≤ next) × (n' ≤ next)) (lev : o' ≤ d') (j : length notes' ≡ length notes) (y : Stacked starts' node_nos' (max_canonical + 1) o' n')
      (keeps : (whole : List ℕ) (t : Tree) (ls : List Lexeme) → depth t ≤ max_depth → r ≡ len → Kept whole starts node_nos notes r o d n t (l ∷ ls) → Kept whole starts' node_nos' notes' e o' d' n' t ls) where
    passes : lexemes rules β (drop at src) ≡ before l (lexemes rules β (drop next src))
    passes = place-next β src at i p.reads h l (drop next src) s

    still-coming : β ≡ false → (g : Sheetable (decode₃ rules β src) (length notes₀)) → Coming β src notes₀ starts' node_nos' notes' next (len + (e - r)) o' d' n' g.tree
    still-coming b g =
        let m : Coming β src notes₀ starts node_nos notes at len o d n g.tree = w.coming b g in
        let f : r ≡ len = goes.on (omega (arith, passed-short β src out₀ notes₀ out starts node_nos notes at len o d n w g.tree m.to-come g.is m.lexes, g.short)) in
        let b : len + (e - r) ≡ e = omega (arith, v.place) in
        before-cases l (lexemes rules β (drop next src)) (sym passes ∙ m.lexes)
        (λ ls x z.
        let a : m.to-come ≡ l ∷ ls = cc in
        let was : Kept (sets notes₀ 0 (noted g.tree)) starts node_nos notes r o d n g.tree (l ∷ ls) =
        subst (λ (a : ℕ). Kept (sets notes₀ 0 (noted g.tree)) starts node_nos notes a o d n g.tree (l ∷ ls)) (sym f) (subst (Kept (sets notes₀ 0 (noted g.tree)) starts node_nos notes len o d n g.tree) a m.kept) in
        record { to-come = ls; lexes = x; kept = rw b (keeps (sets notes₀ 0 (noted g.tree)) g.tree ls g.deep f was) })

    stepped : Converting β src out₀ notes₀ out' starts' node_nos' notes' next (len + (e - r)) o' d' n'
    stepped =
        let z : octets_of_lexemes (w.passed ++ (l ∷ [])) ≡ octets_of_lexemes w.passed ++ octets_of_lexeme l = octets-more w.passed l in
        record {
          inside = within;
          lent = w.lent;
          long = v.long ∙ w.long;
          few = (c.0, c.1, c.2, omega (arith, w.few, p.from));
          level = lev;
          passed = w.passed ++ (l ∷ []);
          all = w.all ∙ ap (prefixed w.passed) passes ∙ prefixed-step w.passed l (lexemes rules β (drop next src));
          same = w.same ∙ ap (λ (v : Option (List Lexeme)). walking v (count o d n)) passes ∙ walking-step l (lexemes rules β (drop next src)) (count o d n) (count o' d' n') not-shut g;
          size = ap length z ∙ length-append (octets_of_lexemes w.passed) (octets_of_lexeme l) ∙ omega (arith, w.size, v.place);
          front = λ m.
              let f : r ≡ len = goes.on (omega arith) in
              let b : len + (e - r) ≡ e = omega (arith, v.place) in
              subst (λ (x : List ℕ). Front x 0 out₀ out' (len + (e - r))) (sym z)
              (rw b (front-both (octets_of_lexemes w.passed) (octets_of_lexeme l) 0 len e out₀ out out' (w.front (omega arith)) (subst (λ (x : ℕ). Front (octets_of_lexeme l) x out out' e) f v)));
          notes_long = j ∙ w.notes_long;
          stacked = y;
          coming = still-coming;
        }

  pub one-room : r < length out
  one-room = omega (arith, enough (length src) (length out₀) at r w.lent.enough w.inside goes.low (omega (arith, goes.less, w.few)), w.long)

  -- of one octet
  one : (l : Lexeme) (b : ℕ) (starts' node_nos' notes' : List ℕ) (o' d' n' : ℕ) → lexeme_in rules β (drop i src) ≡ got l (drop (i + 1) src) → step l (count o d n) ≡ some (count o' d' n') → octets_of_lexeme l ≡ b ∷ []
      → (o' ≤ i + 1) × (d' ≤ i + 1) × (n' ≤ i + 1) → o' ≤ d' → length notes' ≡ length notes → Stacked starts' node_nos' (max_canonical + 1) o' n'
      → ((whole : List ℕ) (t : Tree) (ls : List Lexeme) → depth t ≤ max_depth → r ≡ len → Kept whole starts node_nos notes r o d n t (l ∷ ls) → Kept whole starts' node_nos' notes' (r + 1) o' d' n' t ls)
      → Converting β src out₀ notes₀ (set out r b) starts' node_nos' notes' (i + 1) (len + 1) o' d' n'
  one l b starts' node_nos' notes' o' d' n' s g e c q j y keeps =
      let z : len + (r + 1 - r) ≡ len + 1 = omega arith in
      rw z at (stepped l (set out r b) starts' node_nos' notes' (i + 1) (r + 1) o' d' n' s (omega arith) (omega arith) g (rw e (front-one out r b one-room)) (omega arith) c q j y keeps)

  pub one_less : length src - (i + 1) < length src - at
  one_less = omega (arith, p.from)

  opens : get_or src i 0 ≡ 40 → lexeme_in rules β (drop i src) ≡ got opening (drop (i + 1) src)
  unfolding lexeme
  opens e = ap (lexeme_in rules β) (one-here src i h) ∙ lexeme-in-other rules β (get_or src i 0) (drop (i + 1) src) (unbrace-test β (get_or src i 0) (λ z. omega (arith, z, e))) ∙ picked _ _ (eq-eqb _ _ e)

  pub open-on : get_or src i 0 ≡ 40 → (m : ℕ) → m ≡ max d (o + 1) → (starts' node_nos' : List ℕ) → Entered o r n starts node_nos starts' node_nos'
      → Converting β src out₀ notes₀ (set out r 40) starts' node_nos' notes (i + 1) (len + 1) (o + 1) m (n + 1)
  unfolding step octets_of_lexeme
  open-on e m g starts' node_nos' v =
      one opening 40 starts' node_nos' notes (o + 1) m (n + 1) (opens e) (rw g) refl (omega (arith, w.few, p.from), omega (arith, w.few, p.from), omega (arith, w.few, p.from))
      (omega arith) refl (stacked-open starts node_nos (max_canonical + 1) o n w.stacked r (max_canonical + 1) (omega (arith, goes.low)) (omega arith) starts' node_nos' v)
      (λ whole t ls deep f k. rw g (kept-open whole starts node_nos notes r o d n t ls k deep w.stacked.stacks starts' node_nos' v))

  module _ (a : get_or src i 0 ≡ 40 → ⊥) (e : get_or src i 0 ≡ 41) where
    closes : lexeme_in rules β (drop i src) ≡ got closing (drop (i + 1) src)
    unfolding lexeme
    closes = ap (lexeme_in rules β) (one-here src i h) ∙ lexeme-in-other rules β (get_or src i 0) (drop (i + 1) src) (unbrace-test β (get_or src i 0) (λ z. omega (arith, z, e))) ∙ unpicked _ _ (ne_eqb _ _ a) ∙ picked _ _ (eq-eqb _ _ e)

    pub close-none : o ≡ 0 → Converts β (decode₃ rules β src) out notes₀ notes (Refused 0)
    unfolding step
    close-none z =
        refusal β src out notes₀ notes (w.same ∙ ap (λ (v : Option (List Lexeme)). walking v (count o d n)) (place-next β src at i p.reads h closing (drop (i + 1) src) closes)
        ∙ walking-stop closing (lexemes rules β (drop (i + 1) src)) (count o d n) not-shut (picked _ _ (eq-eqb _ _ z)))

    pub close-leaving : (o ≡ 0 → ⊥) → Leaving starts node_nos (o - 1) n r
    close-leaving z = stacked-leaving starts node_nos (max_canonical + 1) o n w.stacked r z (omega (arith, w.few, p.from, w.lent.short)) (omega (arith, goes.low)) (omega arith)

    pub close-on : (o ≡ 0 → ⊥) → (notes' : List ℕ) → Left starts node_nos (o - 1) n r notes notes'
        → Converting β src out₀ notes₀ (set out r 41) starts node_nos notes' (i + 1) (len + 1) (o - 1) d n
    unfolding step octets_of_lexeme
    close-on z notes' v =
        one closing 41 starts node_nos notes' (o - 1) d n closes (unpicked _ _ (ne_eqb _ _ z)) refl (omega (arith, w.few, p.from), omega (arith, w.few, p.from), omega (arith, w.few, p.from))
        (omega (arith, w.level)) v.long (stacked-on starts node_nos (max_canonical + 1) o n w.stacked (max_canonical + 1) (o - 1) n (omega arith) (omega arith) (omega arith))
        (λ whole t ls deep f k. kept-close whole starts node_nos notes r o d n t ls k z w.level deep notes' v)

  pub node-low : r ≤ max_source
  node-low = omega (arith, goes.low)

  pub node-spare : Spare src i r (length out)
  node-spare = record { inside = omega arith; short = w.lent.short; space = rw w.long (enough (length src) (length out₀) i r w.lent.enough (omega arith) goes.low (omega (arith, goes.less, w.few, p.from))) }

  module _ (γ : Bool) (held : γ ≡ both β (eqb (get_or src i 0) 123)) (not : γ ≡ false) (out₁ : List ℕ) (mid end : ℕ) (v : Optional ℕ) (s : Nodes src i r out out₁ mid end v) where
    as-lexeme : lexeme_in rules β (drop i src) ≡ lexeme rules (drop i src)
    as-lexeme = ap (lexeme_in rules β) (one-here src i h) ∙ lexeme-in-other rules β _ _ (sym held ∙ not) ∙ ap (lexeme rules) (sym (one-here src i h))

    not-string : v ≡ None → lexeme rules (drop i src) ≡ refused
    unfolding Nodes
    not-string z = subst (Nodes src i r out out₁ mid end) z s

    pub node-none : v ≡ None → (b : List ℕ) → Converts β (decode₃ rules β src) b notes₀ notes (Refused 0)
    unfolding chain
    node-none z b = refusal β src b notes₀ notes (w.same ∙ ap (λ (v : Option (List Lexeme)). walking v (count o d n)) (place_none β src at i p.reads h (as-lexeme ∙ not-string z)))

    module _ (next : ℕ) (z : v ≡ Some next) where
      it : Node src i r out out₁ mid end next
      unfolding Nodes
      it = subst (Nodes src i r out out₁ mid end) z s

      pub node-from : r ≤ end
      node-from = omega (arith, it.front.place)

      pub node-less : length src - next < length src - at
      node-less = omega (arith, p.from, it.on, it.within)

      pub node-fits : Fits w64 (len + (end - r))
      node-fits = omega (arith, w.few, w.lent.short, w.inside, it.low, it.within, p.from)

      pub node-keepable : (up : ℕ) → up ≡ up_of node_nos o → Keepable r mid end up
      node-keepable up u =
          record {
            lexeme = it.is;
            is = it.strung;
            small = omega (arith, it.front.fits, w.long, w.lent.small);
            ups = omega (arith, u, stacked-up starts node_nos (max_canonical + 1) o n w.stacked o (omega arith) (omega (arith, w.few, p.from, w.lent.short)));
          }

      pub node-on : (up : ℕ) → up ≡ up_of node_nos o → (notes' : List ℕ) → KeptString n r mid end up notes notes'
          → Converting β src out₀ notes₀ out₁ starts node_nos notes' next (len + (end - r)) o d (n + 1)
      node-on up e notes' k =
          stepped it.is out₁ starts node_nos notes' next end o d (n + 1) (as-lexeme ∙ it.reads) it.on it.within (it.string o d n) it.front it.low
          (omega (arith, w.few, p.from, it.on), omega (arith, w.few, p.from, it.on), omega (arith, w.few, p.from, it.on))
          w.level k.long (stacked-on starts node_nos (max_canonical + 1) o n w.stacked (max_canonical + 1) o (n + 1) (omega arith) (omega arith) (omega arith))
          (λ whole t ls deep f y.
          kept-string whole starts node_nos notes r o d n t ls it.is (string_row_of r it.is) end y (it.string o d n)
          (string-events it.is r mid end it.strung n ls (frames_of starts node_nos o)) notes' (k.kept it.is it.strung ∙ ap (λ (v : ℕ). set notes n (note_of (string_row_of r it.is) v)) e))
