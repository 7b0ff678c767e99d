-- A text taken, whatever its form: what going through its octets tells is what is told of the text.
use Prim.Native.Nat.{ℕ, ◌+◌, ◌≤◌, ◌<◌}
use native.Mathlib.Omega.{arith}
use mathlib.Core.Path.{◌≡◌, refl, sym, ap, ◌∙◌, subst}
use mathlib.Core.Bool.{Bool, false}
use mathlib.Core.Option.{Option, none, some}
use mathlib.Core.List.{List}
use lib.ListN.{length, take, drop, length-take}
use lib.Seq.{take-length, take_at}
use Rattle.base.proofs.Cases.{none-some}
use Rattle.base.proofs.Stores.{sets-all}
use Rattle.model.specs.Automaton.{place}
use Rattle.model.specs.Answers.{place_of}
use Rattle.model.specs.Decode.{decode₁, decode}
use Rattle.model.specs.Limits.{max_source, max_canonical, max_depth}
use Rattle.model.specs.Tree.{Tree, canon, nodes, depth}
use Rattle.model.proofs.Canonical.{canon-sound, canon-complete}
use Rattle.walk.specs.Extent.{Wholly, Measures}
use Rattle.walk.specs.declared.Extent.{Extent}
use Rattle.walk.specs.declared.Broken.{Broken}
use Rattle.walk.proofs.Extents.{place-equal}
use Rattle.std.specs.Prelude.{Ok, Err}
use Rattle.walk.specs.Extent.{Measured}
use Rattle.walk.specs.Extent.{Refused}
use Rattle.scan.specs.Writes.{Wrote}
use Rattle.blocks.specs.Fronts.{Front}
use Rattle.blocks.proofs.Laws.{front-wrote}
use Rattle.advanced.specs.Converted.{Converts, Enough, thrice, largest, Lent}
use Rattle.sheets.specs.Notes.{noted, Noted}
use Rattle.tables.specs.Told.{Holds}
use Rattle.sheets.proofs.Keeping.{noted-length}
use Rattle.tables.proofs.Held.{note-holds}
use Rattle.sheets.proofs.Noting.{whole-refused}
use Rattle.texts.specs.Texts.{Literal, Taken}

-- scratch has room for the text as it stands, and more
pub lent-room : (n room : ℕ) → Lent n room → n + 64 ≤ room
lent-room n room g = by g.enough
  where
    by : Enough n room → n + 64 ≤ room
    by (thrice h) = omega arith
    by (largest h) = omega arith

-- ---- octets gone through, of which the text means the same
module _ (o : Option Tree) (part scratch notes notes' : List ℕ) (r : Measured) (v : Noted part notes notes' r) (short : length part ≤ max_source) (e : o ≡ decode₁ part) where
  pub through : (p : ℕ) (r' : Measured) → Measures o r' → ((q : ℕ) → r' ≡ Refused q → q ≡ p) → (length part ≤ max_canonical → take (length part) scratch ≡ part) → Taken o p scratch notes notes' r'
  through p r' m g f =
      record {
        measures = m;
        fails = g;
        octets = λ t z h.
            let p : part ≡ canon t = canon-sound part t (sym e ∙ z) in
            subst (λ (x : List ℕ). take (length x) scratch ≡ x) p (f (omega (arith, ap length p)));
        noted = λ t z h d k. note-holds part notes notes' r v short (record { tree = t; is = sym e ∙ z; deep = d; fits = k });
      }

-- nothing is meant
pub taken_none : (o : Option Tree) (p : ℕ) (scratch notes notes' : List ℕ) → o ≡ none → Taken o p scratch notes notes' (Refused p)
unfolding Measures
taken_none o p scratch notes notes' e =
    record { measures = e; fails = λ q f. sym (place-equal f); octets = λ t z h. none-some (sym e ∙ z); noted = λ t z h d k. none-some (sym e ∙ z) }

-- ---- canonical text
module _ (text : List ℕ) (room : ℕ) (g : Lent (length text) room) (notes notes' : List ℕ) (r : Measured) (v : Noted text notes notes' r) where
  pub canonical-long : max_canonical < length text → (scratch : List ℕ) → Taken (decode₁ text) (place text) scratch notes notes' r
  canonical-long h scratch = through (decode₁ text) text scratch notes notes' r v g.short refl (place text) r v.measures v.fails (λ k. absurd (omega arith))

module _ (text scratch : List ℕ) (g : Lent (length text) (length scratch)) where
  pub canonical-room : (0 + length text ≤ length text) × (0 + length text ≤ length scratch)
  canonical-room = (omega arith, omega (arith, lent-room (length text) (length scratch) g))

  module _ (scratch' : List ℕ) (p : ℕ) (w : Wrote (take (length text) (drop 0 text)) 0 scratch scratch' p) (notes notes' : List ℕ) (r : Measured) (v : Noted text notes notes' r) where
    copied : Taken (decode₁ text) (place text) scratch' notes notes' r
    copied =
        let q : Wrote text 0 scratch scratch' p = subst (λ (x : List ℕ). Wrote x 0 scratch scratch' p) (take-length text) w in
        let f : Front text 0 scratch scratch' p = front-wrote text 0 p scratch scratch' q canonical-room.1 in
        through (decode₁ text) text scratch' notes notes' r v g.short refl (place text) r v.measures v.fails (λ _. let z : length text ≡ p = omega (arith, f.place) in rw z f.same)

    pub canonical-copied : (r' : Measured) → r ≡ r' → Taken (decode₁ text) (place text) scratch' notes notes' r'
    canonical-copied r' e = subst (Taken (decode₁ text) (place text) scratch' notes notes') e copied

-- its own octets
pub literal-taken : (form : ℕ) (text notes notes' : List ℕ) (r : Measured) → Literal form (length text) → Noted text notes notes' r → Taken (decode form text) (place_of form text) text notes notes' r
unfolding decode place_of
literal-taken form text notes notes' r g v =
    rw g.is (through (decode₁ text) text text notes notes' r v g.short refl (place text) r v.measures v.fails (λ _. take-length text))

-- ---- advanced text
pub converted : (β : Bool) (o : Option Tree) (scratch notes notes' : List ℕ) (r : Measured) → Converts β o scratch notes notes' r → β ≡ false → Taken o 0 scratch notes notes' r
converted β o scratch notes notes' r c b =
    record {
      measures = c.measures;
      fails = c.fails;
      octets = c.octets;
      noted = λ t z h d k.
          record {
            counted = refl;
            kept = ap (take (nodes t)) (c.kept b (record { tree = t; is = z; short = h; deep = d; fits = k }) ∙ sets-all notes (noted t) (omega (arith, noted-length t)))
                ∙ take_at (noted t) (drop (length (noted t)) notes) (nodes t) (noted-length t);
            short = omega arith;
          };
    }

-- ---- text with braces: sizes are told, and the canonical octets are noted afterwards
module _ (β : Bool) (o : Option Tree) (scratch notes notes' : List ℕ) (x : Measured) (c : Converts β o scratch notes notes' x) where
  pub terminal-none : (q : Broken) → x ≡ Err q → Taken o 0 scratch notes notes' (Err q)
  unfolding Measures
  terminal-none q e =
      subst (λ (k : ℕ). Taken o 0 scratch notes notes' (Refused k)) (sym (c.fails q.place e))
      (taken_none o 0 scratch notes notes' (subst (Measures o) e c.measures))

  module _ (s : Extent) (e : x ≡ Ok s) where
    whole : Wholly o s.len s.nodes s.depth
    unfolding Measures
    whole = subst (Measures o) e c.measures

    -- sizes and octets are those that converting told: only the notes are left to show
    told : (notes₂ : List ℕ) → ((t : Tree) → o ≡ some t → length (canon t) ≤ max_canonical → depth t ≤ max_depth → nodes t ≤ length notes → Holds notes₂ (nodes t) t) → Taken o 0 scratch notes notes₂ (Ok s)
    unfolding Measures
    told notes₂ g = record { measures = whole; fails = λ q f. whole-refused f; octets = c.octets; noted = g }

    pub terminal-unbraced : β ≡ false → Taken o 0 scratch notes notes' (Ok s)
    terminal-unbraced b = told notes' (converted β o scratch notes notes' x c b).noted

    pub terminal-long : max_canonical < s.len → Taken o 0 scratch notes notes' (Ok s)
    terminal-long h = told notes' (λ t z k e f. let q : t ≡ whole.tree = cc (z, whole.is) in absurd (omega (arith, whole.long, ap (λ (x : Tree). length (canon x)) q)))

    module _ (h : s.len ≤ max_canonical) where
      front-is : take s.len scratch ≡ canon whole.tree
      front-is = ap (λ (k : ℕ). take k scratch) whole.long ∙ c.octets whole.tree whole.is (omega (arith, whole.long))

      pub terminal-part : s.len ≡ length (take s.len scratch)
      terminal-part = whole.long ∙ sym (ap length front-is)

      pub terminal-lent : s.len ≤ length scratch
      terminal-lent = omega (arith, terminal-part, length-take s.len scratch)

      pub terminal-short : length (take s.len scratch) ≤ max_source
      terminal-short = omega (arith, terminal-part)

      pub terminal-noted : length notes' ≡ length notes → (notes₂ : List ℕ) (r : Measured) → Noted (take s.len scratch) notes' notes₂ r → Taken o 0 scratch notes notes₂ (Ok s)
      terminal-noted k notes₂ r v =
          let e : o ≡ decode₁ (take s.len scratch) = whole.is ∙ sym (ap decode₁ front-is ∙ canon-complete whole.tree) in
          told notes₂ (λ t z x y w. note-holds (take s.len scratch) notes' notes₂ r v terminal-short (record { tree = t; is = sym e ∙ z; deep = y; fits = omega arith }))
