-- A loop over lexemes that keeps notes: keeping what is still to come gives all notes, whatever text the lexemes are read from.
use Prim.Native.Nat.{ℕ, zero, suc, ◌+◌, ◌-◌, ◌≤◌, ◌<◌, max}
use native.Mathlib.Omega.{arith}
use mathlib.Core.Path.{◌≡◌, refl, sym, ap, ap₂, ◌∙◌}
use mathlib.Core.Option.{some}
use mathlib.Core.List.{List, [], ◌∷◌}
use lib.ListN.{length, get_or, set, length-set}
use lib.Seq.{sets, get_or-set_same, get_or-set_other}
use Rattle.base.proofs.Cases.{by-eq, some_same}
use Rattle.model.specs.Lexemes.{Lexeme, opening, closing}
use Rattle.model.specs.Limits.{max_depth, max_source}
use Rattle.model.specs.Table.{Row}
use Rattle.model.specs.Tree.{Tree, nodes, depth}
use Rattle.model.proofs.Nesting.{unnest}
use Rattle.model.specs.Count.{Count, count, step, walk, counts}
use Rattle.walk.specs.Events.{event, Frame, above, events}
use Rattle.walk.proofs.Chained.{walk-grows}
use Rattle.walk.proofs.Fronts.{frames_of, frames-push, frames-pop, walk-front, close-step-is}
use Rattle.walk.proofs.Walked.{walk-unnest}
use Rattle.sheets.specs.Places.{shift, span_by}
use Rattle.sheets.specs.Notes.{list_mark, note_by, note_of, noted, keeping, up_of, Stacks, Entered, Leaving, Left}
use Rattle.sheets.proofs.Keeping.{up-below, keeping_all}

-- ---- the lists that are open

-- the innermost
above-frames : (s n : List ℕ) (k : ℕ) → above (frames_of s n k) ≡ up_of n k
unfolding above frames_of up_of
above-frames s n zero = refl
above-frames s n (suc k) = refl

-- they begin below a bound, and their numbers are below `seen`
pub record Stacked (starts node_nos : List ℕ) (bound opened seen : ℕ) : Type 0 where
  pub stacks : Stacks starts node_nos
  pub starts_low : (k : ℕ) → k < opened → k < max_depth → get_or starts k 0 < bound
  pub numbers_low : (k : ℕ) → k < opened → k < max_depth → get_or node_nos k 0 < seen

pub stacked-none : (starts node_nos : List ℕ) → length starts ≡ max_depth → length node_nos ≡ max_depth → (bound : ℕ) → Stacked starts node_nos bound 0 0
stacked-none starts node_nos p q bound =
    record { stacks = record { starts_long = p; numbers_long = q }; starts_low = λ k h l. absurd (omega arith); numbers_low = λ k h l. absurd (omega arith) }

module _ (starts node_nos : List ℕ) (bound opened seen : ℕ) (w : Stacked starts node_nos bound opened seen) where
  -- nothing opens, or the list that began last ends
  pub stacked-on : (bound' opened' seen' : ℕ) → bound ≤ bound' → opened' ≤ opened → seen ≤ seen' → Stacked starts node_nos bound' opened' seen'
  stacked-on bound' opened' seen' b o s =
      record { stacks = w.stacks; starts_low = λ k h l. omega (arith, w.starts_low k (omega arith) l); numbers_low = λ k h l. omega (arith, w.numbers_low k (omega arith) l) }

  pub stacked-open : (at bound' : ℕ) → at < bound' → bound ≤ bound' → (starts' node_nos' : List ℕ) → Entered opened at seen starts node_nos starts' node_nos' → Stacked starts' node_nos' bound' (opened + 1) (seen + 1)
  stacked-open at bound' a b starts' node_nos' v =
      record {
        stacks = record {
          starts_long = ap length v.begins ∙ length-set starts opened at ∙ w.stacks.starts_long;
          numbers_long = ap length v.counts ∙ length-set node_nos opened seen ∙ w.stacks.numbers_long;
        };
        starts_low = λ k h l. rw v.begins
            (by-eq k opened (λ e. rw (e, get_or-set_same starts opened at 0 (omega (arith, w.stacks.starts_long))) a)
            (λ e. rw (get_or-set_other starts opened k at 0 e) (omega (arith, w.starts_low k (omega arith) l))));
        numbers_low = λ k h l. rw v.counts
            (by-eq k opened (λ e. rw (e, get_or-set_same node_nos opened seen 0 (omega (arith, w.stacks.numbers_long))) (omega arith))
            (λ e. rw (get_or-set_other node_nos opened k seen 0 e) (omega (arith, w.numbers_low k (omega arith) l))));
      }

  pub stacked-up : (k : ℕ) → k ≤ opened → seen < max_source → up_of node_nos k < shift
  stacked-up k h s = up-below node_nos k shift (omega arith) w.stacks.numbers_long (λ i j l. omega (arith, w.numbers_low i (omega arith) l))

  pub stacked-leaving : (at : ℕ) → (opened ≡ 0 → ⊥) → seen < max_source → at ≤ max_source → bound ≤ max_source → Leaving starts node_nos (opened - 1) seen at
  stacked-leaving at z s a b =
      record { few = s; short = a; start = λ l. omega (arith, w.starts_low (opened - 1) (omega arith) l); number = λ l. w.numbers_low (opened - 1) (omega arith) l; long = w.stacks.numbers_long; above = stacked-up (opened - 1) (omega arith) s }

-- ---- what is still to come

-- lexemes from the place `at` of a tree's canonical form on, before which so many lists were opened and nodes seen: keeping their notes
-- gives the whole
pub record Kept (whole starts node_nos notes : List ℕ) (at opened deepest seen : ℕ) (t : Tree) (ls : List Lexeme) : Type 0 where
  pub walks : walk ls (count opened deepest seen) ≡ some (count 0 (depth t) (nodes t))
  pub same : keeping notes (events ls at seen (frames_of starts node_nos opened)) ≡ whole

pub kept-start : (starts node_nos notes : List ℕ) (t : Tree) → Kept (sets notes 0 (noted t)) starts node_nos notes 0 0 0 0 t (unnest t [])
unfolding frames_of counts
kept-start starts node_nos notes t = record { walks = walk-unnest t; same = keeping_all t notes }

module _ (whole starts node_nos notes : List ℕ) (at opened deepest seen : ℕ) (t : Tree) where
  pub kept-end : Kept whole starts node_nos notes at opened deepest seen t [] → notes ≡ whole
  unfolding events keeping
  kept-end c = c.same

  module _ (ls : List Lexeme) where
    -- a list begins
    pub kept-open : Kept whole starts node_nos notes at opened deepest seen t (opening ∷ ls) → depth t ≤ max_depth → Stacks starts node_nos → (starts' node_nos' : List ℕ)
        → Entered opened at seen starts node_nos starts' node_nos' → Kept whole starts' node_nos' notes (at + 1) (opened + 1) (max deepest (opened + 1)) (seen + 1) t ls
    unfolding events step
    kept-open c d s starts' node_nos' v =
        walk-front opening ls (count opened deepest seen) (count 0 (depth t) (nodes t)) c.walks
        (λ a _ i j.
        let e : a ≡ count (opened + 1) (max deepest (opened + 1)) (seen + 1) = some_same (λ (a : Count). a ≡ count (opened + 1) (max deepest (opened + 1)) (seen + 1)) i refl in
        let o : walk ls (count (opened + 1) (max deepest (opened + 1)) (seen + 1)) ≡ some (count 0 (depth t) (nodes t)) = ap (walk ls) (sym e) ∙ j in
        let l : opened < max_depth = omega (arith, walk-grows _ _ _ o, d) in
        record {
          walks = o;
          same = rw (v.begins, v.counts)
              (ap (λ (st : List Frame). keeping notes (events ls (at + 1) (seen + 1) st))
              (frames-push starts node_nos opened at seen (omega (arith, s.starts_long)) (omega (arith, s.numbers_long))) ∙ c.same);
        })

    -- the list that began last ends
    pub kept-close : Kept whole starts node_nos notes at opened deepest seen t (closing ∷ ls) → (opened ≡ 0 → ⊥) → opened ≤ deepest → depth t ≤ max_depth → (notes' : List ℕ)
        → Left starts node_nos (opened - 1) seen at notes notes' → Kept whole starts node_nos notes' (at + 1) (opened - 1) deepest seen t ls
    unfolding events keeping
    kept-close c z h d notes' v =
        walk-front closing ls (count opened deepest seen) (count 0 (depth t) (nodes t)) c.walks
        (λ a _ i j.
        let o : walk ls (count (opened - 1) deepest seen) ≡ some (count 0 (depth t) (nodes t)) = ap (walk ls) (sym (close-step-is (count opened deepest seen) a i)) ∙ j in
        let l : opened - 1 < max_depth = omega (arith, walk-grows _ _ _ o, d) in
        let p : at ≡ at + 1 - 1 = omega arith in
        record {
          walks = o;
          same = ap (λ (y : List ℕ). keeping y (events ls (at + 1) seen (frames_of starts node_nos (opened - 1)))) (v.kept l ∙ ap₂ listed p (sym (above-frames starts node_nos (opened - 1))))
              ∙ ap (λ (st : List Frame). keeping notes (events (closing ∷ ls) at seen st)) (sym (frames-pop starts node_nos opened (omega arith))) ∙ c.same;
        })
      where
        listed : ℕ → ℕ → List ℕ
        listed e u = set notes (get_or node_nos (opened - 1) 0) (note_by (span_by (get_or starts (opened - 1) 0 + 1) e) (list_mark + (seen - get_or node_nos (opened - 1) 0)) u)

    -- a string, whose row is given
    pub kept-string : (l : Lexeme) (row : Row) (next : ℕ) → Kept whole starts node_nos notes at opened deepest seen t (l ∷ ls)
        → step l (count opened deepest seen) ≡ some (count opened deepest (seen + 1))
        → events (l ∷ ls) at seen (frames_of starts node_nos opened) ≡ event seen row (above (frames_of starts node_nos opened)) ∷ events ls next (seen + 1) (frames_of starts node_nos opened)
        → (notes' : List ℕ) → notes' ≡ set notes seen (note_of row (up_of node_nos opened)) → Kept whole starts node_nos notes' next opened deepest (seen + 1) t ls
    unfolding keeping
    kept-string l row next c steps comes notes' k =
        walk-front l ls (count opened deepest seen) (count 0 (depth t) (nodes t)) c.walks
        (λ a _ i j.
        let e : a ≡ count opened deepest (seen + 1) = some_same (λ (a : Count). a ≡ count opened deepest (seen + 1)) (sym steps ∙ i) refl in
        record {
          walks = ap (walk ls) (sym e) ∙ j;
          same = ap (λ (z : List ℕ). keeping z (events ls next (seen + 1) (frames_of starts node_nos opened))) (k ∙ ap (λ (u : ℕ). set notes seen (note_of row u)) (sym (above-frames starts node_nos opened))) ∙ ap (keeping notes) (sym comes) ∙ c.same;
        })
