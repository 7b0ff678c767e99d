-- One lexeme more: a list ends, a string stands there with its note, a list begins with its note.
use Prim.Native.Nat.{ℕ, ◌+◌, ◌-◌, ◌≤◌, ◌<◌}
use native.Mathlib.Omega.{arith}
use mathlib.Core.Path.{◌≡◌, refl, sym, ap, ap₂, ◌∙◌, subst}
use mathlib.Core.Bool.{Bool, true, false}
use mathlib.Core.List.{List, [], ◌∷◌}
use lib.ListN.{length, get_or, drop}
use borrow.Author.Tests.{eq-eqb, eqb-true}
use Rattle.base.proofs.Cases.{differ, both_true, true-both}
use Rattle.model.specs.Count.{shut_by}
use Rattle.model.specs.Lexemes.{Lexeme, opening, closing, strict_lexeme}
use Rattle.model.specs.Strings.{got}
use Rattle.model.specs.Table.{Row, list_row, recorded}
use Rattle.canonical.specs.Lexed.{ItemAt}
use Rattle.canonical.proofs.Lexing.{lex-open, lex-close}
use Rattle.sheets.specs.Notes.{list_mark}
use Rattle.owned.specs.Owned.{told, Checked}
use Rattle.tables.specs.Told.{end_part, third_part, parent_part}
use Rattle.owned.specs.Wanted.{over, claimed_end, claimed_count, Ends, Opens, Next}
use Rattle.owned.specs.Going.{Opened, Open, Goes, Going, Closable, Closes, Begins}
use Rattle.owned.proofs.Going.{open_more, stack-cases, goes-ends, refuse, forth, back}
use Rattle.owned.proofs.Claiming.{Listed, listed, list-is}

-- the innermost list has a number below k
over-few : (R : ℕ → List ℕ) (k : ℕ) (st : List ℕ) → Open R k st → over st ≤ k
unfolding Open over
over-few R k [] o = omega arith
over-few R k (u ∷ us) o = omega (arith, o.0.before)

module _ (src notes : List ℕ) (n at up opened k : ℕ) (w : Going src notes n at up opened k) where
  abbrev R : ℕ → List ℕ
  R = told notes

  pub going-up : up ≤ k
  going-up = omega (arith, over-few R k w.st w.lists, w.top)

  module _ (q : Bool) (x : q ≡ shut_by opened k) (y : q ≡ false) (h : at < length src) where
    -- ---- the innermost list ends

    module _ (b : get_or src at 0 ≡ 41) where
      shuts : strict_lexeme (drop at src) ≡ got closing (drop (at + 1) src)
      unfolding ItemAt
      shuts = lex-close src at h (λ e. omega arith) b

      after-close : Goes R n (shut_by opened k) w.st (drop at src) at k → Next R n closing w.st (drop (at + 1) src) at k
      after-close = forth src notes n at up opened k w q x y closing (at + 1) shuts

      pub close-none : opened ≡ 0 → Checked src notes n false
      unfolding Next
      close-none z =
          refuse src notes n at up opened k w
          (λ g.
          stack-cases w.st opened w.deep (λ e i. subst (λ (st : List ℕ). Next R n closing st (drop (at + 1) src) at k) i (after-close g)) (λ u us i e. omega arith))

      -- the list, and what its note tells
      record Inner : Type 0 where
        us : List ℕ
        is : w.st ≡ up ∷ us
        deep : opened ≡ length us + 1
        list : Opened R k up us
        others : Open R k us
        parts : Listed (get_or notes up 0) list.start list.end list.count (over us)

      module _ (z : opened ≡ 0 → ⊥) where
        inner : Inner
        unfolding over Open
        inner =
            stack-cases w.st opened w.deep (λ e i. absurd (z e))
            (λ u us i e.
            let v : u ≡ up = sym (ap over i) ∙ w.top in
            let o : Open R k (u ∷ us) = subst (Open R k) i w.lists in
            let p : Opened R k up us = subst (λ (u : ℕ). Opened R k u us) v o.0 in
            record {
              us = us;
              is = i ∙ ap (λ (u : ℕ). u ∷ us) v;
              deep = e;
              list = p;
              others = o.1;
              parts = listed (get_or notes up 0) p.start p.end p.count (over us) (w.given.claimed up (omega (arith, p.before, w.few))) p.is;
            })

        pub close-ready : Closable notes up at k
        close-ready = record { inside = omega (arith, inner.list.before, w.few, w.given.fits); before = omega (arith, inner.list.before); few = omega (arith, w.few, w.given.few) }

        -- a list that is open is a node
        pub close-some : 0 < k
        close-some = omega (arith, inner.list.before)

        claimed-end : claimed_end (R up) ≡ inner.list.end - 1
        claimed-end = ap claimed_end inner.list.is

        claimed-count : claimed_count (R up) ≡ inner.list.count
        claimed-count = ap claimed_count inner.list.is

        module _ (r : Bool) (c : Closes notes up at k r) where
          pub close-off : r ≡ false → Checked src notes n false
          unfolding Next
          close-off f =
              refuse src notes n at up opened k w
              (λ g.
              let a : Next R n closing (up ∷ inner.us) (drop (at + 1) src) at k = subst (λ (st : List ℕ). Next R n closing st (drop (at + 1) src) at k) inner.is (after-close g) in
              let i : end_part (get_or notes up 0) ≡ at = inner.parts.end ∙ sym claimed-end ∙ a.0 in
              let j : third_part (get_or notes up 0) ≡ list_mark + (k - up) = omega (arith, inner.parts.third, claimed-count, a.1, inner.list.before) in
              differ (c.is ∙ true-both (eq-eqb _ _ i) (eq-eqb _ _ j)) f)

          pub close-on : r ≡ true → (p : ℕ) → p ≡ parent_part (get_or notes up 0) → Going src notes n (at + 1) p (opened - 1) k
          unfolding Next
          close-on f p e =
              let t = both_true (sym c.is ∙ f) in
              let i : claimed_end (R up) ≡ at = claimed-end ∙ sym inner.parts.end ∙ eqb-true (end_part (get_or notes up 0)) at t.0 in
              let j : claimed_count (R up) + up ≡ k = omega (arith, claimed-count, inner.parts.third, eqb-true (third_part (get_or notes up 0)) (list_mark + (k - up)) t.1, inner.list.before) in
              let l : length inner.us ≡ opened - 1 = omega (arith, inner.deep) in
              let v = goes-ends R n (drop (at + 1) src) (at + 1) k inner.us (opened - 1) l (omega (arith, inner.list.before)) in
              record {
                given = w.given;
                inside = omega arith;
                few = w.few;
                st = inner.us;
                deep = l;
                low = omega (arith, w.low);
                top = sym inner.parts.above ∙ sym e;
                lists = inner.others;
                to = λ t o. v.1 (subst (λ (st : List ℕ). Next R n closing st (drop (at + 1) src) at k) inner.is (after-close (w.to t o))).2;
                from = λ g.
                    w.from (back src notes n at up opened k w q x y closing (at + 1) shuts
                    (subst (λ (st : List ℕ). Next R n closing st (drop (at + 1) src) at k) (sym inner.is) (i, j, v.0 g)));
              }

    -- ---- a string stands there: the lexeme l up to `next`, with this record

    module _ (l : Lexeme) (next : ℕ) (below : next ≤ length src) (reads : strict_lexeme (drop at src) ≡ got l (drop next src)) (row : Row)
        (apart : Next R n l w.st (drop next src) at k → (R k ≡ recorded row up) × Ends R n w.st (drop next src) next (k + 1))
        (joins : R k ≡ recorded row up → Ends R n w.st (drop next src) next (k + 1) → Next R n l w.st (drop next src) at k) where
      pub node-off : (R k ≡ recorded row up → ⊥) → Checked src notes n false
      node-off d = refuse src notes n at up opened k w (λ g. d (apart (forth src notes n at up opened k w q x y l next reads g)).0)

      pub node-on : k < n → R k ≡ recorded row up → Going src notes n next up opened (k + 1)
      node-on f e =
          let v = goes-ends R n (drop next src) next (k + 1) w.st opened w.deep (omega arith) in
          record {
            given = w.given;
            inside = below;
            few = omega arith;
            st = w.st;
            deep = w.deep;
            low = w.low;
            top = w.top;
            lists = open_more R k (k + 1) (omega arith) w.st w.lists;
            to = λ t o. v.1 (apart (forth src notes n at up opened k w q x y l next reads (w.to t o))).1;
            from = λ g. w.from (back src notes n at up opened k w q x y l next reads (joins e (v.0 g)));
          }

    -- ---- a list begins

    module _ (b : get_or src at 0 ≡ 40) where
      begins : strict_lexeme (drop at src) ≡ got opening (drop (at + 1) src)
      unfolding ItemAt
      begins = lex-open src at h b

      begin-by : Opens R n w.st (drop (at + 1) src) at k → k < n → Begins (get_or notes k 0) at up opened
      begin-by o f =
          let v = listed (get_or notes k 0) at (get_or (R k) 2 0) (claimed_count (R k)) (over w.st) (w.given.claimed k f) o.is in
          record { deep = omega (arith, o.shallow, w.deep); above = v.above ∙ w.top; start = v.start; marked = omega (arith, v.third) }

      opened-by : Goes R n (shut_by opened k) w.st (drop at src) at k → Opens R n w.st (drop (at + 1) src) at k
      unfolding Next
      opened-by g = forth src notes n at up opened k w q x y opening (at + 1) begins g

      pub open-off : k < n → (Begins (get_or notes k 0) at up opened → ⊥) → Checked src notes n false
      open-off f d = refuse src notes n at up opened k w (λ g. d (begin-by (opened-by g) f))

      pub open-on : k < n → Begins (get_or notes k 0) at up opened → Going src notes n (at + 1) k (opened + 1) (k + 1)
      unfolding Open over Next
      open-on f g =
          let e : ℕ = end_part (get_or notes k 0) + 1 in
          let c : ℕ = third_part (get_or notes k 0) - list_mark in
          let is : R k ≡ recorded (list_row at e c) up = list-is (get_or notes k 0) at up opened g in
          let v = goes-ends R n (drop (at + 1) src) (at + 1) (k + 1) (k ∷ w.st) (opened + 1) (omega (arith, w.deep)) (omega arith) in
          let i : get_or (R k) 2 0 ≡ e = ap (λ (r : List ℕ). get_or r 2 0) is in
          let j : claimed_count (R k) ≡ c = ap claimed_count is in
          record {
            given = w.given;
            inside = omega arith;
            few = omega arith;
            st = k ∷ w.st;
            deep = omega (arith, w.deep);
            low = omega (arith, g.deep);
            top = refl;
            lists = (
              record { start = at; end = e; count = c; is = is ∙ ap (recorded (list_row at e c)) (sym w.top); before = omega arith },
              open_more R k (k + 1) (omega arith) w.st w.lists,
            );
            to = λ t o. v.1 (opened-by (w.to t o)).on;
            from = λ u.
                w.from (back src notes n at up opened k w q x y opening (at + 1) begins
                (record {
                  is = is ∙ ap₂ (λ (m l : ℕ). recorded (list_row at m l) up) (sym i) (sym j) ∙ ap (recorded (list_row at (get_or (R k) 2 0) (claimed_count (R k)))) (sym w.top);
                  shallow = omega (arith, w.deep, g.deep);
                  on = v.0 u;
                }));
          }
