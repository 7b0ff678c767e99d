-- A list's note where the list begins; a string of one digit, and one with a hint, and its note.
use mir.Syntax.{w64}
use mir.Val.{Fits}
use Prim.Native.Nat.{ℕ, ◌+◌, ◌*◌, ◌-◌, ◌/◌, ◌≤◌, ◌<◌}
use native.Mathlib.Omega.{arith}
use mathlib.Core.Path.{◌≡◌, refl, sym, ap, ◌∙◌, subst}
use mathlib.Core.Bool.{false}
use mathlib.Core.List.{List}
use lib.ListN.{length, get_or, drop}
use Rattle.std.specs.Prelude.{Option, Some, None}
use Rattle.std.proofs.lemmas.Option.{none-some, same_Some}
use lib.Dec.{eqb, leb}
use borrow.Author.Tests.{eq-eqb, ne_eqb, le-leb, lt-leb}
use Rattle.base.specs.Choice.{both}
use Rattle.base.proofs.Cases.{by-eq, by_le, differ, picked, unpicked}
use Rattle.model.specs.Lexemes.{Lexeme, hinting, strict_lexeme}
use Rattle.model.specs.Limits.{max_depth}
use Rattle.model.specs.Strings.{got, refused}
use Rattle.model.specs.Table.{Row, hinted_row, body_start, body_end}
use Rattle.model.proofs.ReadCases.{never}
use Rattle.walk.specs.Events.{hint_row}
use Rattle.canonical.specs.Lexed.{Hintedly, ItemAt}
use Rattle.sheets.specs.Notes.{list_mark, note_of}
use Rattle.sheets.specs.Places.{shift, span_by, start_of, end_of, StringAt, HintAfter}
use Rattle.sheets.proofs.Items.{hint-places, other_item, unhinted-item, hint-inside, unfollowed-item, hinted-item}
use Rattle.sheets.proofs.Packing.{body-span, string-digit}
use Rattle.tables.specs.Told.{start_part, end_part, third_part, parent_part}
use Rattle.owned.specs.Going.{Closes, Meetable, Near, Begins, Begun, Unread, Unmet, Hinting, Hints}

-- ---- the innermost list ends

module _ (notes : List ℕ) (up at k : ℕ) where
  pub closes-elsewhere : (end_part (get_or notes up 0) ≡ at → ⊥) → Closes notes up at k false
  closes-elsewhere d = record { is = sym (unpicked _ _ (ne_eqb (end_part (get_or notes up 0)) at d)) }

  pub closes_here : end_part (get_or notes up 0) ≡ at → Closes notes up at k (eqb (third_part (get_or notes up 0)) (list_mark + (k - up)))
  closes_here e = record { is = sym (picked _ _ (eq-eqb (end_part (get_or notes up 0)) at e)) }

-- where a string with a hint lies tells its row
hint-row : (at from to start end : ℕ) (h d : List ℕ) → from ≡ body_start (at + 1) h → to ≡ body_end (at + 1) h → start ≡ body_start (to + 1) d → end ≡ body_end (to + 1) d → hinted_row at from to start end ≡ hint_row at h d
hint-row at from to start end h d p q r t = rw (r, t, p, q)

-- ---- a tree is whole

module _ (len at k n : ℕ) where
  pub ended-more : at < len → false ≡ both (leb len at) (eqb k n)
  ended-more h = sym (unpicked _ _ (lt-leb len at h))

  pub ended_so : len ≤ at → eqb k n ≡ both (leb len at) (eqb k n)
  ended_so h = sym (picked _ _ (le-leb len at h))

-- ---- a string of one digit

module _ (src : List ℕ) (m at up : ℕ) where
  pub near-off : Near src m at up false
  near-off = record { on = λ e. differ e refl }

  pub near-so : Meetable at up (length src) → start_part m ≡ at + 2 → end_part m ≤ length src → start_part m ≤ end_part m → end_part m - start_part m ≤ 9
      → get_or src at 0 ≡ 48 + (end_part m - start_part m) → get_or src (at + 1) 0 ≡ 58 → Near src m at up (eqb (m / (shift * shift)) (up * shift))
  near-so g s e b n d c =
      by-eq (m / (shift * shift)) (up * shift)
      (λ i. subst (Near src m at up) (sym (eq-eqb _ _ i)) (record { on = λ z. record { span = span_by (start_part m) (end_part m); reads = reads; is = omega arith } }))
      (λ i. subst (Near src m at up) (sym (ne_eqb _ _ i)) near-off)
    where
      reads : StringAt src at (Some (span_by (start_part m) (end_part m)))
      reads =
          string-digit src at (omega arith) (omega arith) (omega arith) c _
          (body-span src (at + 1) (get_or src at 0 - 48) (record { inside = omega arith; short = omega (arith, g.short); is = c }) _ (omega arith) (omega arith))

-- ---- a list begins

module _ (m at up opened : ℕ) where
  unbegun : (Begins m at up opened → ⊥) → Begun m at up opened false
  unbegun f = record { yes = λ e. differ e refl; no = λ e g. f g }

  pub begins-deep : max_depth ≤ opened → Begun m at up opened false
  begins-deep h = unbegun (λ g. omega (arith, g.deep))

  pub begins-elsewhere : (parent_part m ≡ up → ⊥) → Begun m at up opened false
  begins-elsewhere d = unbegun (λ g. d g.above)

  pub begins-apart : (start_part m ≡ at + 1 → ⊥) → Begun m at up opened false
  begins-apart d = unbegun (λ g. d g.start)

  pub begins-so : opened < max_depth → parent_part m ≡ up → start_part m ≡ at + 1 → Begun m at up opened (leb list_mark (third_part m))
  begins-so d u s =
      by_le list_mark (third_part m)
      (λ l. subst (Begun m at up opened) (sym (le-leb list_mark (third_part m) l)) (record { yes = λ e. record { deep = d; above = u; start = s; marked = l }; no = λ e. differ refl e }))
      (λ l. subst (Begun m at up opened) (sym (lt-leb list_mark (third_part m) l)) (unbegun (λ g. omega (arith, g.marked))))

-- ---- a string with a hint

module _ (src : List ℕ) (at up : ℕ) where
  abbrev Met : Option ℕ → Type 0
  Met r = (m : ℕ) → Hints src m at up r

  none-met : strict_lexeme (drop at src) ≡ refused → Met None
  none-met e = λ m. record { on = λ x d. absurd (none-some x d); off = λ z l rest f. never (sym e ∙ f) }

  module _ (h : at < length src) (u : Unread src at) where
    pub hints-other : (get_or src at 0 ≡ 91 → ⊥) → Met None
    unfolding ItemAt
    hints-other c = none-met (other_item src at h u.unopened u.unshut u.none c)

    module _ (b : get_or src at 0 ≡ 91) where
      pub hints-unhinted : StringAt src (at + 1) None → Met None
      unfolding ItemAt
      hints-unhinted v = none-met (unhinted-item src at h u.unopened u.unshut b v)

      module _ (x : ℕ) (v : StringAt src (at + 1) (Some x)) (to : ℕ) (et : to ≡ end_of x) where
        pub hints-inside : to ≤ length src
        hints-inside = hint-inside src at h u.unopened u.unshut b x v to et

        pub hints-unfollowed : HintAfter src to None → Met None
        unfolding ItemAt
        hints-unfollowed t = none-met (unfollowed-item src at h u.unopened u.unshut b x v to et t)

        module _ (d : ℕ) (t : HintAfter src to (Some d)) where
          module _ (from : ℕ) (ef : from ≡ start_of x) where
            hintedly : Hintedly src at from to (start_of d) (end_of d)
            unfolding ItemAt
            hintedly = rw (et, ef) (hinted-item src at h u.unopened u.unshut b x v to et d t)

            places : (at < from) × (from ≤ to) × (to < start_of d) × (start_of d ≤ end_of d) × (end_of d ≤ length src)
            places = hint-places src at from to (start_of d) (end_of d) hintedly

            pub hints-fit : Meetable at up (length src) → Fits w64 (d + from * (shift * shift)) × Fits w64 (d + from * (shift * shift) + up * (shift * shift * shift))
            hints-fit g = let p = places in (omega (arith, g.short, g.few), omega (arith, g.short, g.few))

            -- the note of the string that stands there
            same-note : note_of (hint_row at hintedly.hint hintedly.octets) up ≡ d + from * (shift * shift) + up * (shift * shift * shift)
            same-note =
                ap (λ (r : Row). note_of r up) (sym (hint-row at from to (start_of d) (end_of d) hintedly.hint hintedly.octets hintedly.hint_begins hintedly.hint_ends hintedly.begins hintedly.ends))
                ∙ omega (arith, places)

            module _ (m : ℕ) where
              pub hints-apart : (m ≡ d + from * (shift * shift) + up * (shift * shift * shift) → ⊥) → Hints src m at up None
              unfolding Unmet
              hints-apart f = record { on = λ x d. absurd (none-some x d); off = λ z l rest g. by l rest (sym hintedly.reads ∙ g) }
                where
                  by : (l : Lexeme) (rest : List ℕ) → got (hinting hintedly.hint hintedly.octets) (drop (end_of d) src) ≡ got l rest → Unmet l m at up
                  by l rest g =
                      let i : hinting hintedly.hint hintedly.octets ≡ l = cc in
                      subst (λ (l : Lexeme). Unmet l m at up) i (λ e. f (e ∙ same-note))

              pub hints-so : m ≡ d + from * (shift * shift) + up * (shift * shift * shift) → (end : ℕ) → end ≡ end_of d → Hints src m at up (Some end)
              hints-so f end ee = record { on = λ x z. subst (Hinting src m at up) (same_Some end x z) met; off = λ z. absurd (none-some end (sym z)) }
                where
                  met : Hinting src m at up end
                  met =
                      let p = places in
                      record {
                        hint = hintedly.hint;
                        octets = hintedly.octets;
                        reads = rw ee hintedly.reads;
                        ends = ee ∙ hintedly.ends ∙ ap (λ (i : ℕ). body_end (i + 1) hintedly.octets) hintedly.hint_ends;
                        further = omega (arith, p);
                        within = omega (arith, p);
                        is = f ∙ sym same-note;
                      }
