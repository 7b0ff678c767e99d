-- The loop over octets and claimed notes side by side.
use mir.Syntax.{w64}
use mir.Val.{Fits}
use Prim.Native.Nat.{ℕ, ◌+◌, ◌*◌, ◌-◌, ◌%◌, ◌≤◌, ◌<◌}
use native.Mathlib.Omega.{arith}
use mathlib.Core.Path.{◌≡◌, refl, sym, ap, ◌∙◌, subst}
use mathlib.Core.Bool.{Bool, true, false}
use mathlib.Core.List.{List}
use Rattle.std.specs.Prelude.{Option, Some, None}
use lib.ListN.{length, get_or, drop}
use lib.Seq.{get_or-drop}
use lib.Dec.{eqb, leb}
use borrow.Author.Tests.{eq-eqb, ne_eqb, le-leb, lt-leb, lt-ltb}
use Rattle.base.specs.Choice.{both}
use Rattle.base.proofs.Cases.{by-eq, by_le, picked, unpicked, true-both}
use Rattle.model.specs.Count.{shut_by}
use Rattle.model.specs.Lexemes.{Lexeme, opening, closing, atom, hinting}
use Rattle.model.specs.Limits.{max_source}
use Rattle.model.specs.Table.{recorded}
use Rattle.walk.specs.Events.{string_row, hint_row}
use Rattle.walk.proofs.Shut.{closed-open, closed-by}
use Rattle.walk.proofs.Walked.{nodes-pos}
use Rattle.canonical.specs.Lexed.{Plainly, ItemAt}
use Rattle.sheets.specs.Notes.{note_of}
use Rattle.sheets.specs.Places.{shift, start_of, end_of, StringAt}
use Rattle.sheets.proofs.Items.{plain-places, string-item}
use Rattle.tables.specs.Told.{parent_part}
use Rattle.tables.proofs.Telling.{plain-tells, hint-tells}
use Rattle.owned.specs.Owned.{told, Checkable, Checked}
use Rattle.owned.specs.Wanted.{Ends, Next}
use Rattle.owned.specs.Going.{Going, Closable, Closes, Meetable, Nearly, Near, Begun, Unread, Unmet, Hinting, Hints}
use Rattle.owned.proofs.Claiming.{note-is, record_is}
use Rattle.owned.proofs.Going.{going_start, going-whole, going_more, going-fewer, going-short, refuse, wanted, ends-few}
use Rattle.owned.proofs.Turning.{going-up, close-none, close-ready, close-some, close-off, close-on, node-off, node-on, open-off, open-on}
use Rattle.owned.proofs.Wanted.{unfront, lexeme-some}

-- where a turn begins: nodes were met exactly where octets were
pub record Standing (src notes : List ℕ) (n at up opened k : ℕ) : Type 0 where
  pub going : Going src notes n at up opened k
  pub same : shut_by opened at ≡ shut_by opened k

-- the tree is not whole yet
pub record Owning (src notes : List ℕ) (n at up opened k : ℕ) : Type 0 where
  pub going : Going src notes n at up opened k
  pub unshut : shut_by opened k ≡ false

pub own-start : (src notes : List ℕ) (n : ℕ) → Checkable src notes n → Standing src notes n 0 0 0 0
own-start src notes n g = record { going = going_start src notes n g; same = refl }

both-met : (o a b : ℕ) → 0 < a → 0 < b → shut_by o a ≡ shut_by o b
both-met o a b h l =
    by_le o 0
    (λ z. sym (closed-by o a z) ∙ lt-ltb 0 a h ∙ sym (lt-ltb 0 b l) ∙ closed-by o b z)
    (λ z. sym (closed-open o a z) ∙ closed-open o b z)

module _ (src notes : List ℕ) (n at up opened k : ℕ) where
  -- after a node, or a list that ends
  on : Going src notes n at up opened k → 0 < at → 0 < k → Standing src notes n at up opened k
  on w h l = record { going = w; same = both-met opened at k h l }

  module _ (o : Standing src notes n at up opened k) (q : Bool) (x : q ≡ shut_by opened at) where
    pub stand-on : q ≡ false → Owning src notes n at up opened k
    stand-on y = record { going = o.going; unshut = sym o.same ∙ sym x ∙ y }

    -- the tree is whole
    pub stand-last : q ≡ true → (b : Bool) → b ≡ both (leb (length src) at) (eqb k n) → Checked src notes n b
    stand-last t b e =
        let w = o.going in
        let y : shut_by opened k ≡ true = sym o.same ∙ sym x ∙ t in
        by_le (length src) at
        (λ l. by-eq k n
        (λ i. subst (Checked src notes n) (sym (e ∙ true-both (le-leb (length src) at l) (eq-eqb k n i))) (going-whole src notes n at up opened k w (shut_by opened k) refl y l i))
        (λ i. subst (Checked src notes n) (sym (e ∙ picked _ _ (le-leb (length src) at l) ∙ ne_eqb k n i)) (going-fewer src notes n at up opened k w (shut_by opened k) refl y i)))
        (λ l. subst (Checked src notes n) (sym (e ∙ unpicked _ _ (lt-leb (length src) at l))) (going_more src notes n at up opened k w (shut_by opened k) refl y l))

-- ---- a turn

module _ (src notes : List ℕ) (n at up opened k : ℕ) (o : Owning src notes n at up opened k) where
  abbrev w : Going src notes n at up opened k
  w = o.going

  abbrev q : Bool
  q = shut_by opened k

  abbrev x : q ≡ shut_by opened k
  x = refl

  abbrev y : q ≡ false
  y = o.unshut

  abbrev R : ℕ → List ℕ
  R = told notes

  abbrev m : ℕ
  m = get_or notes k 0

  pub own-up : up ≤ max_source
  own-up = omega (arith, going-up src notes n at up opened k w, w.few, w.given.few)

  pub own-inside : (at ≤ length src) × (length src ≤ max_source)
  own-inside = (w.inside, omega (arith, w.given.short))

  pub own-short : length src ≤ at → Checked src notes n false
  own-short h = going-short src notes n at up opened k w q x y h

  module _ (h : at < length src) where
    -- a node without a note
    pub own-full : (get_or src at 0 ≡ 41 → ⊥) → n ≤ k → Checked src notes n false
    own-full b f =
        refuse src notes n at up opened k w
        (λ g.
        unfront R n (drop at src) at k w.st ((wanted src notes n at up opened k w q x y).0 g)
        (λ t. omega (arith, ends-few R n w.st t.rest _ _ t.on, nodes-pos t.tree))
        (λ u us rest i e c d r.
        let z : at + 0 ≡ at = omega arith in
        b (ap (λ (j : ℕ). get_or src j 0) (sym z) ∙ sym (get_or-drop at src 0 0) ∙ ap (λ (l : List ℕ). get_or l 0 0) e)))

    -- a list ends
    module _ (b : get_or src at 0 ≡ 41) where
      pub shut_none : opened ≡ 0 → Checked src notes n false
      shut_none z = close-none src notes n at up opened k w q x y h b z

      module _ (z : opened ≡ 0 → ⊥) where
        pub shut-ready : Closable notes up at k
        shut-ready = close-ready src notes n at up opened k w q x y h b z

        module _ (r : Bool) (c : Closes notes up at k r) where
          pub shut-off : r ≡ false → Checked src notes n false
          shut-off f = close-off src notes n at up opened k w q x y h b z r c f

          pub shut-on : r ≡ true → (p : ℕ) → p ≡ parent_part (get_or notes up 0) → Standing src notes n (at + 1) p (opened - 1) k
          shut-on f p e =
              on src notes n (at + 1) p (opened - 1) k (close-on src notes n at up opened k w q x y h b z r c f p e) (omega arith) (close-some src notes n at up opened k w q x y h b z)

    pub own-unread : (get_or src at 0 ≡ 41 → ⊥) → StringAt src at None → (get_or src at 0 ≡ 40 → ⊥) → Unread src at
    own-unread b v a = record { unopened = a; unshut = b; none = v }

    module _ (f : k < n) where
      pub own_meets : Meetable at up (length src)
      own_meets = record { inside = h; short = w.given.short; few = omega (arith, going-up src notes n at up opened k w, w.given.few) }

      pub own-few : (at ≤ max_source) × (k ≤ max_source)
      own-few = (omega (arith, h, w.given.short), omega (arith, w.given.few))

      pub own-note : k < length notes
      own-note = omega (arith, w.given.fits)

      low : up < shift
      low = omega (arith, own_meets.few)

      -- ---- a string without a hint

      module _ (s : ℕ) (v : StringAt src at (Some s)) where
        plainly : Plainly src at (start_of s) (end_of s)
        unfolding ItemAt
        plainly = string-item src at h s v

        places : (at < start_of s) × (start_of s ≤ end_of s) × (end_of s ≤ length src)
        places = plain-places src at (start_of s) (end_of s) plainly

        pub own-fits : Fits w64 (s + up * (shift * shift * shift))
        own-fits = omega (arith, places, w.given.short, own_meets.few)

        row-note : note_of (string_row at plainly.octets) up ≡ s + up * (shift * shift * shift)
        row-note = omega (arith, plainly.begins, plainly.ends)

        after : Next R n (atom plainly.octets) w.st (drop (end_of s) src) at k → (R k ≡ recorded (string_row at plainly.octets) up) × Ends R n w.st (drop (end_of s) src) (end_of s) (k + 1)
        unfolding Next
        after z = (z.0 ∙ ap (recorded (string_row at plainly.octets)) w.top, subst (λ (j : ℕ). Ends R n w.st (drop (end_of s) src) j (k + 1)) (sym plainly.ends) z.1)

        before : R k ≡ recorded (string_row at plainly.octets) up → Ends R n w.st (drop (end_of s) src) (end_of s) (k + 1) → Next R n (atom plainly.octets) w.st (drop (end_of s) src) at k
        unfolding Next
        before e z = (e ∙ ap (recorded (string_row at plainly.octets)) (sym w.top), subst (λ (j : ℕ). Ends R n w.st (drop (end_of s) src) j (k + 1)) plainly.ends z)

        pub plain-off : (m ≡ s + up * (shift * shift * shift) → ⊥) → Checked src notes n false
        plain-off d =
            node-off src notes n at up opened k w q x y h (atom plainly.octets) (end_of s) places.2 plainly.reads (string_row at plainly.octets) after before
            (λ z. d (note-is m (string_row at plainly.octets) up (w.given.claimed k f) z ∙ row-note))

        module _ (e : m ≡ s + up * (shift * shift * shift)) where
          ends_at : m % shift ≡ end_of s
          ends_at = omega (arith, places, w.given.short)

          pub plain-less : length src - m % shift < length src - at
          plain-less = omega (arith, ends_at, places)

          pub plain-on : Standing src notes n (m % shift) up opened (k + 1)
          plain-on =
              on src notes n (m % shift) up opened (k + 1)
              (subst (λ (t : ℕ). Going src notes n t up opened (k + 1)) (sym ends_at)
              (node-on src notes n at up opened k w q x y h (atom plainly.octets) (end_of s) places.2 plainly.reads (string_row at plainly.octets) after before
              f (record_is m (string_row at plainly.octets) up (plain-tells at plainly.octets (omega (arith, plainly.ends, places, w.given.short))) low (e ∙ sym row-note))))
              (omega (arith, ends_at, places)) (omega arith)

      -- ---- one of a single digit

      module _ (so : Bool) (c : Near src m at up so) (e : so ≡ true) where
        nearly : Nearly src m at up
        nearly = c.on e

        pub near-less : length src - m % shift < length src - at
        near-less = plain-less nearly.span nearly.reads nearly.is

        pub near_on : Standing src notes n (m % shift) up opened (k + 1)
        near_on = plain-on nearly.span nearly.reads nearly.is

      -- ---- a list begins

      module _ (b : get_or src at 0 ≡ 40) (r : Bool) (c : Begun m at up opened r) where
        pub begin-off : r ≡ false → Checked src notes n false
        begin-off e = open-off src notes n at up opened k w q x y h b f (λ i. c.no e i)

        pub begin-on : r ≡ true → Standing src notes n (at + 1) k (opened + 1) (k + 1)
        begin-on e = on src notes n (at + 1) k (opened + 1) (k + 1) (open-on src notes n at up opened k w q x y h b f (c.yes e)) (omega arith) (omega arith)

      -- ---- a string with a hint

      module _ (r : Option ℕ) (c : Hints src m at up r) where
        pub hint-off : r ≡ None → Checked src notes n false
        unfolding Next Unmet
        hint-off z =
            refuse src notes n at up opened k w
            (λ g. lexeme-some R n w.st (drop at src) at k ((wanted src notes n at up opened k w q x y).0 g) (λ l rest e v. by l rest (c.off z l rest e) v))
          where
            by : (l : Lexeme) (rest : List ℕ) → Unmet l m at up → Next R n l w.st rest at k → ⊥
            by opening rest d v = d
            by closing rest d v = d
            by (atom x) rest d v = d
            by (hinting h x) rest d v = d (note-is m (hint_row at h x) up (w.given.claimed k f) (v.0 ∙ ap (recorded (hint_row at h x)) w.top))

        module _ (next : ℕ) (z : r ≡ Some next) where
          met : Hinting src m at up next
          met = c.on next z

          pub hint-less : length src - next < length src - at
          hint-less = omega (arith, met.further, met.within)

          hint-goes : Going src notes n next up opened (k + 1)
          unfolding Next
          hint-goes =
              node-on src notes n at up opened k w q x y h (hinting met.hint met.octets) next met.within met.reads (hint_row at met.hint met.octets)
              (λ v. (v.0 ∙ ap (recorded (hint_row at met.hint met.octets)) w.top, subst (λ (j : ℕ). Ends R n w.st (drop next src) j (k + 1)) (sym met.ends) v.1))
              (λ e v. (e ∙ ap (recorded (hint_row at met.hint met.octets)) (sym w.top), subst (λ (j : ℕ). Ends R n w.st (drop next src) j (k + 1)) met.ends v))
              f (record_is m (hint_row at met.hint met.octets) up (hint-tells at met.hint met.octets (omega (arith, met.ends, met.within, w.given.short))) low met.is)

          pub hint-on : Standing src notes n next up opened (k + 1)
          hint-on = on src notes n next up opened (k + 1) hint-goes (omega (arith, met.further)) (omega arith)
