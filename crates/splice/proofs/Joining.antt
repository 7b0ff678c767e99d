-- What comes is noted and put in, and the notes before the spot, at it and behind it are the new tree's.
use mir.Syntax.{w64}
use mir.Val.{Fits}
use Prim.Native.Nat.{ℕ, ◌+◌, ◌*◌, ◌-◌, ◌≤◌, ◌<◌}
use native.Mathlib.Omega.{arith}
use mathlib.Core.Path.{◌≡◌, sym, ap, ◌∙◌, subst}
use mathlib.Core.List.{List}
use lib.ListN.{length, take, drop, get_or}
use lib.Seq.{ext_get_or, get_or-take, get_or-drop, length-take-le}
use lib.Dec.{eqb}
use borrow.Rule.Slice.PartMut.{mid_of, post_of, put_mid, mid_len, Post-is, same_len_mid}
use Rattle.base.specs.Choice.{pick}
use Rattle.base.proofs.Cases.{by_le}
use Rattle.model.specs.Table.{row_of, parent_of}
use Rattle.model.specs.Tree.{Tree}
use Rattle.model.proofs.Exact.{canon-complete}
use Rattle.model.specs.Decode.{decode₁}
use Rattle.walk.specs.Extent.{Measured}
use Rattle.sheets.specs.Notes.{note_of, noted, Noted}
use Rattle.sheets.proofs.Keeping.{noted-length}
use Rattle.tables.specs.Told.{Holds}
use Rattle.tables.proofs.Held.{note-holds}
use Rattle.tables.proofs.Telling.{noted-at, holds-long}
use Rattle.edits.proofs.Moved.{in-first, in-second, in-third}
use Rattle.splice.specs.Moved.{later_note, own_note, Growable, Grown, Shiftable, Shifted, Puttable, Put, Coming, Enterable, Entered}
use Rattle.splice.specs.Renoted.{Renotable, Renoted}
use Rattle.splice.proofs.Renoting.{note-small, sums, ahead-growing, ahead-is, behind-later, behind-is, octets-short, start-short, inner-is, is-text, text-counted, text-deep, text-is}
use Rattle.splice.specs.declared.notes.Growth.{Growth}

-- ---- enter
module _ (octets notes : List ℕ) (start first up : ℕ) (g : Enterable octets (length notes) start first up) (notes₁ : List ℕ) (x : Measured) (v : Noted octets notes notes₁ x) where
  holds_text : (t : Tree) → Coming octets (length notes) t → Holds notes₁ (length notes) t
  holds_text t c =
      subst (λ (n : ℕ). Holds notes₁ n t) (sym c.counted)
      (note-holds octets notes notes₁ x v g.long (record { tree = t; is = c.is; deep = c.deep; fits = omega (arith, c.counted) }))

  pub enter-puttable : length notes₁ ≡ length notes → Puttable notes₁ start first up
  enter-puttable l =
      record {
        small = λ i h. let c = g.comes (omega arith) in note-small notes₁ (length notes) c.tree (holds_text c.tree c.is) g.few.0 i (omega arith);
        short = g.short;
        few = (g.few.1, g.few.2);
      }

  pub entered : length notes₁ ≡ length notes → (after : List ℕ) → Put notes₁ start first up after → Entered octets (length notes) start first up after
  entered l after p =
      record {
        long = p.long ∙ l;
        done = λ t c i h.
            let k = holds_text t c in
            p.done i (omega arith) ∙ ap (λ (m : ℕ). own_note m start (pick (eqb i 0) up first)) (sym (get_or-take (length notes) notes₁ i 0 h) ∙ ap (λ (y : List ℕ). get_or y i 0) k.kept);
      }

-- ---- renote
module _ (octets notes : List ℕ) (first start end count : ℕ) (b : Growth) where
  abbrev to : ℕ
  to = first + count

  -- how many are behind the spot, and where they were
  abbrev n : ℕ
  n = b.count - to

  abbrev from : ℕ
  from = b.held - n

  module _ (w : Renotable octets notes first start end count b) where
    abbrev all : (first + w.given ≤ b.held) × (first + count ≤ b.count) × (b.count + w.given ≡ b.held + count)
    all = sums octets notes first start end count b w

    held-long : b.held ≤ length notes
    held-long = holds-long notes b.held w.old w.held

    pub renote-growable : Growable notes first end b
    renote-growable = record { fits = omega (arith, held-long, all.0); each = ahead-growing octets notes first start end count b w }

    pub renote-to : Fits w64 (first + count)
    renote-to = omega (arith, all.1, w.fit.few)

    pub renote-from : Fits w64 (first * 8)
    renote-from = omega (arith, all.1, w.fit.few)

    pub renote-few : first + count ≤ b.count
    renote-few = all.1

    pub renote-held : b.count - (first + count) ≤ b.held
    renote-held = omega (arith, all)

    from_is : from ≡ first + w.given
    from_is = omega (arith, all)

    module _ (notes₁ : List ℕ) (up : ℕ) (a : Grown notes first end b notes₁ up) where
      same-behind : (i : ℕ) → get_or notes₁ (from + i) 0 ≡ get_or notes (from + i) 0
      same-behind i = a.grew.rest (from + i) (omega (arith, from_is))

      pub renote-shiftable : Shiftable notes₁ first (b.held - (b.count - (first + count))) (first + count) (b.count - (first + count)) b
      renote-shiftable =
          record {
            was = omega (arith, a.grew.long, held-long, all);
            fits = omega (arith, a.grew.long, w.room, all);
            each = λ i h. rw (same-behind i) (behind-later octets notes first start end count b w (from + i) (to + i) (omega (arith, from_is)) (omega (arith, all)) (omega (arith, all)));
          }

      module _ (notes₂ : List ℕ) (s : Shifted notes₁ first from to n b notes₂) where
        pub renote-room : first + count ≤ length notes₂
        renote-room = omega (arith, s.long, a.grew.long, w.room, all.1)

        part-long : length (mid_of first (to - first) notes₂) ≡ count
        part-long = mid_len first to notes₂ renote-room ∙ omega arith

        coming : 0 < count → Coming octets count w.text
        coming h =
            record {
              is = ap decode₁ (is-text octets notes first start end count b w h) ∙ canon-complete w.text;
              deep = omega (arith, text-deep octets notes first start end count b w h, w.deep);
              counted = text-counted octets notes first start end count b w h;
            }

        pub renote-enterable : Enterable octets (length (take (first + count - first) (drop first notes₂))) start first up
        renote-enterable =
            rw part-long
            (record {
              comes = λ h. record { tree = w.text; is = coming h };
              few = (omega (arith, all.1, w.fit.few), omega (arith, all.1, w.fit.few), omega (arith, a.near, all.1, w.fit.few));
              long = octets-short octets notes first start end count b w;
              short = start-short octets notes first start end count b w;
            })

        module _ (part : List ℕ) (p : Entered octets (length (mid_of first (to - first) notes₂)) start first up part) where
          abbrev after : List ℕ
          after = put_mid first (to - first) notes₂ part

          abbrev post : List ℕ
          post = post_of first (to - first) notes₂

          q : Entered octets count start first up part
          q = subst (λ (k : ℕ). Entered octets k start first up part) part-long p

          lead-long : length (take first notes₂) ≡ first
          lead-long = length-take-le first notes₂ (omega (arith, renote-room))

          after-long : length after ≡ length notes
          after-long = same_len_mid first (to - first) notes₂ part p.long ∙ s.long ∙ a.grew.long

          abbrev told : ℕ → ℕ
          told i = note_of (row_of w.new i) (parent_of w.new i)

          in-lead : (i : ℕ) → i < first → get_or after i 0 ≡ told i
          in-lead i h =
              in-first (take first notes₂) part post 0 i (omega (arith, lead-long))
              ∙ get_or-take first notes₂ i 0 h
              ∙ s.before i (omega (arith, from_is)) (omega arith)
              ∙ a.grew.done i h
              ∙ ahead-is octets notes first start end count b w i h

          in-part : (i : ℕ) → i < count → get_or after (first + i) 0 ≡ told (first + i)
          in-part i h =
              ap (λ (k : ℕ). get_or after (k + i) 0) (sym lead-long)
              ∙ in-second (take first notes₂) part post 0 i (omega (arith, q.long))
              ∙ q.done w.text (coming (omega arith)) i h
              ∙ text-is octets notes first start end count b w (omega arith) i h up (a.inner ∙ inner-is octets notes first start end count b w)

          in-post : (i : ℕ) → i < n → get_or after (to + i) 0 ≡ told (to + i)
          in-post i h =
              let z : to + i ≡ length (take first notes₂) + length part + i = omega (arith, lead-long, q.long) in
              ap (λ (k : ℕ). get_or after k 0) z
              ∙ in-third (take first notes₂) part post 0 i
              ∙ ap (λ (l : List ℕ). get_or l i 0) (Post-is first to notes₂ (omega arith))
              ∙ get_or-drop to notes₂ i 0
              ∙ s.done i h
              ∙ ap (λ (m : ℕ). later_note m first b) (same-behind i)
              ∙ behind-is octets notes first start end count b w (from + i) (to + i) (omega (arith, from_is)) (omega (arith, all)) (omega (arith, all))

          each : (i : ℕ) → i < b.count → get_or after i 0 ≡ told i
          each i h =
              by_le first i
              (λ y. by_le to i
              (λ z. subst (λ (k : ℕ). get_or after k 0 ≡ told k) (omega arith) (in-post (i - to) (omega arith)))
              (λ z. subst (λ (k : ℕ). get_or after k 0 ≡ told k) (omega arith) (in-part (i - first) (omega arith))))
              (λ y. in-lead i y)

          renoted-by : Holds after b.count w.new
          renoted-by =
              let l : length (take b.count after) ≡ b.count = length-take-le b.count after (omega (arith, after-long, w.room)) in
              record {
                counted = w.new_counted;
                kept = ext_get_or 0 (take b.count after) (noted w.new) (omega (arith, l, noted-length w.new, w.new_counted))
                    (λ i h. get_or-take b.count after i 0 (omega (arith, l)) ∙ each i (omega (arith, l)) ∙ sym (noted-at w.new i (omega (arith, l, w.new_counted))));
                short = omega (arith, w.new_long, w.fit.short);
              }

  pub renoted : (notes₁ : List ℕ) (up : ℕ) → Grown notes first end b notes₁ up
      → (notes₂ : List ℕ) → Shifted notes₁ first (b.held - (b.count - (first + count))) (first + count) (b.count - (first + count)) b notes₂
      → (part : List ℕ) → Entered octets (length (take (first + count - first) (drop first notes₂))) start first up part
      → Renoted octets notes first start end count b (put_mid first (first + count - first) notes₂ part)
  renoted notes₁ up a notes₂ s part p = record { held = λ w. renoted-by w notes₁ up a notes₂ s part p }
