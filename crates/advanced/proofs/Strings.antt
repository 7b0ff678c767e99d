-- Simple strings at the front.
use Prim.Native.Nat.{ℕ, ◌+◌, ◌-◌, ◌≤◌, ◌<◌}
use native.Mathlib.Omega.{arith}
use mathlib.Core.Path.{◌≡◌, sym, ap, ◌∙◌, subst}
use mathlib.Core.List.{List, []}
use lib.ListN.{length, take, drop, get_or, length-drop}
use lib.Seq.{length-take-le}
use borrow.Author.Tests.{ne_eqb, eq-eqb, lt-leb}
use Rattle.base.proofs.Cases.{unpicked, picked, among-low}
use Rattle.model.specs.Limits.{max_source}
use Rattle.model.specs.Grammar.{rules}
use Rattle.model.specs.Strings.{Read, got, refused, bind, decimal, unbase, marked, sized, after_number, simple}
use Rattle.model.specs.Tree.{verbatim}
use Rattle.model.proofs.Simples.{marked-sound}
use Rattle.model.proofs.Sizes.{marked-size, verbatim-length}
use Rattle.model.proofs.Streams.{between}
use Rattle.octets.specs.Classes.{Class}
use Rattle.scan.specs.Runs.{Ran}
use Rattle.scan.specs.Writes.{Wrote}
use Rattle.scan.proofs.Places.{one-here}
use Rattle.decimal.specs.Numbers.{Valued, Numbered}
use Rattle.decimal.specs.declared.Number.{Number}
use Rattle.std.specs.Prelude.{Option, Some, None, IfSome}
use Rattle.quoted.specs.Pieces.{Unescaped}
use Rattle.advanced.proofs.Found as Found
use Rattle.blocks.specs.Fronts.{Front}
use Rattle.blocks.proofs.Laws.{front-wrote, front-framed}
use Rattle.blocks.proofs.Lengths.{few-digits}
use Rattle.marks.specs.Decoded.{Spacious, Decoded, Decodes}
use Rattle.advanced.specs.Spelled.{Room, Spells}

-- ---- between marks
from-mark : (src : List ℕ) (at pos : ℕ) (a b : List ℕ) (n : ℕ) (r : Option ℕ) (x y : Read (List ℕ)) → y ≡ x → Decodes src x (at + 1) pos a b n r → Decodes src y at pos a b n r
unfolding Decodes
from-mark src at pos a b n None x y e d = e ∙ d
from-mark src at pos a b n (Some next) x y e d = record { octets = d.octets; reads = e ∙ d.reads; on = omega (arith, d.on); within = d.within; front = d.front }

module _ (src : List ℕ) (at pos : ℕ) (a b : List ℕ) (n : ℕ) (r : Option ℕ) where
  pub decode-quoted : get_or src at 0 ≡ 34 → Decodes src (marked rules 34 (drop (at + 1) src)) (at + 1) pos a b n r → Decodes src (marked rules (get_or src at 0) (drop (at + 1) src)) at pos a b n r
  decode-quoted e d = from-mark src at pos a b n r _ _ (rw e) d

  pub decode-hex : get_or src at 0 ≡ 35 → Decodes src (marked rules 35 (drop (at + 1) src)) (at + 1) pos a b n r → Decodes src (marked rules (get_or src at 0) (drop (at + 1) src)) at pos a b n r
  decode-hex e d = from-mark src at pos a b n r _ _ (rw e) d

  pub decode-base : get_or src at 0 ≡ 124 → Decodes src (between 124 (unbase rules) [] (drop (at + 1) src)) (at + 1) pos a b n r → Decodes src (marked rules (get_or src at 0) (drop (at + 1) src)) at pos a b n r
  unfolding marked
  decode-base e d = from-mark src at pos a b n r _ _ (rw e) d

pub decode-none : (src : List ℕ) (at pos : ℕ) (a b : List ℕ) (n : ℕ) → (get_or src at 0 ≡ 34 → ⊥) → (get_or src at 0 ≡ 35 → ⊥) → (get_or src at 0 ≡ 124 → ⊥) → Decodes src (marked rules (get_or src at 0) (drop (at + 1) src)) at pos a b n None
unfolding Decodes
decode-none src at pos a b n p q r = Found.marked-none src at p q r

-- ---- framed by its length
module _ (src : List ℕ) (at pos : ℕ) (out : List ℕ) (h : at < length src) (r : Room src at pos (length out)) where
  pub room-spacious : Spacious src (at + 1) (pos + 3) (length out)
  room-spacious = record { inside = omega arith; space = omega (arith, r.space) }

module _ (src : List ℕ) (at pos : ℕ) (out out₁ : List ℕ) (n : ℕ) (x : Option ℕ) (h : at < length src) (r : Room src at pos (length out))
    (d : Decodes src (marked rules (get_or src at 0) (drop (at + 1) src)) at (pos + 3) out out₁ n x) where
  module _ (next : ℕ) (z : x ≡ Some next) where
    decoded : Decoded src (marked rules (get_or src at 0) (drop (at + 1) src)) at (pos + 3) out out₁ n next
    unfolding Decodes
    decoded = subst (Decodes src (marked rules (get_or src at 0) (drop (at + 1) src)) at (pos + 3) out out₁ n) z d

    counted : n ≡ length decoded.octets
    counted = let w : pos + 3 + n ≡ pos + 3 + length decoded.octets = decoded.front.place in omega arith

    few : n ≤ length src - at
    few = omega (arith, counted, marked-size (marked-sound (get_or src at 0) (drop (at + 1) src) decoded.reads), length-drop (at + 1) src)

    pub frame_small : n ≤ max_source
    frame_small = omega (arith, few, r.short)

    pub frame-room : pos + n + 6 ≤ length out₁
    frame-room = omega (arith, few, r.space, decoded.front.long)

    module _ (out₂ : List ℕ) (e : ℕ) (w : Wrote (verbatim (take n (drop (pos + 3) out₁))) pos out₁ out₂ e) where
      part-size : length (take n (drop (pos + 3) out₁)) ≡ n
      part-size = length-take-le n (drop (pos + 3) out₁) (omega (arith, length-drop (pos + 3) out₁, frame-room))

      wide : length (verbatim (take n (drop (pos + 3) out₁))) ≤ n + 6
      wide = omega (arith, verbatim-length (take n (drop (pos + 3) out₁)), part-size, few-digits (length (take n (drop (pos + 3) out₁))) (omega (arith, part-size, frame_small)))

      front : Front (verbatim decoded.octets) pos out out₂ e
      front = front-framed decoded.octets pos n out out₁ out₂ (pos + 3 + n) e decoded.front counted (front-wrote _ pos e out₁ out₂ w (omega (arith, wide, frame-room)))

      pub framed-some : Spells src (marked rules (get_or src at 0) (drop (at + 1) src)) at pos out out₂ e (Some next)
      unfolding Spells
      framed-some = record { octets = decoded.octets; reads = decoded.reads; on = decoded.on; within = decoded.within; front = front }

      -- with the length that stood before it
      pub sized-some : (k : ℕ) → (get_or src at 0 ≡ 58 → ⊥) → n ≡ k → Spells src (after_number rules k (drop at src)) at pos out out₂ e (Some next)
      unfolding Spells after_number bind sized
      sized-some k c q =
          record {
            octets = decoded.octets;
            reads = ap (after_number rules k) (one-here src at h) ∙ unpicked _ _ (ne_eqb _ _ c) ∙ rw decoded.reads (picked _ _ (eq-eqb _ _ (sym counted ∙ q)));
            on = decoded.on;
            within = decoded.within;
            front = front;
          }

    pub sized-other : (k : ℕ) → (get_or src at 0 ≡ 58 → ⊥) → (n ≡ k → ⊥) → (b : List ℕ) (e : ℕ) → Spells src (after_number rules k (drop at src)) at pos out b e None
    unfolding Spells after_number bind sized
    sized-other k c q b e =
        ap (after_number rules k) (one-here src at h) ∙ unpicked _ _ (ne_eqb _ _ c) ∙ rw decoded.reads (unpicked _ _ (ne_eqb _ _ (λ y. q (counted ∙ y))))

  module _ (z : x ≡ None) (b : List ℕ) (e : ℕ) where
    undecoded : marked rules (get_or src at 0) (drop (at + 1) src) ≡ refused
    unfolding Decodes
    undecoded = subst (Decodes src (marked rules (get_or src at 0) (drop (at + 1) src)) at (pos + 3) out out₁ n) z d

    pub framed-none : Spells src (marked rules (get_or src at 0) (drop (at + 1) src)) at pos out b e None
    unfolding Spells
    framed-none = undecoded

    pub sized-none : (k : ℕ) → (get_or src at 0 ≡ 58 → ⊥) → Spells src (after_number rules k (drop at src)) at pos out b e None
    unfolding Spells after_number bind
    sized-none k c = ap (after_number rules k) (one-here src at h) ∙ unpicked _ _ (ne_eqb _ _ c) ∙ rw undecoded

-- ---- octets that stand in the source
unread : (src : List ℕ) (x : Read (List ℕ)) (at pos : ℕ) (out b : List ℕ) (e : ℕ) → x ≡ refused → Spells src x at pos out b e None
unfolding Spells
unread src x at pos out b e t = t

standing : (src : List ℕ) (x : Read (List ℕ)) (at pos : ℕ) (out out₁ : List ℕ) (len body next e : ℕ) → x ≡ got (take len (drop body src)) (drop next src) → at < next → next ≤ length src → Front (verbatim (take len (drop body src))) pos out out₁ e → Spells src x at pos out out₁ e (Some next)
unfolding Spells
standing src x at pos out out₁ len body next e t h k f = record { octets = take len (drop body src); reads = t; on = h; within = k; front = f }

-- ---- a quoted string in which nothing is escaped
module _ (src : List ℕ) (at pos : ℕ) (out : List ℕ) (e : get_or src at 0 ≡ 34) (r : Option ℕ) (u : IfSome r (Unescaped src (at + 1))) (stop : ℕ) (z : r ≡ Some stop) where
  quoted-plain : Unescaped src (at + 1) stop
  quoted-plain = subst (λ (x : Option ℕ). IfSome x (Unescaped src (at + 1))) z u

  pub quoted-few : at + 2 ≤ stop
  quoted-few = omega (arith, quoted-plain.on)

  pub quoted-within : stop ≤ length src
  quoted-within = quoted-plain.within

  pub quoted-whole : (b : List ℕ) (q : ℕ) → Front (verbatim (take (stop - at - 2) (drop (at + 1) src))) pos out b q → Spells src (marked rules (get_or src at 0) (drop (at + 1) src)) at pos out b q (Some stop)
  quoted-whole b q f =
      let y : stop - (at + 1) - 1 ≡ stop - at - 2 = omega arith in
      standing src _ at pos out b (stop - at - 2) (at + 1) stop q (rw (e, ← y) quoted-plain.is) (omega (arith, quoted-plain.on)) quoted-plain.within f

-- ---- after a number
module _ (src : List ℕ) (at n pos : ℕ) (out : List ℕ) where
  pub after-cut : length src ≤ at → (b : List ℕ) (e : ℕ) → Spells src (after_number rules n (drop at src)) at pos out b e None
  after-cut h b e = unread src _ at pos out b e (Found.after-end src at n h)

  module _ (h : at < length src) (z : get_or src at 0 ≡ 58) where
    pub after-few : length src - (at + 1) < n → (b : List ℕ) (e : ℕ) → Spells src (after_number rules n (drop at src)) at pos out b e None
    after-few k b e = unread src _ at pos out b e (Found.after-short src at n h z k)

    pub after-colon : n ≤ length src - (at + 1) → (b : List ℕ) (e : ℕ) → Front (verbatim (take n (drop (at + 1) src))) pos out b e → Spells src (after_number rules n (drop at src)) at pos out b e (Some (at + 1 + n))
    after-colon k b e f = standing src _ at pos out b n (at + 1) (at + 1 + n) e (Found.after-verbatim src at n h z k) (omega arith) (omega arith) f

-- ---- a string that begins with a number
module _ (src : List ℕ) (at : ℕ) (y : Read ℕ) (r : Option Number) (w : Numbered src y at r) (pos : ℕ) (out : List ℕ) where
  pub number-room : (d : Number) → r ≡ Some d → Room src at pos (length out) → Room src d.next pos (length out)
  unfolding Numbered
  number-room d e m =
      let t : Valued src y at d.value d.next = subst (Numbered src y at) e w in
      record { inside = t.within; short = m.short; space = omega (arith, t.from, m.space) }

  pub number-on : (d : Number) → r ≡ Some d → (b : List ℕ) (e : ℕ) (q : Option ℕ) → Spells src (after_number rules d.value (drop d.next src)) d.next pos out b e q → Spells src (bind y (after_number rules)) at pos out b e q
  unfolding Numbered Spells bind
  number-on d z b e None s = let t : Valued src y at d.value d.next = subst (Numbered src y at) z w in rw t.reads s
  number-on d z b e (Some q) s =
      let t : Valued src y at d.value d.next = subst (Numbered src y at) z w in
      record { octets = s.octets; reads = rw t.reads s.reads; on = omega (arith, s.on, t.from); within = s.within; front = s.front }

  pub number-huge : r ≡ None → (b : List ℕ) (e : ℕ) → Spells src (bind y (after_number rules)) at pos out b e None
  number-huge z b e = unread src _ at pos out b e (Found.counted-huge src at y (subst (Numbered src y at) z w))

-- ---- any
same-spells : (src : List ℕ) (x y : Read (List ℕ)) (at pos : ℕ) (a b : List ℕ) (e : ℕ) (next : Option ℕ) → y ≡ x → Spells src x at pos a b e next → Spells src y at pos a b e next
same-spells src x y at pos a b e next q s = rw q s

module _ (src : List ℕ) (at pos : ℕ) (out : List ℕ) where
  pub simple-cut : length src ≤ at → (b : List ℕ) (e : ℕ) → Spells src (simple rules (drop at src)) at pos out b e None
  simple-cut h b e = unread src _ at pos out b e (Found.simple-end src at h)

  module _ (h : at < length src) (c : ℕ) (k : Class (get_or src at 0) c) (b : List ℕ) (e : ℕ) where
    pub simple-framed : c < 14 → (next : Option ℕ) → Spells src (marked rules (get_or src at 0) (drop (at + 1) src)) at pos out b e next → Spells src (simple rules (drop at src)) at pos out b e next
    unfolding simple
    simple-framed l next s =
        same-spells src _ _ at pos out b e next
        (ap (simple rules) (one-here src at h) ∙ unpicked _ _ (k.digit ∙ lt-leb 18 c (omega arith)) ∙ unpicked _ _ (k.token_start ∙ among-low 14 17 c l)) s

    pub simple-counted : 17 < c → (next : Option ℕ) → Spells src (bind (decimal (get_or src at 0) (drop (at + 1) src)) (after_number rules)) at pos out b e next → Spells src (simple rules (drop at src)) at pos out b e next
    unfolding simple
    simple-counted l next s = same-spells src _ _ at pos out b e next (ap (simple rules) (one-here src at h) ∙ picked _ _ (Found.digit-here src at h c k l)) s

    pub simple-token : 14 ≤ c → c ≤ 17 → (stop : ℕ) → Ran src (at + 1) stop → Front (verbatim (take (stop - at) (drop at src))) pos out b e → Spells src (simple rules (drop at src)) at pos out b e (Some stop)
    simple-token p q stop r f = standing src _ at pos out b (stop - at) at stop e (Found.token-here src at h c k stop p q r) (omega (arith, r.from)) r.within f
