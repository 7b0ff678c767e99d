-- Pieces of a quoted string, and runs of octets that stand for themselves.
use Prim.Native.Nat.{ℕ, ◌+◌, ◌-◌, ◌≤◌, ◌<◌}
use native.Mathlib.Omega.{arith}
use mathlib.Core.Path.{◌≡◌, refl, ap, ◌∙◌, subst}
use mathlib.Core.Bool.{true, false}
use mathlib.Core.List.{List, [], ◌∷◌}
use lib.ListN.{length, take, drop, get_or, drop_of_length-le}
use borrow.Author.Tests.{le-leb, lt-leb, eq-eqb, ne_eqb}
use Rattle.base.proofs.Cases.{differ, picked, unpicked}
use Rattle.model.specs.Octets.{is_printable}
use Rattle.model.specs.Grammar.{rules}
use Rattle.model.specs.Strings.{got, refused, escaped, piece_of, quoted_by, marked}
use Rattle.model.proofs.Quoted.{quoted-end, quoted-next, quoted-none}
use Rattle.octets.specs.Classes.{Class}
use Rattle.scan.specs.Marks.{Stretch, Chunk}
use Rattle.scan.specs.Runs.{Reach}
use Rattle.scan.proofs.Passing.{stretch-none, stretch-on}
use Rattle.scan.proofs.Places.{one-here, part-more}
use Rattle.scan.proofs.Reaching.{reach-by}
use Rattle.std.specs.Prelude.{Option, Some, None}
use Rattle.quoted.specs.Pieces.{Escapes, Quotes}
use Rattle.quoted.specs.declared.escapes.Piece.{Piece}
use Rattle.quoted.specs.declared.escapes.Piece.TheVariants.{One, Gone, Quote}

printed : (b c : ℕ) → is_printable c ≡ false → is_printable b ≡ true → b ≡ c → ⊥
printed b c f t e = differ t (ap is_printable e ∙ f)

not-quote : (b : ℕ) → is_printable b ≡ true → b ≡ 34 → ⊥
unfolding is_printable
not-quote b t = printed b 34 refl t

not-backslash : (b : ℕ) → is_printable b ≡ true → b ≡ 92 → ⊥
unfolding is_printable
not-backslash b t = printed b 92 refl t

plain : (b c : ℕ) → Class b c → 4 ≤ c → is_printable b ≡ true
plain b c k h = k.printable ∙ le-leb 4 c h

not_plain : (b c : ℕ) → Class b c → c < 4 → is_printable b ≡ false
not_plain b c k h = k.printable ∙ lt-leb 4 c h

-- ---- a piece
module _ (src : List ℕ) (at : ℕ) where
  pub piece-end : length src ≤ at → Quotes src at None
  unfolding Quotes marked quoted_by
  piece-end h = ap (marked rules 34) (drop_of_length-le src h)

  module _ (h : at < length src) (p : ℕ) (is : p ≡ get_or src at 0) where
    begins : marked rules 34 (drop at src) ≡ marked rules 34 (p ∷ drop (at + 1) src)
    begins = rw is (ap (marked rules 34) (one-here src at h))

    pub piece-quote : p ≡ 34 → Quotes src at (Some (Quote (at + 1)))
    unfolding Quotes marked
    piece-quote e = record { on = omega arith; within = omega arith; ends = begins ∙ quoted-end p (drop (at + 1) src) e }

    module _ (n : p ≡ 34 → ⊥) where
      chunk : (g : List ℕ) (next : ℕ) → at < next → next ≤ length src → at + length g ≤ next → piece_of rules (p ∷ drop (at + 1) src) ≡ got g (drop next src) → Chunk (marked rules 34) src at g next
      unfolding marked
      chunk g next i j k e = record { on = i; few = k; within = j; more = begins ∙ quoted-next p (drop (at + 1) src) g (drop next src) n e }

      none_here : piece_of rules (p ∷ drop (at + 1) src) ≡ refused → Quotes src at None
      unfolding Quotes marked
      none_here e = begins ∙ quoted-none p (drop (at + 1) src) n e

      pub piece-escaped : p ≡ 92 → (r : Option Piece) → Escapes src (escaped rules (drop (at + 1) src)) (at + 1) r → Quotes src at r
      unfolding Quotes Escapes piece_of
      piece-escaped e (Some (One o next)) w = chunk (o ∷ []) next (omega (arith, w.on)) w.within (omega (arith, w.on)) (picked _ _ (eq-eqb _ _ e) ∙ w.reads)
      piece-escaped e (Some (Gone next)) w = chunk [] next (omega (arith, w.on)) w.within (omega (arith, w.on)) (picked _ _ (eq-eqb _ _ e) ∙ w.reads)
      piece-escaped e (Some (Quote next)) w = absurd w
      piece-escaped e None w = none_here (picked _ _ (eq-eqb _ _ e) ∙ w)

      module _ (m : p ≡ 92 → ⊥) (c : ℕ) (k : Class p c) where
        pub piece-plain : 4 ≤ c → Quotes src at (Some (One p (at + 1)))
        unfolding Quotes piece_of
        piece-plain l = chunk (p ∷ []) (at + 1) (omega arith) (omega arith) (omega arith) (unpicked _ _ (ne_eqb _ _ m) ∙ picked _ _ (plain _ c k l))

        pub piece-none : c < 4 → Quotes src at None
        unfolding piece_of
        piece-none l = none_here (unpicked _ _ (ne_eqb _ _ m) ∙ unpicked _ _ (not_plain _ c k l))

-- ---- a run of octets that stand for themselves
plain-none : (src : List ℕ) (at : ℕ) → at ≤ length src → Stretch (marked rules 34) src at (take (at - at) (drop at src)) at
plain-none src at h = let z : at - at ≡ 0 = omega arith in rw z (stretch-none (marked rules 34) src at h)

-- a printable octet is a piece
one_plain : (src : List ℕ) (i c : ℕ) → i < length src → Class (get_or src i 0) c → 4 ≤ c → Chunk (marked rules 34) src i (get_or src i 0 ∷ []) (i + 1)
unfolding piece_of
one_plain src i c h k l =
    let q : is_printable (get_or src i 0) ≡ true = plain _ c k l in
    chunk src i h _ refl (not-quote _ q) (get_or src i 0 ∷ []) (i + 1) (omega arith) (omega arith) (omega arith) (unpicked _ _ (ne_eqb _ _ (not-backslash _ q)) ∙ picked _ _ q)

plain_more : (src : List ℕ) (at i c : ℕ) → Stretch (marked rules 34) src at (take (i - at) (drop at src)) i → i < length src → Class (get_or src i 0) c → 4 ≤ c → Stretch (marked rules 34) src at (take (i + 1 - at) (drop at src)) (i + 1)
plain_more src at i c t h k l =
    subst (λ (g : List ℕ). Stretch (marked rules 34) src at g (i + 1)) (part-more src at i t.on h)
    (stretch-on (marked rules 34) src at i _ t (get_or src i 0 ∷ []) (i + 1) (one_plain src i c h k l))

pub plain-reach : (src : List ℕ) (at r : ℕ) → at ≤ length src → Reach src at (length src) 4 r → Stretch (marked rules 34) src at (take (r - at) (drop at src)) r
plain-reach src at r h w =
    reach-by (λ (i : ℕ). Stretch (marked rules 34) src at (take (i - at) (drop at src)) i) src at (length src) 4 r w (plain-none src at h)
    (λ i f l a p. plain_more src at i a.class p (omega (arith, w.within)) a.is a.over)
