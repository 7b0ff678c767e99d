-- Escapes at a place of a source.
use Prim.Native.Nat.{ℕ, ◌+◌, ◌*◌, ◌-◌, ◌≤◌, ◌<◌}
use native.Mathlib.Omega.{arith}
use mathlib.Core.Path.{◌≡◌, refl, sym, ap, ◌∙◌}
use mathlib.Core.Bool.{false}
use mathlib.Core.List.{List, [], ◌∷◌}
use lib.ListN.{length, drop, get_or, length-drop, drop_of_length-le}
use lib.Dec.{leb, ltb}
use borrow.Author.Tests.{lt-ltb, le-ltb, le-leb, lt-leb, eq-eqb, ne_eqb}
use Rattle.base.specs.Choice.{pick}
use Rattle.base.proofs.Cases.{picked, unpicked}
use Rattle.model.specs.Octets.{hexval, octval, escape}
use Rattle.model.specs.Grammar.{rules}
use Rattle.model.specs.Strings.{Read, got, refused, past, hex_of, octal_by, octal_of, escaped}
use Rattle.scan.proofs.Places.{one-here, two_here}
use Rattle.std.specs.Prelude.{Option, Some, None}
use Rattle.octets.specs.Values.{Value}
use Rattle.quoted.specs.Pieces.{Escapes}
use Rattle.quoted.specs.declared.escapes.Piece.{Piece}
use Rattle.quoted.specs.declared.escapes.Piece.TheVariants.{One, Gone, Quote}

three-here : (src : List ℕ) (at : ℕ) → 3 ≤ length src - at → drop (at + 1) src ≡ get_or src (at + 1) 0 ∷ get_or src (at + 2) 0 ∷ drop (at + 3) src
three-here src at h =
    let y : at + 1 + 1 ≡ at + 2 = omega arith in
    let z : at + 1 + 2 ≡ at + 3 = omega arith in
    rw (y, z) at (two_here src (at + 1) (omega arith))

hex-short : (s : List ℕ) → length s < 2 → hex_of s ≡ refused
unfolding hex_of
hex-short [] h = refl
hex-short (a ∷ []) h = refl
hex-short (a ∷ b ∷ s) h = absurd (omega arith)

octal-short : (e : ℕ) (s : List ℕ) → length s < 2 → octal_of e s ≡ refused
unfolding octal_of
octal-short e [] h = refl
octal-short e (b ∷ []) h = refl
octal-short e (b ∷ c ∷ s) h = absurd (omega arith)

module _ (src : List ℕ) (at : ℕ) where
  pub hexed-short : length src - at < 2 → Escapes src (hex_of (drop at src)) at None
  unfolding Escapes
  hexed-short h = hex-short (drop at src) (omega (arith, length-drop at src))

  module _ (h : 2 ≤ length src - at) where
    pub hexed-bad : Value 16 (hexval (get_or src at 0)) None → Escapes src (hex_of (drop at src)) at None
    unfolding Escapes hex_of
    hexed-bad k = ap hex_of (two_here src at h) ∙ unpicked _ _ (le-ltb (hexval (get_or src at 0)) 16 (omega arith))

    module _ (a : ℕ) (x : Value 16 (hexval (get_or src at 0)) (Some a)) where
      pub hexed-bad₂ : Value 16 (hexval (get_or src (at + 1) 0)) None → Escapes src (hex_of (drop at src)) at None
      unfolding Escapes hex_of
      hexed-bad₂ l = ap hex_of (two_here src at h) ∙ picked _ _ (lt-ltb (hexval (get_or src at 0)) 16 (omega (arith, x))) ∙ unpicked _ _ (le-ltb (hexval (get_or src (at + 1) 0)) 16 (omega arith))

      pub hexed-two : (b : ℕ) → Value 16 (hexval (get_or src (at + 1) 0)) (Some b) → Escapes src (hex_of (drop at src)) at (Some (One (a * 16 + b) (at + 2)))
      unfolding Escapes hex_of
      hexed-two b y =
          record {
            on = omega arith;
            within = omega arith;
            reads = ap hex_of (two_here src at h) ∙ picked _ _ (lt-ltb (hexval (get_or src at 0)) 16 (omega (arith, x))) ∙ picked _ _ (lt-ltb (hexval (get_or src (at + 1) 0)) 16 (omega (arith, y))) ∙ rw (x.0, y.0);
          }

  pub octal-cut : at < length src → length src - at < 3 → Escapes src (octal_of (get_or src at 0) (drop (at + 1) src)) at None
  unfolding Escapes
  octal-cut i h = octal-short (get_or src at 0) (drop (at + 1) src) (omega (arith, length-drop (at + 1) src))

  module _ (h : 3 ≤ length src - at) where
    by-octal : octal_of (get_or src at 0) (drop (at + 1) src) ≡ octal_by (octval (get_or src at 0)) (octval (get_or src (at + 1) 0)) (octval (get_or src (at + 2) 0)) (drop (at + 3) src)
    unfolding octal_of
    by-octal = ap (octal_of (get_or src at 0)) (three-here src at h)

    pub octal-bad : Value 8 (octval (get_or src at 0)) None → Escapes src (octal_of (get_or src at 0) (drop (at + 1) src)) at None
    unfolding Escapes octal_by
    octal-bad k = by-octal ∙ unpicked _ _ (le-ltb (octval (get_or src at 0)) 8 (omega arith))

    module _ (a : ℕ) (x : Value 8 (octval (get_or src at 0)) (Some a)) where
      pub octal-bad₂ : Value 8 (octval (get_or src (at + 1) 0)) None → Escapes src (octal_of (get_or src at 0) (drop (at + 1) src)) at None
      unfolding Escapes octal_by
      octal-bad₂ l = by-octal ∙ picked _ _ (lt-ltb (octval (get_or src at 0)) 8 (omega (arith, x))) ∙ unpicked _ _ (le-ltb (octval (get_or src (at + 1) 0)) 8 (omega arith))

      module _ (b : ℕ) (y : Value 8 (octval (get_or src (at + 1) 0)) (Some b)) where
        pub octal-bad₃ : Value 8 (octval (get_or src (at + 2) 0)) None → Escapes src (octal_of (get_or src at 0) (drop (at + 1) src)) at None
        unfolding Escapes octal_by
        octal-bad₃ m =
            by-octal
            ∙ picked _ _ (lt-ltb (octval (get_or src at 0)) 8 (omega (arith, x)))
            ∙ picked _ _ (lt-ltb (octval (get_or src (at + 1) 0)) 8 (omega (arith, y)))
            ∙ unpicked _ _ (le-ltb (octval (get_or src (at + 2) 0)) 8 (omega arith))

        module _ (c : ℕ) (z : Value 8 (octval (get_or src (at + 2) 0)) (Some c)) where
          whole : octal_of (get_or src at 0) (drop (at + 1) src) ≡ pick (leb (a * 64 + b * 8 + c) 255) (got ((a * 64 + b * 8 + c) ∷ []) (drop (at + 3) src)) refused
          unfolding octal_by
          whole =
              by-octal
              ∙ picked _ _ (lt-ltb (octval (get_or src at 0)) 8 (omega (arith, x)))
              ∙ picked _ _ (lt-ltb (octval (get_or src (at + 1) 0)) 8 (omega (arith, y)))
              ∙ picked _ _ (lt-ltb (octval (get_or src (at + 2) 0)) 8 (omega (arith, z)))
              ∙ rw (x.0, y.0, z.0)

          pub octal-over : 255 < a * 64 + b * 8 + c → Escapes src (octal_of (get_or src at 0) (drop (at + 1) src)) at None
          unfolding Escapes
          octal-over n = whole ∙ unpicked _ _ (lt-leb _ _ n)

          pub octal-three : a * 64 + b * 8 + c ≤ 255 → Escapes src (octal_of (get_or src at 0) (drop (at + 1) src)) at (Some (One (a * 64 + b * 8 + c) (at + 3)))
          unfolding Escapes
          octal-three n = record { on = omega arith; within = omega arith; reads = whole ∙ picked _ _ (le-leb _ _ n) }

  module _ (other : ℕ) where
    pub line-end : length src ≤ at → at ≤ length src → Escapes src (got [] (past other (drop at src))) at (Some (Gone at))
    unfolding Escapes past
    line-end h i = record { on = omega arith; within = i; reads = ap (got []) (ap (past other) (drop_of_length-le src h) ∙ sym (drop_of_length-le src h)) }

    pub line-both : at < length src → get_or src at 0 ≡ other → Escapes src (got [] (past other (drop at src))) at (Some (Gone (at + 1)))
    unfolding Escapes past
    line-both h e = record { on = omega arith; within = omega arith; reads = ap (got []) (ap (past other) (one-here src at h) ∙ picked _ _ (eq-eqb _ _ e)) }

    pub line-one : at < length src → (get_or src at 0 ≡ other → ⊥) → Escapes src (got [] (past other (drop at src))) at (Some (Gone at))
    unfolding Escapes past
    line-one h e = record { on = omega arith; within = omega arith; reads = ap (got []) (ap (past other) (one-here src at h) ∙ unpicked _ _ (ne_eqb _ _ e) ∙ sym (one-here src at h)) }

  -- ---- after a backslash
  pub escaped-end : length src ≤ at → Escapes src (escaped rules (drop at src)) at None
  unfolding Escapes escaped
  escaped-end h = ap (escaped rules) (drop_of_length-le src h)

  module _ (h : at < length src) (p : ℕ) (is : p ≡ get_or src at 0) where
    begins : escaped rules (drop at src) ≡ escaped rules (p ∷ drop (at + 1) src)
    begins = rw is (ap (escaped rules) (one-here src at h))

    pub escaped-named : (v : ℕ) → Value 256 (escape p) (Some v) → Escapes src (escaped rules (drop at src)) at (Some (One v (at + 1)))
    unfolding Escapes escaped
    escaped-named v x = record { on = omega arith; within = omega arith; reads = begins ∙ picked _ _ (lt-ltb (escape p) 256 (omega (arith, x))) ∙ rw x.0 }

    module _ (k : Value 256 (escape p) None) where
      unnamed : ltb (escape p) 256 ≡ false
      unnamed = le-ltb (escape p) 256 (omega arith)

      -- the same of an equal reading, from an earlier place
      moved : (y z : Read (List ℕ)) (to : ℕ) (r : Option Piece) → at ≤ to → y ≡ z → Escapes src z to r → Escapes src y at r
      unfolding Escapes
      moved y z to (Some (One o n)) i e p = record { on = omega (arith, p.on); within = p.within; reads = e ∙ p.reads }
      moved y z to (Some (Gone n)) i e p = record { on = omega (arith, p.on); within = p.within; reads = e ∙ p.reads }
      moved y z to (Some (Quote n)) i e p = p
      moved y z to None i e p = e ∙ p

      pub escaped-hex : p ≡ 120 → (r : Option Piece) → Escapes src (hex_of (drop (at + 1) src)) (at + 1) r → Escapes src (escaped rules (drop at src)) at r
      unfolding escaped
      escaped-hex e r w = moved _ _ (at + 1) r (omega arith) (begins ∙ unpicked _ _ unnamed ∙ picked _ _ (eq-eqb _ _ e)) w

      module _ (n : p ≡ 120 → ⊥) where
        pub escaped-cr : p ≡ 13 → (r : Option Piece) → Escapes src (got [] (past 10 (drop (at + 1) src))) (at + 1) r → Escapes src (escaped rules (drop at src)) at r
        unfolding escaped
        escaped-cr e r w = moved _ _ (at + 1) r (omega arith) (begins ∙ unpicked _ _ unnamed ∙ unpicked _ _ (ne_eqb _ _ n) ∙ picked _ _ (eq-eqb _ _ e)) w

        module _ (m : p ≡ 13 → ⊥) where
          pub escaped-lf : p ≡ 10 → (r : Option Piece) → Escapes src (got [] (past 13 (drop (at + 1) src))) (at + 1) r → Escapes src (escaped rules (drop at src)) at r
          unfolding escaped
          escaped-lf e r w =
              moved _ _ (at + 1) r (omega arith) (begins ∙ unpicked _ _ unnamed ∙ unpicked _ _ (ne_eqb _ _ n) ∙ unpicked _ _ (ne_eqb _ _ m) ∙ picked _ _ (eq-eqb _ _ e)) w

          pub escaped-octal : (p ≡ 10 → ⊥) → (r : Option Piece) → Escapes src (octal_of (get_or src at 0) (drop (at + 1) src)) at r → Escapes src (escaped rules (drop at src)) at r
          unfolding escaped
          escaped-octal e r w =
              moved _ _ at r (omega arith)
              (begins ∙ unpicked _ _ unnamed ∙ unpicked _ _ (ne_eqb _ _ n) ∙ unpicked _ _ (ne_eqb _ _ m) ∙ unpicked _ _ (ne_eqb _ _ e) ∙ ap (λ q. octal_of q (drop (at + 1) src)) is) w
