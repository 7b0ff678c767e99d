-- One lexeme in form 3: how long it is, and how it is written.
use Prim.Native.Nat.{ℕ, ◌+◌, ◌≤◌, ◌<◌}
use native.Mathlib.Omega.{arith}
use mathlib.Core.Path.{◌≡◌, sym, ◌∙◌}
use mathlib.Core.Bool.{Bool, true, false}
use mathlib.Core.List.{List, [], ◌∷◌, ◌++◌, append-nil}
use lib.ListN.{length, take, length-append, set, length-set}
use lib.Seq.{take-set-le}
use Rattle.model.specs.Lexemes.{opening, atom, hinting}
use Rattle.model.specs.Write.{shown}
use Rattle.blocks.specs.Fronts.{Front}
use Rattle.blocks.proofs.Laws.{front-both, front-one}
use Rattle.writer.specs.Elements.{gap, bracketed, spelled_one}

-- ---- the space before it

module _ (due : Bool) (out : List ℕ) (pos : ℕ) (h : pos < length out) where
  pub gap-front : due ≡ true → Front (gap due) pos out (set out pos 32) (pos + 1)
  unfolding gap
  gap-front e = rw e (front-one out pos 32 h)

  pub gap-none : due ≡ false → Front (gap due) pos out (set out pos 32) pos
  unfolding gap
  gap-none e =
      rw e
      (record { place = omega arith; fits = omega arith; long = length-set out pos 32; same = take-set-le pos out pos 32 (omega arith) ∙ sym (append-nil (take pos out)) })

-- ---- lengths

open-size : (due : Bool) → length (spelled_one due opening) ≡ length (gap due) + 1
unfolding spelled_one
open-size due = length-append (gap due) (40 ∷ [])

plain_size : (due : Bool) (d : List ℕ) → length (spelled_one due (atom d)) ≡ length (gap due) + length (shown d)
unfolding spelled_one
plain_size due d = length-append (gap due) (shown d)

hinted-size : (due : Bool) (h d : List ℕ) → length (spelled_one due (hinting h d)) ≡ length (gap due) + length (shown h) + length (shown d) + 2
unfolding spelled_one
hinted-size due h d =
    omega (arith, length-append (gap due) (bracketed h ++ shown d), length-append (bracketed h) (shown d), length-append (shown h) (93 ∷ []))

-- ---- octets

module _ (due : Bool) (pos o : ℕ) (out out' : List ℕ) (v : Front (gap due) pos out out' o) where
  module _ (k : pos + length (spelled_one due opening) + 16 ≤ length out) where
    pub open-inside : o < length out'
    open-inside = omega (arith, v.place, v.long, open-size due)

    pub open-front : Front (spelled_one due opening) pos out (set out' o 40) (o + 1)
    unfolding spelled_one
    open-front = front-both (gap due) (40 ∷ []) pos o (o + 1) out out' (set out' o 40) v (front-one out' o 40 open-inside)

  module _ (d : List ℕ) where
    pub plain-rest : pos + length (spelled_one due (atom d)) + 16 ≤ length out → o + length (shown d) + 16 ≤ length out'
    plain-rest k = omega (arith, v.place, v.long, plain_size due d)

    pub plain-front : (out'' : List ℕ) (r : ℕ) → Front (shown d) o out' out'' r → Front (spelled_one due (atom d)) pos out out'' r
    unfolding spelled_one
    plain-front out'' r w = front-both (gap due) (shown d) pos o r out out' out'' v w

  module _ (h d : List ℕ) (k : pos + length (spelled_one due (hinting h d)) + 16 ≤ length out) where
    pub hint-rest : o + length (shown h) + 18 ≤ length out'
    hint-rest = omega (arith, v.place, v.long, hinted-size due h d)

    module _ (out'' : List ℕ) (p : ℕ) (w : Front (bracketed h) o out' out'' p) where
      pub data-rest : p + length (shown d) + 16 ≤ length out''
      data-rest = omega (arith, v.place, v.long, w.place, w.long, length-append (shown h) (93 ∷ []), hinted-size due h d)

      pub hinted-front : (out''' : List ℕ) (r : ℕ) → Front (shown d) p out'' out''' r → Front (spelled_one due (hinting h d)) pos out out''' r
      unfolding spelled_one
      hinted-front out''' r x = front-both (gap due) (bracketed h ++ shown d) pos o r out out' out''' v (front-both (bracketed h) (shown d) o p r out' out'' out''' w x)
