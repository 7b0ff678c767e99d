-- Reading a number.
use Prim.Native.Nat.{ℕ, suc, ◌+◌, ◌-◌, ◌*◌, ◌^◌, ◌≤◌, ◌<◌}
use native.Mathlib.Omega.{arith}
use native.Mathlib.Nat.{pow-suc, pow-le-pow_right, lt_of_lt_of_le}
use native.Mathlib.Numerals.{add-one}
use mathlib.Core.Path.{◌≡◌, refl, sym, ap, ◌∙◌, subst}
use mathlib.Core.Bool.{Bool, true, false}
use mathlib.Core.List.{List, map}
use lib.Dec.{lit<}
use lib.ListN.{length, get_or}
use lib.Seq.{slice, slice_empty, slice-cons}
use mir.Syntax.{w64}
use mir.Val.{Fits}
use Rattle.typed.specs.Octets.{be, turned}

pub turned-yes : (t : Bool) (b : ℕ) → t ≡ true → (255 - b ≡ turned t b) × (255 - b < 256)
turned-yes t b e = (rw e, omega arith)

pub turned-no : (t : Bool) (b : ℕ) → b < 256 → t ≡ false → (b ≡ turned t b) × (b < 256)
turned-no t b h e = (rw e, h)

-- where the loop stands: at i, with the number n of what it has passed
pub record Reading (src : List ℕ) (start end : ℕ) (turn : Bool) (n i : ℕ) : Type 0 where
  pub from : start ≤ i
  pub upto : i ≤ end
  pub whole : end ≤ length src
  pub short : end ≤ start + 8
  pub small : n < 256 ^ (i - start)
  pub same : be n (map (turned turn) (slice i end src)) ≡ be 0 (map (turned turn) (slice start end src))

one_none : (k : ℕ) → k ≡ 0 → 0 < 256 ^ k
one_none k e = rw e (lit< tt)

pub reading-starts : (src : List ℕ) (start end : ℕ) (turn : Bool) → start ≤ end → end ≤ length src → end ≤ start + 8 → Reading src start end turn 0 start
reading-starts src start end turn a b c = record { from = omega arith; upto = a; whole = b; short = c; small = one_none (start - start) (omega arith); same = refl }

one_more : (n k r : ℕ) → n < 256 ^ k → r < 256 → n * 256 + r < 256 ^ suc k
one_more n k r h l = let p : 256 ^ suc k ≡ 256 ^ k * 256 = pow-suc 256 k in omega arith

below : (n k : ℕ) → n < 256 ^ k → k ≤ 7 → n < 2 ^ 56
below n k h l = let p : 256 ^ k ≤ 256 ^ 7 = pow-le-pow_right (lit< tt) l in lt_of_lt_of_le h p

module _ (src : List ℕ) (start end : ℕ) (turn : Bool) (n i : ℕ) (inv : Reading src start end turn n i) (more : i < end) where
  part : n < 2 ^ 56
  part = below n (i - start) inv.small (omega arith)

  pub mul-fits : Fits w64 (n * 256)
  mul-fits = omega (arith, part)

  pub in_reach : i < length src
  in_reach = omega arith

  pub add-fits : (r : ℕ) → r < 256 → Fits w64 (n * 256 + r)
  add-fits r h = omega (arith, part)

  pub reading-goes : (r : ℕ) → r ≡ turned turn (get_or src i 0) → r < 256 → Reading src start end turn (n * 256 + r) (i + 1)
  unfolding be
  reading-goes r e h = record {
    from = omega arith;
    upto = omega arith;
    whole = inv.whole;
    short = inv.short;
    small = let k : i + 1 - start ≡ suc (i - start) = omega arith in rw k (one_more n (i - start) r inv.small h);
    same = rw (e, add-one i) (sym (ap (λ (l : List ℕ). be n (map (turned turn) l)) (slice-cons i end src 0 more inv.whole)) ∙ inv.same);
  }

pub reading-ends : (src : List ℕ) (start end : ℕ) (turn : Bool) (n i : ℕ) → Reading src start end turn n i → end ≤ i → (n ≡ be 0 (map (turned turn) (slice start end src))) × (n < 256 ^ (end - start))
unfolding be
reading-ends src start end turn n i inv h =
    let e : i ≡ end = omega arith in
    (sym (ap (λ (l : List ℕ). be n (map (turned turn) l)) (ap (λ (x : ℕ). slice x end src) e ∙ slice_empty end src)) ∙ inv.same, subst (λ (x : ℕ). n < 256 ^ (x - start)) e inv.small)
