-- Runs of octets written one after the other at the front of scratch, which has sixteen octets more than they take.
use Prim.Native.Nat.{ℕ, ◌+◌, ◌≤◌, ◌<◌}
use native.Mathlib.Omega.{arith}
use mathlib.Core.Path.{◌≡◌, refl, sym, ap, ◌∙◌}
use mathlib.Core.List.{List, [], ◌∷◌, ◌++◌, append_assoc, append-nil}
use lib.ListN.{length, take, length-append, set, length-set}
use Rattle.blocks.specs.Fronts.{Front}
use Rattle.blocks.proofs.Laws.{front-both, front-one}

-- what is left to be written, from o on, behind what stands there, gives what all of it gives from the start
pub record Filling (all : List ℕ) (pos : ℕ) (out₀ out left : List ℕ) (o : ℕ) : Type 0 where
  pub long : length out ≡ length out₀
  pub spare : pos + length all + 16 ≤ length out₀
  pub total : o + length left ≡ pos + length all
  pub same : take o out ++ left ≡ take pos out₀ ++ all

pub fill_start : (all : List ℕ) (pos : ℕ) (out : List ℕ) → pos + length all + 16 ≤ length out → Filling all pos out out all pos
fill_start all pos out h = record { long = refl; spare = h; total = refl; same = refl }

module _ (all : List ℕ) (pos : ℕ) (out₀ out left : List ℕ) (o : ℕ) (p : Filling all pos out₀ out left o) where
  pub fill-long : length out ≡ length out₀
  fill-long = p.long

  module _ (g rest : List ℕ) (e : left ≡ g ++ rest) where
    parts : length left ≡ length g + length rest
    parts = ap length e ∙ length-append g rest

    pub fill-room : o + length g + 16 ≤ length out
    fill-room = omega (arith, p.spare, p.long, p.total, parts)

    pub fill_on : (out' : List ℕ) (r : ℕ) → Front g o out out' r → Filling all pos out₀ out' rest r
    fill_on out' r f =
        record {
          long = f.long ∙ p.long;
          spare = p.spare;
          total = omega (arith, p.total, parts, f.place);
          same = ap (λ (l : List ℕ). l ++ rest) f.same ∙ append_assoc (take o out) g rest ∙ ap (λ (l : List ℕ). take o out ++ l) (sym e) ∙ p.same;
        }

  pub fill_done : left ≡ [] → Front all pos out₀ out o
  fill_done e =
      record {
        place = omega (arith, p.total, ap length e);
        fits = omega (arith, p.total, p.spare);
        long = p.long;
        same = sym (append-nil (take o out)) ∙ ap (λ (l : List ℕ). take o out ++ l) (sym e) ∙ p.same;
      }

-- ---- two octets, and a run between marks

pub front-two : (out : List ℕ) (pos x y : ℕ) → pos + 2 ≤ length out → Front (x ∷ y ∷ []) pos out (set (set out pos x) (pos + 1) y) (pos + 2)
front-two out pos x y h =
    let z : pos + 1 + 1 ≡ pos + 2 = omega arith in
    rw z at (front-both (x ∷ []) (y ∷ []) pos (pos + 1) (pos + 1 + 1) out (set out pos x) (set (set out pos x) (pos + 1) y) (front-one out pos x (omega arith)) (front-one (set out pos x) (pos + 1) y (omega (arith, length-set out pos x))))

module _ (m : ℕ) (g : List ℕ) (pos : ℕ) (out : List ℕ) (h : pos + length g + 18 ≤ length out) where
  pub mark-body : pos + 1 + length g + 16 ≤ length (set out pos m)
  mark-body = omega (arith, length-set out pos m)

  module _ (o : ℕ) (out' : List ℕ) (f : Front g (pos + 1) (set out pos m) out' o) where
    mark-length : length out' ≡ length out
    mark-length = f.long ∙ length-set out pos m

    pub mark-last : o < length out'
    mark-last = omega (arith, mark-length, f.place)

    module _ (n : ℕ) where
      pub mark-long : length (set out' o n) ≡ length out
      mark-long = length-set out' o n ∙ mark-length

      pub mark-both : Front (m ∷ g ++ n ∷ []) pos out (set out' o n) (o + 1)
      mark-both =
          front-both (m ∷ g) (n ∷ []) pos o (o + 1) out out' (set out' o n)
          (front-both (m ∷ []) g pos (pos + 1) o out (set out pos m) out' (front-one out pos m (omega arith)) f) (front-one out' o n mark-last)
