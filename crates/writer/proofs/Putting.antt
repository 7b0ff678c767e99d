-- Runs of octets written one after the other into lent space.
use Prim.Native.Nat.{ℕ, ◌+◌, ◌≤◌}
use native.Mathlib.Omega.{arith}
use mathlib.Core.Path.{◌≡◌, refl, sym, ap, ◌∙◌}
use mathlib.Core.List.{List, [], ◌∷◌, ◌++◌}
use lib.ListN.{length, length-append, set}
use lib.Seq.{sets, length-sets}
use Rattle.base.proofs.Stores.{sets-append}
use Rattle.scan.specs.Writes.{Wrote}

-- what is left to be written, from o on, gives what all of it gives from the start
pub record Putting (all : List ℕ) (pos : ℕ) (out₀ out left : List ℕ) (o : ℕ) : Type 0 where
  pub long : length out ≡ length out₀
  pub fits : o + length left ≤ length out₀
  pub total : o + length left ≡ pos + length all
  pub same : sets out o left ≡ sets out₀ pos all

pub put-start : (all : List ℕ) (pos : ℕ) (out : List ℕ) → pos + length all ≤ length out → Putting all pos out out all pos
put-start all pos out h = record { long = refl; fits = h; total = refl; same = refl }

module _ (all : List ℕ) (pos : ℕ) (out₀ out left : List ℕ) (o : ℕ) (p : Putting all pos out₀ out left o) where
  module _ (g rest : List ℕ) (e : left ≡ g ++ rest) where
    parts : length left ≡ length g + length rest
    parts = ap length e ∙ length-append g rest

    pub put-room : o + length g ≤ length out
    put-room = omega (arith, p.fits, p.long, parts)

    pub put_on : (out' : List ℕ) (r : ℕ) → Wrote g o out out' r → Putting all pos out₀ out' rest r
    put_on out' r w =
        record {
          long = ap length w.same ∙ length-sets out o g ∙ p.long;
          fits = omega (arith, p.fits, parts, w.place);
          total = omega (arith, p.total, parts, w.place);
          same = rw (w.same, w.place) (sym (sets-append out g rest o) ∙ ap (sets out o) (sym e) ∙ p.same);
        }

  pub put-done : left ≡ [] → Wrote all pos out₀ out o
  put-done e = record { place = omega (arith, p.total, ap length e); same = ap (sets out o) (sym e) ∙ p.same }

pub wrote-length : (x : List ℕ) (pos : ℕ) (out out' : List ℕ) (r : ℕ) → Wrote x pos out out' r → length out' ≡ length out
wrote-length x pos out out' r w = ap length w.same ∙ length-sets out pos x

pub wrote_one : (out : List ℕ) (pos x : ℕ) → Wrote (x ∷ []) pos out (set out pos x) (pos + 1)
wrote_one out pos x = record { place = refl; same = refl }

pub wrote-both : (x y : List ℕ) (pos o r : ℕ) (out out' out'' : List ℕ) → Wrote x pos out out' o → Wrote y o out' out'' r → Wrote (x ++ y) pos out out'' r
wrote-both x y pos o r out out' out'' v w =
    record {
      place = omega (arith, v.place, w.place, length-append x y);
      same = w.same ∙ rw (v.same, v.place) (sym (sets-append out x y pos));
    }
