-- Runs of octets written into lent space.
use Prim.Native.Nat.{ℕ, suc, ◌+◌, ◌≤◌, ◌<◌}
use native.Mathlib.Omega.{arith}
use mathlib.Core.Path.{◌≡◌, refl, sym, ap, ◌∙◌}
use mathlib.Core.List.{List}
use lib.ListN.{length, take, drop, get_or, length-drop, set, length-set, drop_of_length-le}
use lib.Seq.{sets, drop-cons, get_or-drop, get_or-take, length-take-le}
use native.Mathlib.Numerals.{add-one}
use Rattle.scan.specs.Writes.{Wrote}

-- a copy so far
pub record Copying (src : List ℕ) (from len : ℕ) (out₀ : List ℕ) (pos : ℕ) (out : List ℕ) (k : ℕ) : Type 0 where
  pub few : k ≤ len
  pub long : length out ≡ length out₀
  pub same : sets out (pos + k) (drop k (take len (drop from src))) ≡ sets out₀ pos (take len (drop from src))

pub copy-none : (src : List ℕ) (from len : ℕ) (out : List ℕ) (pos : ℕ) → Copying src from len out pos out 0
copy-none src from len out pos = let z : pos + 0 ≡ pos = omega arith in record { few = omega arith; long = refl; same = rw z }

module _ (src : List ℕ) (from len : ℕ) (out₀ : List ℕ) (pos : ℕ) (out : List ℕ) (k : ℕ) (g : Copying src from len out₀ pos out k) (room : from + len ≤ length src) where
  taken : length (take len (drop from src)) ≡ len
  taken = length-take-le len (drop from src) (omega (arith, length-drop from src))

  pub copy-on : k < len → Copying src from len out₀ pos (set out (pos + k) (get_or src (from + k) 0)) (k + 1)
  copy-on h =
      let z : pos + (k + 1) ≡ suc (pos + k) = omega arith in
      let e : get_or (take len (drop from src)) k 0 ≡ get_or src (from + k) 0 = get_or-take len (drop from src) k 0 h ∙ get_or-drop from src k 0 in
      record {
        few = omega arith;
        long = length-set out (pos + k) _ ∙ g.long;
        same = rw (z, add-one k, ← e) (ap (sets out (pos + k)) (sym (drop-cons (take len (drop from src)) k 0 (omega (arith, taken)))) ∙ g.same);
      }

  pub copy-end : len ≤ k → Wrote (take len (drop from src)) pos out₀ out (pos + len)
  copy-end h =
      let l : length (take len (drop from src)) ≤ k = omega (arith, taken) in
      record { place = omega (arith, taken); same = ap (sets out (pos + k)) (sym (drop_of_length-le (take len (drop from src)) l)) ∙ g.same }
