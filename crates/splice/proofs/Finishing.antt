-- The functions' needs.
use Prim.Native.Nat.{ℕ, ◌+◌, ◌*◌, ◌-◌, ◌≤◌, ◌<◌, max}
use native.Mathlib.Omega.{arith}
use mathlib.Core.Path.{◌≡◌, refl, sym, ap, ap₂, ◌∙◌}
use mathlib.Core.List.{List, ◌++◌}
use lib.ListN.{length, length-replicate, take, drop, replicate}
use lib.Seq.{sets, sets-eq}
use borrow.Rule.Slice.PartMut.{put_mid}
use Rattle.std.proofs.lemmas.List.{take_all}
use Rattle.std.proofs.lemmas.Slice.{put_mid-paste}
use Rattle.model.specs.Table.{width, table_of}
use Rattle.walk.proofs.Tabled.{table-length}
use Rattle.tables.specs.Told.{Filled}
use Rattle.splice.specs.Rewritten.{Movable, Ended, Retellable, Retold}
use Rattle.splice.proofs.Spliced.{zeroed}

-- ---- gap
module _ (c c' : List ℕ) (start end len n : ℕ) (g : Movable (length c) start end len n) where
  pub raised : end - start < n → c' ≡ sets c (end + (n - (end - start))) (take (len - end) (drop end c)) → c' ≡ sets c (start + n) (take (len - end) (drop end c))
  raised h e = let z : end + (n - (end - start)) ≡ start + n = omega (arith, g.ordered) in e ∙ ap (λ (m : ℕ). sets c m (take (len - end) (drop end c))) z

  pub lowered : n ≤ end - start → c' ≡ sets c (end - ((end - start) - n)) (take (len - end) (drop end c)) → c' ≡ sets c (start + n) (take (len - end) (drop end c))
  lowered h e = let z : end - ((end - start) - n) ≡ start + n = omega (arith, g.ordered) in e ∙ ap (λ (m : ℕ). sets c m (take (len - end) (drop end c))) z

-- zeros written to a part, as `fill` leaves them
pub zeros-put : (l part : List ℕ) (from n : ℕ) → from + n ≤ length l → part ≡ replicate n 0 → put_mid from n l part ≡ sets l from (replicate n 0)
zeros-put l part from n h e =
    let k : length (replicate n 0) ≡ n = length-replicate n 0 in
    put_mid-paste from n l part (replicate n 0) n e refl (sym k)
    ∙ ap (λ (x : List ℕ). take from l ++ x ++ drop (from + n) l) (take_all n (replicate n 0) (omega (arith, k)))
    ∙ sym (sets-eq (replicate n 0) l from (omega (arith, h, k)) ∙ ap (λ (m : ℕ). take from l ++ replicate n 0 ++ drop (from + m) l) k)

-- ---- end
pub ended : (canonical : List ℕ) (old len count m : ℕ) → m ≡ max old len → (canonical' : List ℕ) → canonical' ≡ sets canonical len (replicate (m - len) 0) → Ended canonical old len count canonical' (record { length = len; nodes = count })
ended canonical old len count m e canonical' z =
    let a : m - len ≡ old - len = omega arith in
    record { octets = z ∙ ap (λ (n : ℕ). sets canonical len (replicate n 0)) a; tells = refl }

-- ---- retell
module _ (notes table : List ℕ) (held count : ℕ) (g : Retellable notes (length table) held count) where
  module _ (table₁ : List ℕ) (f : Filled notes count table table₁) (m : ℕ) (e : m ≡ max held count) (table' : List ℕ) (z : table' ≡ sets table₁ (count * width) (replicate (m * width - count * width) 0)) where
    pub retold : Retold notes held count table table'
    retold =
        record {
          is = λ t h.
              let l : length (table_of t) ≡ width * count = omega (arith, table-length t, h.counted) in
              let b : count * width ≡ length (table_of t) = omega arith in
              let d : m * width - count * width ≡ width * held - length (table_of t) = omega arith in
              z ∙ ap (λ (x : List ℕ). sets x (count * width) (replicate (m * width - count * width) 0)) (f.fills t h)
              ∙ ap₂ (λ (p q : ℕ). sets (sets table 0 (table_of t)) p (replicate q 0)) b d
              ∙ zeroed table (table_of t) (width * held) g.old_recorded (omega (arith, l, g.recorded));
        }
