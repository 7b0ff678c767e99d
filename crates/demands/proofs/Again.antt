-- One correction after another: the sheet has its own table again, and what the second leaves is what it would have left in the first one's
-- place.
use Prim.Native.Nat.{ℕ, ◌*◌, ◌≤◌, ◌<◌, max}
use native.Mathlib.Omega.{arith}
use mathlib.Core.Path.{◌≡◌, refl, sym, ap, ◌∙◌}
use mathlib.Core.Bool.{Bool}
use mathlib.Core.Option.{Option, some}
use mathlib.Core.List.{List}
use lib.ListN.{length, get_or, get_or-append}
use lib.Seq.{ext_get_or}
use borrow.Author.Tests.{le-ltb, eq-eqb}
use Rattle.base.specs.Choice.{equal, chain}
use Rattle.base.proofs.Cases.{by_le, picked, unpicked, true-both}
use Rattle.base.proofs.Lists.{equal-same}
use Rattle.model.specs.Answers.{settled, fitting, sheet_tree, owns, own_tree, Outcome, filled}
use Rattle.model.specs.Decode.{decode₁}
use Rattle.model.specs.Table.{width, table_of}
use Rattle.model.specs.Tree.{Tree, Forest, canon, nodes}
use Rattle.model.proofs.Exact.{canon-complete}
use Rattle.walk.proofs.Tabled.{table-length}
use Rattle.lookup.proofs.Sheets.{fitted}
use Rattle.demands.specs.Conditions.{Room}
use Rattle.demands.specs.Corrections.{Correction}
use Rattle.demands.proofs.Afresh.{corrected-sheet, corrected-table, corrected-octets, corrected-count}
use Rattle.demands.proofs.Space.{settled-zero, settled-rest, settled-length, canonical-long}

-- ---- new contents twice
settled-front : (lent new : List ℕ) (old i : ℕ) → i < length new → get_or (settled lent old new) i 0 ≡ get_or new i 0
unfolding settled
settled-front lent new old i h = get_or-append new _ 0 i h

module _ (c x y : List ℕ) (a : ℕ) (used : a ≤ length c) (first : length x ≤ length c) (second : length y ≤ length c) where
  settled-twice : settled (settled c a x) (length x) y ≡ settled c (max a (length x)) y
  settled-twice =
      let long : length (settled c a x) ≡ length c = settled-length c x a (length x) refl used first in
      ext_get_or 0 (settled (settled c a x) (length x) y) (settled c (max a (length x)) y)
      (settled-length (settled c a x) y (length x) (length y) refl (omega arith) (omega arith) ∙ long ∙ sym (settled-length c y (max a (length x)) (length y) refl (omega arith) second))
      (λ i h.
      by_le (length y) i
      (λ j.
      by_le (max a (length x)) i
      (λ l. settled-rest (settled c a x) y (length x) (length y) refl i j (omega arith) 0
      ∙ settled-rest c x a (length x) refl i (omega arith) (omega arith) 0
      ∙ sym (settled-rest c y (max a (length x)) (length y) refl i j l 0))
      (λ l. behind i j l ∙ sym (settled-zero c y (max a (length x)) (length y) refl i j l 0)))
      (λ j. settled-front (settled c a x) y (length x) i j ∙ sym (settled-front c y (max a (length x)) i j)))
    where
      behind : (i : ℕ) → length y ≤ i → i < max a (length x) → get_or (settled (settled c a x) (length x) y) i 0 ≡ 0
      behind i j l =
          by_le (length x) i
          (λ m. settled-rest (settled c a x) y (length x) (length y) refl i j m 0 ∙ settled-zero c x a (length x) refl i m (omega arith) 0)
          (λ m. settled-zero (settled c a x) y (length x) (length y) refl i j m 0)

-- the table, too
records-fit : (t : Tree) (canonical table : List ℕ) → Room t canonical table → length (table_of t) ≤ length table
records-fit t canonical table r = omega (arith, table-length t, r.recorded)

pub filled-twice : (canonical table : List ℕ) (len count : ℕ) (t u : Tree) → len ≤ length canonical → width * count ≤ length table → Room t canonical table → Room u canonical table
    → filled u (filled t len count canonical table).octets (filled t len count canonical table).count (filled t len count canonical table).canonical (filled t len count canonical table).table
    ≡ filled u (max len (length (canon t))) (max count (nodes t)) canonical table
unfolding filled
filled-twice canonical table len count t u h k r s =
    let a = settled-twice canonical (canon t) (canon u) len h r.roomy s.roomy in
    let w : width * max count (nodes t) ≡ max (width * count) (length (table_of t)) = omega (arith, table-length t) in
    let b = settled-twice table (table_of t) (table_of u) (width * count) k (records-fit t canonical table r) (records-fit u canonical table s) in
    rw (a, w, ← table-length t, b)

-- ---- the sheet has its own table again
module _ {canonical table : List ℕ} {len count : ℕ} {old now : Tree} {k n s e : ℕ} {new : Forest} {holding : ℕ → Bool} {answer : Outcome}
    (c : Correction canonical table len count old now k n s e new holding answer) where
  sheet-again : sheet_tree answer.canonical answer.octets ≡ some now
  unfolding sheet_tree chain fitting
  sheet-again =
      unpicked _ _ (le-ltb (length answer.canonical) answer.octets (omega (arith, canonical-long c, corrected-octets c, c.room.roomy)))
      ∙ ap (λ (o : Option Tree). chain o fitting) (ap decode₁ (corrected-sheet c) ∙ canon-complete now)
      ∙ picked _ _ (fitted now c.room.shallow c.room.small)

  pub own-again : own_tree answer.canonical answer.octets answer.table answer.count ≡ some now
  unfolding own_tree chain owns
  own-again =
      ap (λ (o : Option Tree). chain o (owns answer.table answer.count)) sheet-again
      ∙ picked _ _ (true-both (eq-eqb _ _ (corrected-count c)) (ap (λ (l : List ℕ). equal l (table_of now)) (corrected-table c) ∙ equal-same (table_of now)))
