-- S 8.3, of an accepted correction: zeros between the new and a larger old length, in the table likewise, and past both nothing changes.
-- Octet by octet, number by number and record by record. `get_or l i d` is d past the end of l, so what holds for every d is said of what
-- stands there.
use Prim.Native.Nat.{ℕ, ◌+◌, ◌*◌, ◌-◌, ◌≤◌, ◌<◌, max}
use native.Mathlib.Omega.{arith}
use mathlib.Core.Path.{◌≡◌, sym, ap, ◌∙◌}
use mathlib.Core.Bool.{Bool}
use mathlib.Core.List.{List, ◌++◌}
use lib.ListN.{length, take, drop, replicate, get_or, length-append, length-take, length-drop, length-replicate, get_or-replicate, get_or-append}
use lib.Seq.{get_or-append-add, get_or-take, get_or-drop, ext_get_or}
use Rattle.model.specs.Answers.{settled, Outcome, filled}
use Rattle.model.specs.Table.{width, table_of}
use Rattle.model.specs.Tree.{Tree, Forest, canon}
use Rattle.walk.proofs.Tabled.{table-length}
use Rattle.lookup.proofs.Sheets.{Own, own_of}
use Rattle.demands.specs.Conditions.{record_at}
use Rattle.demands.specs.Corrections.{Correction}
use Rattle.demands.proofs.Afresh.{corrected-octets, corrected-count}

-- ---- new contents of length n in lent space of which old elements were in use
module _ (lent new : List ℕ) (old n : ℕ) (e : length new ≡ n) where
  abbrev zeros : ℕ
  zeros = old - length new

  abbrev rest : List ℕ
  rest = drop (max old (length new)) lent

  pub settled-zero : (i : ℕ) → n ≤ i → i < old → (d : ℕ) → get_or (settled lent old new) i d ≡ 0
  unfolding settled
  settled-zero i h k d =
      let j : ℕ = i - length new in
      let s : i ≡ length new + j = omega arith in
      ap (λ (m : ℕ). get_or (settled lent old new) m d) s
      ∙ get_or-append-add new (replicate zeros 0 ++ rest) j d
      ∙ get_or-append (replicate zeros 0) rest d j (omega (arith, length-replicate {A = ℕ} zeros 0))
      ∙ get_or-replicate zeros j 0 d (omega arith)

  pub settled-rest : (i : ℕ) → n ≤ i → old ≤ i → (d : ℕ) → get_or (settled lent old new) i d ≡ get_or lent i d
  unfolding settled
  settled-rest i h k d =
      let j : ℕ = i - max old (length new) in
      let s : i ≡ length new + (length (replicate {A = ℕ} zeros 0) + j) = omega (arith, length-replicate {A = ℕ} zeros 0) in
      let t : max old (length new) + j ≡ i = omega arith in
      ap (λ (m : ℕ). get_or (settled lent old new) m d) s
      ∙ get_or-append-add new (replicate zeros 0 ++ rest) (length (replicate {A = ℕ} zeros 0) + j) d
      ∙ get_or-append-add (replicate zeros 0) rest j d
      ∙ get_or-drop (max old (length new)) lent j d
      ∙ ap (λ (m : ℕ). get_or lent m d) t

  pub settled-length : old ≤ length lent → n ≤ length lent → length (settled lent old new) ≡ length lent
  unfolding settled
  settled-length h k =
      length-append new (replicate zeros 0 ++ rest)
      ∙ omega (arith, length-append (replicate zeros 0) rest, length-replicate {A = ℕ} zeros 0, length-drop (max old (length new)) lent)

-- a record by its numbers
record-by : (a b : List ℕ) (j : ℕ) → width * j + width ≤ length a → width ≤ length b → ((i : ℕ) → i < width → get_or a (width * j + i) 0 ≡ get_or b i 0) → record_at a j ≡ take width b
unfolding record_at
record-by a b j h k f =
    ext_get_or 0 (take width (drop (width * j) a)) (take width b)
    (omega (arith, length-take width (drop (width * j) a), length-drop (width * j) a, length-take width b))
    (λ i l.
    let g : i < width = omega (arith, length-take width (drop (width * j) a)) in
    get_or-take width (drop (width * j) a) i 0 g ∙ get_or-drop (width * j) a i 0 ∙ f i g ∙ sym (get_or-take width b i 0 g))

module _ {canonical table : List ℕ} {len count : ℕ} {old now : Tree} {k n s e : ℕ} {new : Forest} {holding : ℕ → Bool} {answer : Outcome}
    (c : Correction canonical table len count old now k n s e new holding answer) where
  own : Own canonical len table count old
  own = own_of canonical len table count old c.own

  canonical-is : answer.canonical ≡ settled canonical len (canon now)
  unfolding filled
  canonical-is = ap (λ (o : Outcome). o.canonical) c.is

  octets-are : length (canon now) ≡ answer.octets
  octets-are = sym (corrected-octets c)

  table_is : answer.table ≡ settled table (width * count) (table_of now)
  unfolding filled
  table_is = ap (λ (o : Outcome). o.table) c.is

  numbers-are : length (table_of now) ≡ width * answer.count
  numbers-are = table-length now ∙ sym (ap (λ (n : ℕ). width * n) (corrected-count c))

  -- S 8.3: octets between the new and a larger old length are 0
  pub octets-zeroed : (i : ℕ) → answer.octets ≤ i → i < len → (d : ℕ) → get_or answer.canonical i d ≡ 0
  octets-zeroed i h k d = ap (λ (l : List ℕ). get_or l i d) canonical-is ∙ settled-zero canonical (canon now) len answer.octets octets-are i h k d

  -- S 8.3: past both nothing changes
  pub octets-kept : (i : ℕ) → answer.octets ≤ i → len ≤ i → (d : ℕ) → get_or answer.canonical i d ≡ get_or canonical i d
  octets-kept i h k d = ap (λ (l : List ℕ). get_or l i d) canonical-is ∙ settled-rest canonical (canon now) len answer.octets octets-are i h k d

  -- S 8.3: records likewise, by their numbers
  pub numbers-zeroed : (i : ℕ) → width * answer.count ≤ i → i < width * count → (d : ℕ) → get_or answer.table i d ≡ 0
  numbers-zeroed i h k d = ap (λ (l : List ℕ). get_or l i d) table_is ∙ settled-zero table (table_of now) (width * count) (width * answer.count) numbers-are i h k d

  pub numbers-kept : (i : ℕ) → width * answer.count ≤ i → width * count ≤ i → (d : ℕ) → get_or answer.table i d ≡ get_or table i d
  numbers-kept i h k d = ap (λ (l : List ℕ). get_or l i d) table_is ∙ settled-rest table (table_of now) (width * count) (width * answer.count) numbers-are i h k d

  -- the lent space itself is as large as it was
  pub canonical-long : length answer.canonical ≡ length canonical
  canonical-long = ap length canonical-is ∙ settled-length canonical (canon now) len answer.octets octets-are own.sheet.lent (omega (arith, octets-are, c.room.roomy))

  table-held : width * count ≤ length table
  table-held = omega (arith, ap length own.recorded, length-take (width * count) table, table-length old, own.counted)

  pub table-long : length answer.table ≡ length table
  table-long = ap length table_is ∙ settled-length table (table_of now) (width * count) (width * answer.count) numbers-are table-held (omega (arith, table-length now, numbers-are, c.room.recorded))

  -- record by record
  pub records-zeroed : (j : ℕ) → answer.count ≤ j → j < count → record_at answer.table j ≡ replicate width 0
  records-zeroed j h k =
      record-by answer.table (replicate width 0) j (omega (arith, table-long, table-held)) (omega arith)
      (λ i l. numbers-zeroed (width * j + i) (omega arith) (omega arith) 0 ∙ sym (get_or-replicate width i 0 0 l))

  pub records-kept : (j : ℕ) → answer.count ≤ j → count ≤ j → width * j + width ≤ length table → record_at answer.table j ≡ record_at table j
  unfolding record_at
  records-kept j h k l =
      record-by answer.table (drop (width * j) table) j (omega (arith, table-long)) (omega (arith, length-drop (width * j) table))
      (λ i g. numbers-kept (width * j + i) (omega arith) (omega arith) 0 ∙ sym (get_or-drop (width * j) table i 0))
