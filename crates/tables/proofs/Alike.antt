-- Two records compared, number by number; a record taken from a table.
use Prim.Native.Nat.{ℕ, zero, suc, ◌+◌, ◌*◌, ◌≤◌, ◌<◌}
use native.Mathlib.Omega.{arith}
use mathlib.Core.Path.{◌≡◌, refl, sym, ap, ◌∙◌}
use mathlib.Core.Bool.{Bool, true, false, ◌&&◌}
use mathlib.Core.List.{List}
use lib.ListN.{length, get_or}
use lib.Seq.{ext_get_or}
use lib.Dec.{eqb}
use Rattle.base.specs.Choice.{both, equal}
use Rattle.base.proofs.Cases.{by-eq}
use Rattle.model.specs.Table.{width}
use Rattle.walk.specs.Events.{record_at}
use Rattle.tables.specs.Rows.{row_list, record_list, RowAt}
use Rattle.tables.specs.declared.rows.Row.{Row}
use Rattle.tables.proofs.Records.{record-at, record-length}

-- nine tests, grouped as a list has them, and as a record and what is around it have them
nine : (a b c d e f g h i : Bool) → both a (both b (both c (both d (both e (both f (both g (both h (both i true)))))))) ≡ ((a && (b && (c && (d && (e && (f && (g && h))))))) && i)
nine false b c d e f g h i = refl
nine true false c d e f g h i = refl
nine true true false d e f g h i = refl
nine true true true false e f g h i = refl
nine true true true true false f g h i = refl
nine true true true true true false g h i = refl
nine true true true true true true false h i = refl
nine true true true true true true true false i = refl
nine true true true true true true true true false = refl
nine true true true true true true true true true = refl

-- their lists are the same where the records and what is around them are
pub alike : (one : Row) (up : ℕ) (other : Row) (over : ℕ)
    → equal (record_list one up) (record_list other over)
    ≡ ((eqb one.kind other.kind && (eqb one.start other.start && (eqb one.end other.end && (eqb one.nodes other.nodes && (eqb one.hint_start other.hint_start
    && (eqb one.hint_end other.hint_end && (eqb one.data_start other.data_start && eqb one.data_end other.data_end))))))) && eqb up over)
unfolding equal
alike one up other over =
    nine (eqb one.kind other.kind) (eqb one.start other.start) (eqb one.end other.end) (eqb one.nodes other.nodes) (eqb one.hint_start other.hint_start)
    (eqb one.hint_end other.hint_end) (eqb one.data_start other.data_start) (eqb one.data_end other.data_end) (eqb up over)

-- ---- a record taken from a table

pub row-taken : (table : List ℕ) (node : ℕ) (r : Row) → r.kind ≡ get_or table (node * 9) 0 → r.start ≡ get_or table (node * 9 + 1) 0 → r.end ≡ get_or table (node * 9 + 2) 0 → r.nodes ≡ get_or table (node * 9 + 3) 0
    → r.hint_start ≡ get_or table (node * 9 + 4) 0 → r.hint_end ≡ get_or table (node * 9 + 5) 0 → r.data_start ≡ get_or table (node * 9 + 6) 0 → r.data_end ≡ get_or table (node * 9 + 7) 0
    → RowAt table node r
row-taken table node r a b c d e f g h = record { is = at_each }
  where
    at_each : (i : ℕ) → i < 8 → get_or (row_list r) i 0 ≡ get_or table (node * width + i) 0
    at_each zero z = let y : node * 9 ≡ node * 9 + 0 = omega arith in a ∙ ap (λ (i : ℕ). get_or table i 0) y
    at_each (suc zero) z = b
    at_each (suc (suc zero)) z = c
    at_each (suc (suc (suc zero))) z = d
    at_each (suc (suc (suc (suc zero)))) z = e
    at_each (suc (suc (suc (suc (suc zero))))) z = f
    at_each (suc (suc (suc (suc (suc (suc zero)))))) z = g
    at_each (suc (suc (suc (suc (suc (suc (suc zero))))))) z = h
    at_each (suc (suc (suc (suc (suc (suc (suc (suc i)))))))) z = absurd (omega arith)

-- with its last number it is the table's
pub taken : (table : List ℕ) (node : ℕ) (r : Row) (up : ℕ) → width * (node + 1) ≤ length table → RowAt table node r → up ≡ get_or table (node * width + 8) 0 → record_at table node ≡ record_list r up
taken table node r up h w e =
    ext_get_or 0 (record_at table node) (record_list r up) (record-length table node h)
    (λ i l.
    let k : i < 9 = omega (arith, record-length table node h) in
    record-at table node i k ∙ by-eq i 8 (λ z. rw z (sym e)) (λ z. sym (w.is i (omega arith)) ∙ first i (omega arith)))
  where
    first : (i : ℕ) → i < 8 → get_or (row_list r) i 0 ≡ get_or (record_list r up) i 0
    first zero z = refl
    first (suc zero) z = refl
    first (suc (suc zero)) z = refl
    first (suc (suc (suc zero))) z = refl
    first (suc (suc (suc (suc zero)))) z = refl
    first (suc (suc (suc (suc (suc zero))))) z = refl
    first (suc (suc (suc (suc (suc (suc zero)))))) z = refl
    first (suc (suc (suc (suc (suc (suc (suc zero))))))) z = refl
    first (suc (suc (suc (suc (suc (suc (suc (suc i)))))))) z = absurd (omega arith)
