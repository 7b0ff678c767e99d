-- The loop over notes: a table filled from them.
use Prim.Native.Nat.{ℕ, ◌+◌, ◌*◌, ◌≤◌, ◌<◌}
use native.Mathlib.Omega.{arith}
use native.Mathlib.Numerals.{add-one}
use mathlib.Core.Path.{◌≡◌, refl, sym, ap, ap₂, ◌∙◌}
use mathlib.Core.List.{List, [], ◌∷◌, ◌++◌}
use lib.ListN.{length, get_or, take, drop, take-append-drop}
use lib.Seq.{sets, take-suc, take_all, take_at, length-sets, length-take-le}
use Rattle.base.proofs.Stores.{sets-append}
use Rattle.model.specs.Limits.{max_source}
use Rattle.model.specs.Table.{Row, plain_row, width, row_numbers, recorded, rows, row_of, parents, parent_of, flat, table_of}
use Rattle.model.specs.Tree.{Tree, nodes}
use Rattle.walk.proofs.Tabled.{flat_append, flat-length, rows-length, parents-length}
use Rattle.tables.specs.Rows.{record_list, RowIs}
use Rattle.tables.specs.Told.{row_at, parent_part, Readable, Holds, Fillable, Filled}
use Rattle.tables.specs.declared.rows.Row as coded
use Rattle.tables.proofs.Telling.{holds-few, holds_row, holds-parent, holds-readable}

-- ---- the first records of a tree's table

abbrev pub front : Tree → ℕ → List ℕ
front t k = flat (take k (rows t 0)) (take k (parents t 0 0))

pub front_length : (t : Tree) (k : ℕ) → k ≤ nodes t → length (front t k) ≡ width * k
front_length t k h = flat-length (take k (rows t 0)) (take k (parents t 0 0)) ∙ ap (λ (n : ℕ). width * n) (length-take-le k (rows t 0) (omega (arith, rows-length t 0)))

-- as many rows as parents
alike : (t : Tree) (k : ℕ) → k ≤ nodes t → length (take k (parents t 0 0)) ≡ length (take k (rows t 0))
alike t k h =
    length-take-le k (parents t 0 0) (omega (arith, parents-length t 0 0)) ∙ sym (length-take-le k (rows t 0) (omega (arith, rows-length t 0)))

pub front-more : (t : Tree) (k : ℕ) → k < nodes t → front t (k + 1) ≡ front t k ++ recorded (row_of t k) (parent_of t k)
unfolding flat
front-more t k h =
    rw (add-one k)
    (ap₂ flat (take-suc (rows t 0) k (plain_row 0 0 0) (omega (arith, rows-length t 0))) (take-suc (parents t 0 0) k 0 (omega (arith, parents-length t 0 0)))
    ∙ flat_append (take k (rows t 0)) (row_of t k ∷ []) (take k (parents t 0 0)) (parent_of t k ∷ []) (alike t k (omega arith)))

-- they are where the table begins
pub front-take : (t : Tree) (k : ℕ) → k ≤ nodes t → take (width * k) (table_of t) ≡ front t k
unfolding table_of
front-take t k h =
    ap₂ (λ (l : List Row) (p : List ℕ). take (width * k) (flat l p)) (sym (take-append-drop k (rows t 0))) (sym (take-append-drop k (parents t 0 0)))
    ∙ ap (take (width * k)) (flat_append (take k (rows t 0)) (drop k (rows t 0)) (take k (parents t 0 0)) (drop k (parents t 0 0)) (alike t k h))
    ∙ take_at (front t k) (flat (drop k (rows t 0)) (drop k (parents t 0 0))) (width * k) (front_length t k h)

pub front-all : (t : Tree) (k : ℕ) → nodes t ≤ k → front t k ≡ table_of t
unfolding table_of
front-all t k h = ap₂ flat (take_all k (rows t 0) (omega (arith, rows-length t 0))) (take_all k (parents t 0 0) (omega (arith, parents-length t 0 0)))

-- the record that a note tells is the tree's
told : (notes : List ℕ) (n k : ℕ) → k < n → (t : Tree) → Holds notes n t → (r : coded.Row) → RowIs r (row_at notes k) → (up : ℕ) → up ≡ parent_part (get_or notes k 0)
    → record_list r up ≡ recorded (row_of t k) (parent_of t k)
told notes n k h t x r is up u =
    ap₂ (λ (l : List ℕ) (p : ℕ). l ++ (p ∷ [])) (is ∙ ap row_numbers (holds_row notes n t x k h)) (u ∙ holds-parent notes n t x k h)

-- ---- filling

pub record Filling (notes : List ℕ) (n : ℕ) (table₀ table : List ℕ) (k : ℕ) : Type 0 where
  pub given : Fillable notes n (length table₀)
  pub inside : k ≤ n
  pub few : n ≤ max_source
  pub long : length table ≡ length table₀
  pub fits : width * n ≤ length table
  pub same : (t : Tree) → Holds notes n t → table ≡ sets table₀ 0 (front t k)

pub fill_start : (notes : List ℕ) (n : ℕ) (table : List ℕ) → Fillable notes n (length table) → Filling notes n table table 0
unfolding flat
fill_start notes n table g = record { given = g; inside = omega arith; few = holds-few notes n g.tree g.held; long = refl; fits = g.fits; same = λ t h. refl }

module _ (notes : List ℕ) (n : ℕ) (table₀ table : List ℕ) (k : ℕ) (w : Filling notes n table₀ table k) where
  pub fill-long : length table ≡ length table₀
  fill-long = w.long

  pub fill_end : n ≤ k → Filled notes n table₀ table
  fill_end h = record { fills = λ t x. w.same t x ∙ ap (sets table₀ 0) (front-all t k (omega (arith, x.counted))) }

  module _ (h : k < n) where
    pub fill-readable : Readable notes k
    fill-readable = holds-readable notes n w.given.tree w.given.held k h

    pub fill_on : (r : coded.Row) → RowIs r (row_at notes k) → (up : ℕ) → up ≡ parent_part (get_or notes k 0) → (table' : List ℕ) → table' ≡ sets table (width * k) (record_list r up) → Filling notes n table₀ table' (k + 1)
    fill_on r is up u table' e =
        record {
          given = w.given;
          inside = omega arith;
          few = w.few;
          long = ap length e ∙ length-sets table (width * k) (record_list r up) ∙ w.long;
          fits = omega (arith, w.fits, ap length e, length-sets table (width * k) (record_list r up));
          same = λ t x.
              let l : k < nodes t = omega (arith, x.counted) in
              let i : 0 + length (front t k) ≡ width * k = omega (arith, front_length t k (omega arith)) in
              e ∙ ap₂ (λ (a b : List ℕ). sets a (width * k) b) (w.same t x) (told notes n k h t x r is up u)
              ∙ ap (λ (j : ℕ). sets (sets table₀ 0 (front t k)) j (recorded (row_of t k) (parent_of t k))) (sym i)
              ∙ sym (sets-append table₀ (front t k) (recorded (row_of t k) (parent_of t k)) 0)
              ∙ ap (sets table₀ 0) (sym (front-more t k l));
        }
