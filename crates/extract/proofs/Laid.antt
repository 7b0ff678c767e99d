-- The rows of a tree as they lie in its octets: one after another, and those of a list's elements inside it.
use Prim.Native.Nat.{ℕ, zero, suc, ◌+◌, ◌-◌, ◌≤◌, ◌<◌}
use native.Mathlib.Omega.{arith}
use mathlib.Core.Path.{◌≡◌, refl, sym, subst}
use mathlib.Core.List.{List, [], ◌∷◌, ◌++◌, append_assoc, append-nil}
use lib.ListN.{length, drop, length-append, length-drop}
use lib.Seq.{drop_at, drop-cons}
use Rattle.model.specs.Table.{Row, rows, rowss, row_of, plain_row, list_row}
use Rattle.model.specs.Tree.{Tree, plain, hinted, list, Forest, nil, cons, verbatim, canon, canons, nodes}
use Rattle.model.proofs.Sizes.{verbatim-length}
use Rattle.walk.proofs.Tabled.{rows-length, rowss-length}

-- rows whose data begin at a place or later, and end before n; past the rows of its elements, those after a row's data
pub data Laid (n : ℕ) : ℕ → List Row → Type 0 where
  laid_none : {q : ℕ} → Laid n q []
  laid_one : {q : ℕ} {r : Row} {rs : List Row} → q ≤ r.data_start → r.data_start ≤ r.data_end → r.data_end ≤ n → 1 ≤ r.count → r.count ≤ 1 + length rs
      → Laid n r.data_end (drop (r.count - 1) rs) → Laid n q rs → Laid n q (r ∷ rs)

row_laid : {n : ℕ} (q : ℕ) (r : Row) (rs : List Row) → q ≤ r.data_start → r.data_start ≤ r.data_end → r.data_end ≤ n → 1 ≤ r.count → r.count ≤ 1 + length rs
    → Laid n r.data_end (drop (r.count - 1) rs) → Laid n q rs → Laid n q (r ∷ rs)
row_laid q r rs a b c d e f g = laid_one a b c d e f g

pub laid-back : {n : ℕ} (q p : ℕ) (rs : List Row) → p ≤ q → Laid n q rs → Laid n p rs
laid-back q p [] h l = laid_none
laid-back q p (r ∷ rs) h (laid_one a b c d e f g) = let i : p ≤ r.data_start = omega arith in laid_one i b c d e f (laid-back q p rs h g)

-- a list's octets
pub list-long : (f : Forest) → length (canon (list f)) ≡ length (canons f) + 2
unfolding canon
list-long f = let l = length-append (canons f) (41 ∷ []) in omega arith

hinted-long : (h d : List ℕ) → length (canon (hinted h d)) ≡ length (verbatim h) + length (verbatim d) + 2
unfolding canon
hinted-long h d = let l = length-append (verbatim h) (93 ∷ verbatim d) in omega arith

hopped : (f : Forest) (at : ℕ) (rs : List Row) → drop (nodes (list f) - 1) (rowss f at ++ rs) ≡ rs
unfolding nodes
hopped f at rs = drop_at (rowss f at) rs (nodes (list f) - 1) (omega (arith, rowss-length f at))

pub cons-long : (t : Tree) (f : Forest) → length (canons (cons t f)) ≡ length (canon t) + length (canons f)
unfolding canons
cons-long t f = length-append (canon t) (canons f)

module _ (n : ℕ) where
  -- a string's row, which is all of its rows
  laid-string : (r : Row) (q p : ℕ) (rs : List Row) → q ≤ r.data_start → r.data_start ≤ r.data_end → r.data_end ≡ p → r.count ≡ 1 → p ≤ n → Laid n p rs → Laid n q (r ∷ rs)
  laid-string r q p rs a b e c h l =
      row_laid q r rs a b (omega arith) (omega arith) (omega arith)
      (subst (λ (k : ℕ). Laid n r.data_end (drop (k - 1) rs)) (sym c) (laid-back p r.data_end rs (omega arith) l))
      (laid-back p q rs (omega arith) l)

  laid-plain : (d : List ℕ) (at : ℕ) (rs : List Row) → at + length (canon (plain d)) ≤ n → Laid n (at + length (canon (plain d))) rs → Laid n at (rows (plain d) at ++ rs)
  unfolding canon rows
  laid-plain d at rs h l = laid-string _ at _ rs (omega arith) (omega (arith, verbatim-length d)) refl refl h l

  laid-hinted : (x d : List ℕ) (at : ℕ) (rs : List Row) → at + length (canon (hinted x d)) ≤ n → Laid n (at + length (canon (hinted x d))) rs → Laid n at (rows (hinted x d) at ++ rs)
  unfolding rows
  laid-hinted x d at rs h l = laid-string _ at _ rs (omega (arith, verbatim-length x)) (omega (arith, verbatim-length d)) (omega (arith, hinted-long x d)) refl h l

  -- a list's row, and those of its elements
  counted : (f : Forest) → 1 ≤ nodes (list f)
  unfolding nodes
  counted f = omega arith

  within : (f : Forest) (at : ℕ) (rs : List Row) → nodes (list f) ≤ 1 + length (rowss f at ++ rs)
  unfolding nodes
  within f at rs = omega (arith, rowss-length f at, length-append (rowss f at) rs)

  laid-list : (f : Forest) (at : ℕ) (rs : List Row) → at + length (canon (list f)) ≤ n → Laid n (at + length (canon (list f))) rs → Laid n (at + 1) (rowss f (at + 1) ++ rs) → Laid n at (rows (list f) at ++ rs)
  unfolding rows
  laid-list f at rs h l g =
      row_laid at (list_row at (at + length (canon (list f))) (nodes (list f))) (rowss f (at + 1) ++ rs) (omega arith) (omega (arith, list-long f)) (omega arith) (counted f) (within f (at + 1) rs)
      (rw (hopped f (at + 1) rs) (laid-back (at + length (canon (list f))) _ rs (omega (arith, list-long f)) l))
      (laid-back (at + 1) at _ (omega arith) g)

  laid_nil : (at : ℕ) (rs : List Row) → Laid n (at + length (canons nil)) rs → Laid n at (rowss nil at ++ rs)
  unfolding rowss
  laid_nil at rs l = laid-back _ at rs (omega arith) l

  laid_cons : (t : Tree) (f : Forest) (at : ℕ) (rs : List Row) → Laid n at (rows t at ++ (rowss f (at + length (canon t)) ++ rs)) → Laid n at (rowss (cons t f) at ++ rs)
  unfolding rowss
  laid_cons t f at rs l = subst (Laid n at) (sym (append_assoc (rows t at) (rowss f (at + length (canon t))) rs)) l

  mutual
    pub laid-tree : (t : Tree) (at : ℕ) (rs : List Row) → at + length (canon t) ≤ n → Laid n (at + length (canon t)) rs → Laid n at (rows t at ++ rs)
    laid-tree (plain d) at rs h l = laid-plain d at rs h l
    laid-tree (hinted x d) at rs h l = laid-hinted x d at rs h l
    laid-tree (list f) at rs h l =
        laid-list f at rs h l
        (laid-forest f (at + 1) rs (omega (arith, list-long f)) (laid-back (at + length (canon (list f))) _ rs (omega (arith, list-long f)) l))

    pub laid-forest : (f : Forest) (at : ℕ) (rs : List Row) → at + length (canons f) ≤ n → Laid n (at + length (canons f)) rs → Laid n at (rowss f at ++ rs)
    laid-forest nil at rs h l = laid_nil at rs l
    laid-forest (cons t f) at rs h l =
        laid_cons t f at rs
        (laid-tree t at (rowss f (at + length (canon t)) ++ rs) (omega (arith, cons-long t f))
        (laid-forest f (at + length (canon t)) rs (omega (arith, cons-long t f)) (laid-back (at + length (canons (cons t f))) _ rs (omega (arith, cons-long t f)) l)))

-- the rows of a whole tree
pub laid-whole : (t : Tree) → Laid (length (canon t)) 0 (rows t 0)
laid-whole t = subst (Laid (length (canon t)) 0) (append-nil (rows t 0)) (laid-tree (length (canon t)) t 0 [] (omega arith) laid_none)

-- ---- the first of rows that lie so

pub record Heading (n q : ℕ) (r : Row) (rs : List Row) : Type 0 where
  pub after : q ≤ r.data_start
  pub ordered : r.data_start ≤ r.data_end
  pub inside : r.data_end ≤ n
  pub some : 1 ≤ r.count
  pub within : r.count ≤ 1 + length rs
  pub hop : Laid n r.data_end (drop (r.count - 1) rs)
  pub rest : Laid n q rs

pub laid-head : {n q : ℕ} (r : Row) (rs : List Row) → Laid n q (r ∷ rs) → Heading n q r rs
laid-head r rs (laid_one a b c d e f g) = record { after = a; ordered = b; inside = c; some = d; within = e; hop = f; rest = g }

pub laid-drop : {n q : ℕ} (k : ℕ) (rs : List Row) → Laid n q rs → Laid n q (drop k rs)
laid-drop zero rs l = l
laid-drop (suc k) [] l = laid_none
laid-drop (suc k) (r ∷ rs) (laid_one a b c d e f g) = laid-drop k rs g

-- the rows from a node on
module _ (t : Tree) (k : ℕ) (h : k < nodes t) where
  pub rows-from : drop k (rows t 0) ≡ row_of t k ∷ drop (suc k) (rows t 0)
  rows-from = drop-cons (rows t 0) k (plain_row 0 0 0) (omega (arith, rows-length t 0))

  pub node-heads : {n q : ℕ} → Laid n q (drop k (rows t 0)) → Heading n q (row_of t k) (drop (suc k) (rows t 0))
  node-heads {n} {q} l = laid-head (row_of t k) (drop (suc k) (rows t 0)) (subst (Laid n q) rows-from l)

  -- those of its elements are lent too
  pub node-within : {n q : ℕ} → Heading n q (row_of t k) (drop (suc k) (rows t 0)) → k + (row_of t k).count ≤ nodes t
  node-within s = omega (arith, s.within, length-drop (suc k) (rows t 0), rows-length t 0)
