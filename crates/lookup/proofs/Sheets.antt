-- Whether octets are a sheet, and whether a table is its own.
use Prim.Native.Nat.{ℕ, ◌*◌, ◌/◌, ◌≤◌, ◌<◌}
use native.Mathlib.Omega.{arith}
use mathlib.Core.Path.{◌≡◌, refl, sym, ap, ◌∙◌, subst}
use mathlib.Core.Bool.{true, false, not}
use mathlib.Core.Option.{Option, none, some}
use mathlib.Core.List.{List}
use lib.ListN.{length, take, length-take}
use lib.Seq.{length-take-le}
use lib.Dec.{leb, ltb, eqb}
use borrow.Author.Tests.{le-ltb, le-leb, lt-leb, eqb-true, ltb-false}
use Rattle.model.specs.Limits.{max_canonical, max_depth, most_nodes, max_source}
use Rattle.base.specs.Choice.{both, equal, chain, is_none}
use Rattle.base.proofs.Cases.{by_le, untrue, pick-cases, picked, unpicked, both_true, true-both, some_same, none-some, chain-cases}
use Rattle.base.proofs.Lists.{equal-true}
use Rattle.model.specs.Answers.{fits, fitting, sheet_tree, owns, own_tree}
use Rattle.model.specs.Decode.{decode₁}
use Rattle.model.specs.Table.{width, table_of}
use Rattle.model.specs.Tree.{Tree, canon, nodes, depth}
use Rattle.model.proofs.Exact.{canon-sound}
use Rattle.model.proofs.Laws.{fits-within, fitting-nodes}
use Rattle.walk.specs.Extent.{Wholly, Measures}
use Rattle.walk.proofs.Tabled.{table-length}
use Rattle.walk.specs.Extent.{Measured}
use Rattle.walk.specs.declared.Extent.{Extent}
use Rattle.walk.specs.declared.Broken.{Broken}
use Rattle.std.specs.Prelude.{Ok, Err}

-- ---- the first octets

pub front-short : (c : List ℕ) (n : ℕ) → n ≤ length c → n ≤ max_canonical → length (take n c) ≤ max_source
front-short c n h k = omega (arith, length-take-le n c h)

-- ---- whether there is a tree

pub no-tree : (o : Option Tree) → ((t : Tree) → o ≡ some t → ⊥) → false ≡ not (is_none o)
unfolding is_none
no-tree none f = refl
no-tree (some t) f = absurd (f t refl)

pub a-tree : (o : Option Tree) (t : Tree) → o ≡ some t → true ≡ not (is_none o)
unfolding is_none
a-tree o t e = rw e

pub tree_of : {G : Type 0} (o : Option Tree) → true ≡ not (is_none o) → ((t : Tree) → o ≡ some t → G) → G
unfolding is_none
tree_of none e g = untrue (sym e)
tree_of (some t) e g = g t refl

pub none_of : (o : Option Tree) → false ≡ not (is_none o) → o ≡ none
unfolding is_none
none_of none e = refl
none_of (some t) e = untrue e

-- ---- a sheet

pub record Fit (t : Tree) : Type 0 where
  pub deep : depth t ≤ max_depth
  pub many : nodes t ≤ most_nodes
  pub long : length (canon t) ≤ max_canonical

fit : (t : Tree) → fits t ≡ true → Fit t
fit t f = let w = fits-within t f in record { deep = w.0; many = fitting-nodes t f; long = w.1 }

pub fitted : (t : Tree) → depth t ≤ max_depth → length (canon t) ≤ max_canonical → fits t ≡ true
unfolding fits
fitted t d l = true-both (le-leb _ _ d) (le-leb _ _ l)

pub record Sheet (c : List ℕ) (n : ℕ) (t : Tree) : Type 0 where
  pub lent : n ≤ length c
  pub is : take n c ≡ canon t
  pub decoded : decode₁ (take n c) ≡ some t
  pub size : length (canon t) ≡ n
  pub fitting : Fit t

pub sheet-of : (c : List ℕ) (n : ℕ) (t : Tree) → sheet_tree c n ≡ some t → Sheet c n t
unfolding sheet_tree fitting
sheet-of c n t e =
    pick-cases (ltb (length c) n) _ _ e (λ f h. none-some h)
    (λ f h. chain-cases (decode₁ (take n c)) fitting h
    (λ u i j. pick-cases (fits u) (some u) none j
    (λ k l.
    let z : u ≡ t = cc in
    let y : decode₁ (take n c) ≡ some t = i ∙ ap some z in
    let x : take n c ≡ canon t = canon-sound (take n c) t y in
    let m : n ≤ length c = ltb-false _ _ f in
    record { lent = m; is = x; decoded = y; size = omega (arith, ap length x, length-take-le n c m); fitting = fit t (ap fits (sym z) ∙ k) })
    (λ k l. none-some l)))

module _ (c : List ℕ) (n : ℕ) where
  pub sheet-beyond : length c < n → false ≡ not (is_none (sheet_tree c n))
  sheet-beyond h = no-tree (sheet_tree c n) (λ t e. let s : Sheet c n t = sheet-of c n t e in omega (arith, s.lent))

  pub sheet-long : max_canonical < n → false ≡ not (is_none (sheet_tree c n))
  sheet-long h = no-tree (sheet_tree c n) (λ t e. let s : Sheet c n t = sheet-of c n t e in omega (arith, s.size, s.fitting.long))

  module _ (k : n ≤ length c) where
    pub within : sheet_tree c n ≡ chain (decode₁ (take n c)) fitting
    unfolding sheet_tree
    within = unpicked _ _ (le-ltb _ _ k)

    module _ (r : Measured) (w : Measures (decode₁ (take n c)) r) where
      pub sheet-none : (p : Broken) → r ≡ Err p → false ≡ not (is_none (sheet_tree c n))
      unfolding Measures chain
      sheet-none p e = let g : decode₁ (take n c) ≡ none = subst (Measures (decode₁ (take n c))) e w in
          no-tree (sheet_tree c n) (λ t f. none-some (sym g ∙ (sheet-of c n t f).decoded))

      module _ (sizes : Extent) (e : r ≡ Ok sizes) where
        wholly : Wholly (decode₁ (take n c)) sizes.len sizes.nodes sizes.depth
        unfolding Measures
        wholly = subst (Measures (decode₁ (take n c))) e w

        -- it is the tree that was measured
        the_same : (t : Tree) → Sheet c n t → wholly.tree ≡ t
        the_same t s = some_same (λ (u : Tree). wholly.tree ≡ u) (sym wholly.is ∙ s.decoded) refl

        pub sheet-deep : max_depth < sizes.depth → false ≡ not (is_none (sheet_tree c n))
        sheet-deep h =
            no-tree (sheet_tree c n)
            (λ t f. let s : Sheet c n t = sheet-of c n t f in omega (arith, wholly.deepest, ap depth (the_same t s), s.fitting.deep))

        -- of the limits of a short sheet only the depth is left
        pub sheet-whole : n ≤ max_canonical → leb sizes.depth max_depth ≡ not (is_none (sheet_tree c n))
        unfolding chain fitting
        sheet-whole l =
            by_le sizes.depth max_depth
            (λ q.
            let f : fits wholly.tree ≡ true = fitted wholly.tree (omega (arith, wholly.deepest))
            (omega (arith, ap length (canon-sound (take n c) wholly.tree wholly.is), length-take-le n c k)) in
            le-leb _ _ q ∙ a-tree (sheet_tree c n) wholly.tree (within ∙ ap (λ (o : Option Tree). chain o fitting) wholly.is ∙ picked _ _ f))
            (λ q. lt-leb _ _ q ∙ sheet-deep q)

-- ---- its own table

pub record Own (c : List ℕ) (n : ℕ) (table : List ℕ) (m : ℕ) (t : Tree) : Type 0 where
  pub sheet : Sheet c n t
  pub counted : m ≡ nodes t
  pub recorded : take (width * m) table ≡ table_of t

pub own_of : (c : List ℕ) (n : ℕ) (table : List ℕ) (m : ℕ) (t : Tree) → own_tree c n table m ≡ some t → Own c n table m t
unfolding own_tree owns
own_of c n table m t e =
    chain-cases (sheet_tree c n) (owns table m) e
    (λ u i j. pick-cases (both (eqb m (nodes u)) (equal (take (width * m) table) (table_of u))) (some u) none j
    (λ k l.
    let z : u ≡ t = cc in
    let w : (eqb m (nodes u) ≡ true) × (equal (take (width * m) table) (table_of u) ≡ true) = both_true k in
    record { sheet = sheet-of c n t (i ∙ ap some z); counted = eqb-true _ _ w.0 ∙ ap nodes z; recorded = equal-true _ _ w.1 ∙ ap table_of z })
    (λ k l. none-some l))

-- the records are lent
pub own-lent : (c : List ℕ) (n : ℕ) (table : List ℕ) (m : ℕ) (t : Tree) → Own c n table m t → width * m ≤ length table
own-lent c n table m t o = omega (arith, ap length o.recorded, length-take (width * m) table, table-length t, o.counted)

module _ (c : List ℕ) (n : ℕ) (table : List ℕ) (m : ℕ) where
  pub own-beyond : length c < n → false ≡ not (is_none (own_tree c n table m))
  own-beyond h = no-tree _ (λ t e. let o : Own c n table m t = own_of c n table m t e in omega (arith, o.sheet.lent))

  pub own-long : max_canonical < n → false ≡ not (is_none (own_tree c n table m))
  own-long h = no-tree _ (λ t e. let o : Own c n table m t = own_of c n table m t e in omega (arith, o.sheet.size, o.sheet.fitting.long))

  pub own-unlent : length table / width < m → false ≡ not (is_none (own_tree c n table m))
  own-unlent h = no-tree _ (λ t e. let o : Own c n table m t = own_of c n table m t e in omega (arith, own-lent c n table m t o))
