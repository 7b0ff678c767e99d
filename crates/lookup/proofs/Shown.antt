-- The numbers of a node's record in a sheet's own table, and the parts that they tell.
use Prim.Native.Nat.{ℕ, zero, suc, ◌+◌, ◌*◌, ◌-◌, ◌≤◌, ◌<◌}
use native.Mathlib.Omega.{arith}
use mathlib.Core.Path.{◌≡◌, refl, sym, ap, ap₂, ◌∙◌}
use mathlib.Core.Bool.{Bool, true, false, not}
use mathlib.Core.Option.{Option, none, some}
use mathlib.Core.List.{List, [], ◌∷◌, ◌++◌}
use lib.ListN.{get_or-append, length, take, drop, get_or, length-append}
use lib.Seq.{get_or-append-add, get_or-take}
use lib.Dec.{ltb, eqb}
use borrow.Author.Tests.{lt-ltb, le-ltb, eq-eqb, ne_eqb}
use Rattle.base.specs.Choice.{pick, chain, is_none}
use Rattle.base.proofs.Cases.{pick-cases, picked, unpicked, some_same, none-some, chain-cases}
use Rattle.model.specs.Answers.{own_tree, part, octets_at, shown_row, hint_part, data_part, shown_or, hint_shown, data_shown}
use Rattle.model.specs.Table.{Row, width, row_numbers, recorded, plain_row, rows, rowss, parents, parent_of, flat, table_of, row_of}
use Rattle.model.specs.Tree.{Tree, plain, hinted, list, Forest, nil, cons, verbatim, canon, canons, nodes}
use Rattle.model.proofs.Sizes.{verbatim-length}
use Rattle.walk.proofs.Tabled.{rows-length}
use Rattle.answers.specs.Cases.{placed}
use Rattle.answers.specs.Shown.{shown_at}
use Rattle.lookup.specs.Numbers.{InRecord}
use Rattle.lookup.proofs.Sheets.{tree_of, none_of, Own, own_of, own-lent}
use Rattle.answers.specs.Cases.{Place, place_at}
use Rattle.answers.specs.declared.Part.{Part}
use Rattle.std.specs.Prelude.{Some, None}

-- ---- a number of a row

-- the first record of a table, and those after it
first-at : (x y : List ℕ) (k : ℕ) → k < length x → get_or (x ++ y) (0 * width + k) 0 ≡ get_or x k 0
first-at x y k l = let z : 0 * width + k ≡ k = omega arith in ap (λ (n : ℕ). get_or (x ++ y) n 0) z ∙ get_or-append x y 0 k l

later-at : (x y : List ℕ) (i k : ℕ) → length x ≡ width → get_or (x ++ y) (suc i * width + k) 0 ≡ get_or y (i * width + k) 0
later-at x y i k e = let z : suc i * width + k ≡ length x + (i * width + k) = omega (arith, e) in ap (λ (n : ℕ). get_or (x ++ y) n 0) z ∙ get_or-append-add x y (i * width + k) 0

-- the k-th number of the i-th record
flat-at : (rs : List Row) (ps : List ℕ) (i k : ℕ) (d : Row) → i < length rs → k < width → get_or (flat rs ps) (i * width + k) 0 ≡ get_or (recorded (get_or rs i d) (get_or ps i 0)) k 0
unfolding flat
flat-at [] ps i k d h l = absurd (omega arith)
flat-at (r ∷ rs) [] zero k d h l = first-at (recorded r 0) (flat rs []) k l
flat-at (r ∷ rs) (p ∷ ps) zero k d h l = first-at (recorded r p) (flat rs ps) k l
flat-at (r ∷ rs) [] (suc i) k d h l = later-at (recorded r 0) (flat rs []) i k refl ∙ flat-at rs [] i k d (omega arith) l
flat-at (r ∷ rs) (p ∷ ps) (suc i) k d h l = later-at (recorded r p) (flat rs ps) i k refl ∙ flat-at rs ps i k d (omega arith) l

pub table_at : (c : List ℕ) (n : ℕ) (table : List ℕ) (m : ℕ) (t : Tree) → Own c n table m t → (node k : ℕ) → node < m → k < 8
    → get_or table (node * width + k) 0 ≡ get_or (row_numbers (row_of t node)) k 0
unfolding table_of
table_at c n table m t o node k h l =
    sym (get_or-take (width * m) table (node * width + k) 0 (omega arith)) ∙ ap (λ (x : List ℕ). get_or x (node * width + k) 0) o.recorded
    ∙ flat-at (rows t 0) (parents t 0 0) node k (plain_row 0 0 0) (omega (arith, rows-length t 0, o.counted)) (omega arith)
    ∙ get_or-append (row_numbers (row_of t node)) (parent_of t node ∷ []) 0 k l

-- ---- a row's parts are parts of the octets

pub record Inside (r : Row) (n : ℕ) : Type 0 where
  pub hint : r.hint_start ≤ r.hint_end
  pub hinted : r.hint_end ≤ n
  pub octets : r.data_start ≤ r.data_end
  pub ended : r.data_end ≤ n

wider : (r : Row) (n m : ℕ) → n ≤ m → Inside r n → Inside r m
wider r n m h x = record { hint = x.hint; hinted = omega (arith, x.hinted); octets = x.octets; ended = omega (arith, x.ended) }

in_both : (P : Row → Type 0) (d : Row) (a b : List Row) → ((i : ℕ) → P (get_or a i d)) → ((i : ℕ) → P (get_or b i d)) → (i : ℕ) → P (get_or (a ++ b) i d)
in_both P d [] b f g i = g i
in_both P d (x ∷ a) b f g zero = f zero
in_both P d (x ∷ a) b f g (suc i) = in_both P d a b (λ j. f (suc j)) g i

-- no row
nowhere : (n : ℕ) → Inside (plain_row 0 0 0) n
nowhere n = record { hint = omega arith; hinted = omega arith; octets = omega arith; ended = omega arith }

one-row : (r : Row) (n : ℕ) → Inside r n → (i : ℕ) → Inside (get_or (r ∷ []) i (plain_row 0 0 0)) n
one-row r n x zero = x
one-row r n x (suc i) = nowhere n

mutual
  unfolding rows canon

  pub rows_inside : (t : Tree) (at i : ℕ) → Inside (get_or (rows t at) i (plain_row 0 0 0)) (at + length (canon t))
  rows_inside (plain d) at i =
      one-row _ _ (record { hint = omega arith; hinted = omega arith; octets = omega (arith, verbatim-length d); ended = omega arith }) i
  rows_inside (hinted h d) at i =
      one-row _ _
      (record {
        hint = omega (arith, verbatim-length h);
        hinted = omega (arith, length-append (verbatim h) (93 ∷ verbatim d));
        octets = omega (arith, verbatim-length d);
        ended = omega (arith, length-append (verbatim h) (93 ∷ verbatim d));
      })
      i
  rows_inside (list f) at zero =
      record { hint = omega arith; hinted = omega arith; octets = omega (arith, length-append (canons f) (41 ∷ [])); ended = omega arith }
  rows_inside (list f) at (suc i) = wider _ _ _ (omega (arith, length-append (canons f) (41 ∷ []))) (rowss-inside f (at + 1) i)

  pub rowss-inside : (f : Forest) (at i : ℕ) → Inside (get_or (rowss f at) i (plain_row 0 0 0)) (at + length (canons f))
  rowss-inside nil at i = nowhere _
  rowss-inside (cons t f) at i =
      in_both (λ (r : Row). Inside r (at + length (canons (cons t f)))) (plain_row 0 0 0) (rows t at) (rowss f (at + length (canon t)))
      (λ j. wider _ _ _ (omega (arith, length-append (canon t) (canons f))) (rows_inside t at j))
      (λ j. wider _ _ _ (omega (arith, length-append (canon t) (canons f))) (rowss-inside f (at + length (canon t)) j))
      i

-- ---- a node's row

module _ (c : List ℕ) (n : ℕ) (table : List ℕ) (m node : ℕ) where
  abbrev row : Option Row
  row = shown_row c n table m node

  inside : (r : Row) → row ≡ some r → Inside r (length c)
  unfolding shown_row
  inside r e =
      chain-cases (own_tree c n table m) _ e
      (λ t h i. pick-cases (ltb node (nodes t)) (some (row_of t node)) none i
      (λ j k.
      let o : Own c n table m t = own_of c n table m t h in
      some_same (λ (r : Row). Inside r (length c)) k (wider _ _ _ (omega (arith, o.sheet.size, o.sheet.lent)) (rows_inside t 0 node)))
      (λ j k. none-some k))

  module _ (b : Bool) (e : b ≡ not (is_none (own_tree c n table m))) where
    unowned : b ≡ false → row ≡ none
    unfolding shown_row chain
    unowned y = rw (none_of (own_tree c n table m) (sym y ∙ e))

    module _ (y : b ≡ true) where
      beyond : m ≤ node → row ≡ none
      unfolding shown_row chain
      beyond h =
          tree_of (own_tree c n table m) (sym y ∙ e)
          (λ t i. let o : Own c n table m t = own_of c n table m t i in rw i (unpicked _ _ (le-ltb node (nodes t) (omega (arith, o.counted)))))

      pub numbered : (k : ℕ) → k < 8 → node < m → InRecord (length table) node k
      numbered k l h =
          tree_of (own_tree c n table m) (sym y ∙ e)
          (λ t i.
          let o : Own c n table m t = own_of c n table m t i in
          record { few = omega (arith, o.counted, o.sheet.fitting.many); fits = omega (arith, own-lent c n table m t o); small = omega (arith, l) })

      -- the numbers in the table are the row's
      found : {G : Type 0} → node < m → ((r : Row) → row ≡ some r → ((k : ℕ) → k < 8 → get_or table (node * width + k) 0 ≡ get_or (row_numbers r) k 0) → G) → G
      unfolding shown_row chain
      found h g =
          tree_of (own_tree c n table m) (sym y ∙ e)
          (λ t i.
          let o : Own c n table m t = own_of c n table m t i in
          g (row_of t node) (rw i (picked _ _ (lt-ltb node (nodes t) (omega (arith, o.counted))))) (λ k l. table_at c n table m t o node k h l))

  -- ---- its hint

  hint-of : (o : Option Row) → row ≡ o → hint_part c n table m node ≡ chain o (λ r. pick (eqb r.kind 1) (some (part r.hint_start r.hint_end)) none)
  unfolding hint_part
  hint-of o e = rw e

  data_of : (o : Option Row) → row ≡ o → data_part c n table m node ≡ chain o (λ r. some (part r.data_start r.data_end))
  unfolding data_part
  data_of o e = rw e

  module _ (b : Bool) (e : b ≡ not (is_none (own_tree c n table m))) where
    pub hint-unowned : b ≡ false → placed None ≡ hint_part c n table m node
    unfolding placed chain
    hint-unowned y = sym (hint-of none (unowned b e y))

    pub data-unowned : b ≡ false → placed None ≡ data_part c n table m node
    unfolding placed chain
    data-unowned y = sym (data_of none (unowned b e y))

    module _ (y : b ≡ true) where
      pub hint-beyond : m ≤ node → placed None ≡ hint_part c n table m node
      unfolding placed chain
      hint-beyond h = sym (hint-of none (beyond b e y h))

      pub data-beyond : m ≤ node → placed None ≡ data_part c n table m node
      unfolding placed chain
      data-beyond h = sym (data_of none (beyond b e y h))

      module _ (h : node < m) where
        pub hint-other : (k : ℕ) → k ≡ get_or table (node * width + 0) 0 → (k ≡ 1 → ⊥) → placed None ≡ hint_part c n table m node
        unfolding placed chain
        hint-other k z d = found b e y h (λ r i l. sym (hint-of (some r) i ∙ unpicked _ _ (ne_eqb _ _ (λ q. d (z ∙ l 0 (omega arith) ∙ q)))))

        pub hint-found : (k : ℕ) → k ≡ get_or table (node * width + 0) 0 → k ≡ 1 → (s t : ℕ) → s ≡ get_or table (node * width + 4) 0 → t ≡ get_or table (node * width + 5) 0
            → placed (place_at s t) ≡ hint_part c n table m node
        unfolding placed chain
        hint-found k z d s t p q =
            found b e y h
            (λ r i l. sym (hint-of (some r) i ∙ picked _ _ (eq-eqb _ _ (sym (l 0 (omega arith)) ∙ sym z ∙ d)) ∙ sym (ap₂ (λ (x y : ℕ). some (part x y)) (p ∙ l 4 (omega arith)) (q ∙ l 5 (omega arith)))))

        pub data-found : (s t : ℕ) → s ≡ get_or table (node * width + 6) 0 → t ≡ get_or table (node * width + 7) 0 → placed (place_at s t) ≡ data_part c n table m node
        unfolding placed chain
        data-found s t p q =
            found b e y h (λ r i l. sym (data_of (some r) i ∙ sym (ap₂ (λ (x y : ℕ). some (part x y)) (p ∙ l 6 (omega arith)) (q ∙ l 7 (omega arith)))))

-- ---- parts shown

-- a part of a list of so many octets
pub record Bounded (s e n : ℕ) : Type 0 where
  pub ordered : s ≤ e
  pub ended : e ≤ n

module _ (c : List ℕ) (n : ℕ) (table : List ℕ) (m node : ℕ) where
  hint-inside : (s e : ℕ) → hint_part c n table m node ≡ some (part s e) → Bounded s e (length c)
  unfolding hint_part
  hint-inside s e h =
      chain-cases (shown_row c n table m node) _ h
      (λ r i j. let x : Inside r (length c) = inside c n table m node r i in
      pick-cases (eqb r.kind 1) _ _ j
      (λ k l. some_same (λ (p : Rattle.model.specs.Answers.Part). Bounded p.start p.end (length c)) l (record { ordered = x.hint; ended = x.hinted }))
      (λ k l. none-some l))

  data-inside : (s e : ℕ) → data_part c n table m node ≡ some (part s e) → Bounded s e (length c)
  unfolding data_part
  data-inside s e h =
      chain-cases (shown_row c n table m node) _ h
      (λ r i j. let x : Inside r (length c) = inside c n table m node r i in
      some_same (λ (p : Rattle.model.specs.Answers.Part). Bounded p.start p.end (length c)) j (record { ordered = x.octets; ended = x.ended }))

  module _ (r : Place) where
    module _ (w : placed r ≡ hint_part c n table m node) where
      pub hint-default : (d : List ℕ) → r ≡ None → d ≡ hint_shown c n table m node d
      unfolding hint_shown shown_or placed
      hint-default d q = let z : hint_part c n table m node ≡ none = sym w ∙ ap placed q in rw z

      pub hint-default-at : (x y : ℕ × ℕ) → r ≡ None → y ≡ shown_at (hint_part c n table m node) x y
      unfolding shown_at placed
      hint-default-at x y q = let z : hint_part c n table m node ≡ none = sym w ∙ ap placed q in rw z

      module _ (found : Part) (q : r ≡ Some found) where
        hint-is : hint_part c n table m node ≡ some (part found.start found.end)
        unfolding placed
        hint-is = sym w ∙ ap placed q

        pub hint-ordered : found.start ≤ found.end
        hint-ordered = (hint-inside found.start found.end hint-is).ordered

        pub hint-ended : found.end ≤ length c
        hint-ended = (hint-inside found.start found.end hint-is).ended

        pub hint-shown : (d : List ℕ) → take (found.end - found.start) (drop found.start c) ≡ hint_shown c n table m node d
        unfolding hint_shown shown_or octets_at
        hint-shown d = rw hint-is

        pub hint-at : (x y : ℕ × ℕ) → (x.0, found.start + x.1) ≡ shown_at (hint_part c n table m node) x y
        unfolding shown_at
        hint-at x y = rw hint-is

    module _ (w : placed r ≡ data_part c n table m node) where
      pub data-none : r ≡ None → [] ≡ data_shown c n table m node
      unfolding data_shown shown_or placed
      data-none q = let z : data_part c n table m node ≡ none = sym w ∙ ap placed q in rw z

      pub data-none-at : (x : ℕ × ℕ) → r ≡ None → (x.0, 0 + x.1) ≡ shown_at (data_part c n table m node) x x
      unfolding shown_at placed
      data-none-at x q =
          let z : data_part c n table m node ≡ none = sym w ∙ ap placed q in
          let e : 0 + x.1 ≡ x.1 = omega arith in
          rw z (λ i. (x.0, e i))

      module _ (found : Part) (q : r ≡ Some found) where
        data_is : data_part c n table m node ≡ some (part found.start found.end)
        unfolding placed
        data_is = sym w ∙ ap placed q

        pub data-ordered : found.start ≤ found.end
        data-ordered = (data-inside found.start found.end data_is).ordered

        pub data-ended : found.end ≤ length c
        data-ended = (data-inside found.start found.end data_is).ended

        pub data-shown : take (found.end - found.start) (drop found.start c) ≡ data_shown c n table m node
        unfolding data_shown shown_or octets_at
        data-shown = rw data_is

        pub data-at : (x y : ℕ × ℕ) → (x.0, found.start + x.1) ≡ shown_at (data_part c n table m node) x y
        unfolding shown_at
        data-at x y = rw data_is
