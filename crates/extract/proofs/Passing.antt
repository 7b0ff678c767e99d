-- The pass over a sheet's notes: whether a node is a private list, and what is copied up to it.
use Prim.Native.Nat.{ℕ, suc, ◌+◌, ◌-◌, ◌≤◌, ◌<◌}
use native.Mathlib.Omega.{arith}
use native.Mathlib.Numerals.{add-one}
use mathlib.Core.Path.{◌≡◌, refl, sym, ap, ap₂, ◌∙◌, subst}
use mathlib.Core.Bool.{Bool, true, false}
use mathlib.Core.List.{List, [], ◌∷◌, ◌++◌, append_assoc}
use lib.ListN.{length, drop, get_or, length-append, length-drop, drop_of_length-le}
use lib.Seq.{sets, length-sets, length-take-le, take_all, drop-drop}
use lib.Dec.{ltb, eqb}
use borrow.Author.Tests.{lt-ltb, le-ltb, eq-eqb, ne_eqb}
use Rattle.base.specs.Choice.{both, equal}
use Rattle.base.proofs.Cases.{untrue, differ, picked, unpicked}
use Rattle.base.proofs.Stores.{sets-append}
use Rattle.model.specs.Limits.{max_source}
use Rattle.model.specs.Table.{Row, row_numbers, rows, row_of}
use Rattle.model.specs.Tree.{Tree, canon, nodes}
use Rattle.model.proofs.Laws.{canonical-unique}
use Rattle.walk.proofs.Tabled.{rows-length}
use Rattle.scan.specs.Writes.{Wrote}
use Rattle.tables.specs.Rows.{RowIs}
use Rattle.tables.specs.Told.{row_at, Readable, Holds}
use Rattle.tables.specs.declared.rows.Row as coded
use Rattle.tables.proofs.Telling.{holds-few, holds_row, holds-readable}
use Rattle.extracts.specs.Extract.{word, extract}
use Rattle.extract.specs.Cut.{part, begins, private, cut, Node, Tells, Cuttable, Cuts}
use Rattle.extract.proofs.Laid.{Laid, laid-whole, laid-drop, Heading, rows-from, node-heads, node-within}
use Rattle.extract.proofs.Cutting.{cut-whole, cut-private, cut-other}

-- ---- a node's row

-- the numbers that the code has of it
record Coded (row : coded.Row) (r : Row) : Type 0 where
  kinds : row.kind ≡ r.kind
  counts : row.nodes ≡ r.count
  starts : row.data_start ≡ r.data_start
  ends : row.data_end ≡ r.data_end

coded-as : (row : coded.Row) (r : Row) → RowIs row r → Coded row r
coded-as row r e =
    record {
      kinds = ap (λ (x : List ℕ). get_or x 0 0) e;
      counts = ap (λ (x : List ℕ). get_or x 3 0) e;
      starts = ap (λ (x : List ℕ). get_or x 6 0) e;
      ends = ap (λ (x : List ℕ). get_or x 7 0) e;
    }

module _ (notes : List ℕ) (n : ℕ) (t : Tree) (g : Holds notes n t) (k : ℕ) (h : k < n) where
  here : k < nodes t
  here = omega (arith, g.counted)

  coded-row : (row : coded.Row) → RowIs row (row_at notes k) → Coded row (row_of t k)
  coded-row row is = coded-as row (row_of t k) (is ∙ ap row_numbers (holds_row notes n t g k h))

  heads : Heading (length (canon t)) 0 (row_of t k) (drop (suc k) (rows t 0))
  heads = node-heads t k here (laid-drop k (rows t 0) (laid-whole t))

-- ---- whether it is a private list

first-no : (a b c : Bool) → a ≡ false → false ≡ both a (both b c)
first-no true b c e = differ refl e
first-no false b c e = refl

second-no : (a b c : Bool) → b ≡ false → false ≡ both a (both b c)
second-no true true c e = differ refl e
second-no true false c e = refl
second-no false b c e = refl

third-no : (a b c : Bool) → c ≡ false → false ≡ both a (both b c)
third-no true true c e = sym e
third-no true false c e = refl
third-no false b c e = refl

third-is : (a b c w : Bool) → a ≡ true → b ≡ true → w ≡ c → w ≡ both a (both b c)
third-is true true c w p q e = e
third-is true false c w p q e = untrue q
third-is false b c w p q e = untrue p

module _ (src notes : List ℕ) (n k : ℕ) (g : Node src notes n k) where
  abbrev held : Holds notes n g.sheet.tree
  held = g.sheet.held

  pub node-readable : Readable notes k
  node-readable = holds-readable notes n g.sheet.tree held k g.there

  module _ (row : coded.Row) (is : RowIs row (row_at notes k)) where
    abbrev as-coded : (t : Tree) → Holds notes n t → Coded row (row_of t k)
    as-coded t h = coded-row notes n t h k g.there row is

    pub tells-string : (row.kind ≡ 2 → ⊥) → Tells src notes n k false
    unfolding private
    tells-string d = record { is = λ t e h. first-no (eqb (row_of t k).kind 2) (ltb 1 (row_of t k).count) (begins src (drop (suc k) (rows t 0))) (ne_eqb _ 2 (λ z. d ((as-coded t h).kinds ∙ z))) }

    pub tells-empty : row.nodes < 2 → Tells src notes n k false
    unfolding private
    tells-empty d = record { is = λ t e h. second-no (eqb (row_of t k).kind 2) (ltb 1 (row_of t k).count) (begins src (drop (suc k) (rows t 0))) (le-ltb 1 (row_of t k).count (omega (arith, (as-coded t h).counts))) }

    -- a node in it
    module _ (i : ℕ) (within : i < row.nodes) where
      inner-there : k + i < n
      inner-there =
          let t : Tree = g.sheet.tree in
          omega (arith, (as-coded t held).counts, node-within t k (here notes n t held k g.there) (heads notes n t held k g.there), held.counted)

      pub inner-readable : Readable notes (k + i)
      inner-readable = holds-readable notes n g.sheet.tree held (k + i) inner-there

      module _ (inner : coded.Row) (is-inner : RowIs inner (row_at notes (k + i))) where
        abbrev inner-coded : (t : Tree) → Holds notes n t → Coded inner (row_of t (k + i))
        inner-coded t h = coded-row notes n t h (k + i) inner-there inner is-inner

        inner-heads : (t : Tree) → Holds notes n t → Heading (length (canon t)) 0 (row_of t (k + i)) (drop (suc (k + i)) (rows t 0))
        inner-heads t h = heads notes n t h (k + i) inner-there

        pub inner-ordered : inner.data_start ≤ inner.data_end
        inner-ordered =
            let t : Tree = g.sheet.tree in
            omega (arith, (inner-coded t held).starts, (inner-coded t held).ends, (inner-heads t held).ordered)

        pub inner-inside : inner.data_end ≤ length src
        inner-inside =
            let t : Tree = g.sheet.tree in
            omega (arith, (inner-coded t held).ends, (inner-heads t held).inside, ap length g.sheet.is)

    -- the first of them
    module _ (two : 2 ≤ row.nodes) where
      next-there : k + 1 < n
      next-there = inner-there 1 (omega arith)

      module _ (first : coded.Row) (is-first : RowIs first (row_at notes (k + 1))) where
        abbrev first-coded : (t : Tree) → Holds notes n t → Coded first (row_of t (k + 1))
        first-coded t h = coded-row notes n t h (k + 1) next-there first is-first

        rest-is : (t : Tree) → Holds notes n t → drop (suc k) (rows t 0) ≡ row_of t (k + 1) ∷ drop (suc (k + 1)) (rows t 0)
        rest-is t h = ap (λ (i : ℕ). drop i (rows t 0)) (sym (add-one k)) ∙ rows-from t (k + 1) (here notes n t h (k + 1) next-there)

        begins-first : (t : Tree) → Holds notes n t → begins src (drop (suc k) (rows t 0)) ≡ both (eqb first.kind 0) (equal (part src first.data_start first.data_end) word)
        unfolding begins
        begins-first t h =
            ap (begins src) (rest-is t h)
            ∙ ap₂ (λ (a : ℕ) (b : Bool). both (eqb a 0) b) (sym (first-coded t h).kinds)
            (ap₂ (λ (a b : ℕ). equal (part src a b) word) (sym (first-coded t h).starts) (sym (first-coded t h).ends))

        pub tells-other : (first.kind ≡ 0 → ⊥) → Tells src notes n k false
        unfolding private
        tells-other d =
            record {
              is = λ t e h. third-no (eqb (row_of t k).kind 2) (ltb 1 (row_of t k).count) (begins src (drop (suc k) (rows t 0))) (begins-first t h ∙ unpicked _ _ (ne_eqb _ 0 d));
            }

        pub tells-word : row.kind ≡ 2 → first.kind ≡ 0 → (w : Bool) → w ≡ equal (part src first.data_start first.data_end) word → Tells src notes n k w
        unfolding private
        tells-word l p w e =
            record {
              is = λ t q h.
                  third-is (eqb (row_of t k).kind 2) (ltb 1 (row_of t k).count) (begins src (drop (suc k) (rows t 0))) w (eq-eqb _ 2 (sym (as-coded t h).kinds ∙ l)) (lt-ltb 1 (row_of t k).count (omega (arith, (as-coded t h).counts)))
                  (e ∙ sym (begins-first t h ∙ picked _ _ (eq-eqb _ 0 p)));
            }

-- ---- what is copied

-- the nodes before k were passed, and of the octets before `from` what is shown was copied
pub record Passing (src notes : List ℕ) (n : ℕ) (out₀ out : List ℕ) (k from pos : ℕ) : Type 0 where
  pub given : Cuttable src notes n (length out₀)
  pub inside : k ≤ n
  pub done : List ℕ
  pub put : out ≡ sets out₀ 0 done
  pub place : pos ≡ length done
  pub room : pos ≤ from
  pub whole : from ≤ length src
  pub ahead : Laid (length src) from (drop k (rows given.sheet.tree 0))
  pub goes : done ++ cut src (drop k (rows given.sheet.tree 0)) 0 from ≡ canon (extract given.sheet.tree)

pub pass-none : (src notes : List ℕ) (n : ℕ) (out : List ℕ) → Cuttable src notes n (length out) → Passing src notes n out out 0 0 0
pass-none src notes n out g =
    record {
      given = g;
      inside = omega arith;
      done = [];
      put = refl;
      place = refl;
      room = omega arith;
      whole = omega arith;
      ahead = subst (λ (x : List ℕ). Laid (length x) 0 (rows g.sheet.tree 0)) (sym g.sheet.is) (laid-whole g.sheet.tree);
      goes = ap (λ (x : List ℕ). cut x (rows g.sheet.tree 0) 0 0) g.sheet.is ∙ cut-whole g.sheet.tree;
    }

-- what is written behind what was
joined : (out₀ out out' x y z : List ℕ) (pos r : ℕ) → out ≡ sets out₀ 0 x → pos ≡ length x → Wrote y pos out out' r → x ++ y ≡ z → Wrote z 0 out₀ out' r
joined out₀ out out' x y z pos r e p w q =
    let l : pos ≡ 0 + length x = omega arith in
    subst (λ (u : List ℕ). Wrote u 0 out₀ out' r) q
    (record { place = omega (arith, w.place, length-append x y); same = w.same ∙ ap₂ (λ (o : List ℕ) (i : ℕ). sets o i y) e l ∙ sym (sets-append out₀ x y 0) })

module _ (src notes : List ℕ) (n : ℕ) (out₀ out : List ℕ) (k from pos : ℕ) (v : Passing src notes n out₀ out k from pos) where
  abbrev tree : Tree
  tree = v.given.sheet.tree

  abbrev holding : Holds notes n tree
  holding = v.given.sheet.held

  pub pass-few : n ≤ max_source
  pass-few = holds-few notes n tree holding

  pub pass-long : length out ≡ length out₀
  pass-long = ap length v.put ∙ length-sets out₀ 0 v.done

  pub pass_kept : (x out' : List ℕ) (r : ℕ) → Wrote x pos out out' r → length out' ≡ length out₀
  pass_kept x out' r w = ap length w.same ∙ length-sets out pos x ∙ pass-long

  -- what is left
  pub pass-last : pos + (length src - from) ≤ length out
  pass-last = omega (arith, v.room, v.whole, v.given.fits, pass-long)

  -- no row is left, so that all octets are
  last-left : n ≤ k → part src from (length src) ≡ cut src (drop k (rows tree 0)) 0 from
  unfolding cut
  last-left h =
      let z : drop k (rows tree 0) ≡ [] = drop_of_length-le (rows tree 0) {i = k} (omega (arith, rows-length tree 0, holding.counted)) in
      take_all (length src - from) (drop from src) (omega (arith, length-drop from src)) ∙ sym (ap (λ (x : List Row). cut src x 0 from) z)

  last-wrote : n ≤ k → (out' : List ℕ) (r : ℕ) → Wrote (part src from (length src)) pos out out' r → Wrote (canon (extract tree)) 0 out₀ out' r
  last-wrote h out' r w = joined out₀ out out' v.done (part src from (length src)) (canon (extract tree)) pos r v.put v.place w (ap (λ (x : List ℕ). v.done ++ x) (last-left h) ∙ v.goes)

  pub pass-end : n ≤ k → (out' : List ℕ) (r : ℕ) → Wrote (part src from (length src)) pos out out' r → Cuts src notes n out₀ out' r
  pass-end h out' r w =
      record { wrote = λ t e g. subst (λ (u : Tree). Wrote (canon (extract u)) 0 out₀ out' r) (canonical-unique tree t (sym v.given.sheet.is ∙ e)) (last-wrote h out' r w) }

  module _ (h : k < n) where
    there : k < nodes tree
    there = omega (arith, holding.counted)

    head : Heading (length src) from (row_of tree k) (drop (suc k) (rows tree 0))
    head = node-heads tree k there v.ahead

    pub pass-node : Node src notes n k
    pass-node = record { sheet = v.given.sheet; there = h }

    pub pass-readable : Readable notes k
    pass-readable = node-readable src notes n k pass-node

    -- a node that is shown
    module _ (b : Bool) (e : Tells src notes n k b) where
      pub pass-shown : b ≡ false → Passing src notes n out₀ out (k + 1) from pos
      pass-shown y =
          record {
            given = v.given;
            inside = omega arith;
            done = v.done;
            put = v.put;
            place = v.place;
            room = v.room;
            whole = v.whole;
            ahead = rw (add-one k) head.rest;
            goes = rw (add-one k)
                (ap (λ (x : List ℕ). v.done ++ x) (sym (ap (λ (x : List Row). cut src x 0 from) (rows-from tree k there) ∙ cut-other src _ _ from (sym (e.is tree v.given.sheet.is holding) ∙ y)))
                ∙ v.goes);
          }

    module _ (row : coded.Row) (is : RowIs row (row_at notes k)) where
      as_row : Coded row (row_of tree k)
      as_row = coded-row notes n tree holding k h row is

      pub hop-from : from ≤ row.data_start
      hop-from = omega (arith, as_row.starts, head.after)

      pub hop-source : from + (row.data_start - from) ≤ length src
      hop-source = omega (arith, as_row.starts, head.after, head.ordered, head.inside)

      pub hop-room : pos + (row.data_start - from) ≤ length out
      hop-room = omega (arith, as_row.starts, head.after, head.ordered, head.inside, v.room, v.given.fits, pass-long)

      pub hop-count : k + row.nodes ≤ n
      hop-count = omega (arith, as_row.counts, node-within tree k there head, holding.counted)

      pub hop-fits : k + row.nodes ≤ max_source
      hop-fits = omega (arith, hop-count, pass-few)

      pub hop-less : n - (k + row.nodes) < n - k
      hop-less = omega (arith, as_row.counts, head.some)

      part-long : length (part src from row.data_start) ≡ row.data_start - from
      part-long = length-take-le _ (drop from src) (omega (arith, length-drop from src, hop-source))

      -- the rows after those of its elements
      hop-rows : drop (k + row.nodes) (rows tree 0) ≡ drop ((row_of tree k).count - 1) (drop (suc k) (rows tree 0))
      hop-rows =
          let z : k + row.nodes ≡ suc k + ((row_of tree k).count - 1) = omega (arith, as_row.counts, head.some) in
          ap (λ (i : ℕ). drop i (rows tree 0)) z ∙ sym (drop-drop ((row_of tree k).count - 1) (suc k) (rows tree 0))

      hop-goes : (b : Bool) → Tells src notes n k b → b ≡ true → (v.done ++ part src from (row_of tree k).data_start) ++ cut src (drop ((row_of tree k).count - 1) (drop (suc k) (rows tree 0))) 0 (row_of tree k).data_end ≡ canon (extract tree)
      hop-goes b e y =
          append_assoc v.done (part src from (row_of tree k).data_start) _
          ∙ ap (λ (x : List ℕ). v.done ++ x) (sym (ap (λ (x : List Row). cut src x 0 from) (rows-from tree k there) ∙ cut-private src _ _ from (sym (e.is tree v.given.sheet.is holding) ∙ y)))
          ∙ v.goes

      pub pass-hidden : (b : Bool) → Tells src notes n k b → b ≡ true → (out' : List ℕ) (pos' : ℕ) → Wrote (part src from row.data_start) pos out out' pos' → Passing src notes n out₀ out' (k + row.nodes) row.data_end pos'
      pass-hidden b e y out' pos' w =
          record {
            given = v.given;
            inside = hop-count;
            done = v.done ++ part src from row.data_start;
            put = joins.same;
            place = joins.place ∙ omega arith;
            room = omega (arith, w.place, part-long, as_row.starts, as_row.ends, head.after, head.ordered, v.room);
            whole = omega (arith, as_row.ends, head.inside);
            ahead = rw (hop-rows, as_row.ends) head.hop;
            goes = rw (hop-rows, as_row.starts, as_row.ends) (hop-goes b e y);
          }
        where
          joins : Wrote (v.done ++ part src from row.data_start) 0 out₀ out' pos'
          joins = joined out₀ out out' v.done (part src from row.data_start) _ pos pos' v.put v.place w refl
