-- Trees one after the other, somewhere in a sheet: their octets, their rows, and what stands inside and after the first.
use Prim.Native.Nat.{ℕ, suc, ◌+◌, ◌<◌}
use native.Mathlib.Omega.{arith}
use native.Mathlib.Nat.{add-zero}
use mathlib.Core.Path.{◌≡◌, sym, ap, ap₂, ◌∙◌}
use mathlib.Core.Option.{some}
use mathlib.Core.List.{List, [], ◌∷◌, ◌++◌, append_assoc}
use lib.ListN.{length, take, get_or, length-append}
use lib.Seq.{get_or-append-add}
use Rattle.model.specs.Answers.{own_tree}
use Rattle.model.specs.Edit.{one}
use Rattle.model.specs.Table.{Row, plain_row, list_row, rows, rowss, row_of}
use Rattle.model.specs.Tree.{Tree, plain, hinted, list, Forest, cons, canon, canons, nodes, nodess}
use Rattle.walk.proofs.Tabled.{rows-length}
use Rattle.model.specs.Node.{node_at}
use Rattle.edits.specs.Place.{before, after, trail, lead}
use Rattle.edits.proofs.Whole.{canons-one, rows_at, locate}
use Rattle.edits.proofs.Rows.{lead-length}
use Rattle.demands.proofs.Shown.{sheet-by}

-- the trees of f stand in the sheet, the first of them as node k of t
pub record Stands (canonical : List ℕ) (len : ℕ) (t : Tree) (f : Forest) (k : ℕ) : Type 0 where
  pub pre : List ℕ
  pub post : List ℕ
  pub rest : List Row
  pub octets : take len canonical ≡ pre ++ (canons f ++ post)
  pub row : (i : ℕ) → row_of t (k + i) ≡ get_or (rowss f (length pre) ++ rest) i (plain_row 0 0 0)

module _ (canonical : List ℕ) (len : ℕ) (t : Tree) where
  abbrev Here : Forest → ℕ → Type 0
  Here = Stands canonical len t

  -- ---- what stands after the first, and inside it

  pub past : (x : Tree) (f : Forest) (k : ℕ) → Here (cons x f) k → Here f (k + nodes x)
  unfolding canons rowss
  past x f k s =
      let at : ℕ = length s.pre in
      record {
        pre = s.pre ++ canon x;
        post = s.post;
        rest = s.rest;
        octets = s.octets ∙ simp append_assoc;
        row = λ i.
            let n : length (rows x at) ≡ nodes x = rows-length x at in
            let e : k + nodes x + i ≡ k + (length (rows x at) + i) = omega arith in
            ap (row_of t) e ∙ s.row (length (rows x at) + i)
            ∙ ap (λ (l : List Row). get_or l (length (rows x at) + i) (plain_row 0 0 0)) (append_assoc (rows x at) (rowss f (at + length (canon x))) s.rest)
            ∙ get_or-append-add (rows x at) (rowss f (at + length (canon x)) ++ s.rest) i (plain_row 0 0 0)
            ∙ ap (λ (m : ℕ). get_or (rowss f m ++ s.rest) i (plain_row 0 0 0)) (sym (length-append s.pre (canon x)));
      }

  pub inside : (g f : Forest) (k : ℕ) → Here (cons (list g) f) k → Here g (k + 1)
  unfolding canons rowss
  inside g f k s =
      let at : ℕ = length s.pre in
      record {
        pre = s.pre ++ (40 ∷ []);
        post = 41 ∷ (canons f ++ s.post);
        rest = rowss f (at + length (canon (list g))) ++ s.rest;
        octets = s.octets ∙ simp append_assoc;
        row = λ i.
            let e : k + 1 + i ≡ k + suc i = omega arith in
            ap (row_of t) e ∙ s.row (suc i)
            ∙ ap (λ (l : List Row). get_or l i (plain_row 0 0 0)) (append_assoc (rowss g (at + 1)) (rowss f (at + length (canon (list g)))) s.rest)
            ∙ ap (λ (m : ℕ). get_or (rowss g m ++ (rowss f (at + length (canon (list g))) ++ s.rest)) i (plain_row 0 0 0)) (sym (length-append s.pre (40 ∷ [])));
      }

  -- ---- the first of them

  pub first-row : (x : Tree) (f : Forest) (k : ℕ) (s : Here (cons x f) k)
      → row_of t k ≡ get_or ((rows x (length s.pre) ++ rowss f (length s.pre + length (canon x))) ++ s.rest) 0 (plain_row 0 0 0)
  unfolding rowss
  first-row x f k s = ap (row_of t) (sym (add-zero k)) ∙ s.row 0

  pub first-list : (g f : Forest) (k : ℕ) (s : Here (cons (list g) f) k)
      → row_of t k ≡ list_row (length s.pre) (length s.pre + length (canon (list g))) (nodes (list g))
  unfolding rows
  first-list g f k s = first-row (list g) f k s

  pub first_count : (x : Tree) (f : Forest) (k : ℕ) → Here (cons x f) k → (row_of t k).count ≡ nodes x
  unfolding rows nodes
  first_count (plain d) f k s = ap (λ (r : Row). r.count) (first-row (plain d) f k s)
  first_count (hinted g d) f k s = ap (λ (r : Row). r.count) (first-row (hinted g d) f k s)
  first_count (list g) f k s = ap (λ (r : Row). r.count) (first-row (list g) f k s)

-- ---- a node of a sheet with its own table
pub stands : (canonical : List ℕ) (len : ℕ) (table : List ℕ) (count node : ℕ) (t : Tree) → own_tree canonical len table count ≡ some t
    → node < nodes t
    → (x : Tree) → node_at t node ≡ x → Stands canonical len t (one x) node
stands canonical len table count node t o h x q =
    let a = locate t node h in
    let y : a.node ≡ x = sym a.is_node ∙ q in
    let at : ℕ = length (before a.place) in
    let first = lead a.place 0 (length (canons (one a.node))) (nodess (one a.node)) in
    let last = trail a.place (at + length (canons (one a.node))) in
    record {
      pre = before a.place;
      post = after a.place;
      rest = last;
      octets = sheet-by canonical len table count node t o h x q ∙ ap
          (λ (l : List ℕ). before a.place ++ (l ++ after a.place)) (sym (canons-one x));
      row = λ i.
          let k : node + i ≡ length first + i = omega (arith, lead-length a.place 0 (length (canons (one a.node))) (nodess (one a.node)), a.num) in
          ap₂ (λ (l : List Row) (m : ℕ). get_or l m (plain_row 0 0 0)) (rows_at t a.place (one a.node) a.is) k
          ∙ get_or-append-add first (rowss (one a.node) at ++ last) i (plain_row 0 0 0)
          ∙ ap (λ (z : Tree). get_or (rowss (one z) at ++ last) i (plain_row 0 0 0)) y;
    }
