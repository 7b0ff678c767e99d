-- What is left of a sheet's octets, by its rows, is its extract's canonical form.
use Prim.Native.Nat.{ℕ, zero, suc, ◌+◌, ◌-◌, ◌≤◌, ◌<◌}
use native.Mathlib.Omega.{arith}
use mathlib.Core.Path.{◌≡◌, refl, sym, ap, ap₂, ◌∙◌}
use mathlib.Core.Bool.{true, false}
use mathlib.Core.List.{List, [], ◌∷◌, ◌++◌, append_assoc, append-nil}
use lib.ListN.{length, take, drop, length-append, take-append-drop}
use lib.Seq.{drop_at, take_at, drop-drop, take-add, drop-length}
use borrow.Author.Tests.{lt-ltb}
use Rattle.base.specs.Choice.{equal}
use Rattle.base.proofs.Cases.{by_bool, picked, unpicked}
use Rattle.model.specs.Table.{Row, rows, rowss, body_start, body_end, list_row}
use Rattle.model.specs.Tree.{Tree, plain, hinted, list, Forest, nil, cons, digits, verbatim, canon, canons, nodes, nodess}
use Rattle.model.proofs.Sizes.{verbatim-length}
use Rattle.walk.proofs.Tabled.{rowss-length}
use Rattle.extracts.specs.Extract.{word, hides, extract, extracts}
use Rattle.extracts.proofs.Hiding.{hidden-list, shown-list}
use Rattle.extract.specs.Cut.{part, begins, private, cut}
use Rattle.extract.proofs.Laid.{Laid, laid_none, laid_one, laid-back, laid-forest, list-long, cons-long}

-- ---- parts of a list

-- a place further on
drop-on : (src : List ℕ) (a b : ℕ) → a ≤ b → drop (b - a) (drop a src) ≡ drop b src
drop-on src a b h = let z : a + (b - a) ≡ b = omega arith in drop-drop (b - a) a src ∙ ap (λ (n : ℕ). drop n src) z

pub part-rest : (src : List ℕ) (a b : ℕ) → a ≤ b → drop a src ≡ part src a b ++ drop b src
part-rest src a b h = sym (take-append-drop (b - a) (drop a src)) ∙ ap (λ (x : List ℕ). part src a b ++ x) (drop-on src a b h)

part_join : (src : List ℕ) (a b c : ℕ) → a ≤ b → b ≤ c → part src a c ≡ part src a b ++ part src b c
part_join src a b c h k =
    let e : c - a ≡ (b - a) + (c - b) = omega arith in
    ap (λ (n : ℕ). take n (drop a src)) e
    ∙ take-add (b - a) (c - b) (drop a src)
    ∙ ap (λ (x : List ℕ). part src a b ++ take (c - b) x) (drop-on src a b h)

-- what stands at a place
part_at : (src x rest : List ℕ) (a b : ℕ) → drop a src ≡ x ++ rest → a + length x ≡ b → part src a b ≡ x
part_at src x rest a b e z = ap (take (b - a)) e ∙ take_at x rest (b - a) (omega arith)

drop_past : (src x rest : List ℕ) (a b : ℕ) → drop a src ≡ x ++ rest → a + length x ≡ b → drop b src ≡ rest
drop_past src x rest a b e z = sym (drop-on src a b (omega arith)) ∙ ap (drop (b - a)) e ∙ drop_at x rest (b - a) (omega arith)

-- ---- cutting

-- what stands before a place where nothing is cut out is left
pub cut-from : (src : List ℕ) (n from q : ℕ) (rs : List Row) (hop : ℕ) → from ≤ q → Laid n q rs → cut src rs hop from ≡ part src from q ++ cut src rs hop q
unfolding cut
cut-from src n from q [] hop h l = part-rest src from q h
cut-from src n from q (r ∷ rs) (suc hop) h (laid_one a b c d e f g) = cut-from src n from q rs hop h g
cut-from src n from q (r ∷ rs) zero h (laid_one a b c d e f g) =
    by_bool (private src r rs)
    (λ p.
    picked _ _ p
    ∙ ap (λ (x : List ℕ). x ++ cut src rs (r.count - 1) r.data_end) (part_join src from q r.data_start h a)
    ∙ append_assoc (part src from q) (part src q r.data_start) _
    ∙ ap (λ (x : List ℕ). part src from q ++ x) (sym (picked _ _ p)))
    (λ p. unpicked _ _ p ∙ cut-from src n from q rs zero h g ∙ ap (λ (x : List ℕ). part src from q ++ x) (sym (unpicked _ _ p)))

-- rows that are hopped over are left away
pub cut-hop : (src : List ℕ) (rs : List Row) (hop from : ℕ) → cut src rs hop from ≡ cut src (drop hop rs) 0 from
unfolding cut
cut-hop src [] zero from = refl
cut-hop src [] (suc hop) from = refl
cut-hop src (r ∷ rs) zero from = refl
cut-hop src (r ∷ rs) (suc hop) from = cut-hop src rs hop from

pub cut-private : (src : List ℕ) (r : Row) (rs : List Row) (from : ℕ) → private src r rs ≡ true → cut src (r ∷ rs) 0 from ≡ part src from r.data_start ++ cut src (drop (r.count - 1) rs) 0 r.data_end
unfolding cut
cut-private src r rs from p = picked _ _ p ∙ ap (λ (x : List ℕ). part src from r.data_start ++ x) (cut-hop src rs (r.count - 1) r.data_end)

pub cut-other : (src : List ℕ) (r : Row) (rs : List Row) (from : ℕ) → private src r rs ≡ false → cut src (r ∷ rs) 0 from ≡ cut src rs 0 from
unfolding cut
cut-other src r rs from p = unpicked _ _ p

-- ---- a list is private by its row and the next where it hides its elements

module _ (src rest : List ℕ) (at : ℕ) (rs : List Row) where
  plain-begins : (d : List ℕ) (f : Forest) → drop at src ≡ canon (list (cons (plain d) f)) ++ rest → begins src (rowss (cons (plain d) f) (at + 1) ++ rs) ≡ equal d word
  unfolding begins rows rowss canon canons verbatim
  plain-begins d f e =
      let g : digits (length d) ++ (58 ∷ d) ≡ (digits (length d) ++ (58 ∷ [])) ++ d = sym (append_assoc (digits (length d)) (58 ∷ []) d) in
      let m : List ℕ = 40 ∷ (digits (length d) ++ (58 ∷ [])) in
      let t : List ℕ = (canons f ++ (41 ∷ [])) ++ rest in
      let w : drop at src ≡ m ++ (d ++ t)
      = e ∙ ap (λ (x : List ℕ). 40 ∷ (((x ++ canons f) ++ (41 ∷ [])) ++ rest)) g
      ∙ ap (λ (x : List ℕ). 40 ∷ (x ++ rest)) (append_assoc ((digits (length d) ++ (58 ∷ [])) ++ d) (canons f) (41 ∷ []))
      ∙ ap (λ (x : List ℕ). 40 ∷ x) (append_assoc ((digits (length d) ++ (58 ∷ [])) ++ d) (canons f ++ (41 ∷ [])) rest ∙ append_assoc (digits (length d) ++ (58 ∷ [])) d t) in
      let l = length-append (digits (length d)) (58 ∷ []) in
      let v = drop_past src m (d ++ t) at (body_start (at + 1) d) w (omega arith) in
      ap (λ (x : List ℕ). equal x word) (part_at src d t (body_start (at + 1) d) (body_end (at + 1) d) v (omega (arith, verbatim-length d)))

  two : (t : Tree) (f : Forest) → 1 < nodes (list (cons t f))
  unfolding nodes nodess
  two (plain d) f = omega arith
  two (hinted h d) f = omega arith
  two (list g) f = omega arith

  one : nodes (list nil) ≡ 1
  unfolding nodes nodess
  one = refl

  others-begin : (t : Tree) (f : Forest) → drop at src ≡ canon (list (cons t f)) ++ rest → begins src (rowss (cons t f) (at + 1) ++ rs) ≡ hides (cons t f)
  unfolding hides begins rows rowss
  others-begin (plain d) f e = plain-begins d f e
  others-begin (hinted h d) f e = refl
  others-begin (list g) f e = refl

  private-hides : (f : Forest) (e : ℕ) → drop at src ≡ canon (list f) ++ rest → private src (list_row at e (nodes (list f))) (rowss f (at + 1) ++ rs) ≡ hides f
  unfolding private hides
  private-hides nil e h = rw one
  private-hides (cons t f) e h = rw (lt-ltb 1 (nodes (list (cons t f))) (two t f)) (others-begin t f h)

-- ---- and what is left of a tree's octets is its extract's

module _ (src : List ℕ) where
  list-before : (f : Forest) (rest : List ℕ) (p : ℕ) → drop p src ≡ canon (list f) ++ rest → part src p (p + 1) ≡ 40 ∷ []
  unfolding canon
  list-before f rest p e = part_at src (40 ∷ []) ((canons f ++ (41 ∷ [])) ++ rest) p (p + 1) e (omega arith)

  list_inside : (f : Forest) (rest : List ℕ) (p : ℕ) → drop p src ≡ canon (list f) ++ rest → drop (p + 1) src ≡ canons f ++ ((41 ∷ []) ++ rest)
  unfolding canon
  list_inside f rest p e = drop_past src (40 ∷ []) ((canons f ++ (41 ∷ [])) ++ rest) p (p + 1) e (omega arith) ∙ append_assoc (canons f) (41 ∷ []) rest

  list-after : (f : Forest) (rest : List ℕ) (p q z : ℕ) → drop p src ≡ canon (list f) ++ rest → q ≡ p + 1 + length (canons f) → z ≡ q + 1 → part src q z ≡ 41 ∷ []
  list-after f rest p q z e h k =
      part_at src (41 ∷ []) rest q z (drop_past src (canons f) ((41 ∷ []) ++ rest) (p + 1) q (list_inside f rest p e) (omega arith)) (omega arith)

  string-left : (t : Tree) (r : Row) (p : ℕ) (rest : List ℕ) (rs : List Row) (n : ℕ) → private src r rs ≡ false → drop p src ≡ canon t ++ rest → Laid n (p + length (canon t)) rs
      → cut src (r ∷ rs) 0 p ≡ canon t ++ cut src rs 0 (p + length (canon t))
  string-left t r p rest rs n w e l =
      cut-other src r rs p w
      ∙ cut-from src n p (p + length (canon t)) rs 0 (omega arith) l
      ∙ ap (λ (x : List ℕ). x ++ cut src rs 0 (p + length (canon t))) (part_at src (canon t) rest p _ e refl)

  empty-canon : canon (list nil) ≡ 40 ∷ 41 ∷ []
  unfolding canon canons
  empty-canon = refl

  list-canon : (f : Forest) → canon (list f) ≡ 40 ∷ (canons f ++ (41 ∷ []))
  unfolding canon
  list-canon f = refl

  module _ (n : ℕ) (f : Forest) (p : ℕ) (rest : List ℕ) (rs : List Row) (e : drop p src ≡ canon (list f) ++ rest) (l : Laid n (p + length (canon (list f))) rs) where
    abbrev ends : ℕ
    ends = p + length (canon (list f))

    abbrev row : Row
    row = list_row p (p + length (canon (list f))) (nodes (list f))

    closes : (q : ℕ) → q ≡ p + 1 + length (canons f) → cut src rs 0 q ≡ 41 ∷ cut src rs 0 ends
    closes q z =
        cut-from src n q ends rs 0 (omega (arith, list-long f)) l
        ∙ ap (λ (x : List ℕ). x ++ cut src rs 0 ends) (list-after f rest p q ends e z (omega (arith, list-long f)))

    hops : drop (nodes (list f) - 1) (rowss f (p + 1) ++ rs) ≡ rs
    unfolding nodes
    hops = drop_at (rowss f (p + 1)) rs (nodes (list f) - 1) (omega (arith, rowss-length f (p + 1)))

    hidden-left : hides f ≡ true → cut src (row ∷ (rowss f (p + 1) ++ rs)) 0 p ≡ canon (extract (list f)) ++ cut src rs 0 ends
    hidden-left h =
        cut-private src row (rowss f (p + 1) ++ rs) p (private-hides src rest p rs f _ e ∙ h)
        ∙ ap₂ (λ (x : List ℕ) (y : List Row). x ++ cut src y 0 (ends - 1)) (list-before f rest p e) hops
        ∙ ap (λ (x : List ℕ). 40 ∷ x) (closes (ends - 1) (omega (arith, list-long f)))
        ∙ ap (λ (x : List ℕ). x ++ cut src rs 0 ends) (sym (ap canon (hidden-list f h) ∙ empty-canon))

    shown-left : hides f ≡ false → Laid n (p + 1) (rowss f (p + 1) ++ rs) → cut src (rowss f (p + 1) ++ rs) 0 (p + 1) ≡ canons (extracts f) ++ cut src rs 0 (p + 1 + length (canons f))
        → cut src (row ∷ (rowss f (p + 1) ++ rs)) 0 p ≡ canon (extract (list f)) ++ cut src rs 0 ends
    shown-left h g k =
        cut-other src row (rowss f (p + 1) ++ rs) p (private-hides src rest p rs f _ e ∙ h)
        ∙ cut-from src n p (p + 1) (rowss f (p + 1) ++ rs) 0 (omega arith) g
        ∙ ap₂ (λ (x y : List ℕ). x ++ y) (list-before f rest p e) (k ∙ ap (λ (x : List ℕ). canons (extracts f) ++ x) (closes _ refl))
        ∙ ap (λ (x : List ℕ). 40 ∷ x) (sym (append_assoc (canons (extracts f)) (41 ∷ []) (cut src rs 0 ends)))
        ∙ ap (λ (x : List ℕ). x ++ cut src rs 0 ends) (sym (ap canon (shown-list f h) ∙ list-canon (extracts f)))

  module _ (n : ℕ) where
    strings-left : (t : Tree) → extract t ≡ t → (r : Row) (p : ℕ) (rest : List ℕ) (rs : List Row) → rows t p ≡ r ∷ [] → private src r rs ≡ false → drop p src ≡ canon t ++ rest → Laid n (p + length (canon t)) rs
        → cut src (rows t p ++ rs) 0 p ≡ canon (extract t) ++ cut src rs 0 (p + length (canon t))
    strings-left t z r p rest rs y w e l =
        ap (λ (x : List Row). cut src (x ++ rs) 0 p) y
        ∙ string-left t r p rest rs n w e l
        ∙ ap (λ (x : Tree). canon x ++ cut src rs 0 (p + length (canon t))) (sym z)

    plain-left : (d : List ℕ) (p : ℕ) (rest : List ℕ) (rs : List Row) → drop p src ≡ canon (plain d) ++ rest → Laid n (p + length (canon (plain d))) rs
        → cut src (rows (plain d) p ++ rs) 0 p ≡ canon (extract (plain d)) ++ cut src rs 0 (p + length (canon (plain d)))
    unfolding extract rows private
    plain-left d p rest rs e l = strings-left (plain d) refl _ p rest rs refl refl e l

    hinted-left : (h d : List ℕ) (p : ℕ) (rest : List ℕ) (rs : List Row) → drop p src ≡ canon (hinted h d) ++ rest → Laid n (p + length (canon (hinted h d))) rs
        → cut src (rows (hinted h d) p ++ rs) 0 p ≡ canon (extract (hinted h d)) ++ cut src rs 0 (p + length (canon (hinted h d)))
    unfolding extract rows private
    hinted-left h d p rest rs e l = strings-left (hinted h d) refl _ p rest rs refl refl e l

    list-rows : (f : Forest) (p : ℕ) (rs : List Row) → rows (list f) p ++ rs ≡ list_row p (p + length (canon (list f))) (nodes (list f)) ∷ (rowss f (p + 1) ++ rs)
    unfolding rows
    list-rows f p rs = refl

    nil-left : (p : ℕ) (rs : List Row) → cut src (rowss nil p ++ rs) 0 p ≡ canons (extracts nil) ++ cut src rs 0 (p + length (canons nil))
    unfolding rowss canons extracts
    nil-left p rs = let z : p ≡ p + 0 = omega arith in ap (cut src rs 0) z

    cons-left : (t : Tree) (f : Forest) (p : ℕ) (rs : List Row)
        → cut src (rows t p ++ (rowss f (p + length (canon t)) ++ rs)) 0 p ≡ canon (extract t) ++ cut src (rowss f (p + length (canon t)) ++ rs) 0 (p + length (canon t))
        → cut src (rowss f (p + length (canon t)) ++ rs) 0 (p + length (canon t)) ≡ canons (extracts f) ++ cut src rs 0 (p + length (canon t) + length (canons f))
        → cut src (rowss (cons t f) p ++ rs) 0 p ≡ canons (extracts (cons t f)) ++ cut src rs 0 (p + length (canons (cons t f)))
    unfolding rowss canons extracts
    cons-left t f p rs g k =
        let z : p + length (canon t) + length (canons f) ≡ p + length (canon t ++ canons f) = omega (arith, length-append (canon t) (canons f)) in
        ap (λ (x : List Row). cut src x 0 p) (append_assoc (rows t p) (rowss f (p + length (canon t))) rs)
        ∙ g
        ∙ ap (λ (x : List ℕ). canon (extract t) ++ x) (k ∙ ap (λ (i : ℕ). canons (extracts f) ++ cut src rs 0 i) z)
        ∙ sym (append_assoc (canon (extract t)) (canons (extracts f)) _)

    first_of : (t : Tree) (f : Forest) (rest : List ℕ) → canons (cons t f) ++ rest ≡ canon t ++ (canons f ++ rest)
    unfolding canons
    first_of t f rest = append_assoc (canon t) (canons f) rest

    mutual
      cut-tree : (t : Tree) (p : ℕ) (rest : List ℕ) (rs : List Row) → drop p src ≡ canon t ++ rest → p + length (canon t) ≤ n → Laid n (p + length (canon t)) rs
          → cut src (rows t p ++ rs) 0 p ≡ canon (extract t) ++ cut src rs 0 (p + length (canon t))
      cut-tree (plain d) p rest rs e h l = plain-left d p rest rs e l
      cut-tree (hinted x d) p rest rs e h l = hinted-left x d p rest rs e l
      cut-tree (list f) p rest rs e h l =
          let g : Laid n (p + 1 + length (canons f)) rs = laid-back (p + length (canon (list f))) _ rs (omega (arith, list-long f)) l in
          ap (λ (x : List Row). cut src x 0 p) (list-rows f p rs)
          ∙ by_bool (hides f)
          (λ w. hidden-left n f p rest rs e l w)
          (λ w. shown-left n f p rest rs e l w (laid-forest n f (p + 1) rs (omega (arith, list-long f)) g) (cut-forest f (p + 1) ((41 ∷ []) ++ rest) rs (list_inside f rest p e) (omega (arith, list-long f)) g))

      cut-forest : (f : Forest) (p : ℕ) (rest : List ℕ) (rs : List Row) → drop p src ≡ canons f ++ rest → p + length (canons f) ≤ n → Laid n (p + length (canons f)) rs
          → cut src (rowss f p ++ rs) 0 p ≡ canons (extracts f) ++ cut src rs 0 (p + length (canons f))
      cut-forest nil p rest rs e h l = nil-left p rs
      cut-forest (cons t f) p rest rs e h l =
          let y : drop p src ≡ canon t ++ (canons f ++ rest) = e ∙ first_of t f rest in
          let g : Laid n (p + length (canon t) + length (canons f)) rs = laid-back (p + length (canons (cons t f))) _ rs (omega (arith, cons-long t f)) l in
          cons-left t f p rs
          (cut-tree t p (canons f ++ rest) (rowss f (p + length (canon t)) ++ rs) y (omega (arith, cons-long t f)) (laid-forest n f (p + length (canon t)) rs (omega (arith, cons-long t f)) g))
          (cut-forest f (p + length (canon t)) rest rs (drop_past src (canon t) (canons f ++ rest) p (p + length (canon t)) y refl) (omega (arith, cons-long t f)) g)

-- the octets that are left are those of the extract
pub cut-whole : (t : Tree) → cut (canon t) (rows t 0) 0 0 ≡ canon (extract t)
unfolding cut
cut-whole t =
    let z : 0 + length (canon t) ≡ length (canon t) = omega arith in
    ap (λ (x : List Row). cut (canon t) x 0 0) (sym (append-nil (rows t 0)))
    ∙ cut-tree (canon t) (length (canon t)) t 0 [] [] (sym (append-nil (canon t))) (omega arith) laid_none
    ∙ ap (λ (x : List ℕ). canon (extract t) ++ x) (ap (λ (i : ℕ). drop i (canon t)) z ∙ drop-length (canon t))
    ∙ append-nil (canon (extract t))
