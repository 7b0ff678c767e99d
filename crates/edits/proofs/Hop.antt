-- Hopping over node counts: after k elements one stands where the k-th is, and there is no such place exactly where the list ends earlier.
use Prim.Native.Nat.{ℕ, zero, suc, ◌+◌, ◌-◌, ◌≤◌, ◌<◌}
use native.Mathlib.Omega.{arith}
use mathlib.Core.Path.{◌≡◌, refl, sym, ap, ap₂, ◌∙◌}
use mathlib.Core.Option.{none, some}
use mathlib.Core.List.{List, ◌++◌, append_assoc}
use lib.ListN.{length, get_or, length-append}
use lib.Dec.{leb}
use lib.Seq.{get_or-append-add}
use borrow.Author.Tests.{lt-ltb, le-ltb, le-leb, lt-leb}
use Rattle.base.specs.Choice.{pick}
use Rattle.base.proofs.Cases.{by_le, picked, unpicked}
use Rattle.model.specs.Node.{elements}
use Rattle.model.specs.Table.{Row, plain_row, rows, rowss}
use Rattle.model.specs.Tree.{Forest, nil, cons, canon, nodes, nodess}
use Rattle.walk.proofs.Tabled.{rows-length}
use Rattle.edits.specs.Element.{element}
use Rattle.edits.specs.Place.{before, number, Place, here, past, down, trail}
use Rattle.edits.proofs.Find.{nodes-pos}
use Rattle.edits.proofs.Inside.{nth, within-at}
use Rattle.edits.proofs.Sides.{part, rows_before}
use Rattle.edits.proofs.Whole.{head-row}

-- rows that count alike are hopped over alike
pub element-same : (row row' : ℕ → Row) (end : ℕ) → ((i : ℕ) → i < end → (row i).count ≡ (row' i).count) → (k j : ℕ) → element row end k j ≡ element row' end k j
unfolding element
element-same row row' end f zero j = refl
element-same row row' end f (suc k) j =
    by_le end j
    (λ h. unpicked _ _ (le-ltb j end h) ∙ sym (unpicked _ _ (le-ltb j end h)))
    (λ h. picked _ _ (lt-ltb j end h) ∙ ap (λ (c : ℕ). element row end k (j + c)) (f j h) ∙ element-same row row' end f k (j + (row' j).count) ∙ sym (picked _ _ (lt-ltb j end h)))

leb-suc : (k n : ℕ) → leb (suc k) (1 + n) ≡ leb k n
leb-suc k n = by_le k n (λ h. le-leb (suc k) (1 + n) (omega arith) ∙ sym (le-leb k n h)) (λ h. lt-leb (suc k) (1 + n) (omega arith) ∙ sym (lt-leb k n h))

-- from the first node of a forest on
pub hop : (row : ℕ → Row) (f : Forest) (at k j end : ℕ) → end ≡ j + nodess f → ((i : ℕ) → i < nodess f → (row (j + i)).count ≡ (get_or (rowss f at) i (plain_row 0 0 0)).count)
    → element row end k j ≡ pick (leb k (elements f)) (some (j + number (nth f k))) none
unfolding element nth number elements nodess rowss
hop row f at zero j end e g = let z : j + 0 ≡ j = omega arith in rw (le-leb 0 (elements f) (omega arith), z)
hop row nil at (suc k) j end e g = unpicked _ _ (le-ltb j end (omega arith)) ∙ sym (unpicked _ _ (lt-leb (suc k) 0 (omega arith)))
hop row (cons t f) at (suc k) j end e g =
    let p = nodes-pos t in
    let z : j + 0 ≡ j = omega arith in
    let c : (row j).count ≡ nodes t = rw z at (g 0 (omega arith)) ∙ (head-row t at (rowss f (at + length (canon t)))).count in
    let y : j + (nodes t + number (nth f k)) ≡ j + nodes t + number (nth f k) = omega arith in
    picked _ _ (lt-ltb j end (omega arith))
    ∙ ap (λ (n : ℕ). element row end k (j + n)) c
    ∙ hop row f (at + length (canon t)) k (j + nodes t) end (omega arith)
    (λ i h.
    let x : j + (nodes t + i) ≡ j + nodes t + i = omega arith in
    let w : length (rows t at) ≡ nodes t = rows-length t at in
    let y : get_or (rows t at ++ rowss f (at + length (canon t))) (nodes t + i) (plain_row 0 0 0) ≡ get_or (rowss f (at + length (canon t))) i (plain_row 0 0 0)
    = rw w at (get_or-append-add (rows t at) (rowss f (at + length (canon t))) i (plain_row 0 0 0)) in
    rw (x, y) at (g (nodes t + i) (omega arith)))
    ∙ ap₂ (λ b n. pick b (some n) none) (sym (leb-suc k (elements f))) (sym y)

-- ---- the octet where the k-th element begins, by the first row after its place
pub nth-start : (f : Forest) (k at : ℕ) → k < elements f → (rest : List Row) → (get_or (trail (nth f k) at ++ rest) 0 (plain_row 0 0 0)).start ≡ at
unfolding nth trail elements rowss
nth-start nil k at h rest = absurd (omega arith)
nth-start (cons t f) zero at h rest = rw (append_assoc (rows t at) (rowss f (at + length (canon t))) rest) (head-row t at (rowss f (at + length (canon t)) ++ rest)).start
nth-start (cons t f) (suc k) at h rest = nth-start f k at (omega arith) rest

pub within-start : (p q : Place) (at : ℕ) → ((rest : List Row) → (get_or (trail q at ++ rest) 0 (plain_row 0 0 0)).start ≡ at)
    → (rest : List Row) → (get_or (trail (within-at p q) at ++ rest) 0 (plain_row 0 0 0)).start ≡ at
unfolding within-at trail
within-start (here b) q at g rest = rw append_assoc (g _)
within-start (past t p) q at g rest = within-start p q at g rest
within-start (down p b) q at g rest = rw append_assoc (within-start p q at g _)

-- ---- the rows before the k-th element end by its place
pub nth-ends : (f : Forest) (k at i : ℕ) → i < number (nth f k) → (get_or (rowss f at) i (plain_row 0 0 0)).end ≤ at + length (before (nth f k))
unfolding nth number before rowss
nth-ends f zero at i h = absurd (omega arith)
nth-ends nil (suc k) at i h = absurd (omega arith)
nth-ends (cons t f) (suc k) at i h =
    let n = rows-length t at in
    let c = length-append (canon t) (before (nth f k)) in
    part (rows t at) (rowss f (at + length (canon t))) i (λ (r : Row). r.end ≤ at + length (canon t ++ before (nth f k)))
    (λ l. let r = rows_before t at i (omega arith) in omega (arith, r.octets))
    (λ l. omega (arith, nth-ends f k (at + length (canon t)) (i - length (rows t at)) (omega arith)))
