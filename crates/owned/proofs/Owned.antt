-- Octets and records that go on as wanted from the start are a tree's canonical form and its records.
use Prim.Native.Nat.{ℕ, zero, suc, ◌+◌, ◌-◌, ◌<◌}
use native.Mathlib.Omega.{arith}
use native.Mathlib.Nat.{add-zero}
use mathlib.Core.Path.{◌≡◌, refl, sym, ap, ap₂, ◌∙◌}
use mathlib.Core.List.{List, [], ◌∷◌, ◌++◌, append-nil}
use lib.ListN.{length, get_or, get_or-append}
use lib.Seq.{get_or-append-add}
use Rattle.base.proofs.Cases.{by_le}
use Rattle.model.specs.Decode.{decode₁}
use Rattle.model.specs.Table.{Row, plain_row, recorded, rows, rowss, parents, parentss}
use Rattle.model.specs.Tree.{Tree, plain, hinted, list, Forest, nil, cons, canon, nodes, nodess}
use Rattle.model.proofs.Canonical.{canon-sound, canon-complete}
use Rattle.walk.proofs.Tabled.{rows-length, parents-length}
use Rattle.owned.specs.Owned.{told, Own}
use Rattle.owned.specs.Wanted.{over, Told, Tolds, Ends, Wants}

abbrev none : Row
none = plain_row 0 0 0

-- ---- records one by one, and as a tree has them

module _ (R : ℕ → List ℕ) where
  abbrev Each : ℕ → ℕ → List Row → List ℕ → Type 0
  Each k n rs ps = (i : ℕ) → i < n → R (k + i) ≡ recorded (get_or rs i none) (get_or ps i 0)

  -- of two parts
  module _ (k m n : ℕ) (a b : List Row) (p q : List ℕ) (la : length a ≡ m) (lp : length p ≡ m) where
    both-parts : Each k m a p → Each (k + m) n b q → Each k (m + n) (a ++ b) (p ++ q)
    both-parts f g i h =
        by_le m i
        (λ l.
        let j : ℕ = i - m in
        let x : i ≡ length a + j = omega arith in
        let y : i ≡ length p + j = omega arith in
        let z : k + i ≡ k + m + j = omega arith in
        ap R z ∙ g j (omega arith)
        ∙ ap₂ recorded (sym (ap (λ (w : ℕ). get_or (a ++ b) w none) x ∙ get_or-append-add a b j none)) (sym (ap (λ (w : ℕ). get_or (p ++ q) w 0) y ∙ get_or-append-add p q j 0)))
        (λ l. f i l ∙ ap₂ recorded (sym (get_or-append a b none i (omega arith))) (sym (get_or-append p q 0 i (omega arith))))

    first_part : Each k (m + n) (a ++ b) (p ++ q) → Each k m a p
    first_part f i h = f i (omega arith) ∙ ap₂ recorded (get_or-append a b none i (omega arith)) (get_or-append p q 0 i (omega arith))

    second-part : Each k (m + n) (a ++ b) (p ++ q) → Each (k + m) n b q
    second-part f i h =
        let x : m + i ≡ length a + i = omega arith in
        let y : m + i ≡ length p + i = omega arith in
        let z : k + m + i ≡ k + (m + i) = omega arith in
        ap R z ∙ f (m + i) (omega arith)
        ∙ ap₂ recorded (ap (λ (w : ℕ). get_or (a ++ b) w none) x ∙ get_or-append-add a b i none) (ap (λ (w : ℕ). get_or (p ++ q) w 0) y ∙ get_or-append-add p q i 0)

  one : (k : ℕ) (r : Row) (p : ℕ) → R k ≡ recorded r p → Each k 1 (r ∷ []) (p ∷ [])
  one k r p e zero h = ap R (add-zero k) ∙ e
  one k r p e (suc i) h = absurd (omega arith)

  only : (k : ℕ) (r : Row) (p : ℕ) (rs : List Row) (ps : List ℕ) (n : ℕ) → Each k (1 + n) (r ∷ rs) (p ∷ ps) → R k ≡ recorded r p
  only k r p rs ps n f = ap R (sym (add-zero k)) ∙ f 0 (omega arith)

  mutual
    unfolding Told Tolds rows parents nodes

    told-each : (t : Tree) (at k up : ℕ) → Told R t at k up → Each k (nodes t) (rows t at) (parents t k up)
    told-each (plain d) at k up x = one k _ up x
    told-each (hinted h d) at k up x = one k _ up x
    told-each (list f) at k up x = both-parts k 1 (nodess f) (_ ∷ []) (rowss f (at + 1)) (up ∷ []) (parentss f (k + 1) k) refl refl (one k _ up x.0) (tolds-each f (at + 1) (k + 1) k x.1)

    tolds-each : (f : Forest) (at k up : ℕ) → Tolds R f at k up → Each k (nodess f) (rowss f at) (parentss f k up)
    tolds-each nil at k up x = λ i h. absurd (omega arith)
    tolds-each (cons t f) at k up x =
        both-parts k (nodes t) (nodess f) (rows t at) (rowss f (at + length (canon t))) (parents t k up) (parentss f (k + nodes t) up) (rows-length t at) (parents-length t k up)
        (told-each t at k up x.0) (tolds-each f (at + length (canon t)) (k + nodes t) up x.1)

  mutual
    unfolding Told Tolds rows parents nodes

    each-told : (t : Tree) (at k up : ℕ) → Each k (nodes t) (rows t at) (parents t k up) → Told R t at k up
    each-told (plain d) at k up x = only k _ up [] [] 0 x
    each-told (hinted h d) at k up x = only k _ up [] [] 0 x
    each-told (list f) at k up x = (
      only k _ up (rowss f (at + 1)) (parentss f (k + 1) k) (nodess f) x,
      each-tolds f (at + 1) (k + 1) k (second-part k 1 (nodess f) (_ ∷ []) (rowss f (at + 1)) (up ∷ []) (parentss f (k + 1) k) refl refl x),
    )

    each-tolds : (f : Forest) (at k up : ℕ) → Each k (nodess f) (rowss f at) (parentss f k up) → Tolds R f at k up
    each-tolds nil at k up x = tt
    each-tolds (cons t f) at k up x = (
      each-told t at k up (first_part k (nodes t) (nodess f) (rows t at) (rowss f (at + length (canon t))) (parents t k up) (parentss f (k + nodes t) up) (rows-length t at) (parents-length t k up) x),
      each-tolds f (at + length (canon t)) (k + nodes t) up (second-part k (nodes t) (nodess f) (rows t at) (rowss f (at + length (canon t))) (parents t k up) (parentss f (k + nodes t) up) (rows-length t at) (parents-length t k up) x),
    )

-- ---- from the start

module _ (src notes : List ℕ) (n : ℕ) where
  abbrev R : ℕ → List ℕ
  R = told notes

  pub wanted-own : {G : Type 0} → Wants R n [] src 0 0 → ((t : Tree) → Own src notes n t → G) → G
  unfolding Wants Ends over
  wanted-own w f =
      let t : Tree = w.tree in
      let c : n ≡ nodes t = omega (arith, w.on.1) in
      let e : src ≡ canon t = w.is ∙ ap (λ (z : List ℕ). canon t ++ z) w.on.0 ∙ append-nil (canon t) in
      let each : Each R 0 (nodes t) (rows t 0) (parents t 0 0) = told-each R t 0 0 0 w.told in
      f t
      (record {
        is = ap decode₁ e ∙ canon-complete t;
        deep = omega (arith, w.shallow);
        counted = c;
        each = λ i h. let z : i ≡ 0 + i = omega arith in ap R z ∙ each i (omega arith);
      })

  pub own-wanted : (t : Tree) → Own src notes n t → Wants R n [] src 0 0
  unfolding Wants Ends over
  own-wanted t o =
      record {
        tree = t;
        rest = [];
        is = canon-sound src t o.is ∙ sym (append-nil (canon t));
        told = each-told R t 0 0 0 (λ i h. let z : 0 + i ≡ i = omega arith in ap R z ∙ o.each i (omega (arith, o.counted)));
        shallow = omega (arith, o.deep);
        on = (refl, omega (arith, o.counted));
      }
