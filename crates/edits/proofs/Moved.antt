-- What the law of moving says of single octets and records, whatever the edit.
use Prim.Native.Nat.{ℕ, zero, suc, ◌+◌, ◌-◌, ◌≤◌, ◌<◌}
use native.Mathlib.Omega.{arith}
use mathlib.Core.Path.{◌≡◌, refl, sym, ap, ap₂, ◌∙◌}
use mathlib.Core.Bool.{true, false}
use mathlib.Core.List.{List, [], ◌∷◌, ◌++◌, append_assoc, map}
use lib.ListN.{length, take, drop, get_or, length-append, length-take, length-drop, length-map, get_or-append}
use lib.Seq.{take_at, drop_at, length-take-le, get_or-append-add, get_or-take, get_or-drop}
use Rattle.base.proofs.Cases.{picked, unpicked}
use Rattle.model.specs.Table.{Row, plain_row, rows, rowss, row_of}
use Rattle.model.specs.Tree.{Tree, Forest, canon, canons, nodes, nodess}
use Rattle.edits.specs.Moves.{Moves}
use Rattle.edits.specs.Place.{moved, grown, around, kept}
use Rattle.walk.proofs.Tabled.{rows-length, rowss-length}

-- ---- lists in three parts
module _ {A : Type 0} (a b c : List A) (d : A) where
  pub in-first : (i : ℕ) → i < length a → get_or (a ++ (b ++ c)) i d ≡ get_or a i d
  in-first i h = get_or-append a (b ++ c) d i h

  pub in-second : (i : ℕ) → i < length b → get_or (a ++ (b ++ c)) (length a + i) d ≡ get_or b i d
  in-second i h = get_or-append-add a (b ++ c) i d ∙ get_or-append b c d i h

  pub in-third : (i : ℕ) → get_or (a ++ (b ++ c)) (length a + length b + i) d ≡ get_or c i d
  in-third i = let e : length a + length b + i ≡ length a + (length b + i) = omega arith in rw e (get_or-append-add a (b ++ c) (length b + i) d ∙ get_or-append-add b c i d)

pub get_or-map-in : {A B : Type 0} (f : A → B) (l : List A) (i : ℕ) (a : A) (b : B) → i < length l → get_or (map f l) i b ≡ f (get_or l i a)
get_or-map-in f [] i a b h = absurd (omega arith)
get_or-map-in f (x ∷ l) zero a b h = refl
get_or-map-in f (x ∷ l) (suc i) a b h = get_or-map-in f l i a b (omega arith)

module _ {t t' : Tree} {k n s l : ℕ} {g : Forest} (m : Moves t t' k n s l g) where
  -- ---- octets
  start-length : length (take s (canon t)) ≡ s
  start-length = length-take-le s (canon t) (omega (arith, m.octets_in))

  pub new-length : length (canon t') + l ≡ length (canon t) + length (canons g)
  new-length =
      let e = simp (length-append, length-take, length-drop) at (ap length m.octets) in
      omega (arith, m.octets_in)

  pub octets-front : take s (canon t') ≡ take s (canon t)
  octets-front = ap (take s) m.octets ∙ take_at (take s (canon t)) (canons g ++ drop (s + l) (canon t)) s start-length

  pub octets-entry : take (length (canons g)) (drop s (canon t')) ≡ canons g
  octets-entry =
      ap (λ (x : List ℕ). take (length (canons g)) (drop s x)) m.octets
      ∙ ap (take (length (canons g))) (drop_at (take s (canon t)) (canons g ++ drop (s + l) (canon t)) s start-length)
      ∙ take_at (canons g) (drop (s + l) (canon t)) (length (canons g)) refl

  pub octets-back : drop (s + length (canons g)) (canon t') ≡ drop (s + l) (canon t)
  octets-back =
      ap (drop (s + length (canons g))) (m.octets ∙ sym (append_assoc (take s (canon t)) (canons g) (drop (s + l) (canon t))))
      ∙ drop_at (take s (canon t) ++ canons g) (drop (s + l) (canon t)) (s + length (canons g)) (length-append (take s (canon t)) (canons g) ∙ ap (λ (x : ℕ). x + length (canons g)) start-length)

  pub octet-before : (i : ℕ) → i < s → get_or (canon t') i 0 ≡ get_or (canon t) i 0
  octet-before i h =
      let x = start-length in
      ap (λ (l : List ℕ). get_or l i 0) m.octets ∙ in-first (take s (canon t)) (canons g) (drop (s + l) (canon t)) 0 i (omega arith) ∙ get_or-take s (canon t) i 0 h

  pub octet-new : (i : ℕ) → i < length (canons g) → get_or (canon t') (s + i) 0 ≡ get_or (canons g) i 0
  octet-new i h =
      ap (λ (l : List ℕ). get_or l (s + i) 0) m.octets
      ∙ ap (λ (q : ℕ). get_or (take s (canon t) ++ (canons g ++ drop (s + l) (canon t))) (q + i) 0) (sym start-length)
      ∙ in-second (take s (canon t)) (canons g) (drop (s + l) (canon t)) 0 i h

  pub octet-after : (i : ℕ) → s + l ≤ i → get_or (canon t') (i + length (canons g) - l) 0 ≡ get_or (canon t) i 0
  octet-after i h =
      let x = start-length in
      let y : i + length (canons g) - l ≡ length (take s (canon t)) + length (canons g) + (i - (s + l)) = omega arith in
      let z : s + l + (i - (s + l)) ≡ i = omega arith in
      ap₂ (λ (l : List ℕ) (q : ℕ). get_or l q 0) m.octets y ∙ in-third (take s (canon t)) (canons g) (drop (s + l) (canon t)) 0 (i - (s + l)) ∙ get_or-drop (s + l) (canon t) (i - (s + l)) 0 ∙ rw z

  -- ---- records
  abbrev leading : List Row
  leading = map (kept s l (length (canons g)) n (nodess g)) (take k (rows t 0))

  abbrev trailing : List Row
  trailing = map (moved l (length (canons g))) (drop (k + n) (rows t 0))

  taken-length : length (take k (rows t 0)) ≡ k
  taken-length = length-take-le k (rows t 0) (omega (arith, m.nodes_in, rows-length t 0))

  leading_length : length leading ≡ k
  leading_length = length-map (take k (rows t 0)) _ ∙ taken-length

  -- an earlier record stays, or is that of a list around the entry
  pub record-before : (j : ℕ) → j < k → row_of t' j ≡ kept s l (length (canons g)) n (nodess g) (row_of t j)
  record-before j h =
      ap (λ (l : List Row). get_or l j (plain_row 0 0 0)) m.table
      ∙ in-first leading (rowss g s) trailing (plain_row 0 0 0) j (omega (arith, leading_length))
      ∙ get_or-map-in _ (take k (rows t 0)) j (plain_row 0 0 0) (plain_row 0 0 0) (omega (arith, taken-length))
      ∙ ap (kept s l (length (canons g)) n (nodess g)) (get_or-take k (rows t 0) j (plain_row 0 0 0) h)

  pub record-aside : (j : ℕ) → j < k → around s (s + l) (row_of t j) ≡ false → row_of t' j ≡ row_of t j
  record-aside j h e = record-before j h ∙ unpicked _ _ e

  pub record-around : (j : ℕ) → j < k → around s (s + l) (row_of t j) ≡ true → row_of t' j ≡ grown l (length (canons g)) n (nodess g) (row_of t j)
  record-around j h e = record-before j h ∙ picked _ _ e

  -- the entry's own records
  pub record-new : (i : ℕ) → i < nodess g → row_of t' (k + i) ≡ get_or (rowss g s) i (plain_row 0 0 0)
  record-new i h =
      ap (λ (l : List Row). get_or l (k + i) (plain_row 0 0 0)) m.table
      ∙ ap (λ (q : ℕ). get_or (leading ++ (rowss g s ++ trailing)) (q + i) (plain_row 0 0 0)) (sym leading_length)
      ∙ in-second leading (rowss g s) trailing (plain_row 0 0 0) i (omega (arith, rowss-length g s))

  -- a later record moves with its node
  pub record-after : (j : ℕ) → k + n ≤ j → j < nodes t → row_of t' (j + nodess g - n) ≡ moved l (length (canons g)) (row_of t j)
  record-after j h i =
      let y : j + nodess g - n ≡ length leading + length (rowss g s) + (j - (k + n)) = omega (arith, leading_length, rowss-length g s) in
      let z : k + n + (j - (k + n)) ≡ j = omega arith in
      ap₂ (λ (l : List Row) (q : ℕ). get_or l q (plain_row 0 0 0)) m.table y
      ∙ in-third leading (rowss g s) trailing (plain_row 0 0 0) (j - (k + n))
      ∙ get_or-map-in (moved l (length (canons g))) (drop (k + n) (rows t 0)) (j - (k + n)) (plain_row 0 0 0) (plain_row 0 0 0) (simp length-drop (omega (arith, rows-length t 0)))
      ∙ ap (moved l (length (canons g))) (get_or-drop (k + n) (rows t 0) (j - (k + n)) (plain_row 0 0 0) ∙ rw z)
