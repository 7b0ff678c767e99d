-- The records that notes tell are those of the table whose notes they are, and zeros past it.
use mathlib.Core.Path.{◌≡◌, refl, sym, ◌∙◌, ap, ap₂, subst}
use mathlib.Core.List.{List, [], ◌∷◌, ◌++◌, append_assoc, head-eq_of_cons-eq, tail-eq_of_cons-eq}
use Prim.Native.Nat.{ℕ, zero, suc, ◌+◌, ◌*◌, ◌-◌, ◌<◌, ◌≤◌, max}
use native.Mathlib.Nat.{add-zero, add-suc}
use native.Mathlib.Omega.{arith}
use borrow.Author.Tests.{lt-ltb, le-ltb}
use lib.ListN.{length, take, drop, get_or, set, replicate, length-set, length-append, length-replicate}
use lib.Seq.{sets, drop-drop, drop_at, take_all}
use Rattle.base.proofs.Cases.{by_le, picked, unpicked}
use Rattle.model.specs.Tree.{Tree}
use Rattle.model.specs.Table.{Row, rows, parents, plain_row, flat, table_of}
use Rattle.model.specs.Table as table
use Rattle.model.specs.Answers.{Outcome, settled}
use Rattle.walk.proofs.Tabled.{table-length, rows-length}
use Rattle.tables.specs.Rows.{record_list, RowIs}
use Rattle.tables.specs.Told.{row_at, Readable, Holds}
use Rattle.tables.specs.declared.rows.Row as coded
use Rattle.tables.proofs.Telling.{holds_row, holds-parent, holds-readable}
use Rattle.reader.specs.Stored.{Accepting, Puts}
use Rattle.reader.proofs.Judged.{settled-front}
use Rattle.editor.specs.Given.{Giving, Gives}
use Rattle.answers.specs.Cases.{outcome}
use Rattle.answers.specs.Cases.{Reading}
use Rattle.answers.specs.declared.refusal.Refusal.{Refusal}
use Rattle.answers.specs.declared.Sizes.{Sizes}
use Rattle.std.specs.Prelude.{Ok, Err}
use Rattle.records.specs.declared.Record.{Record}
use Rattle.records.specs.Numbers.{nine, numbers}
use Rattle.records.specs.Told.{nil, record_of, parent_at, told_at, told_records, Tellable, Tells}
use Rattle.records.proofs.Tables.{length-numbers, numbers-set, nine-more, next-nine}

-- ---- one record

-- the numbers settle it
nine-one : (x y : Record) → nine x ≡ nine y → x ≡ y
nine-one x y e =
    let e₁ = tail-eq_of_cons-eq e in
    let e₂ = tail-eq_of_cons-eq e₁ in
    let e₃ = tail-eq_of_cons-eq e₂ in
    let e₄ = tail-eq_of_cons-eq e₃ in
    let e₅ = tail-eq_of_cons-eq e₄ in
    let e₆ = tail-eq_of_cons-eq e₅ in
    let e₇ = tail-eq_of_cons-eq e₆ in
    let e₈ = tail-eq_of_cons-eq e₇ in
    λ t. record {
      kind = head-eq_of_cons-eq e t;
      start = head-eq_of_cons-eq e₁ t;
      end = head-eq_of_cons-eq e₂ t;
      nodes = head-eq_of_cons-eq e₃ t;
      hint_start = head-eq_of_cons-eq e₄ t;
      hint_end = head-eq_of_cons-eq e₅ t;
      data_start = head-eq_of_cons-eq e₆ t;
      data_end = head-eq_of_cons-eq e₇ t;
      parent = head-eq_of_cons-eq e₈ t;
    }

module _ (notes : List ℕ) (count i : ℕ) where
  told-inside : i < count → told_at notes count i ≡ record_of (row_at notes i) (parent_at notes i)
  unfolding told_at
  told-inside h = picked _ _ (lt-ltb i count h)

  told-past : count ≤ i → told_at notes count i ≡ nil
  unfolding told_at
  told-past h = unpicked _ _ (le-ltb i count h)

module _ (notes : List ℕ) (count i : ℕ) where
  pub told-readable : Tellable notes count i → i < count → Readable notes i
  told-readable g h = g.read h

  pub told-row : i < count → (row : coded.Row) → RowIs row (row_at notes i) → (up : ℕ) → up ≡ parent_at notes i → (z : Record) → nine z ≡ record_list row up → z ≡ told_at notes count i
  told-row h row is up u z f = nine-one z (record_of (row_at notes i) (parent_at notes i)) (f ∙ ap₂ (λ (l : List ℕ) (p : ℕ). l ++ (p ∷ [])) is u) ∙ sym (told-inside notes count i h)

  pub told-zero : count ≤ i → (z : Record) → z ≡ nil → z ≡ told_at notes count i
  told-zero h z f = f ∙ sym (told-past notes count i h)

-- ---- n of them

module _ (notes : List ℕ) (count : ℕ) where
  pub length-told : (n : ℕ) (xs : List Record) → length (told_records notes count n xs) ≡ length xs
  unfolding told_records
  length-told zero xs = refl
  length-told (suc n) xs = length-set (told_records notes count n xs) n (told_at notes count n) ∙ length-told n xs

  module _ (F : List ℕ) where
    numbers-told : (n : ℕ) (xs : List Record) → n ≤ length xs → 9 * n ≤ length F → ((i : ℕ) → i < n → take 9 (drop (9 * i) F) ≡ nine (told_at notes count i))
        → numbers (told_records notes count n xs) ≡ take (9 * n) F ++ drop (9 * n) (numbers xs)
    unfolding told_records
    numbers-told zero xs h l g = refl
    numbers-told (suc n) xs h l g =
        numbers-set (told_records notes count n xs) n (told_at notes count n) (omega (arith, length-told n xs))
        ∙ ap (λ (v : List ℕ). sets (numbers (told_records notes count n xs)) (9 * n) v) (sym (g n (omega arith)))
        ∙ ap (λ (k : List ℕ). sets k (9 * n) (take 9 (drop (9 * n) F))) (numbers-told n xs (omega arith) (omega arith) (λ i m. g i (omega arith)))
        ∙ next-nine F (numbers xs) n (omega arith) (omega (arith, length-numbers xs))

-- ---- a table with zeros behind it

row-at : (rs : List Row) (ps z : List ℕ) (i : ℕ) (d : Row) → i < length rs → take 9 (drop (9 * i) (flat rs ps ++ z)) ≡ table.recorded (get_or rs i d) (get_or ps i 0)
unfolding flat
row-at [] ps z i d h = absurd (omega arith)
row-at (r ∷ rs) [] z zero d h = refl
row-at (r ∷ rs) (p ∷ ps) z zero d h = refl
row-at (r ∷ rs) [] z (suc i) d h = rw (nine-more i) (row-at rs [] z i d (omega arith))
row-at (r ∷ rs) (p ∷ ps) z (suc i) d h = rw (nine-more i) (row-at rs ps z i d (omega arith))

zero-at : (m j : ℕ) → j < m → take 9 (drop (9 * j) (replicate (9 * m) 0)) ≡ nine nil
zero-at zero j h = absurd (omega arith)
zero-at (suc m) zero h = rw (nine-more m) refl
zero-at (suc m) (suc j) h = rw (nine-more m, nine-more j) (zero-at m j (omega arith))

module _ (notes : List ℕ) (count : ℕ) (t : Tree) (g : Holds notes count t) (m : ℕ) where
  abbrev whole : List ℕ
  whole = table_of t ++ replicate (9 * m) 0

  whole_length : length whole ≡ 9 * (count + m)
  whole_length = length-append (table_of t) (replicate (9 * m) 0) ∙ omega (arith, table-length t, length-replicate {A = ℕ} (9 * m) 0, g.counted)

  told-whole : (i : ℕ) → i < count + m → take 9 (drop (9 * i) whole) ≡ nine (told_at notes count i)
  unfolding table_of
  told-whole i h =
      by_le count i
      (λ (past : count ≤ i).
      let e : 9 * i ≡ 9 * count + 9 * (i - count) = omega arith in
      ap (λ (k : ℕ). take 9 (drop k whole)) e
      ∙ ap (take 9) (sym (drop-drop (9 * (i - count)) (9 * count) whole))
      ∙ ap (λ (k : List ℕ). take 9 (drop (9 * (i - count)) k)) (drop_at (table_of t) (replicate (9 * m) 0) (9 * count) (omega (arith, table-length t, g.counted)))
      ∙ zero-at m (i - count) (omega arith)
      ∙ ap nine (sym (told-past notes count i past)))
      (λ (inside : i < count).
      row-at (rows t 0) (parents t 0 0) (replicate (9 * m) 0) i (plain_row 0 0 0) (omega (arith, rows-length t 0, g.counted))
      ∙ ap₂ table.recorded (sym (holds_row notes count t g i inside)) (sym (holds-parent notes count t g i inside))
      ∙ ap nine (sym (told-inside notes count i inside)))

  pub told_is : (n : ℕ) (xs : List Record) → n ≡ count + m → n ≤ length xs → numbers (told_records notes count n xs) ≡ table_of t ++ (replicate (9 * m) 0 ++ drop (9 * n) (numbers xs))
  told_is n xs e h =
      numbers-told notes count whole n xs h (omega (arith, whole_length)) (λ i k. told-whole i (omega arith))
      ∙ ap (λ (l : List ℕ). l ++ drop (9 * n) (numbers xs)) (take_all (9 * n) whole (omega (arith, whole_length)))
      ∙ append_assoc (table_of t) (replicate (9 * m) 0) (drop (9 * n) (numbers xs))

-- what lies between the new records and larger old ones is zeroed
pub told-settled : (notes : List ℕ) (count : ℕ) (t : Tree) → Holds notes count t → (old : ℕ) (xs : List Record) → max old count ≤ length xs
    → numbers (told_records notes count (max old count) xs) ≡ settled (numbers xs) (9 * old) (table_of t)
unfolding settled
told-settled notes count t g old xs h =
    let a : 9 * (max old count - count) ≡ 9 * old - length (table_of t) = omega (arith, table-length t, g.counted) in
    let b : 9 * max old count ≡ max (9 * old) (length (table_of t)) = omega (arith, table-length t, g.counted) in
    told_is notes count t g (max old count - count) (max old count) xs (omega arith) h
    ∙ ap (λ (k : ℕ). table_of t ++ (replicate k 0 ++ drop (9 * max old count) (numbers xs))) a
    ∙ ap (λ (k : ℕ). table_of t ++ (replicate (9 * old - length (table_of t)) 0 ++ drop k (numbers xs))) b

-- ---- an answer whose table is told by notes

module _ (answer : List ℕ → Outcome) (c : List ℕ) (ys : List Record) (notes : List ℕ) where
  records-are : table.records (numbers ys) ≡ length ys
  records-are = omega (arith, length-numbers ys)

  module _ (r : Reading) (p : Puts answer c (length ys) notes r) where
    module _ (s : Sizes) (e : r ≡ Ok s) where
      accepting : Accepting answer c (length ys) notes s.length s.nodes
      unfolding Puts
      accepting = subst (Puts answer c (length ys) notes) e p

      pub put-tells : Tells notes s.nodes 0 (length ys)
      put-tells = record { lent = omega (arith, accepting.recorded); read = λ i h. holds-readable notes s.nodes accepting.tree accepting.held i h }

      pub put-told : (zs : List Record) → zs ≡ told_records notes s.nodes (max 0 s.nodes) ys → outcome (Ok s) c (numbers zs) ≡ answer (numbers ys)
      put-told zs z =
          let a = accepting in
          ap (outcome (Ok s) c) (
          ap numbers z
          ∙ told-settled notes s.nodes a.tree a.held 0 ys (omega (arith, a.recorded))
          ∙ settled-front (numbers ys) (table_of a.tree) (omega (arith, table-length a.tree, a.held.counted, a.recorded, length-numbers ys)))
          ∙ a.is (numbers ys) records-are

    pub put-refused : (f : Refusal) → r ≡ Err f → outcome (Err f) c (numbers ys) ≡ answer (numbers ys)
    unfolding Puts
    put-refused f e =
        let g : (t : List ℕ) → table.records t ≡ length ys → outcome (Err f) c t ≡ answer t = subst (Puts answer c (length ys) notes) e p in
        g (numbers ys) records-are

-- ---- the same where old records were in use

module _ (Lent : List ℕ → Type 0) (answer : List ℕ → Outcome) (c : List ℕ) (ys : List Record) (notes : List ℕ) (old : ℕ) (r : Reading) (p : Gives Lent answer c (length ys) notes old r) where
  module _ (s : Sizes) (e : r ≡ Ok s) where
    giving : Giving Lent answer c (length ys) notes old s.length s.nodes
    unfolding Gives
    giving = subst (Gives Lent answer c (length ys) notes old) e p

    pub give-tells : Tells notes s.nodes old (length ys)
    give-tells = record { lent = omega (arith, giving.recorded.0, giving.recorded.1); read = λ i h. holds-readable notes s.nodes giving.tree giving.held i h }

    pub give-told : Lent (numbers ys) → (zs : List Record) → zs ≡ told_records notes s.nodes (max old s.nodes) ys → outcome (Ok s) c (numbers zs) ≡ answer (numbers ys)
    give-told l zs z =
        ap (outcome (Ok s) c) (ap numbers z ∙ told-settled notes s.nodes giving.tree giving.held old ys (omega (arith, giving.recorded.0, giving.recorded.1)))
        ∙ giving.is (numbers ys) l

  pub give-refused : Lent (numbers ys) → (f : Refusal) → r ≡ Err f → outcome (Err f) c (numbers ys) ≡ answer (numbers ys)
  unfolding Gives
  give-refused l f e =
      let g : (table : List ℕ) → Lent table → outcome (Err f) c table ≡ answer table = subst (Gives Lent answer c (length ys) notes old) e p in
      g (numbers ys) l

-- ---- the loop that tells them

one_more : (i : ℕ) → i + 1 ≡ suc i
one_more i = add-suc i zero ∙ ap suc (add-zero i)

-- i of n records are told
pub record Telling (notes : List ℕ) (count : ℕ) (before : List Record) (n i : ℕ) (now : List Record) : Type 0 where
  pub few : i ≤ n
  pub told : now ≡ told_records notes count i before

pub telling-none : (notes : List ℕ) (count : ℕ) (before : List Record) (n : ℕ) → Telling notes count before n 0 before
unfolding told_records
telling-none notes count before n = record { few = omega arith; told = refl }

pub telling-on : (notes : List ℕ) (count : ℕ) (before : List Record) (n i : ℕ) (now : List Record) → Telling notes count before n i now → i < n → (z : Record) → z ≡ told_at notes count i
    → Telling notes count before n (i + 1) (set now i z)
unfolding told_records
telling-on notes count before n i now g h z k = record { few = omega arith; told = rw (g.told, k, one_more i) refl }
