-- S 16.4: the cases of request 9.
use Prim.Native.Nat.{ℕ, zero, suc, ◌+◌, ◌*◌, ◌≤◌, ◌<◌}
use native.Mathlib.Omega.{arith}
use mathlib.Core.Path.{◌≡◌, refl, ap, ◌∙◌}
use mathlib.Core.Bool.{false}
use mathlib.Core.Option.{Option, some}
use mathlib.Core.List.{List, [], ◌∷◌, ◌++◌}
use lib.ListN.{length, length-append}
use lib.Dec.{eqb}
use borrow.Author.Tests.{le-ltb, lt-ltb}
use Rattle.base.specs.Choice.{is_none}
use Rattle.base.proofs.Cases.{picked}
use Rattle.model.specs.Answers.{verdict, no_form, the, room_checks, text_checks, filled, unchanged, reading_checks, reading, place_of, telling}
use Rattle.model.specs.Decode.{decode}
use Rattle.model.specs.Limits.{max_source, max_depth, max_canonical, refusal_form, refusal_source_size, refusal_syntax, refusal_depth, refusal_nodes, refusal_size}
use Rattle.model.specs.Table.{records}
use Rattle.model.specs.Tree.{Tree, plain, list, Forest, nil, cons, digits, digits_up_to, verbatim, canon, canons, nodes, nodess, depth, depths}
use Rattle.model.proofs.Exact.{canon-complete}
use Rattle.model.proofs.Judging.{judged-refused, verdict-here, verdict-past}
use Rattle.model.proofs.Telling.{telling-same}
use Rattle.demands.proofs.Read.{reads}

-- ---- the trees

-- 1 + n lists, each in the one before
unfoldable pub nest : ℕ → Tree
nest zero = list nil
nest (suc n) = list (cons (nest n) nil)

unfoldable pub zeros : ℕ → Forest
zeros zero = nil
zeros (suc n) = cons (plain []) (zeros n)

-- a list of n `0:`
unfoldable pub empties : ℕ → Tree
empties n = list (zeros n)

pub nest-depth : (n : ℕ) → depth (nest n) ≡ 1 + n
unfolding nest depth
nest-depth zero = refl
nest-depth (suc n) = omega (arith, nest-depth n)

pub nest-nodes : (n : ℕ) → nodes (nest n) ≡ 1 + n
unfolding nest nodes
nest-nodes zero = refl
nest-nodes (suc n) = omega (arith, nest-nodes n)

pub nest-length : (n : ℕ) → length (canon (nest n)) ≡ 2 + 2 * n
unfolding nest canon
nest-length zero = refl
nest-length (suc n) =
    omega (arith, nest-length n, length-append (canon (nest n)) [], length-append (canon (nest n) ++ []) (41 ∷ []))

zeros-depth : (n : ℕ) → depths (zeros n) ≡ 0
unfolding zeros depth
zeros-depth zero = refl
zeros-depth (suc n) = omega (arith, zeros-depth n)

zeros-nodes : (n : ℕ) → nodess (zeros n) ≡ n
unfolding zeros nodes
zeros-nodes zero = refl
zeros-nodes (suc n) = omega (arith, zeros-nodes n)

zeros-length : (n : ℕ) → length (canons (zeros n)) ≡ 2 * n
unfolding zeros canon verbatim digits digits_up_to
zeros-length zero = refl
zeros-length (suc n) = omega (arith, zeros-length n)

pub empties-depth : (n : ℕ) → depth (empties n) ≡ 1
unfolding empties depth
empties-depth n = omega (arith, zeros-depth n)

pub empties-nodes : (n : ℕ) → nodes (empties n) ≡ 1 + n
unfolding empties nodes
empties-nodes n = omega (arith, zeros-nodes n)

pub empties-length : (n : ℕ) → length (canon (empties n)) ≡ 2 + 2 * n
unfolding empties canon
empties-length n = omega (arith, zeros-length n, length-append (canons (zeros n)) (41 ∷ []))

-- ---- read in form 1

module _ (t : Tree) (canonical table : List ℕ) (short : length (canon t) ≤ max_source) where
  decoded : decode 1 (canon t) ≡ some t
  unfolding decode
  decoded = canon-complete t

  no-form : no_form 1 ≡ false
  unfolding no_form
  no-form = refl

  -- the first of rows 4 to 6 that applies
  refused-by : (n : ℕ) → 0 < n → eqb n refusal_syntax ≡ false → verdict (room_checks t canonical table) ≡ n → reading 1 (canon t) canonical table ≡ unchanged n canonical table
  unfolding reading reading_checks text_checks is_none the
  refused-by n h o v =
      ap (telling (place_of 1 (canon t)))
      (judged-refused _ _ _ n
      (verdict-past refusal_form _ _ no-form
      ∙ verdict-past refusal_source_size _ _ (le-ltb max_source (length (canon t)) short)
      ∙ verdict-past refusal_syntax _ _ (ap is_none decoded)
      ∙ ap (λ (o : Option Tree). verdict (room_checks (the o) canonical table)) decoded
      ∙ v)
      h)
      ∙ telling-same (place_of 1 (canon t)) (unchanged n canonical table) o

  too-deep : max_depth < depth t → reading 1 (canon t) canonical table ≡ unchanged refusal_depth canonical table
  unfolding room_checks
  too-deep h = refused-by refusal_depth (omega arith) refl (verdict-here refusal_depth _ _ (lt-ltb max_depth (depth t) h))

  module _ (shallow : depth t ≤ max_depth) where
    too_many : records table < nodes t → reading 1 (canon t) canonical table ≡ unchanged refusal_nodes canonical table
    unfolding room_checks
    too_many h =
        refused-by refusal_nodes (omega arith) refl
        (verdict-past refusal_depth _ _ (le-ltb max_depth (depth t) shallow) ∙ verdict-here refusal_nodes _ _ (lt-ltb (records table) (nodes t) h))

    too_long : nodes t ≤ records table → max_canonical < length (canon t) → reading 1 (canon t) canonical table ≡ unchanged refusal_size canonical table
    unfolding room_checks
    too_long r h =
        refused-by refusal_size (omega arith) refl
        (verdict-past refusal_depth _ _ (le-ltb max_depth (depth t) shallow)
        ∙ verdict-past refusal_nodes _ _ (le-ltb (records table) (nodes t) r)
        ∙ verdict-here refusal_size _ _ (picked _ _ (lt-ltb max_canonical (length (canon t)) h)))

-- S 16.4, depth: n lists in each other are accepted up to 128, in room for them
pub deep-accepted : (n : ℕ) (canonical table : List ℕ) → n < 128 → 1 + n ≤ records table → 2 + 2 * n ≤ length canonical
    → reading 1 (canon (nest n)) canonical table ≡ filled (nest n) 0 0 canonical table
deep-accepted n canonical table h r o =
    reads 1 (canon (nest n)) canonical table (nest n) (no-form (nest n) canonical table l) l (decoded (nest n) canonical table l)
    (record {
      shallow = omega (arith, nest-depth n);
      recorded = omega (arith, nest-nodes n);
      small = omega (arith, nest-length n);
      roomy = omega (arith, nest-length n);
    })
  where
    l : length (canon (nest n)) ≤ max_source
    l = omega (arith, nest-length n)

-- and refused with 4 from 129 on, whatever is lent
pub deeper-refused : (n : ℕ) (canonical table : List ℕ) → 128 ≤ n → n < 16384 → reading 1 (canon (nest n)) canonical table ≡ unchanged 4 canonical table
deeper-refused n canonical table h s = too-deep (nest n) canonical table (omega (arith, nest-length n)) (omega (arith, nest-depth n))

-- S 16.4: a list of 8,191 `0:` is read
pub most-accepted : (canonical table : List ℕ) → 8192 ≤ records table → 16384 ≤ length canonical
    → reading 1 (canon (empties 8191)) canonical table ≡ filled (empties 8191) 0 0 canonical table
most-accepted canonical table r o =
    reads 1 (canon (empties 8191)) canonical table (empties 8191) (no-form (empties 8191) canonical table l) l (decoded (empties 8191) canonical table l)
    (record {
      shallow = omega (arith, empties-depth 8191);
      recorded = omega (arith, empties-nodes 8191);
      small = omega (arith, empties-length 8191);
      roomy = omega (arith, empties-length 8191);
    })
  where
    l : length (canon (empties 8191)) ≤ max_source
    l = omega (arith, empties-length 8191)

-- S 16.4: one of 8,192 gives 5 in 8,192 records
pub over-refused-5 : (canonical table : List ℕ) → records table ≡ 8192 → reading 1 (canon (empties 8192)) canonical table ≡ unchanged 5 canonical table
over-refused-5 canonical table r =
    too_many (empties 8192) canonical table (omega (arith, empties-length 8192)) (omega (arith, empties-depth 8192)) (omega (arith, empties-nodes 8192))

-- and 6 in more
pub over-refused-6 : (canonical table : List ℕ) → 8192 < records table → reading 1 (canon (empties 8192)) canonical table ≡ unchanged 6 canonical table
over-refused-6 canonical table r =
    too_long (empties 8192) canonical table (omega (arith, empties-length 8192)) (omega (arith, empties-depth 8192)) (omega (arith, empties-nodes 8192)) (omega (arith, empties-length 8192))
