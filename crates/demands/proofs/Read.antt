-- S 14.4: exactly which texts are read; and S 8.1: the sheet and the table that are left, and what stays.
use Prim.Native.Nat.{ℕ, ◌*◌, ◌-◌, ◌≤◌, ◌<◌, max}
use native.Mathlib.Omega.{arith}
use mathlib.Core.Path.{◌≡◌, refl, sym, ap, ◌∙◌}
use mathlib.Core.Bool.{false}
use mathlib.Core.Option.{Option, some}
use mathlib.Core.List.{List}
use lib.ListN.{length, take, drop}
use lib.Seq.{take-append_seam, take_at, drop_at}
use Rattle.model.specs.Answers.{Check, verdict, no_form, the, room_checks, settled, Outcome, filled, unchanged, reading_checks, reading, place_of, telling}
use Rattle.model.specs.Decode.{decode}
use Rattle.model.specs.Grammar.{Language, form-1, form-2, form-3, form-4, rules}
use Rattle.model.specs.Limits.{max_source}
use Rattle.model.specs.Table.{width, table_of}
use Rattle.model.specs.Tree.{Tree, canon, nodes}
use Rattle.model.proofs.Judging.{judged-accepted}
use Rattle.model.proofs.Laws.{decode-exact}
use Rattle.walk.proofs.Tabled.{table-length}
use Rattle.demands.specs.Conditions.{Room, Allowed, First}
use Rattle.demands.proofs.Rooms.{room-none, room_of, Taken, text-none, text_of}
use Rattle.demands.proofs.Rows.{judged-by, judged-for, no_row}

-- what lies past new contents that were put in the front
pub settled-past : (lent new : List ℕ) (n : ℕ) → length new ≡ n → drop n (settled lent 0 new) ≡ drop n lent
unfolding settled
settled-past lent new n e =
    let a : 0 - length new ≡ 0 = omega arith in
    let b : max 0 (length new) ≡ n = omega arith in
    drop_at new _ n e ∙ rw (a, b)

-- ---- accepted exactly when

-- a text in a form's language is of form 1 to 4
language-form : {form : ℕ} {s : List ℕ} {t : Tree} → Language rules form s t → no_form form ≡ false
unfolding no_form
language-form (form-1 x) = refl
language-form (form-2 x) = refl
language-form (form-3 x) = refl
language-form (form-4 x) = refl

module _ (form : ℕ) (source canonical table : List ℕ) where
  abbrev checks : List Check
  checks = reading_checks form source canonical table

  abbrev answer : Outcome
  answer = reading form source canonical table

  pub reads : (t : Tree) → no_form form ≡ false → length source ≤ max_source → decode form source ≡ some t → Room t canonical table → answer ≡ filled t 0 0 canonical table
  unfolding reading reading_checks the filled telling
  reads t f s d r =
      ap (telling (place_of form source))
      (judged-accepted _ _ _
      (text-none form source _
      (record { tree = t; known = f; short = s; is = d; rest = ap (λ (o : Option Tree). verdict (room_checks (the o) canonical table)) d ∙ room-none t canonical table r }))
      ∙ ap (λ (o : Option Tree). filled (the o) 0 0 canonical table) d)

  -- allowed: accepted, and the tree is put into the lent space
  pub allowed-accepted : (a : Allowed form source canonical table) → answer ≡ filled a.tree 0 0 canonical table
  allowed-accepted a = reads a.tree (language-form a.language) a.short ((decode-exact form source a.tree).1 a.language) a.room

  -- accepted: it was allowed
  pub accepted-allowed : answer.number ≡ 0 → Allowed form source canonical table
  unfolding reading reading_checks the telling
  accepted-allowed e =
      let x : Taken form source _ = text_of form source _ (no_row (λ (o : Outcome). o.number) checks _ (λ (k : ℕ). unchanged k canonical table) (λ k. refl) e) in
      record {
        tree = x.tree;
        language = (decode-exact form source x.tree).0 x.is;
        short = x.short;
        room = room_of x.tree canonical table (sym (ap (λ (o : Option Tree). verdict (room_checks (the o) canonical table)) x.is) ∙ x.rest);
      }

  -- row by row: refused with a number, and nothing changed, exactly when that row is the first that applies; with 3 a place is told
  pub read-refused-by : (n : ℕ) → 0 < n → First checks n → answer ≡ telling (place_of form source) (unchanged n canonical table)
  unfolding reading
  read-refused-by n h f = ap (telling (place_of form source)) (judged-by (λ (o : Outcome). o.number) checks _ (λ (k : ℕ). unchanged k canonical table) (λ k. refl) n h f)

  pub read-refused-for : (n : ℕ) → 0 < n → answer.number ≡ n → First checks n
  unfolding reading filled telling
  read-refused-for n h e = judged-for (λ (o : Outcome). o.number) checks _ (λ (k : ℕ). unchanged k canonical table) (λ k. refl) refl n h e

  -- ---- what is left

  module _ (e : answer.number ≡ 0) where
    abbrev tree : Tree
    tree = (accepted-allowed e).tree

    filled-tree : answer ≡ filled tree 0 0 canonical table
    filled-tree = allowed-accepted (accepted-allowed e)

    -- S 8.1: length and node count are the tree's
    pub length-left : answer.octets ≡ length (canon tree)
    unfolding filled
    length-left = ap (λ (o : Outcome). o.octets) filled-tree

    pub count_left : answer.count ≡ nodes tree
    unfolding filled
    count_left = ap (λ (o : Outcome). o.count) filled-tree

    -- S 8.1: the octets left are the tree's canonical form, and those past them stay
    pub octets-left : take answer.octets answer.canonical ≡ canon tree
    unfolding filled settled
    octets-left = ap (λ (o : Outcome). take o.octets o.canonical) filled-tree ∙ take-append_seam (canon tree) _

    pub octets-past : drop answer.octets answer.canonical ≡ drop answer.octets canonical
    unfolding filled
    octets-past =
        ap (λ (o : Outcome). drop o.octets o.canonical) filled-tree
        ∙ settled-past canonical (canon tree) (length (canon tree)) refl ∙ ap (λ (n : ℕ). drop n canonical) (sym length-left)

    -- S 8.1: the table left is the tree's, and records past it stay
    pub table-left : take (width * answer.count) answer.table ≡ table_of tree
    unfolding filled settled
    table-left = ap (λ (o : Outcome). take (width * o.count) o.table) filled-tree ∙ take_at (table_of tree) _ (width * nodes tree) (table-length tree)

    pub table-past : drop (width * answer.count) answer.table ≡ drop (width * answer.count) table
    unfolding filled
    table-past =
        ap (λ (o : Outcome). drop (width * o.count) o.table) filled-tree
        ∙ settled-past table (table_of tree) (width * nodes tree) (table-length tree) ∙ ap (λ (n : ℕ). drop (width * n) table) (sym count_left)
