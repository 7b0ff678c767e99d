-- S 13, texts in pieces, clause by clause: of the promises of a piece and of the end (`Piece` and `End` of crate pieces), over every
-- way of cutting. A table that is lent as numbers has as many as are lent, one of records as many records; `lent` is either.
use Prim.Native.Nat.{ℕ, ◌≤◌, ◌<◌, min}
use native.Mathlib.Omega.{arith}
use mathlib.Core.Path.{◌≡◌, refl, sym, ap, ◌∙◌, subst}
use mathlib.Core.Bool.{true, false}
use mathlib.Core.List.{List, [], append-nil}
use lib.ListN.{length, take, drop}
use lib.Seq.{take_at, drop_at}
use borrow.Author.Tests.{eq-eqb}
use Rattle.std.specs.Prelude.{Ok, Err}
use Rattle.base.proofs.Cases.{true-both, differ}
use Rattle.model.specs.Answers.{Outcome, the, unchanged, telling, filled, reading_checks, reading}
use Rattle.model.specs.Begins.{Largest}
use Rattle.model.specs.Decode.{decode}
use Rattle.model.specs.Limits.{refusal_source_size, refusal_syntax, refusal_not_own}
use Rattle.model.proofs.Judging.{judged-holds}
use Rattle.model.proofs.Numbered.{reading-numbered}
use Rattle.answers.specs.Cases.{outcome, Reading}
use Rattle.answers.specs.Refusals.{number_of}
use Rattle.answers.specs.declared.refusal.Refusal.{Refusal}
use Rattle.answers.specs.declared.refusal.Refusal.TheVariants.{NotOwn}
use Rattle.pieces.specs.Feeding.{kept, sheet_after, state_after, same_sizes, Piece}
use Rattle.pieces.specs.Ending.{in_sheet, End}
use Rattle.pieces.specs.Handed.{Handed}
use Rattle.pieces.specs.declared.state.State.{State}
use Rattle.pieces.specs.declared.state.Fed.{Fed}
use Rattle.pieces.proofs.Cutting.{in-turn, never-by-the-cutting, begins-with, whatever-the-cutting}
use Rattle.pieces.proofs.Wholes.{read-long, accepted-sheet}
use Rattle.demands.proofs.Numbers.{refusing}
use Rattle.demands.proofs.Placed.{canonical-text, read-tells}

-- ---- S 13.2: another size gives 7 first of all, with counts 0, and leaves everything as it was, the state too; whatever the state is,
-- handed back or not

pub another-size : {x : State} {piece sheet after : List ℕ} {lent : ℕ} {r : Fed} → same_sizes x (length sheet) lent ≡ false → Piece x piece sheet lent after r
    → (r.taken ≡ Err NotOwn) × (r.state ≡ x) × (after ≡ sheet)
another-size z p =
    let e = p.resized z in
    (ap (λ (y : Fed). y.taken) e.0, ap (λ (y : Fed). y.state) e.0, e.1)

pub another-size-at-the-end : {x : State} {sheet table table' : List ℕ} {lent : ℕ} {r : Reading} → same_sizes x (length sheet) lent ≡ false → End x sheet lent table table' r
    → outcome r sheet table' ≡ unchanged refusal_not_own sheet table
another-size-at-the-end z e = e.resized z

-- the sizes of the first time are those of the starting state and of all that are handed back
pub first-sizes : {first : List ℕ} {lent : ℕ} {s : List ℕ} {x : State} {sheet : List ℕ} → Handed first lent s x sheet → same_sizes x (length first) lent ≡ true
unfolding same_sizes state_after
first-sizes {first} {lent} {s} h = ap (λ (y : State). same_sizes y (length first) lent) (in-turn h).x-is ∙ true-both (eq-eqb (length first) (length first) refl) (eq-eqb lent lent refl)

-- ---- S 13.1, pieces of any length: an empty one changes nothing

pub empty-piece : {first : List ℕ} {lent : ℕ} {s : List ℕ} {x : State} {sheet after : List ℕ} {r : Fed} → Handed first lent s x sheet → Piece x [] sheet lent after r → (r.state ≡ x) × (after ≡ sheet)
empty-piece {first} {lent} {s} h p =
    let e = p.goes_on first s (in-turn h) in
    (ap (λ (y : Fed). y.state) e.0 ∙ ap (state_after (length first) lent) (append-nil s) ∙ sym (in-turn h).x-is, e.1 ∙ ap (sheet_after first) (append-nil s) ∙ sym (in-turn h).sheet-is)

-- ---- S 13.3: what was taken stands at the front of the sheet, up to its room and 16,384; past that it is as it first was

module _ {first : List ℕ} {lent : ℕ} {s : List ℕ} {x : State} {sheet : List ℕ} (h : Handed first lent s x sheet) where
  -- so many are there
  abbrev there : ℕ
  there = length (take (min (length first) 16384) s)

  pub begins-with-them : take there sheet ≡ take (min (length first) 16384) s
  unfolding sheet_after kept
  begins-with-them = ap (take there) (begins-with h) ∙ take_at (take (min (length first) 16384) s) (drop there first) there refl

  pub past-them : drop there sheet ≡ drop there first
  unfolding sheet_after kept
  past-them = ap (drop there) (begins-with h) ∙ drop_at (take (min (length first) 16384) s) (drop there first) there refl

-- ---- the answer

left-table : (r : Reading) (canonical table : List ℕ) → (outcome r canonical table).table ≡ table
unfolding outcome
left-table (Ok sizes) canonical table = refl
left-table (Err f) canonical table = refl

refused-table : (first s table : List ℕ) → (reading 1 s first table).accepted ≡ false → (reading 1 s first table).table ≡ table
unfolding reading telling filled
refused-table first s table a =
    judged-holds (reading_checks 1 s first table) (filled (the (decode 1 s)) 0 0 first table) (λ n. unchanged n first table) (λ (o : Outcome). o.accepted ≡ false → o.table ≡ table)
    (λ z. differ refl z) (λ n z. refl) a

module _ {first : List ℕ} {lent : ℕ} {s : List ℕ} {x : State} {sheet table table' : List ℕ} {r : Reading} (h : Handed first lent s x sheet) (e : End x sheet lent table table' r) where
  abbrev whole : Outcome
  whole = reading 1 s first table

  gives : outcome r sheet table' ≡ in_sheet (sheet_after first s) whole
  gives = whatever-the-cutting h e

  -- S 13.4: the answer of reading all octets fed in form 1, accepted or refused, its number, place and counts
  pub same_answer : ((outcome r sheet table').accepted ≡ whole.accepted) × ((outcome r sheet table').number ≡ whole.number) × ((outcome r sheet table').place ≡ whole.place)
      × ((outcome r sheet table').octets ≡ whole.octets) × ((outcome r sheet table').count ≡ whole.count)
  same_answer =
      (ap (λ (o : Outcome). o.accepted) gives, ap (λ (o : Outcome). o.number) gives, ap (λ (o : Outcome). o.place) gives, ap (λ (o : Outcome). o.octets) gives, ap (λ (o : Outcome). o.count) gives)

  -- S 13.4, accepted: all that reading the whole answers and leaves
  pub same-when-accepted : whole.accepted ≡ true → outcome r sheet table' ≡ whole
  same-when-accepted a = gives ∙ (λ i. in_sheet (accepted-sheet first s table a i) whole)

  -- S 13.4, refused: the sheet is as the pieces left it, and the table as it first was
  pub restores-nothing : whole.accepted ≡ false → (sheet ≡ sheet_after first s) × (table' ≡ table)
  restores-nothing a = (begins-with h, sym (left-table r sheet table') ∙ ap (λ (o : Outcome). o.table) gives ∙ refused-table first s table a)

  -- S 13.3, 13.4: where 32,769 octets were taken, the end gives 2
  pub then-the-end-gives-2 : 32769 ≤ length s → outcome r sheet table' ≡ unchanged refusal_source_size sheet table
  then-the-end-gives-2 l = gives ∙ ap (in_sheet (sheet_after first s)) (read-long s first table (omega arith)) ∙ (λ i. unchanged refusal_source_size (sym (begins-with h) i) table)

  -- S 13.4: with 3 the end tells the place of S 7.3
  pub end-tells : (outcome r sheet table').number ≡ refusal_syntax → Largest s (outcome r sheet table').place
  end-tells n = subst (Largest s) (sym same_answer.2) (read-tells 1 s first table canonical-text (sym same_answer.1 ∙ n))

-- ---- S 13.5: two ways of cutting the same octets have the same state and sheet, and give the same answer and table

pub any-two-cuttings : {first : List ℕ} {lent : ℕ} {s : List ℕ} {x y : State} {sheet sheet' table table₁ table₂ : List ℕ} {r q : Reading} → Handed first lent s x sheet → Handed first lent s y sheet'
    → End x sheet lent table table₁ r → End y sheet' lent table table₂ q → (x ≡ y) × (sheet ≡ sheet') × (outcome r sheet table₁ ≡ outcome q sheet' table₂)
any-two-cuttings h k e f = let c = never-by-the-cutting h k in (c.0, c.1, whatever-the-cutting h e ∙ sym (whatever-the-cutting k f))

-- no end of a state in turn is refused with number 0
pub end-over : (f : Refusal) {first : List ℕ} {lent : ℕ} {s : List ℕ} {x : State} {sheet table table' : List ℕ} → Handed first lent s x sheet → End x sheet lent table table' (Err f) → 0 < number_of f
end-over f {first} {s = s} {sheet = sheet} {table} {table'} h e =
    refusing f sheet table' (in_sheet (sheet_after first s) (reading 1 s first table)) (reading-numbered 1 s first table) (whatever-the-cutting h e)
