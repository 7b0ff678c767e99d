-- Each case of an answer of the spool, handed out as a number and values.
use Prim.Native.Nat.{ℕ}
use mathlib.Core.Path.{◌≡◌, sym, ap, ap₂, ◌∙◌}
use mathlib.Core.Bool.{Bool, true, false}
use mathlib.Core.List.{List, [], ◌∷◌}
use lib.Dec.{eqb}
use Rattle.model.specs.Answers.{part, octets_at}
use Rattle.spools.specs.Adding.{Adding as State, Start, Added as Whole, unadded_at, stepping, committing, adding}
use Rattle.spools.specs.Spool.{Opening as Shown, unopened_at, opening}
use Rattle.spools.proofs.Numbered.{opening-numbered, opening-unplaced, adding-numbered, adding-unplaced}
use Rattle.answers.specs.Refusals.{number_of, place_in}
use Rattle.answers.specs.declared.refusal.Refusal.{Refusal}
use Rattle.std.specs.Prelude.{Ok, Err, ⊤}
use Rattle.spool.specs.Cases.{Opening, Starting, Added, opened, state_of, start_of, step_of, added_of}
use Rattle.spool.specs.declared.Contents.{Contents}
use Rattle.spool.specs.declared.Adding.{Adding}
use Rattle.spool.specs.declared.Unstarted.{Unstarted}
use Rattle.etglavino_c.specs.Pointers.{flag}
use Rattle.etglavino_c.specs.Spooling.{opening_of, state_in, state_numbers, begun, begun_of, stepped, stepped_of, adding_of}

pub yes-one : (b : Bool) → b ≡ true → 1 ≡ flag b
unfolding flag
yes-one b e = rw e

pub yes-none : (b : Bool) → b ≡ false → 0 ≡ flag b
unfolding flag
yes-none b e = rw e

pub numbers-handed : (a : Adding) (n : ℕ) → n ≡ flag a.done → (a.at ∷ a.octets ∷ a.made ∷ n ∷ []) ≡ state_numbers (state_of a)
unfolding state_numbers
numbers-handed a n e = ap (λ (m : ℕ). a.at ∷ a.octets ∷ a.made ∷ m ∷ []) e

module _ (r : Opening) (area : List ℕ) (k : ℕ) (e : opened r area ≡ opening area k) where
  pub open-accepted : (x : Contents) → r ≡ Ok x → opening_of 0 x.count x.stands.start x.stands.end area ≡ opening area k
  unfolding opened
  open-accepted x q = sym (ap (λ (r : Opening). opened r area) q) ∙ e

  pub open-refused : (f : Refusal) → r ≡ Err f → opening_of (number_of f) 0 0 0 area ≡ opening area k
  unfolding opened octets_at
  open-refused f q =
      let w : unopened_at (number_of f) (place_in f) ≡ opening area k = sym (ap (λ (r : Opening). opened r area) q) ∙ e in
      let z : eqb (number_of f) 0 ≡ false = ap (λ (o : Shown). eqb o.number 0) w ∙ sym (opening-numbered area k) ∙ sym (ap (λ (o : Shown). o.accepted) w) in
      let y : 0 ≡ (place_in f) = sym (ap (λ (o : Shown). o.place) w ∙ opening-unplaced area k) in
      ap₂ (λ (b : Bool) (p : ℕ). record { accepted = b; number = (number_of f); place = p; count = 0; stands = part 0 0; shown = octets_at area (part 0 0) }) z y ∙ w

module _ (r : Starting) (o : Start) (e : start_of r ≡ o) where
  pub start-accepted : (s : Adding) (x : List ℕ) → r ≡ Ok s → x ≡ state_numbers (state_of s) → begun 0 x ≡ begun_of o
  unfolding start_of begun_of
  start-accepted s x q h = ap (begun 0) h ∙ sym (ap (λ (r : Starting). begun_of (start_of r)) q) ∙ ap begun_of e

  pub start-refused : (u : Unstarted) (x : List ℕ) → r ≡ Err u → x ≡ state_numbers (state_of u.state) → begun (number_of u.refusal) x ≡ begun_of o
  unfolding start_of begun_of
  start-refused u x q h = ap (begun (number_of u.refusal)) h ∙ sym (ap (λ (r : Starting). begun_of (start_of r)) q) ∙ ap begun_of e

module _ (state area sheet : List ℕ) (a : Adding) (i : state_of a ≡ state_in state) where
  pub step-handed : (b : Adding) (after x : List ℕ) (n : ℕ) → step_of b after ≡ stepping (state_of a) area sheet → x ≡ state_numbers (state_of b) → n ≡ flag b.done
      → stepped n x after ≡ stepped_of (stepping (state_in state) area sheet)
  unfolding stepped_of
  step-handed b after x n e h f =
      rw (h, f) (ap stepped_of (e ∙ ap (λ (s : State). stepping s area sheet) i))

  pub commits-handed : (t : Bool) (n : ℕ) → t ≡ committing (state_of a) area sheet → n ≡ flag t → n ≡ flag (committing (state_in state) area sheet)
  commits-handed t n e f = f ∙ ap flag (e ∙ ap (λ (s : State). committing s area sheet) i)

module _ (r : Added) (after area sheet : List ℕ) (len : ℕ) (e : added_of r after ≡ adding area sheet len) where
  pub add-accepted : (u : ⊤) → r ≡ Ok u → adding_of 0 after ≡ adding area sheet len
  unfolding added_of
  add-accepted u q = sym (ap (λ (r : Added). added_of r after) q) ∙ e

  pub add-refused : (f : Refusal) → r ≡ Err f → adding_of (number_of f) after ≡ adding area sheet len
  unfolding added_of
  add-refused f q =
      let w : unadded_at (number_of f) (place_in f) after ≡ adding area sheet len = sym (ap (λ (r : Added). added_of r after) q) ∙ e in
      let z : eqb (number_of f) 0 ≡ false = ap (λ (o : Whole). eqb o.number 0) w ∙ sym (adding-numbered area sheet len) ∙ sym (ap (λ (o : Whole). o.accepted) w) in
      let y : 0 ≡ (place_in f) = sym (ap (λ (o : Whole). o.place) w ∙ adding-unplaced area sheet len) in
      ap₂ (λ (b : Bool) (p : ℕ). record { accepted = b; number = (number_of f); place = p; area = after }) z y ∙ w
