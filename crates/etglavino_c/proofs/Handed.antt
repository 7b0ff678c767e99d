-- Each case of an answer, handed out as a number and values.
use Prim.Native.Nat.{ℕ}
use mathlib.Core.Path.{◌≡◌, sym, ap, ◌∙◌}
use mathlib.Core.Bool.{Bool, true, false}
use mathlib.Core.Option.{Option}
use mathlib.Core.List.{List}
use lib.Dec.{eqb}
use Rattle.model.specs.Answers.{Outcome, unchanged_at, Output, unwritten_at, Comparison, Part}
use Rattle.model.specs.Answers as model
use Rattle.model.specs.Corrections.{inserting, removing}
use Rattle.model.proofs.Numbered.{reading-numbered, replacing-numbered, inserting-numbered, removing-numbered, removing-unplaced, writing-numbered, writing-unplaced}
use Rattle.answers.specs.Cases.{outcome, output, told, placed}
use Rattle.answers.specs.Cases.{Reading, Writing, Comparing, Place}
use Rattle.answers.specs.Refusals.{number_of, place_in}
use Rattle.answers.specs.declared.refusal.Refusal.{Refusal}
use Rattle.answers.specs.declared.Sizes.{Sizes}
use Rattle.answers.specs.declared.Part as declared
use Rattle.std.specs.Prelude.{Ok, Err, Some, None}
use Rattle.etglavino_c.specs.Pointers.{outcome_at, outcome_of, HandsReading, HandsPlaced, output_of, flag, compared, compared_of, shown, shown_of, HandsPlace}

module _ (r : Reading) where
  pub placed-accepted : (s : Sizes) → r ≡ Ok s → HandsPlaced r 0 s.length s.nodes 0
  unfolding outcome
  placed-accepted s q = record { is = λ canonical table o e _. sym (ap (λ (r : Reading). outcome r canonical table) q) ∙ e }

  pub placed-refused : (f : Refusal) → r ≡ Err f → HandsPlaced r (number_of f) 0 0 (place_in f)
  unfolding outcome
  placed-refused f q =
      record {
        is = λ canonical table o e n.
            let w : unchanged_at (number_of f) (place_in f) canonical table ≡ o = sym (ap (λ (r : Reading). outcome r canonical table) q) ∙ e in
            let z : eqb (number_of f) 0 ≡ false = ap (λ (o : Outcome). eqb o.number 0) w ∙ sym n ∙ sym (ap (λ (o : Outcome). o.accepted) w) in
            (λ i. record { accepted = z i; number = (number_of f); place = (place_in f); octets = 0; count = 0; canonical = canonical; table = table }) ∙ w;
      }

  -- where none is told, it is 0
  pub hand-unplaced : (n len count p : ℕ) → HandsPlaced r n len count p → HandsReading r n len count
  hand-unplaced n len count p h =
      record {
        is = λ canonical table o e a z.
            let w : outcome_at n p len count canonical table ≡ o = h.is canonical table o e a in
            let y : 0 ≡ p = sym (ap (λ (o : Outcome). o.place) w ∙ z) in
            ap (λ (q : ℕ). outcome_at n q len count canonical table) y ∙ w;
      }

  module _ (canonical table : List ℕ) (n len count p : ℕ) (h : HandsPlaced r n len count p) where
    pub read-placed : (form : ℕ) (s c t : List ℕ) → outcome r canonical table ≡ model.reading form s c t → outcome_at n p len count canonical table ≡ model.reading form s c t
    read-placed form s c t e = h.is canonical table (model.reading form s c t) e (reading-numbered form s c t)

    pub replace-placed : (form : ℕ) (s c t : List ℕ) (l k node : ℕ) → outcome r canonical table ≡ model.replacing form s c t l k node → outcome_at n p len count canonical table ≡ model.replacing form s c t l k node
    replace-placed form s c t l k node e = h.is canonical table (model.replacing form s c t l k node) e (replacing-numbered form s c t l k node)

    pub insert-placed : (form : ℕ) (s c t : List ℕ) (l m node k : ℕ) → outcome r canonical table ≡ inserting form s c t l m node k → outcome_at n p len count canonical table ≡ inserting form s c t l m node k
    insert-placed form s c t l m node k e = h.is canonical table (inserting form s c t l m node k) e (inserting-numbered form s c t l m node k)

  module _ (canonical table : List ℕ) (n len count : ℕ) (h : HandsReading r n len count) where
    pub remove-handed : (c t : List ℕ) (l m node : ℕ) → outcome r canonical table ≡ removing c t l m node → outcome_of n len count canonical table ≡ removing c t l m node
    remove-handed c t l m node e = h.is canonical table (removing c t l m node) e (removing-numbered c t l m node) (removing-unplaced c t l m node)

module _ (r : Writing) (out : List ℕ) (form : ℕ) (c : List ℕ) (n : ℕ) (x : List ℕ) (e : output r out ≡ model.writing form c n x) where
  pub write-accepted : (len : ℕ) → r ≡ Ok len → output_of 0 len out ≡ model.writing form c n x
  unfolding output
  write-accepted len q = sym (ap (λ (r : Writing). output r out) q) ∙ e

  pub write-refused : (f : Refusal) → r ≡ Err f → output_of (number_of f) 0 out ≡ model.writing form c n x
  unfolding output
  write-refused f q =
      let w : unwritten_at (number_of f) (place_in f) out ≡ model.writing form c n x = sym (ap (λ (r : Writing). output r out) q) ∙ e in
      let z : eqb (number_of f) 0 ≡ false = ap (λ (o : Output). eqb o.number 0) w ∙ sym (writing-numbered form c n x) ∙ sym (ap (λ (o : Output). o.accepted) w) in
      let y : 0 ≡ (place_in f) = sym (ap (λ (o : Output). o.place) w ∙ writing-unplaced form c n x) in
      (λ i. record { accepted = z i; number = (number_of f); place = y i; octets = 0; out = out }) ∙ w

module _ (r : Comparing) (o : Comparison) (e : told r ≡ o) where
  pub same-yes : (b : Bool) → r ≡ Ok b → b ≡ true → compared 0 1 ≡ compared_of o
  unfolding told compared_of flag
  same-yes b q y = sym (ap (λ (r : Comparing). compared_of (told r)) (q ∙ ap (λ (b : Bool). Ok b) y)) ∙ ap compared_of e

  pub same-no : (b : Bool) → r ≡ Ok b → b ≡ false → compared 0 0 ≡ compared_of o
  unfolding told compared_of flag
  same-no b q y = sym (ap (λ (r : Comparing). compared_of (told r)) (q ∙ ap (λ (b : Bool). Ok b) y)) ∙ ap compared_of e

  pub same-refused : (f : Refusal) → r ≡ Err f → compared (number_of f) 0 ≡ compared_of o
  unfolding told compared_of flag
  same-refused f q = sym (ap (λ (r : Comparing). compared_of (told r)) q) ∙ ap compared_of e

module _ (r : Place) where
  pub hand-part : (p : declared.Part) → r ≡ Some p → HandsPlace r 1 p.start p.end
  unfolding placed shown_of
  hand-part p q = sym (ap (λ (r : Place). shown_of (placed r)) q)

  pub hand-none : r ≡ None → HandsPlace r 0 0 0
  unfolding placed shown_of
  hand-none q = sym (ap (λ (r : Place). shown_of (placed r)) q)

  pub place-handed : (o : Option Part) → placed r ≡ o → (n s t : ℕ) → HandsPlace r n s t → shown n s t ≡ shown_of o
  place-handed o e n s t h = h ∙ ap shown_of e
