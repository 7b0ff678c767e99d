-- S 7.3: the place that is told with refusal 3 is the largest p for which some canonical form begins with the first p octets, in form 1, and in
-- form 2 unless the text begins with `{`; in all other cases it is 0.
use Prim.Native.Nat.{ℕ}
use mathlib.Core.Path.{◌≡◌, refl, sym, ◌∙◌, subst}
use mathlib.Core.Bool.{true, false}
use mathlib.Core.List.{List}
use borrow.Author.Tests.{eq-eqb, ne_eqb}
use Rattle.base.proofs.Cases.{picked, unpicked}
use Rattle.model.specs.Answers.{Check, judged, the, Outcome, unchanged, braced, place_of, telling, filled, reading_checks, reading, replaced, replacing_checks, replacing}
use Rattle.model.specs.Automaton.{place}
use Rattle.model.specs.Begins.{Largest}
use Rattle.model.specs.Corrections.{inserted, inserting_checks, inserting}
use Rattle.model.specs.Decode.{decode}
use Rattle.model.specs.Limits.{refusal_syntax}
use Rattle.model.specs.Tree.{Tree}
use Rattle.model.proofs.Judging.{judged-holds}
use Rattle.automaton.proofs.Laws.{place-largest}

-- the forms of which a place is told
pub data Placing : ℕ → List ℕ → Type 0 where
  canonical-text : {s : List ℕ} → Placing 1 s
  bare-text : {s : List ℕ} → braced s ≡ false → Placing 2 s

placing-is : {form : ℕ} {s : List ℕ} → Placing form s → place_of form s ≡ place s
unfolding place_of
placing-is canonical-text = refl
placing-is (bare-text e) = rw e

told-largest : {form : ℕ} {s : List ℕ} → Placing form s → Largest s (place_of form s)
told-largest {form} {s} p = subst (Largest s) (sym (placing-is p)) (place-largest s)

-- the forms of which none is told, whatever they hold: forms 3 and 4, and form 2 where the text begins with `{`
pub data Placeless : ℕ → List ℕ → Type 0 where
  advanced-text : {s : List ℕ} → Placeless 3 s
  terminal-text : {s : List ℕ} → Placeless 4 s
  braced-text : {s : List ℕ} → braced s ≡ true → Placeless 2 s

placeless-is : {form : ℕ} {s : List ℕ} → Placeless form s → place_of form s ≡ 0
unfolding place_of
placeless-is advanced-text = refl
placeless-is terminal-text = refl
placeless-is (braced-text e) = rw e

-- an answer to which the place of a text is told
module _ {form : ℕ} {text : List ℕ} (o : Outcome) where
  with-3 : Placing form text → (telling (place_of form text) o).number ≡ refusal_syntax → Largest text (telling (place_of form text) o).place
  unfolding telling
  with-3 p e = subst (Largest text) (sym (picked _ _ (eq-eqb _ 3 e))) (told-largest p)

-- and where none is told
placeless : {form : ℕ} {text : List ℕ} (o : Outcome) → Placeless form text → (telling (place_of form text) o).number ≡ refusal_syntax → (telling (place_of form text) o).place ≡ 0
unfolding telling
placeless o p e = picked _ _ (eq-eqb _ 3 e) ∙ placeless-is p

-- and one that tells none itself
without-3 : (p : ℕ) (cs : List Check) (t : Tree) (len count : ℕ) (canonical table : List ℕ)
    → ((telling p (judged cs (filled t len count canonical table) (λ n. unchanged n canonical table))).number ≡ refusal_syntax → ⊥)
    → (telling p (judged cs (filled t len count canonical table) (λ n. unchanged n canonical table))).place ≡ 0
unfolding telling filled
without-3 p cs t len count canonical table n =
    unpicked _ _ (ne_eqb _ 3 n) ∙ judged-holds cs (filled t len count canonical table) (λ k. unchanged k canonical table) (λ (o : Outcome). o.place ≡ 0) refl (λ k. refl)

module _ (form : ℕ) (text canonical table : List ℕ) where
  pub read-tells : Placing form text → (reading form text canonical table).number ≡ refusal_syntax → Largest text (reading form text canonical table).place
  unfolding reading
  read-tells p e = with-3 _ p e

  pub read-tells-nothing : Placeless form text → (reading form text canonical table).number ≡ refusal_syntax → (reading form text canonical table).place ≡ 0
  unfolding reading
  read-tells-nothing p e = placeless _ p e

  pub read-tells-none : ((reading form text canonical table).number ≡ refusal_syntax → ⊥) → (reading form text canonical table).place ≡ 0
  unfolding reading
  read-tells-none n = without-3 _ (reading_checks form text canonical table) (the (decode form text)) 0 0 canonical table n

  module _ (len count node : ℕ) where
    pub replace-tells : Placing form text → (replacing form text canonical table len count node).number ≡ refusal_syntax → Largest text (replacing form text canonical table len count node).place
    unfolding replacing
    replace-tells p e = with-3 _ p e

    pub replace-tells-nothing : Placeless form text → (replacing form text canonical table len count node).number ≡ refusal_syntax → (replacing form text canonical table len count node).place ≡ 0
    unfolding replacing
    replace-tells-nothing p e = placeless _ p e

    pub replace-tells-none : ((replacing form text canonical table len count node).number ≡ refusal_syntax → ⊥) → (replacing form text canonical table len count node).place ≡ 0
    unfolding replacing
    replace-tells-none n = without-3 _ (replacing_checks form text canonical table len count node) (replaced form text canonical table len count node) len count canonical table n

    module _ (k : ℕ) where
      pub insert-tells : Placing form text → (inserting form text canonical table len count node k).number ≡ refusal_syntax → Largest text (inserting form text canonical table len count node k).place
      unfolding inserting
      insert-tells p e = with-3 _ p e

      pub insert-tells-nothing : Placeless form text → (inserting form text canonical table len count node k).number ≡ refusal_syntax → (inserting form text canonical table len count node k).place ≡ 0
      unfolding inserting
      insert-tells-nothing p e = placeless _ p e

      pub insert-tells-none : ((inserting form text canonical table len count node k).number ≡ refusal_syntax → ⊥) → (inserting form text canonical table len count node k).place ≡ 0
      unfolding inserting
      insert-tells-none n = without-3 _ (inserting_checks form text canonical table len count node k) (inserted form text canonical table len count node k) len count canonical table n
