-- S 7.4: the number tells whether an answer is an acceptance: it is 0 there, and in a refusal it never is.
use Prim.Native.Nat.{ℕ}
use mathlib.Core.Path.{◌≡◌, refl, sym}
use mathlib.Core.Bool.{true}
use mathlib.Core.List.{List}
use lib.Dec.{eqb, eqb-suc-zero}
use lib.ListN.{length}
use Rattle.model.specs.Answers.{Check, judged, the, settled, sheet_tree, Outcome, unchanged, telling, filled, reading_checks, reading, replaced, replacing_checks, replacing, Output, unwritten, written, writing_checks, writing, Comparison, uncompared, comparing_checks, comparing}
use Rattle.model.specs.Compare.{same}
use Rattle.model.specs.Corrections.{inserted, inserting_checks, inserting, removed, removing_checks, removing}
use Rattle.model.specs.Decode.{decode}
use Rattle.model.specs.Tree.{Tree}
use Rattle.model.proofs.Judging.{judged-holds}

abbrev Tells : Outcome → Type 0
Tells o = (o.accepted ≡ eqb o.number 0) × (o.place ≡ 0)

-- where a tree is put into the lent sheet and table, or nothing changes
filled-tells : (cs : List Check) (t : Tree) (len count : ℕ) (canonical table : List ℕ) → Tells (judged cs (filled t len count canonical table) (λ n. unchanged n canonical table))
unfolding filled
filled-tells cs t len count canonical table =
    judged-holds cs (filled t len count canonical table) (λ n. unchanged n canonical table) Tells (refl, refl) (λ n. (sym (eqb-suc-zero n), refl))

module _ (form : ℕ) (text canonical table : List ℕ) where
  pub reading-numbered : (reading form text canonical table).accepted ≡ eqb (reading form text canonical table).number 0
  unfolding reading telling
  reading-numbered = (filled-tells (reading_checks form text canonical table) (the (decode form text)) 0 0 canonical table).0

  module _ (len count node : ℕ) where
    pub replacing-numbered : (replacing form text canonical table len count node).accepted ≡ eqb (replacing form text canonical table len count node).number 0
    unfolding replacing telling
    replacing-numbered = (filled-tells (replacing_checks form text canonical table len count node) (replaced form text canonical table len count node) len count canonical table).0

    module _ (k : ℕ) where
      pub inserting-numbered : (inserting form text canonical table len count node k).accepted ≡ eqb (inserting form text canonical table len count node k).number 0
      unfolding inserting telling
      inserting-numbered = (filled-tells (inserting_checks form text canonical table len count node k) (inserted form text canonical table len count node k) len count canonical table).0

module _ (canonical table : List ℕ) (len count node : ℕ) where
  removing-tells : Tells (removing canonical table len count node)
  unfolding removing
  removing-tells = filled-tells (removing_checks canonical table len count node) (removed canonical table len count node) len count canonical table

  pub removing-numbered : (removing canonical table len count node).accepted ≡ eqb (removing canonical table len count node).number 0
  removing-numbered = removing-tells.0

  pub removing-unplaced : (removing canonical table len count node).place ≡ 0
  removing-unplaced = removing-tells.1

module _ (form : ℕ) (canonical : List ℕ) (len : ℕ) (out : List ℕ) where
  writing-tells : ((writing form canonical len out).accepted ≡ eqb (writing form canonical len out).number 0) × ((writing form canonical len out).place ≡ 0)
  unfolding writing
  writing-tells =
      judged-holds (writing_checks form canonical len out)
      (record { accepted = true; number = 0; place = 0; octets = length (written form canonical len); out = settled out 0 (written form canonical len) }) (λ n. unwritten n out)
      (λ (o : Output). (o.accepted ≡ eqb o.number 0) × (o.place ≡ 0)) (refl, refl) (λ n. (sym (eqb-suc-zero n), refl))

  pub writing-numbered : (writing form canonical len out).accepted ≡ eqb (writing form canonical len out).number 0
  writing-numbered = writing-tells.0

  pub writing-unplaced : (writing form canonical len out).place ≡ 0
  writing-unplaced = writing-tells.1

pub comparing-numbered : (a : List ℕ) (a_length : ℕ) (b : List ℕ) (b_length : ℕ) (x : List ℕ) → (comparing a a_length b b_length x).accepted ≡ eqb (comparing a a_length b b_length x).number 0
unfolding comparing
comparing-numbered a a_length b b_length x =
    judged-holds (comparing_checks a a_length b b_length)
    (record { accepted = true; number = 0; place = 0; yes = same (the (sheet_tree a a_length)) (the (sheet_tree b b_length)) x }) (λ n. uncompared n)
    (λ (o : Comparison). o.accepted ≡ eqb o.number 0) refl (λ n. sym (eqb-suc-zero n))
