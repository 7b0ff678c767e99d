-- The entries: rows 1 and 2, and then what the text's tree gives; or, where nothing comes, what a removal gives.
use Prim.Native.Nat.{ℕ, ◌≤◌, ◌<◌}
use mathlib.Core.Path.{◌≡◌, refl, sym, ap, ◌∙◌}
use mathlib.Core.Bool.{Bool, true, false}
use mathlib.Core.Option.{some}
use mathlib.Core.List.{List}
use lib.ListN.{length}
use Rattle.base.proofs.Cases.{untrue}
use Rattle.model.specs.Answers.{verdict, judged, unchanged, place_of, telling, replaced, replacing_checks, replacing, Outcome}
use Rattle.model.specs.Corrections.{inserted, no_place, inserting_checks, inserting, removing}
use Rattle.model.specs.Decode.{decode}
use Rattle.model.specs.Tree.{list, nil}
use Rattle.texts.specs.Texts.{text_verdict}
use Rattle.model.proofs.Telling.{telling-same}
use Rattle.texts.proofs.Rows.{row_other, text-refused, text-taken}
use Rattle.answers.specs.Cases.{Judging, Judges}
use Rattle.answers.specs.declared.refusal.Refusal.{Refusal}
use Rattle.answers.proofs.Judged.{judged-refuses, judged-row}
use Rattle.std.specs.Prelude.{Ok, Err, ⊤}
use native.Mathlib.Omega.{arith}
use Rattle.plan.specs.Asked.{changed, node_of, placeless, texted, change_checks, change_tree, changing}
use Rattle.plan.proofs.Removing.{removing-is}
use Rattle.plan.specs.declared.Asked.{Asked}
use Rattle.plan.specs.declared.Asked.TheVariants.{Replace, Insert, Remove}
use Rattle.answers.specs.Cases.{Reading}
use Rattle.editor.specs.Given.{GivesTree, GivesMeant, GivesText}
use Rattle.editor.proofs.Placing.{gives-refused, gives_same}

-- ---- with a text
module _ (form : ℕ) (text canonical : List ℕ) (len count : ℕ) (n : ℕ) (v : n ≡ text_verdict form (length text)) (table : List ℕ) where
  -- before the text is looked at
  early : (t : Outcome) → t ≡ unchanged n canonical table → telling (place_of form text) t ≡ unchanged n canonical table
  early t e = ap (telling (place_of form text)) e ∙ telling-same (place_of form text) (unchanged n canonical table) (row_other form (length text) n v)

  refused : (a : Asked) → texted a ≡ true → 0 < n → changing a form text canonical table len count ≡ unchanged n canonical table
  unfolding changing texted replacing replacing_checks inserting inserting_checks
  refused (Replace node) f h = early _ (text-refused form text _ _ (λ (k : ℕ). unchanged k canonical table) n v h)
  refused (Insert node k) f h = early _ (text-refused form text _ _ (λ (k : ℕ). unchanged k canonical table) n v h)
  refused (Remove node) f h = untrue f

  taken : (a : Asked) → texted a ≡ true → n ≤ 0 → telling (place_of form text) (change_tree a (decode form text) canonical len table count) ≡ changing a form text canonical table len count
  unfolding changing texted replacing replacing_checks replaced inserting inserting_checks inserted no_place change_tree change_checks changed node_of placeless verdict judged
  taken (Replace node) f h = sym (ap (telling (place_of form text)) (text-taken form text _ _ (λ (k : ℕ). unchanged k canonical table) n v h))
  taken (Insert node k) f h = sym (ap (telling (place_of form text)) (text-taken form text _ _ (λ (k : ℕ). unchanged k canonical table) n v h))
  taken (Remove node) f h = untrue f

module _ (form : ℕ) (text canonical : List ℕ) (len count room : ℕ) (own : Bool) (a : Asked) (f : texted a ≡ true) (r : Judging) (j : Judges (text_verdict form (length text)) r) where
  pub change-refused : (x : Refusal) → r ≡ Err x → (notes : List ℕ) → GivesText a form text canonical len count room own canonical notes (Err x)
  change-refused x e notes =
      gives-refused _ _ canonical room notes count _ 0 (Err x) (judged-refuses _ r j x e)
      (λ table l. (judged-refuses _ r j x e).is canonical table ∙ sym (refused form text canonical len count _ refl table a f (judged-row _ r j x e)))

  pub change-taken : (u : ⊤) → r ≡ Ok u → (canonical' notes' : List ℕ) (r : Reading) → GivesMeant a form text canonical len count room own canonical' notes' r
      → GivesText a form text canonical len count room own canonical' notes' r
  change-taken u e canonical' notes' r p =
      gives_same _ _ _ canonical' room notes' count r (λ table. taken form text canonical len count (text_verdict form (length text)) refl table a f (omega (arith, j.passes u e))) p

-- ---- with none
strikes : (a : Asked) → texted a ≡ false → (form : ℕ) (text canonical table : List ℕ) (len count : ℕ) → change_tree a (some (list nil)) canonical len table count ≡ changing a form text canonical table len count
unfolding texted changing
strikes (Replace node) f form text canonical table len count = untrue (sym f)
strikes (Insert node k) f form text canonical table len count = untrue (sym f)
strikes (Remove node) f form text canonical table len count = removing-is canonical len table count node

pub change-struck : (a : Asked) → texted a ≡ false → (form : ℕ) (text canonical : List ℕ) (len count room : ℕ) (own : Bool) (canonical' notes' : List ℕ) (r : Reading)
    → GivesTree a (some (list nil)) canonical len count room own canonical' notes' r → GivesText a form text canonical len count room own canonical' notes' r
change-struck a f form text canonical len count room own canonical' notes' r p =
    gives_same _ _ _ canonical' room notes' count r (λ table. strikes a f form text canonical table len count) p

-- ---- what is asked, by name
module _ (form : ℕ) (text canonical table : List ℕ) (len count node : ℕ) (r : Outcome) where
  pub named-replace : r ≡ changing (Replace node) form text canonical table len count → r ≡ replacing form text canonical table len count node
  unfolding changing
  named-replace e = e

  pub named-insert : (k : ℕ) → r ≡ changing (Insert node k) form text canonical table len count → r ≡ inserting form text canonical table len count node k
  unfolding changing
  named-insert k e = e

  pub named-remove : r ≡ changing (Remove node) form text canonical table len count → r ≡ removing canonical table len count node
  unfolding changing
  named-remove e = e
