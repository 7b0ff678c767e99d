-- Writing and comparing: refused row by row and nothing changed then; accepted exactly when no row applies, and what is left.
use Prim.Native.Nat.{ℕ, ◌≤◌, ◌<◌}
use native.Mathlib.Omega.{arith}
use mathlib.Core.Path.{◌≡◌, refl, sym, ap, ◌∙◌}
use mathlib.Core.Bool.{true, false}
use mathlib.Core.Option.{Option, some}
use mathlib.Core.List.{List}
use lib.ListN.{length, take, drop}
use lib.Seq.{take-append_seam}
use lib.Dec.{ltb}
use borrow.Author.Tests.{ltb-false, le-ltb}
use Rattle.base.specs.Choice.{is_none}
use Rattle.base.proofs.Cases.{unpicked}
use Rattle.model.specs.Answers.{Check, verdict, no_out_form, the, settled, sheet_tree, Output, unwritten, written, writing_checks, writing, Comparison, uncompared, comparing_checks, comparing}
use Rattle.model.specs.Compare.{same}
use Rattle.model.specs.Tree.{Tree}
use Rattle.model.specs.Write.{encode}
use Rattle.model.proofs.Judging.{judged-accepted}
use Rattle.demands.specs.Conditions.{First}
use Rattle.demands.proofs.Read.{settled-past}
use Rattle.demands.proofs.Rows.{judged-by, judged-for, no_row, not-this, past, none-applies, there}

-- ---- writing

-- S 8.2: 1, 7, 6, and none applies
pub record Writable (form : ℕ) (canonical : List ℕ) (len : ℕ) (out : List ℕ) : Type 0 where
  pub known : no_out_form form ≡ false
  pub tree : Tree
  pub is : sheet_tree canonical len ≡ some tree
  pub roomy : length (encode form tree) ≤ length out

module _ (form : ℕ) (canonical : List ℕ) (len : ℕ) (out : List ℕ) where
  abbrev checks : List Check
  checks = writing_checks form canonical len out

  abbrev answer : Output
  answer = writing form canonical len out

  pub write-refused-by : (n : ℕ) → 0 < n → First checks n → answer ≡ unwritten n out
  unfolding writing
  write-refused-by n h f = judged-by (λ (o : Output). o.number) checks _ (λ (k : ℕ). unwritten k out) (λ k. refl) n h f

  pub write-refused-for : (n : ℕ) → 0 < n → answer.number ≡ n → First checks n
  unfolding writing
  write-refused-for n h e = judged-for (λ (o : Output). o.number) checks _ (λ (k : ℕ). unwritten k out) (λ k. refl) refl n h e

  -- accepted, and the tree's text is in the front of the output
  pub writable-accepted : (w : Writable form canonical len out)
      → answer ≡ record { accepted = true; number = 0; place = 0; octets = length (encode form w.tree); out = settled out 0 (encode form w.tree) }
  unfolding writing writing_checks written the is_none
  writable-accepted w =
      let e : written form canonical len ≡ encode form w.tree = ap (λ (o : Option Tree). encode form (the o)) w.is in
      judged-accepted _ _ _
      (past 1 _ _ w.known
      (past 7 _ _ (ap is_none w.is)
      (past 6 _ _ (ap (λ (x : List ℕ). ltb (length out) (length x)) e ∙ le-ltb (length out) (length (encode form w.tree)) w.roomy) none-applies)))
      ∙ ap (λ (x : List ℕ). record { accepted = true; number = 0; place = 0; octets = length x; out = settled out 0 x }) e

  pub accepted-writable : answer.number ≡ 0 → Writable form canonical len out
  unfolding writing writing_checks written the
  accepted-writable e =
      let v : verdict checks ≡ 0 = no_row (λ (o : Output). o.number) checks _ (λ (k : ℕ). unwritten k out) (λ k. refl) e in
      let a : _ × _ = not-this 1 (no_out_form form) _ (omega arith) v in
      let b : _ × _ = not-this 7 (is_none (sheet_tree canonical len)) _ (omega arith) a.1 in
      let c : _ × _ = not-this 6 (ltb (length out) (length (written form canonical len))) _ (omega arith) b.1 in
      there (sheet_tree canonical len) b.0
      (λ t i.
      let r : length (written form canonical len) ≤ length out = ltb-false _ _ c.0 in
      let q : written form canonical len ≡ encode form t = ap (λ (o : Option Tree). encode form (the o)) i in
      record { known = a.0; tree = t; is = i; roomy = omega (arith, r, ap length q) })

  -- S 8.2: the length given is the text's, and output past it stays
  module _ (e : answer.number ≡ 0) where
    abbrev tree : Tree
    tree = (accepted-writable e).tree

    pub text-left : take answer.octets answer.out ≡ encode form tree
    unfolding settled
    text-left = ap (λ (o : Output). take o.octets o.out) (writable-accepted (accepted-writable e)) ∙ take-append_seam (encode form tree) _

    pub output-past : drop answer.octets answer.out ≡ drop answer.octets out
    output-past =
        let w = writable-accepted (accepted-writable e) in
        ap (λ (o : Output). drop o.octets o.out) w
        ∙ settled-past out (encode form tree) (length (encode form tree)) refl ∙ ap (λ (n : ℕ). drop n out) (sym (ap (λ (o : Output). o.octets) w))

-- ---- comparing

module _ (a : List ℕ) (a_length : ℕ) (b : List ℕ) (b_length : ℕ) (x : List ℕ) where
  abbrev compare_checks : List Check
  compare_checks = comparing_checks a a_length b b_length

  -- S 7.2: the answer is no in a refusal
  pub compare-refused-by : (n : ℕ) → 0 < n → First compare_checks n → comparing a a_length b b_length x ≡ uncompared n
  unfolding comparing
  compare-refused-by n h f = judged-by (λ (c : Comparison). c.number) compare_checks _ (λ (k : ℕ). uncompared k) (λ k. refl) n h f

  pub compare-refused-for : (n : ℕ) → 0 < n → (comparing a a_length b b_length x).number ≡ n → First compare_checks n
  unfolding comparing
  compare-refused-for n h e = judged-for (λ (c : Comparison). c.number) compare_checks _ (λ (k : ℕ). uncompared k) (λ k. refl) refl n h e

  -- both are sheets: whether their trees are the same
  pub compared : (t u : Tree) → sheet_tree a a_length ≡ some t → sheet_tree b b_length ≡ some u → comparing a a_length b b_length x ≡ record { accepted = true; number = 0; place = 0; yes = same t u x }
  unfolding comparing comparing_checks is_none the
  compared t u i j =
      judged-accepted _ _ _ (past 7 _ _ (unpicked _ _ (ap is_none i) ∙ ap is_none j) none-applies)
      ∙ rw (i, j)
