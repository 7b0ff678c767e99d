-- The entry: rows 1 and 7, and then row 6 of what goes out.
use Prim.Native.Nat.{ℕ, zero, suc, ◌≤◌, ◌<◌}
use native.Mathlib.Omega.{arith}
use mathlib.Core.Path.{◌≡◌, refl, sym, ap, ◌∙◌}
use mathlib.Core.Bool.{Bool, true, false, not}
use mathlib.Core.List.{List}
use lib.ListN.{length}
use lib.Dec.{ltb}
use Rattle.base.specs.Choice.{pick, is_none}
use Rattle.base.proofs.Cases.{picked, unpicked, among_in, among-low, among-high}
use Rattle.model.specs.Answers.{verdict, judged, no_out_form, sheet_tree, settled, unwritten, written, writing_checks, writing}
use Rattle.model.proofs.Judging.{judged-refused, verdict-here, verdict-past}
use Rattle.lookup.proofs.Sheets.{tree_of, none_of}
use Rattle.answers.specs.Cases.{RefusesWriting, output}
use Rattle.write.specs.Sized.{Good, sized}
use Rattle.answers.specs.Cases.{Writing}
use Rattle.std.specs.Prelude.{Ok}

-- row 6 alone
by_size : (b : Bool) (x out : List ℕ)
    → elim (pick {A = ℕ} b 6 0) [ zero ↦ output (Ok (length x)) (settled out 0 x) | suc n ↦ unwritten (suc n) out ]
    ≡ pick b (unwritten 6 out) (output (Ok (length x)) (settled out 0 x))
by_size true x out = refl
by_size false x out = refl

module _ (form : ℕ) (c : List ℕ) (n : ℕ) (out : List ℕ) where
  form-refused : no_out_form form ≡ true → writing form c n out ≡ unwritten 1 out
  unfolding writing writing_checks output
  form-refused e = judged-refused _ _ _ 1 (verdict-here 1 (no_out_form form) _ e) (omega arith)

  pub write_low : form < 1 → (a : Writing) → RefusesWriting 1 a → output a out ≡ writing form c n out
  unfolding no_out_form
  write_low h a f = f.is out ∙ sym (form-refused (unpicked _ _ (among-low 1 3 form h)))

  module _ (lo : 1 ≤ form) where
    pub write-high : 3 < form → (a : Writing) → RefusesWriting 1 a → output a out ≡ writing form c n out
    unfolding no_out_form
    write-high h a f = f.is out ∙ sym (form-refused (unpicked _ _ (among-high 1 3 form h)))

    module _ (hi : form ≤ 3) (s : Bool) (e : s ≡ not (is_none (sheet_tree c n))) where
      known : no_out_form form ≡ false
      unfolding no_out_form
      known = picked _ _ (among_in 1 3 form lo hi)

      pub write-none : s ≡ false → (a : Writing) → RefusesWriting 7 a → output a out ≡ writing form c n out
      unfolding writing writing_checks output is_none
      write-none y a f =
          f.is out
          ∙ sym (judged-refused _ _ _ 7 (verdict-past 1 (no_out_form form) _ known ∙ verdict-here 7 (is_none (sheet_tree c n)) _ (ap is_none (none_of (sheet_tree c n) (sym y ∙ e)))) (omega arith))

      module _ (y : s ≡ true) where
        writes : writing form c n out ≡ sized (written form c n) out
        unfolding writing writing_checks sized judged verdict is_none output
        writes =
            tree_of (sheet_tree c n) (sym y ∙ e)
            (λ t i.
            ap (λ (k : ℕ). elim k [ zero ↦ output (Ok (length (written form c n))) (settled out 0 (written form c n)) | suc m ↦ unwritten (suc m) out ]) (unpicked _ _ known ∙ unpicked _ _ (ap is_none i))
            ∙ by_size (ltb (length out) (length (written form c n))) (written form c n) out)

        pub write-in : (k : ℕ) → form ≡ k → (out' : List ℕ) (a : Writing) → output a out' ≡ sized (written k c n) out → output a out' ≡ writing form c n out
        write-in k q out' a f = f ∙ ap (λ (k : ℕ). sized (written k c n) out) (sym q) ∙ sym writes

        pub write-last : (form ≡ 1 → ⊥) → (form ≡ 2 → ⊥) → (out' : List ℕ) (a : Writing) → output a out' ≡ sized (written 3 c n) out → output a out' ≡ writing form c n out
        write-last p q out' a f = write-in 3 (omega arith) out' a f

pub good : (c : List ℕ) (n : ℕ) (s : Bool) → s ≡ not (is_none (sheet_tree c n)) → s ≡ true → Good c n
good c n s e y = tree_of (sheet_tree c n) (sym y ∙ e) (λ t i. record { tree = t; is = i })
