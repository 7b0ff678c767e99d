-- The entry: rows 1 and 2, and then what the text's tree gives, in local space of one of several sizes.
use Prim.Native.Nat.{ℕ, ◌+◌, ◌*◌, ◌≤◌, ◌<◌}
use native.Mathlib.Omega.{arith}
use mathlib.Core.Path.{◌≡◌, refl, sym, ap, ◌∙◌}
use mathlib.Core.Bool.{Bool, true}
use mathlib.Core.List.{List}
use lib.ListN.{length}
use lib.Seq.{sets}
use lib.Dec.{eqb}
use borrow.Author.Tests.{eqb-true}
use Rattle.model.specs.Answers.{unchanged, place_of, telling, no_form, text_checks, reading_checks, reading}
use Rattle.model.specs.Decode.{decode}
use Rattle.model.specs.Limits.{max_source, most_nodes}
use Rattle.sheets.specs.Places.{shift}
use Rattle.texts.specs.Texts.{text_verdict, Formed, Literal, Bare}
use Rattle.model.proofs.Telling.{telling-same}
use Rattle.texts.proofs.Rows.{row_other, text-refused, text-taken}
use Rattle.texts.proofs.Sizes.{small-takes, long-takes}
use Rattle.answers.specs.Cases.{Reading, Judging, Judges, outcome, Refuses}
use Rattle.answers.specs.declared.refusal.Refusal.{Refusal}
use Rattle.answers.proofs.Judged.{judged-refuses, judged-row}
use Rattle.std.specs.Prelude.{Ok, Err, ⊤}
use Rattle.model.specs.Table.{table_of}
use Rattle.reader.specs.Stored.{read_tree, Noteable, halved, most, Spaced, Puts}
use Rattle.reader.proofs.Storing.{puts-refused}

-- ---- local space

module _ (form n s m : ℕ) where
  pub small-spaced : (bound : ℕ) → Formed form n bound → bound ≤ max_source → 3 * bound + 64 ≤ s → s < shift → 3 * bound ≤ 2 * m → Spaced form n s m
  small-spaced bound f h k j l = record { takes = small-takes form n s bound f h k j; room = halved (omega (arith, f.short)) }

  -- where the notes are lent
  pub noted-spaced : (bound : ℕ) → Formed form n bound → bound ≤ max_source → 3 * bound + 64 ≤ s → s < shift → Noteable n m → Spaced form n s m
  noted-spaced bound f h k j l = record { takes = small-takes form n s bound f h k j; room = l }

  pub noted-long : Formed form n max_source → max_source + 16448 ≤ s → s < shift → Noteable n m → Spaced form n s m
  noted-long f h j k = record { takes = long-takes form n s f h j; room = k }

  pub long-spaced : Formed form n max_source → max_source + 16448 ≤ s → s < shift → most_nodes ≤ m → Spaced form n s m
  long-spaced f h j k = noted-long f h j (most k)

-- ---- canonical text
pub literal-so : (form n : ℕ) → Formed form n max_source → (b : Bool) → b ≡ eqb form 1 → b ≡ true → Literal form n
literal-so form n f b e y = record { is = eqb-true form 1 (sym e ∙ y); short = f.short }

-- ---- basic text outside braces is canonical text
module _ (form : ℕ) (source : List ℕ) (b : Bool) (g : Bare form source b) (e : b ≡ true) where
  -- the form is the measure of `read`, which calls itself here
  pub bare-less : (t : ℕ) → form ≡ t → 1 < t
  bare-less t z = omega (arith, (g.bared e).basic)

  pub read-bare : (canonical table canonical' table' : List ℕ) (a : Reading) → outcome a canonical' table' ≡ reading 1 source canonical table → outcome a canonical' table' ≡ reading form source canonical table
  unfolding reading reading_checks text_checks no_form
  read-bare canonical table canonical' table' a f =
      let z : no_form form ≡ no_form 1 = ap no_form (g.bared e).basic in
      f ∙ sym (rw ((g.bared e).is, z, (g.bared e).told))

-- ---- rows 1 and 2
module _ (form : ℕ) (source canonical table : List ℕ) (r : Judging) (j : Judges (text_verdict form (length source)) r) where
  pub read-refused : (f : Refusal) → r ≡ Err f → outcome (Err f) canonical table ≡ reading form source canonical table
  unfolding reading reading_checks
  read-refused f e =
      let n : ℕ = text_verdict form (length source) in
      (judged-refuses n r j f e).is canonical table
      ∙ sym (ap (telling (place_of form source)) (text-refused form source _ _ (λ (k : ℕ). unchanged k canonical table) n refl (judged-row n r j f e))
      ∙ telling-same (place_of form source) (unchanged n canonical table) (row_other form (length source) n refl))

  pub read_taken : (u : ⊤) → r ≡ Ok u → (canonical' table' : List ℕ) (a : Reading) → outcome a canonical' table' ≡ read_tree (decode form source) (place_of form source) canonical table → outcome a canonical' table' ≡ reading form source canonical table
  unfolding reading reading_checks read_tree
  read_taken u e canonical' table' a f =
      f ∙ sym (ap (telling (place_of form source)) (text-taken form source _ _ (λ (k : ℕ). unchanged k canonical table) (text_verdict form (length source)) refl (omega (arith, j.passes u e))))

-- ---- the same, of an answer whose table is told by notes
module _ (form : ℕ) (source canonical notes : List ℕ) (k : ℕ) (r : Judging) (j : Judges (text_verdict form (length source)) r) where
  pub notes-refused : (f : Refusal) → r ≡ Err f → Puts (reading form source canonical) canonical k notes (Err f)
  notes-refused f e =
      puts-refused (reading form source canonical) canonical notes k _ (judged-row _ r j f e) 0 (Err f) (judged-refuses _ r j f e)
      (λ table z. read-refused form source canonical table r j f e)

  module _ (canonical' : List ℕ) (u : ⊤) (e : r ≡ Ok u) where
    pub notes-taken : (a : Reading) → Puts (read_tree (decode form source) (place_of form source) canonical) canonical' k notes a → Puts (reading form source canonical) canonical' k notes a
    unfolding Puts
    notes-taken (Ok s) p =
        record {
          tree = p.tree;
          held = p.held;
          recorded = p.recorded;
          few = p.few;
          is = λ table z. read_taken form source canonical table r j u e canonical' (sets table 0 (table_of p.tree)) (Ok s) (p.is table z);
        }
    notes-taken (Err f) p = λ table z. read_taken form source canonical table r j u e canonical' table (Err f) (p table z)
