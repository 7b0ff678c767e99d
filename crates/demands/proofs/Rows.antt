-- S 14.3: a number is given exactly when its row is the first that applies.
use Prim.Native.Nat.{ℕ, ◌<◌}
use native.Mathlib.Omega.{arith}
use mathlib.Core.Path.{◌≡◌, refl, sym, ap, ◌∙◌}
use mathlib.Core.Bool.{Bool, true, false}
use mathlib.Core.List.{List, [], ◌∷◌, ◌++◌}
use mathlib.Core.Option.{Option, none, some}
use Rattle.base.specs.Choice.{pick, is_none}
use Rattle.base.proofs.Cases.{by_bool, by-eq, picked, unpicked, untrue}
use Rattle.model.specs.Answers.{Check, when, verdict, judged, Outcome, filled, unchanged}
use Rattle.model.specs.Tree.{Tree}
use Rattle.model.proofs.Judging.{judged-accepted, judged-refused, verdict-past}
use Rattle.demands.specs.Conditions.{Quiet, no-check, not-applying, First}

further : (m n : ℕ) (cs : List Check) → First cs n → First (when m false ∷ cs) n
further m n cs f =
    record {
      before = when m false ∷ f.before;
      after = f.after;
      is = ap (λ (l : List Check). when m false ∷ l) f.is;
      quiet = not-applying f.quiet;
    }

step : (m : ℕ) (t : Bool) (cs : List Check) (n : ℕ) → (verdict cs ≡ n → First cs n) → verdict (when m t ∷ cs) ≡ n → First (when m t ∷ cs) n
unfolding verdict
step m true cs n on e = record { before = []; after = cs; is = ap (λ (k : ℕ). when k true ∷ cs) e; quiet = no-check }
step m false cs n on e = further m n cs (on e)

pub given-first : (cs : List Check) (n : ℕ) → 0 < n → verdict cs ≡ n → First cs n
unfolding verdict
given-first [] n h e = absurd (omega arith)
given-first (c ∷ cs) n h e = step c.row c.applies cs n (given-first cs n h) e

given-quiet : (before after : List Check) (n : ℕ) → Quiet before → verdict (before ++ (when n true ∷ after)) ≡ n
unfolding verdict
given-quiet [] after n no-check = refl
given-quiet (c ∷ before) after n (not-applying q) = given-quiet before after n q

pub first-given : (cs : List Check) (n : ℕ) → First cs n → verdict cs ≡ n
first-given cs n f = ap verdict f.is ∙ given-quiet f.before f.after n f.quiet

-- ---- an answer by a list of checks
module _ {A : Type 0} (number : A → ℕ) (cs : List Check) (accepted : A) (refused : ℕ → A) (numbered : (n : ℕ) → number (refused n) ≡ n) where
  pub judged-by : (n : ℕ) → 0 < n → First cs n → judged cs accepted refused ≡ refused n
  judged-by n h f = judged-refused cs accepted refused n (first-given cs n f) h

  pub judged-for : number accepted ≡ 0 → (n : ℕ) → 0 < n → number (judged cs accepted refused) ≡ n → First cs n
  judged-for a n h e =
      by-eq (verdict cs) 0
      (λ z. let y : 0 ≡ n = sym a ∙ sym (ap number (judged-accepted cs accepted refused z)) ∙ e in absurd (omega arith))
      (λ z. given-first cs n h (sym (numbered (verdict cs)) ∙ sym (ap number (judged-refused cs accepted refused (verdict cs) refl (omega arith))) ∙ e))

  pub no_row : number (judged cs accepted refused) ≡ 0 → verdict cs ≡ 0
  no_row e =
      by-eq (verdict cs) 0 (λ z. z)
      (λ n. absurd (n (sym (ap number (judged-refused cs accepted refused (verdict cs) refl (omega arith)) ∙ numbered (verdict cs)) ∙ e)))

-- ---- no check applies
pub not-this : (n : ℕ) (t : Bool) (cs : List Check) → 0 < n → verdict (when n t ∷ cs) ≡ 0 → (t ≡ false) × (verdict cs ≡ 0)
unfolding verdict
not-this n t cs h e =
    by_bool t
    (λ y. let z : n ≡ 0 = sym (picked _ _ y) ∙ e in absurd (omega arith))
    (λ y. (y, sym (unpicked _ _ y) ∙ e))

pub past : (n : ℕ) (t : Bool) (cs : List Check) → t ≡ false → verdict cs ≡ 0 → verdict (when n t ∷ cs) ≡ 0
past n t cs e f = verdict-past n t cs e ∙ f

pub none-applies : verdict [] ≡ 0
unfolding verdict
none-applies = refl

-- checks at the end of which none applies where none before them does
one_more : (n : ℕ) (t : Bool) (v w : ℕ) → (t ≡ false → w ≡ v) → pick t n w ≡ pick t n v
one_more n true v w f = refl
one_more n false v w f = f refl

pub no_more : (cs ds : List Check) → (verdict cs ≡ 0 → verdict ds ≡ 0) → verdict (cs ++ ds) ≡ verdict cs
unfolding verdict
no_more [] ds f = f refl
no_more (c ∷ cs) ds f = one_more c.row c.applies (verdict cs) (verdict (cs ++ ds)) (λ e. no_more cs ds (λ v. f (unpicked _ _ e ∙ v)))

pub there : {G : Type 0} (o : Option Tree) → is_none o ≡ false → ((t : Tree) → o ≡ some t → G) → G
unfolding is_none
there none e g = untrue (sym e)
there (some t) e g = g t refl

-- ---- where a tree is put into the lent sheet and table, or nothing changes
module _ (cs : List Check) (t : Tree) (len count : ℕ) (canonical table : List ℕ) where
  abbrev answer : Outcome
  answer = judged cs (filled t len count canonical table) (λ n. unchanged n canonical table)

  pub fills-by : (n : ℕ) → 0 < n → First cs n → answer ≡ unchanged n canonical table
  fills-by n h f = judged-by (λ (o : Outcome). o.number) cs _ (λ (k : ℕ). unchanged k canonical table) (λ k. refl) n h f

  pub fills-for : (n : ℕ) → 0 < n → answer.number ≡ n → First cs n
  unfolding filled
  fills-for n h e = judged-for (λ (o : Outcome). o.number) cs _ (λ (k : ℕ). unchanged k canonical table) (λ k. refl) refl n h e

  pub fills-held : answer.number ≡ 0 → verdict cs ≡ 0
  fills-held e = no_row (λ (o : Outcome). o.number) cs _ (λ (k : ℕ). unchanged k canonical table) (λ k. refl) e
