-- Judgements: how one comes about, and what an entry answers by it.
use Prim.Native.Nat.{ℕ, ◌<◌}
use native.Mathlib.Omega.{arith}
use mathlib.Core.Path.{◌≡◌, refl, sym, ap, ap₂, ◌∙◌}
use mathlib.Core.List.{List}
use Rattle.std.specs.Prelude.{Result, Ok, Err, ⊤}
use Rattle.model.specs.Answers.{unchanged}
use Rattle.answers.specs.Cases.{Judging, Judges, outcome, output, Refuses, RefusesAt, RefusesWriting}
use Rattle.answers.specs.Refusals.{number_of, place_in}
use Rattle.answers.specs.declared.refusal.Refusal.{Refusal}
use Rattle.answers.specs.declared.refusal.Refusal.TheVariants.{Form, SourceSize, Syntax, Depth, Nodes, Size, NotOwn, NoNode, NoPlace, Damaged, NotTyped, NotLine}

pub ok-err : {A E G : Type 0} {a : A} {f : E} → ◌≡◌ {A = Result A E} (Ok a) (Err f) → G
ok-err e = let z : ◌≡◌ {A = ℕ} 0 1 = cc in absurd (omega arith)

pub err-equal : {A E : Type 0} {f g : E} → ◌≡◌ {A = Result A E} (Err f) (Err g) → f ≡ g
err-equal {A} {E} {f} {g} e = ap (λ (x : Result A E). elim x [ Ok s ↦ f | Err h ↦ h ]) e

pub ok-equal : {A E : Type 0} {a b : A} → ◌≡◌ {A = Result A E} (Ok a) (Ok b) → a ≡ b
ok-equal {A} {E} {a} {b} e = ap (λ (x : Result A E). elim x [ Ok s ↦ s | Err h ↦ a ]) e

pub judge-row : (n : ℕ) (f : Refusal) → number_of f ≡ n → place_in f ≡ 0 → Judges n (Err f)
judge-row n f e p =
    record {
      passes = λ u q. ok-err (sym q);
      refuses = λ g q. (ap number_of (sym (err-equal q)) ∙ e, ap place_in (sym (err-equal q)) ∙ p);
    }

pub judge-none : (n : ℕ) (u : ⊤) → n ≡ 0 → Judges n (Ok u)
judge-none n u e = record { passes = λ v q. e; refuses = λ g q. ok-err q }

numbered : (f : Refusal) → 0 < number_of f
numbered Form = omega arith
numbered SourceSize = omega arith
numbered (Syntax p) = omega arith
numbered Depth = omega arith
numbered Nodes = omega arith
numbered Size = omega arith
numbered NotOwn = omega arith
numbered NoNode = omega arith
numbered NoPlace = omega arith
numbered Damaged = omega arith
numbered NotTyped = omega arith
numbered NotLine = omega arith

module _ (n : ℕ) (r : Judging) (j : Judges n r) (f : Refusal) (e : r ≡ Err f) where
  -- the answer of an entry that passes the refusal on
  pub judged-refuses : Refuses n (Err f)
  unfolding outcome
  judged-refuses = record { is = λ c t. ap₂ (λ (n p : ℕ). Rattle.model.specs.Answers.unchanged_at n p c t) ((j.refuses f e).0) ((j.refuses f e).1) }

  -- only a row is refused
  pub judged-row : 0 < n
  judged-row = let z : number_of f ≡ n = (j.refuses f e).0 in omega (arith, z, numbered f)

-- ---- what an entry answers by a refusal of its own

pub refuses : (f : Refusal) → RefusesAt (number_of f) (place_in f) (Err f)
unfolding outcome
refuses f = record { is = λ c t. refl }

pub refuses-writing : (f : Refusal) → place_in f ≡ 0 → RefusesWriting (number_of f) (Err f)
unfolding output
refuses-writing f e = record { is = λ out. ap (λ (p : ℕ). Rattle.model.specs.Answers.unwritten_at (number_of f) p out) e }
