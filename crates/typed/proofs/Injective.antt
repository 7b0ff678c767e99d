-- An answer's meaning settles the answer: an acceptance and a refusal never mean the same.
use Prim.Native.Nat.{ℕ}
use native.Mathlib.Omega.{arith}
use mathlib.Core.Path.{◌≡◌, refl, sym, ap, ap₂}
use mathlib.Core.Bool.{true, false}
use mathlib.Core.Option.{some}
use Rattle.base.proofs.Cases.{some_same}
use Rattle.std.specs.Prelude.{Ok, Err}
use Rattle.answers.specs.declared.refusal.Refusal.{Refusal}
use Rattle.answers.proofs.Injective.{refusal-injective}
use Rattle.typed.specs.Cases.{Valuing, Valued, valued, Totalling, Totalled, totalled, Lining, Lined, lined, Summing, Summed, summed}
use Rattle.typed.specs.declared.Value.{Value}
use Rattle.typed.specs.declared.Line.{Line}
use Rattle.typed.specs.declared.Total.{Total}

apart : true ≡ false → ⊥
apart e = let z : ◌≡◌ {A = ℕ} 0 1 = cc in omega arith

within : {A : Type 0} (a b : A) → some a ≡ some b → a ≡ b
within {A} a b e = some_same (λ (x : A). a ≡ x) e refl

pub valued-injective : (r s : Valuing) → valued r ≡ valued s → r ≡ s
unfolding valued
valued-injective (Ok a) (Ok b) e = ap (λ (v : Value). Ok v) (within a b (ap (λ (o : Valued). o.value) e))
valued-injective (Ok a) (Err g) e = absurd (apart (ap (λ (o : Valued). o.accepted) e))
valued-injective (Err f) (Ok b) e = absurd (apart (sym (ap (λ (o : Valued). o.accepted) e)))
valued-injective (Err f) (Err g) e = ap (λ (f : Refusal). Err f) (refusal-injective f g (ap (λ (o : Valued). o.number) e) (ap (λ (o : Valued). o.place) e))

pub totalled-injective : (r s : Totalling) → totalled r ≡ totalled s → r ≡ s
unfolding totalled
totalled-injective (Ok a) (Ok b) e = ap (λ (v : Total). Ok v) (within a b (ap (λ (o : Totalled). o.total) e))
totalled-injective (Ok a) (Err g) e = absurd (apart (ap (λ (o : Totalled). o.accepted) e))
totalled-injective (Err f) (Ok b) e = absurd (apart (sym (ap (λ (o : Totalled). o.accepted) e)))
totalled-injective (Err f) (Err g) e = ap (λ (f : Refusal). Err f) (refusal-injective f g (ap (λ (o : Totalled). o.number) e) (ap (λ (o : Totalled). o.place) e))

pub lined-injective : (r s : Lining) → lined r ≡ lined s → r ≡ s
unfolding lined
lined-injective (Ok a) (Ok b) e = ap₂ (λ (h : Line) (t : Total). Ok (record { line = h; total = t })) (within a.line b.line (ap (λ (o : Lined). o.line) e)) (within a.total b.total (ap (λ (o : Lined). o.total) e))
lined-injective (Ok a) (Err g) e = absurd (apart (ap (λ (o : Lined). o.accepted) e))
lined-injective (Err f) (Ok b) e = absurd (apart (sym (ap (λ (o : Lined). o.accepted) e)))
lined-injective (Err f) (Err g) e = ap (λ (f : Refusal). Err f) (refusal-injective f g (ap (λ (o : Lined). o.number) e) (ap (λ (o : Lined). o.place) e))

pub summed-injective : (r s : Summing) → summed r ≡ summed s → r ≡ s
unfolding summed
summed-injective (Ok a) (Ok b) e = ap₂ (λ (n : ℕ) (t : Total). Ok (record { lines = n; total = t })) (ap (λ (o : Summed). o.lines) e) (within a.total b.total (ap (λ (o : Summed). o.total) e))
summed-injective (Ok a) (Err g) e = absurd (apart (ap (λ (o : Summed). o.accepted) e))
summed-injective (Err f) (Ok b) e = absurd (apart (sym (ap (λ (o : Summed). o.accepted) e)))
summed-injective (Err f) (Err g) e = ap₂ (λ (f : Refusal) (k : ℕ). Err (record { refusal = f; node = k })) (refusal-injective f.refusal g.refusal (ap (λ (o : Summed). o.number) e) (ap (λ (o : Summed). o.place) e)) (ap (λ (o : Summed). o.bad) e)
