-- S 10.3, 10.5: a line is answered exactly where the node is one, with its total; else 12. The total is exactly a quarter of its count.
use Prim.Native.Nat.{ℕ, ◌+◌, ◌^◌, ◌≤◌, ◌<◌}
use native.Mathlib.Omega.{arith}
use mathlib.Core.Path.{◌≡◌, refl, sym, ap, ◌∙◌}
use mathlib.Core.Bool.{true}
use mathlib.Core.Option.{some}
use lib.Ieee.{Float, binary64, to_bits}
use lib.Ieee.Bits.{of_bits-fits}
use Rattle.std.specs.Prelude.{Some, None}
use Rattle.base.proofs.Cases.{none-some, some_same}
use Rattle.base.specs.Choice.{is_none}
use Rattle.model.specs.Answers.{verdict, judged}
use Rattle.typed.specs.Quarters.{counted, plus, quarters_of, quarter_bits, hours_of, total_by, total_of, Count}
use Rattle.typed.specs.Cases.{Totalled, untotalled}
use Rattle.typed.specs.Asked.{totalling}
use Rattle.typed.specs.declared.Line.{Line}
use Rattle.typed.specs.declared.Total.{Total}
use Rattle.typed.proofs.Exact.{Exactly, quarter-exact}
use Rattle.typed.proofs.Meaning.{exact-value}
use Rattle.typed.proofs.Quarterly.{count-is, Counted, count-says}
use Rattle.demands.specs.Lines.{Hours, Quartered, QuarterOf}

-- ---- the count of a line, told both ways

hours-count : (x : Float) (n : ℕ) → Hours x n → counted x ≡ Some n
hours-count x n h = count-is (to_bits binary64 x) n h.quarters.plain h.day h.quarters.exact

count-hours : (x : Float) (n : ℕ) → counted x ≡ Some n → Hours x n
count-hours x n e =
    let w : Counted (to_bits binary64 x) n = count-says (to_bits binary64 x) n e in
    record { quarters = record { plain = w.plain; exact = w.exact }; day = w.few }

no-count : {G : Type 0} {n : ℕ} → None ≡ Some n → G
no-count e = let z : ◌≡◌ {A = ℕ} 0 1 = cc in absurd (omega arith)

plus-cases : {G : Type 0} (a b c : Count) (n : ℕ) → plus a b c ≡ Some n
    → ((i j k : ℕ) → a ≡ Some i → b ≡ Some j → c ≡ Some k → n ≡ i + j + k → G) → G
plus-cases (Some i) (Some j) (Some k) n e g = g i j k refl refl refl (let z : n ≡ i + j + k = cc in z)
plus-cases (Some i) (Some j) None n e g = no-count e
plus-cases (Some i) None c n e g = no-count e
plus-cases None b c n e g = no-count e

pub quarters-is : (h : Line) (n : ℕ) → Quartered h n → quarters_of h ≡ Some n
unfolding quarters_of
quarters-is h n w = rw (hours-count _ _ w.ordinary, hours-count _ _ w.night, hours-count _ _ w.holiday) (ap (λ (x : ℕ). Some x) (sym w.sum))

pub quarters-says : (h : Line) (n : ℕ) → quarters_of h ≡ Some n → Quartered h n
unfolding quarters_of
quarters-says h n e =
    plus-cases (counted h.ordinary) (counted h.night) (counted h.holiday) n e
    (λ i j k x y z s. record { a = i; b = j; c = k; ordinary = count-hours _ i x; night = count-hours _ j y; holiday = count-hours _ k z; sum = s })

pub quarters-few : (h : Line) (n : ℕ) → Quartered h n → n ≤ 288
quarters-few h n w = omega (arith, w.sum, w.ordinary.day, w.night.day, w.holiday.day)

-- ---- a total

pub quarter-of : (n : ℕ) → n < 2 ^ 28 → QuarterOf (total_by n)
unfolding total_by hours_of
quarter-of n h =
    let w : Exactly n (hours_of n) = quarter-exact n (omega arith) in
    record { bits = w; number = exact-value n (hours_of n) h (of_bits-fits binary64 (quarter_bits n)) w }

pub total-given : (l : Line) (n : ℕ) → Quartered l n → totalling l ≡ record { accepted = true; number = 0; place = 0; total = some (total_by n) }
unfolding totalling total_of judged verdict is_none
total-given l n w = rw (quarters-is l n w)

pub total-refused : (l : Line) → ((n : ℕ) → Quartered l n → ⊥) → totalling l ≡ untotalled 12
unfolding totalling total_of judged verdict is_none
total-refused l f = rw (uncounted (quarters_of l) refl)
  where
    uncounted : (c : Count) → quarters_of l ≡ c → quarters_of l ≡ None
    uncounted (Some n) e = absurd (f n (quarters-says l n e))
    uncounted None e = e

-- a line made up by the caller: its total, where there is one
pub total-exact : (l : Line) (s : Total) → (totalling l).total ≡ some s → QuarterOf s
total-exact l s e = by (quarters_of l) refl
  where
    by : (c : Count) → quarters_of l ≡ c → QuarterOf s
    by (Some n) q =
        let w : Quartered l n = quarters-says l n q in
        some_same QuarterOf (sym (ap (λ (r : Totalled). r.total) (total-given l n w)) ∙ e) (quarter-of n (omega (arith, quarters-few l n w)))
    by None q =
        none-some (sym (ap (λ (r : Totalled). r.total) (total-refused l (λ n w. let z : ◌≡◌ {A = ℕ} 0 1 = cc (quarters-is l n w) in omega arith))) ∙ e)
