-- Digits at a place of a source.
use Prim.Native.Nat.{ℕ, ◌+◌, ◌*◌, ◌-◌, ◌≤◌, ◌<◌, min}
use native.Mathlib.Omega.{arith}
use mathlib.Core.Path.{◌≡◌, refl, sym, ap, ◌∙◌, subst}
use mathlib.Core.Bool.{true, false}
use mathlib.Core.List.{List, [], ◌∷◌}
use lib.ListN.{length, drop, get_or, length-drop, drop_of_length-le}
use borrow.Author.Tests.{eq-eqb, ne_eqb}
use Rattle.base.proofs.Cases.{by_bool, picked, unpicked, among_in, among-low, among-high}
use Rattle.std.specs.Prelude.{Option, Some, None}
use Rattle.model.specs.Octets.{is_digit}
use Rattle.model.specs.Strings.{got, number, decimal}
use Rattle.scan.proofs.Places.{one-here}
use Rattle.decimal.specs.Numbers.{large, Numbered}
use Rattle.decimal.specs.declared.Number.{Number}

-- a number is always read, and is no smaller than what it began with
record Grown (v : ℕ) (s : List ℕ) : Type 0 where
  value : ℕ
  rest : List ℕ
  large : v ≤ value
  reads : number v s ≡ got value rest
  short : length rest ≤ length s

grows : (v : ℕ) (s : List ℕ) → Grown v s
unfolding number
grows v [] = record { value = v; rest = []; large = omega arith; reads = refl; short = omega arith }
grows v (b ∷ s) =
    by_bool (is_digit b)
    (λ t.
    let g : Grown (v * 10 + (b - 48)) s = grows (v * 10 + (b - 48)) s in
    record { value = g.value; rest = g.rest; large = omega (arith, g.large); reads = picked _ _ t ∙ g.reads; short = omega (arith, g.short) })
    (λ t. record { value = v; rest = b ∷ s; large = omega arith; reads = unpicked _ _ t; short = omega arith })

-- the loop's state
pub record Counting (src : List ℕ) (at v i : ℕ) : Type 0 where
  pub from : at ≤ i
  pub within : i ≤ length src
  pub small : v ≤ length src
  pub same : number v (drop i src) ≡ number 0 (drop at src)

pub count_none : (src : List ℕ) (at : ℕ) → at ≤ length src → Counting src at 0 at
count_none src at h = record { from = omega arith; within = h; small = omega arith; same = refl }

module _ (src : List ℕ) (at v i : ℕ) (t : Counting src at v i) where
  counted : number v (drop i src) ≡ got v (drop i src) → Numbered src (number 0 (drop at src)) at (Some (record { value = v; next = i }))
  unfolding Numbered
  counted e = record { from = t.from; within = t.within; small = t.small; reads = sym t.same ∙ e }

  stops : i < length src → is_digit (get_or src i 0) ≡ false → Numbered src (number 0 (drop at src)) at (Some (record { value = v; next = i }))
  unfolding number
  stops h e = counted (ap (number v) (one-here src i h) ∙ unpicked _ _ e ∙ ap (got v) (sym (one-here src i h)))

  pub count_low : i < length src → get_or src i 0 < 48 → Numbered src (number 0 (drop at src)) at (Some (record { value = v; next = i }))
  count_low h e = stops h (among-low 48 57 _ e)

  pub count-high : i < length src → 57 < get_or src i 0 → Numbered src (number 0 (drop at src)) at (Some (record { value = v; next = i }))
  count-high h e = stops h (among-high 48 57 _ e)

  pub count-end : length src ≤ i → Numbered src (number 0 (drop at src)) at (Some (record { value = v; next = i }))
  unfolding number
  count-end h = counted (ap (number v) (drop_of_length-le src h) ∙ ap (got v) (sym (drop_of_length-le src h)))

  module _ (h : i < length src) (l : 48 ≤ get_or src i 0) (u : get_or src i 0 ≤ 57) where
    next : number (v * 10 + (get_or src i 0 - 48)) (drop (i + 1) src) ≡ number 0 (drop at src)
    unfolding number
    next = sym (ap (number v) (one-here src i h) ∙ picked _ _ (among_in 48 57 _ l u)) ∙ t.same

    pub count-more : v * 10 + (get_or src i 0 - 48) ≤ length src → Counting src at (v * 10 + (get_or src i 0 - 48)) (i + 1)
    count-more s = record { from = omega (arith, t.from); within = omega arith; small = s; same = next }

    pub count-huge : length src < v * 10 + (get_or src i 0 - 48) → Numbered src (number 0 (drop at src)) at None
    unfolding Numbered
    count-huge o =
        let g : Grown (v * 10 + (get_or src i 0 - 48)) (drop (i + 1) src) = grows _ _ in
        record { value = g.value; rest = g.rest; large = omega (arith, g.large); reads = sym next ∙ g.reads; short = omega (arith, g.short, length-drop (i + 1) src) }

    -- the same with the value capped, in a source as long as any slice can be
    module _ (c : ℕ) (k : c ≡ min v large) where
      pub capped-more : length src < 9223372036854775808 → c * 10 + (get_or src i 0 - 48) ≤ length src → Counting src at (c * 10 + (get_or src i 0 - 48)) (i + 1)
      capped-more s o =
          let e : c ≡ v = omega arith in
          subst (λ (x : ℕ). Counting src at (x * 10 + (get_or src i 0 - 48)) (i + 1)) (sym e) (count-more (omega (arith, e, o)))

      pub capped-huge : length src < c * 10 + (get_or src i 0 - 48) → Numbered src (number 0 (drop at src)) at None
      capped-huge o = count-huge (omega arith)

-- ---- a decimal: 0 alone, or digits of which the first is not 0
module _ (src : List ℕ) (at : ℕ) (h : at < length src) where
  pub decimal-zero : get_or src at 0 ≡ 48 → Numbered src (decimal (get_or src at 0) (drop (at + 1) src)) at (Some (record { value = 0; next = at + 1 }))
  unfolding Numbered decimal
  decimal-zero e = record { from = omega arith; within = omega arith; small = omega arith; reads = picked _ _ (eq-eqb _ _ e) }

  module _ (d : is_digit (get_or src at 0) ≡ true) (n : get_or src at 0 ≡ 48 → ⊥) where
    same_number : decimal (get_or src at 0) (drop (at + 1) src) ≡ number 0 (drop at src)
    unfolding decimal number
    same_number =
        let z : 0 * 10 + (get_or src at 0 - 48) ≡ get_or src at 0 - 48 = omega arith in
        unpicked _ _ (ne_eqb _ _ n) ∙ sym (ap (number 0) (one-here src at h) ∙ picked _ _ d ∙ rw z)

    pub decimal-many : (r : Option Number) → Numbered src (number 0 (drop at src)) at r → Numbered src (decimal (get_or src at 0) (drop (at + 1) src)) at r
    decimal-many r w = rw same_number w
