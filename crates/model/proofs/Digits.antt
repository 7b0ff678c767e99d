-- Decimal digits: how they are made, and what reading them gives.
use Prim.Native.Nat.{ℕ, zero, suc, ◌+◌, ◌*◌, ◌-◌, ◌/◌, ◌%◌, ◌≤◌, ◌<◌}
use native.Mathlib.Omega.{arith}
use mathlib.Core.Path.{◌≡◌, refl, sym, ap, ◌∙◌}
use mathlib.Core.Bool.{true, false}
use mathlib.Core.List.{List, [], ◌∷◌, ◌++◌, append_assoc}
use lib.Dec.{eqb}
use borrow.Author.Tests.{lt-ltb, le-ltb, ne_eqb, eqb-true, eqb-false}
use Rattle.base.specs.Choice.{among}
use Rattle.base.proofs.Cases.{by_le, by-eq, pick-cases, among-true, among_in}
use Rattle.model.specs.Strings.{got, number, decimal}
use Rattle.model.specs.Tree.{digits_up_to, digits}
use Rattle.model.proofs.ReadCases.{got_same}

up_to-small : (f n : ℕ) → n < 10 → digits_up_to f n ≡ (48 + n) ∷ []
unfolding digits_up_to
up_to-small zero n h = refl
up_to-small (suc f) n h = rw (lt-ltb n 10 h, digits_up_to)

up_to-more : (f n : ℕ) → 10 ≤ n → digits_up_to (suc f) n ≡ digits_up_to f (n / 10) ++ ((48 + n % 10) ∷ [])
unfolding digits_up_to
up_to-more f n h = rw (le-ltb n 10 h, digits_up_to)

-- the bound does not matter
up_to-any : (f g n : ℕ) → n ≤ f → n ≤ g → digits_up_to f n ≡ digits_up_to g n
up_to-any zero g n h k = up_to-small zero n (omega arith) ∙ sym (up_to-small g n (omega arith))
up_to-any (suc f) zero n h k = up_to-small (suc f) n (omega arith) ∙ sym (up_to-small zero n (omega arith))
up_to-any (suc f) (suc g) n h k =
    by_le 10 n
    (λ l. up_to-more f n l ∙ ap (λ (x : List ℕ). x ++ ((48 + n % 10) ∷ [])) (up_to-any f g (n / 10) (omega arith) (omega arith)) ∙ sym (up_to-more g n l))
    (λ l. up_to-small (suc f) n l ∙ sym (up_to-small (suc g) n l))

pub digits-small : (n : ℕ) → n < 10 → digits n ≡ (48 + n) ∷ []
unfolding digits
digits-small n h = up_to-small n n h

pub digits_more : (n : ℕ) → 10 ≤ n → digits n ≡ digits (n / 10) ++ ((48 + n % 10) ∷ [])
unfolding digits
digits_more zero h = absurd (omega arith)
digits_more (suc f) h = up_to-more f (suc f) h ∙ ap (λ (x : List ℕ). x ++ ((48 + suc f % 10) ∷ [])) (up_to-any f (suc f / 10) (suc f / 10) (omega arith) (omega arith))

-- what holds of a single digit, and of a number if of a tenth of it, holds of every number
ind-up_to : (P : ℕ → Type 0) → ((n : ℕ) → n < 10 → P n) → ((n : ℕ) → 10 ≤ n → P (n / 10) → P n) → (f n : ℕ) → n ≤ f → P n
ind-up_to P b i zero n h = b n (omega arith)
ind-up_to P b i (suc f) n h = by_le 10 n (λ l. i n l (ind-up_to P b i f (n / 10) (omega arith))) (λ l. b n l)

pub digits-ind : (P : ℕ → Type 0) → ((n : ℕ) → n < 10 → P n) → ((n : ℕ) → 10 ≤ n → P (n / 10) → P n) → (n : ℕ) → P n
digits-ind P b i n = ind-up_to P b i n n (omega arith)

-- a digit is read
number_read : (v b : ℕ) (s : List ℕ) → 48 ≤ b → b ≤ 57 → number v (b ∷ s) ≡ number (v * 10 + (b - 48)) s
unfolding number
number_read v b s h k = rw (among_in 48 57 b h k, number)

number-stop : (v b : ℕ) (s : List ℕ) → among 48 57 b ≡ false → number v (b ∷ s) ≡ got v (b ∷ s)
unfolding number
number-stop v b s e = rw (e, number)

number_digits : (n : ℕ) (s : List ℕ) → number 0 (digits n ++ s) ≡ number n s
number_digits n =
    digits-ind (λ (n : ℕ). (s : List ℕ) → number 0 (digits n ++ s) ≡ number n s)
    (λ n h s. let e : 0 * 10 + (48 + n - 48) ≡ n = omega arith in rw (digits-small n h, number_read 0 (48 + n) s (omega arith) (omega arith), e))
    (λ n h ih s.
    let e : n / 10 * 10 + (48 + n % 10 - 48) ≡ n = omega arith in
    rw (digits_more n h, append_assoc, ih, number_read (n / 10) (48 + n % 10) s (omega arith) (omega arith), e))
    n

-- the first digit of a number that is not 0
pub record Leading (l : List ℕ) : Type 0 where
  pub first : ℕ
  pub rest : List ℕ
  pub is : l ≡ first ∷ rest
  pub low : 48 < first
  pub high : first ≤ 57

pub digits-head : (n : ℕ) → 0 < n → Leading (digits n)
digits-head n =
    digits-ind (λ (n : ℕ). 0 < n → Leading (digits n))
    (λ n h z. record { first = 48 + n; rest = []; is = digits-small n h; low = omega arith; high = omega arith })
    (λ n h ih z.
    let i : Leading (digits (n / 10)) = ih (omega arith) in
    record { first = i.first; rest = i.rest ++ ((48 + n % 10) ∷ []); is = rw (digits_more n h, i.is); low = i.low; high = i.high })
    n

-- a number and what is read of it, where no digit follows
pub record Numeral (n m : ℕ) (s : List ℕ) : Type 0 where
  pub first : ℕ
  pub rest : List ℕ
  pub is : digits n ≡ first ∷ rest
  pub digital : among 48 57 first ≡ true
  pub reads : decimal first (rest ++ m ∷ s) ≡ got n (m ∷ s)

pub numeral : (n m : ℕ) (s : List ℕ) → among 48 57 m ≡ false → Numeral n m s
unfolding decimal
numeral n m s e =
    by-eq n 0
    (λ z. record { first = 48; rest = []; is = ap digits z ∙ digits-small 0 (omega arith); digital = refl; reads = ap (λ (x : ℕ). got x (m ∷ s)) (sym z) })
    (λ z.
    let l : Leading (digits n) = digits-head n (omega arith) in
    let f : 48 < l.first = l.low in
    let g : l.first ≤ 57 = l.high in
    let w : 0 * 10 + (l.first - 48) ≡ l.first - 48 = omega arith in
    let u : number 0 (l.first ∷ (l.rest ++ m ∷ s)) ≡ number n (m ∷ s) = rw l.is at (number_digits n (m ∷ s)) in
    let v : number 0 (l.first ∷ (l.rest ++ m ∷ s)) ≡ number (l.first - 48) (l.rest ++ m ∷ s) = number_read 0 l.first (l.rest ++ m ∷ s) (omega arith) g ∙ rw w in
    record {
      first = l.first;
      rest = l.rest;
      is = l.is;
      digital = among_in 48 57 l.first (omega arith) g;
      reads = rw (ne_eqb l.first 48 (λ e. omega arith), decimal) (sym v ∙ u ∙ number-stop n m s e);
    })

-- ---- what is read as a number is its digits

pub digits-next : (v b : ℕ) → 0 < v → 48 ≤ b → b ≤ 57 → digits (v * 10 + (b - 48)) ≡ digits v ++ (b ∷ [])
digits-next v b z h k =
    let q : (v * 10 + (b - 48)) / 10 ≡ v = omega arith in
    let r : 48 + (v * 10 + (b - 48)) % 10 ≡ b = omega arith in
    digits_more (v * 10 + (b - 48)) (omega arith) ∙ rw (q, r)

number-sound : (s : List ℕ) (v n : ℕ) (k : List ℕ) → 0 < v → number v s ≡ got n k → digits v ++ s ≡ digits n ++ k
unfolding number
number-sound [] v n k z e = got_same (λ (n : ℕ) (k : List ℕ). digits v ++ [] ≡ digits n ++ k) e refl
number-sound (b ∷ s) v n k z e =
    pick-cases (among 48 57 b) _ _ e
    (λ t h.
    let l : (48 ≤ b) × (b ≤ 57) = among-true 48 57 b t in
    let i : digits (v * 10 + (b - 48)) ++ s ≡ digits n ++ k = number-sound s (v * 10 + (b - 48)) n k (omega arith) h in
    sym (append_assoc (digits v) (b ∷ []) s) ∙ ap (λ (x : List ℕ). x ++ s) (sym (digits-next v b z l.0 l.1)) ∙ i)
    (λ t h. got_same (λ (n : ℕ) (k : List ℕ). digits v ++ (b ∷ s) ≡ digits n ++ k) h refl)

pub decimal-sound : (b : ℕ) (s : List ℕ) (n : ℕ) (k : List ℕ) → among 48 57 b ≡ true → decimal b s ≡ got n k → b ∷ s ≡ digits n ++ k
unfolding decimal
decimal-sound b s n k t e =
    pick-cases (eqb b 48) _ _ e
    (λ z h.
    let w : b ≡ 48 = eqb-true b 48 z in
    got_same (λ (n : ℕ) (k : List ℕ). b ∷ s ≡ digits n ++ k) h (rw (w, digits-small 0 (omega arith))))
    (λ z h.
    let l : (48 ≤ b) × (b ≤ 57) = among-true 48 57 b t in
    let u : b ≡ 48 → ⊥ = eqb-false b 48 z in
    let w : 48 + (b - 48) ≡ b = omega arith in
    sym (rw (digits-small (b - 48) (omega arith), w)) ∙ number-sound s (b - 48) n k (omega arith) h)
