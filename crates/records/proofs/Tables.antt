-- Tables of records as plain numbers: how many there are, that they settle the records, and what filling and flattening do to them.
use mathlib.Core.Path.{◌≡◌, refl, sym, ◌∙◌, ap}
use mathlib.Core.List.{List, [], ◌∷◌, ◌++◌, head-eq_of_cons-eq, tail-eq_of_cons-eq, cons-ne-nil, append_assoc}
use Prim.Native.Nat.{ℕ, zero, suc, ◌+◌, ◌*◌, ◌<◌, ◌≤◌}
use native.Mathlib.Nat.{zero-add, suc-add, add-suc}
use native.Mathlib.Omega.{arith}
use lib.ListN.{length, take, drop, get_or, set, length-drop}
use lib.Seq.{sets, drop-drop, take-add, length-take-le}
use Rattle.base.proofs.Stores.{sets-all}
use Rattle.records.specs.declared.Record.{Record}
use Rattle.records.specs.Numbers.{nine, numbers}
use Rattle.records.specs.Told.{nil}

pub length-numbers : (xs : List Record) → length (numbers xs) ≡ 9 * length xs
unfolding numbers
length-numbers [] = refl
length-numbers (x ∷ xs) = omega (arith, length-numbers xs)

-- the numbers settle every record
pub numbers-one : (xs ys : List Record) → numbers xs ≡ numbers ys → xs ≡ ys
unfolding numbers
numbers-one [] [] e = refl
numbers-one [] (y ∷ ys) e = absurd (cons-ne-nil _ _ (sym e))
numbers-one (x ∷ xs) [] e = absurd (cons-ne-nil _ _ e)
numbers-one (x ∷ xs) (y ∷ ys) e =
    let e₁ = tail-eq_of_cons-eq e in
    let e₂ = tail-eq_of_cons-eq e₁ in
    let e₃ = tail-eq_of_cons-eq e₂ in
    let e₄ = tail-eq_of_cons-eq e₃ in
    let e₅ = tail-eq_of_cons-eq e₄ in
    let e₆ = tail-eq_of_cons-eq e₅ in
    let e₇ = tail-eq_of_cons-eq e₆ in
    let e₈ = tail-eq_of_cons-eq e₇ in
    λ t. record {
      kind = head-eq_of_cons-eq e t;
      start = head-eq_of_cons-eq e₁ t;
      end = head-eq_of_cons-eq e₂ t;
      nodes = head-eq_of_cons-eq e₃ t;
      hint_start = head-eq_of_cons-eq e₄ t;
      hint_end = head-eq_of_cons-eq e₅ t;
      data_start = head-eq_of_cons-eq e₆ t;
      data_end = head-eq_of_cons-eq e₇ t;
      parent = head-eq_of_cons-eq e₈ t;
    } ∷ numbers-one xs ys (tail-eq_of_cons-eq e₈) t

-- ---- one record

set-over : (p l : List ℕ) (v i : ℕ) → set (p ++ l) (length p + i) v ≡ p ++ set l i v
set-over [] l v i = ap (λ (k : ℕ). set l k v) (zero-add i)
set-over (a ∷ p) l v i = ap (λ (k : ℕ). set (a ∷ (p ++ l)) k v) (suc-add (length p) i) ∙ ap (λ (k : List ℕ). a ∷ k) (set-over p l v i)

sets_over : (p l vs : List ℕ) (i : ℕ) → sets (p ++ l) (length p + i) vs ≡ p ++ sets l i vs
sets_over p l [] i = refl
sets_over p l (v ∷ vs) i = ap (λ (k : List ℕ). sets k (suc (length p + i)) vs) (set-over p l v i) ∙ ap (λ (k : ℕ). sets (p ++ set l i v) k vs) (sym (add-suc (length p) i)) ∙ sets_over p (set l i v) vs (suc i)

pub nine-more : (m : ℕ) → 9 * suc m ≡ suc (suc (suc (suc (suc (suc (suc (suc (suc (9 * m)))))))))
nine-more m = omega arith

sets-nine : (r : Record) (l vs : List ℕ) (m : ℕ) → sets (nine r ++ l) (9 * suc m) vs ≡ nine r ++ sets l (9 * m) vs
sets-nine r l vs m = ap (λ (k : ℕ). sets (nine r ++ l) k vs) (omega arith) ∙ sets_over (nine r) l vs (9 * m)

pub numbers-set : (xs : List Record) (i : ℕ) (r : Record) → i < length xs → numbers (set xs i r) ≡ sets (numbers xs) (9 * i) (nine r)
unfolding numbers
numbers-set [] i r l = absurd (omega arith)
numbers-set (x ∷ xs) zero r l = refl
numbers-set (x ∷ xs) (suc i) r l = ap (λ (k : List ℕ). nine x ++ k) (numbers-set xs i r (omega arith)) ∙ sym (sets-nine x (numbers xs) (nine r) i)

pub nine-numbers : (xs : List Record) (i : ℕ) → i < length xs → take 9 (drop (9 * i) (numbers xs)) ≡ nine (get_or xs i nil)
unfolding numbers
nine-numbers [] i l = absurd (omega arith)
nine-numbers (x ∷ xs) zero l = refl
nine-numbers (x ∷ xs) (suc i) l = rw (nine-more i, nine-numbers xs i (omega arith))

-- ---- n of them

-- nine more of f, in a table that has the first 9 * k of them
pub next-nine : (f n : List ℕ) (k : ℕ) → 9 * k + 9 ≤ length f → 9 * k + 9 ≤ length n
    → sets (take (9 * k) f ++ drop (9 * k) n) (9 * k) (take 9 (drop (9 * k) f)) ≡ take (9 * suc k) f ++ drop (9 * suc k) n
next-nine f n k h h' =
    let p : List ℕ = take (9 * k) f in
    let v : List ℕ = take 9 (drop (9 * k) f) in
    let d : List ℕ = drop (9 * k) n in
    let lp : length p ≡ 9 * k = length-take-le (9 * k) f (omega arith) in
    let lv : length v ≡ 9 = length-take-le 9 (drop (9 * k) f) (omega (arith, length-drop (9 * k) f)) in
    let here : 9 * k ≡ length p + 0 = omega (arith, lp) in
    let all : sets d 0 v ≡ v ++ drop (length v) d = sets-all d v (omega (arith, lv, length-drop (9 * k) n)) in
    let rest : drop (length v) d ≡ drop (9 * k + 9) n = ap (λ (j : ℕ). drop j d) lv ∙ drop-drop 9 (9 * k) n in
    let more : 9 * suc k ≡ 9 * k + 9 = omega arith in
    ap (λ (j : ℕ). sets (p ++ d) j v) here
    ∙ sets_over p d v 0
    ∙ ap (λ (l : List ℕ). p ++ l) (all ∙ ap (λ (l : List ℕ). v ++ l) rest)
    ∙ sym (append_assoc p v (drop (9 * k + 9) n))
    ∙ ap (λ (l : List ℕ). l ++ drop (9 * k + 9) n) (sym (take-add (9 * k) 9 f))
    ∙ ap (λ (j : ℕ). take j f ++ drop j n) (sym more)
