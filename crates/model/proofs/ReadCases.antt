-- What a reading came from, by cases.
use Prim.Native.Nat.{ℕ}
use native.Mathlib.Omega.{arith}
use mathlib.Core.Path.{◌≡◌, refl, subst₂}
use mathlib.Core.List.{List, [], ◌∷◌}
use Rattle.model.specs.Strings.{Read, got, refused, bind}

pub bind-cases : {A B G : Type 0} {b : B} {k : List ℕ} (r : Read A) (f : A → List ℕ → Read B) → bind r f ≡ got b k → ((a : A) (k' : List ℕ) → r ≡ got a k' → f a k' ≡ got b k → G) → G
unfolding bind
bind-cases (got a k') f h g = g a k' refl h
bind-cases refused f h g = let z : ◌≡◌ {A = ℕ} 0 1 = cc in absurd (omega arith)

pub never : {A G : Type 0} {a : A} {k : List ℕ} → refused ≡ got a k → G
never e = let z : ◌≡◌ {A = ℕ} 0 1 = cc in absurd (omega arith)

pub got_same : {A : Type 0} {a a' : A} {k k' : List ℕ} (P : A → List ℕ → Type 0) → got a k ≡ got a' k' → P a k → P a' k'
got_same {A} {a} {a'} {k} {k'} P e p = let u : a ≡ a' = cc in let v : k ≡ k' = cc in subst₂ P u v p

-- choices by a list and by a reading
abbrev pub pick_list : {A : Type 0} → List ℕ → A → (ℕ → List ℕ → A) → A
pick_list r x y = elim r [ [] ↦ x | b ∷ t ↦ y b t ]

pub list_cases : {A G : Type 0} {v : A} (r : List ℕ) (x : A) (y : ℕ → List ℕ → A) → pick_list r x y ≡ v → (r ≡ [] → x ≡ v → G) → ((b : ℕ) (t : List ℕ) → r ≡ b ∷ t → y b t ≡ v → G) → G
list_cases [] x y e f g = f refl e
list_cases (b ∷ t) x y e f g = g b t refl e

pub list-nil : {A : Type 0} {r : List ℕ} (x : A) (y : ℕ → List ℕ → A) → r ≡ [] → pick_list r x y ≡ x
list-nil x y e = rw e

pub list-cons : {A : Type 0} {r : List ℕ} (x : A) (y : ℕ → List ℕ → A) (b : ℕ) (t : List ℕ) → r ≡ b ∷ t → pick_list r x y ≡ y b t
list-cons x y b t e = rw e

abbrev pub pick_read : {A B : Type 0} → Read A → (A → List ℕ → B) → B → B
pick_read r y x = elim r [ got a k ↦ y a k | refused ↦ x ]

pub read-cases : {A B G : Type 0} {v : B} (r : Read A) (y : A → List ℕ → B) (x : B) → pick_read r y x ≡ v → ((a : A) (k : List ℕ) → r ≡ got a k → y a k ≡ v → G) → (r ≡ refused → x ≡ v → G) → G
read-cases (got a k) y x e f g = f a k refl e
read-cases refused y x e f g = g refl e

pub read-got : {A B : Type 0} {r : Read A} (y : A → List ℕ → B) (x : B) {a : A} {k : List ℕ} → r ≡ got a k → pick_read r y x ≡ y a k
read-got y x e = rw e
