-- What is no base-64, whatever follows.
use Prim.Native.Nat.{ℕ, ◌≤◌, ◌<◌}
use native.Mathlib.Omega.{arith}
use mathlib.Core.Path.{◌≡◌, refl}
use mathlib.Core.Bool.{false}
use mathlib.Core.Option.{Option, none, some}
use mathlib.Core.List.{List, [], ◌∷◌, ◌++◌, append_assoc}
use Rattle.base.proofs.Cases.{differ}
use Rattle.model.specs.Grammar.{leftover₂, leftover₃, rules}
use Rattle.model.specs.Octets.{letter}
use Rattle.model.specs.Strings.{got, refused, unbase, decoded}
use Rattle.model.proofs.Marks.{base-sound, base-complete}
use Rattle.model.proofs.Streams.{between}
use Rattle.model.proofs.Stripped.{Pads, no-pad, a-pad, Base64, no-letter, four, three, two}
use Rattle.scan.proofs.Between.{lost}
use Rattle.radix64.proofs.Marks.{pad-no-letter}

no-pad-letter : letter 61 < 64 → ⊥
no-pad-letter h = pad-no-letter 61 h refl

unbase-none : (l : List ℕ) → ((d : List ℕ) → Base64 rules l d → ⊥) → unbase rules l ≡ none
unbase-none l n = by (unbase rules l) refl
  where
    by : (o : Option (List ℕ)) → unbase rules l ≡ o → o ≡ none
    by none e = refl
    by (some d) e = absurd (n d (base-sound l e))

-- ---- each octet is a letter or a pad
data All : List ℕ → Type 0 where
  all_none : All []
  all-letter : {a : ℕ} {s : List ℕ} → letter a < 64 → All s → All (a ∷ s)
  all-pad : {s : List ℕ} → All s → All (61 ∷ s)

pads-all : {n : ℕ} {p : List ℕ} → Pads n p → All p
pads-all no-pad = all_none
pads-all (a-pad p) = all-pad (pads-all p)

base-all : {l d : List ℕ} → Base64 rules l d → All l
base-all no-letter = all_none
base-all (four h i j k x) = all-letter h (all-letter i (all-letter j (all-letter k (base-all x))))
base-all (three h i j l p) = all-letter h (all-letter i (all-letter j (pads-all p)))
base-all (two h i l p) = all-letter h (all-letter i (pads-all p))

tail_all : {a : ℕ} {s : List ℕ} → All (a ∷ s) → All s
tail_all (all-letter h x) = x
tail_all (all-pad x) = x

head-all : {a : ℕ} {s : List ℕ} → All (a ∷ s) → 64 ≤ letter a → (a ≡ 61 → ⊥) → ⊥
head-all (all-letter h x) k n = omega arith
head-all (all-pad x) k n = n refl

all-bad : (p : List ℕ) (a : ℕ) (l : List ℕ) → 64 ≤ letter a → (a ≡ 61 → ⊥) → All (p ++ (a ∷ l)) → ⊥
all-bad [] a l h n x = head-all x h n
all-bad (b ∷ p) a l h n x = all-bad p a l h n (tail_all x)

pub base-bad : (p : List ℕ) (a : ℕ) (l d : List ℕ) → 64 ≤ letter a → (a ≡ 61 → ⊥) → Base64 rules ((p ++ (a ∷ [])) ++ l) d → ⊥
base-bad p a l d h n x = all-bad p a l h n (rw append_assoc at (base-all x))

-- ---- pads and letters in the wrong place
pub pad-first : {l d : List ℕ} → Base64 rules (61 ∷ l) d → ⊥
pad-first (four h i j k x) = no-pad-letter h
pad-first (three h i j l p) = no-pad-letter h
pad-first (two h i l p) = no-pad-letter h

pub one_only : {x : ℕ} {d : List ℕ} → Base64 rules (x ∷ []) d → ⊥
one_only b = elim b [ ]

pub pad-second : {x : ℕ} {l d : List ℕ} → Base64 rules (x ∷ 61 ∷ l) d → ⊥
pad-second (four h i j k x) = no-pad-letter i
pad-second (three h i j l p) = no-pad-letter i
pad-second (two h i l p) = no-pad-letter i

pub letter-fourth : {x y w : ℕ} {l d : List ℕ} → letter w < 64 → Base64 rules (x ∷ y ∷ 61 ∷ w ∷ l) d → ⊥
letter-fourth n (four h i j k x) = no-pad-letter j
letter-fourth n (three h i j l p) = no-pad-letter j
letter-fourth n (two h i l (a-pad (a-pad p))) = no-pad-letter n

no_more : {w : ℕ} {l : List ℕ} → Pads 0 (w ∷ l) → ⊥
no_more p = elim p [ ]

pub over-two : {x y w : ℕ} {l d : List ℕ} → Base64 rules (x ∷ y ∷ 61 ∷ 61 ∷ w ∷ l) d → ⊥
over-two (four h i j k x) = no-pad-letter j
over-two (three h i j l p) = no-pad-letter j
over-two (two h i l (a-pad (a-pad p))) = no_more p

pub over-one : {x y z w : ℕ} {l d : List ℕ} → letter z < 64 → Base64 rules (x ∷ y ∷ z ∷ 61 ∷ w ∷ l) d → ⊥
over-one n (four h i j k x) = no-pad-letter k
over-one n (three h i j l (a-pad p)) = no_more p
over-one n (two h i l (a-pad p)) = no-pad-letter n

-- ---- low bits left over that may not stand
pub left-three : {x y z : ℕ} {d : List ℕ} → letter z < 64 → leftover₃ z ≡ false → Base64 rules (x ∷ y ∷ z ∷ []) d → ⊥
left-three n f (three h i j l p) = differ l f
left-three n f (two h i l (a-pad p)) = no-pad-letter n

pub left-three-pad : {x y z : ℕ} {d : List ℕ} → letter z < 64 → leftover₃ z ≡ false → Base64 rules (x ∷ y ∷ z ∷ 61 ∷ []) d → ⊥
left-three-pad n f (four h i j k x) = no-pad-letter k
left-three-pad n f (three h i j l p) = differ l f
left-three-pad n f (two h i l (a-pad p)) = no-pad-letter n

pub left-two : {x y : ℕ} {d : List ℕ} → leftover₂ y ≡ false → Base64 rules (x ∷ y ∷ []) d → ⊥
left-two f (two h i l p) = differ l f

pub left-two-pad : {x y : ℕ} {d : List ℕ} → leftover₂ y ≡ false → Base64 rules (x ∷ y ∷ 61 ∷ []) d → ⊥
left-two-pad f (three h i j l p) = no-pad-letter j
left-two-pad f (two h i l p) = differ l f

pub left-two-pads : {x y : ℕ} {d : List ℕ} → leftover₂ y ≡ false → Base64 rules (x ∷ y ∷ 61 ∷ 61 ∷ []) d → ⊥
left-two-pads f (four h i j k x) = no-pad-letter j
left-two-pads f (three h i j l p) = no-pad-letter j
left-two-pads f (two h i l p) = differ l f

-- ---- as the decoder sees it
pub base-lost : (m : ℕ) (p s : List ℕ) → ((l d : List ℕ) → Base64 rules (p ++ l) d → ⊥) → between m (unbase rules) p s ≡ refused
base-lost m p s n = lost m (unbase rules) p s (λ l. unbase-none (p ++ l) (n l))

pub closed : {p d : List ℕ} (k : List ℕ) → Base64 rules p d → decoded (unbase rules p) k ≡ got d k
unfolding decoded
closed k x = rw (base-complete x)

pub unclosed : (p k : List ℕ) → ((d : List ℕ) → Base64 rules p d → ⊥) → decoded (unbase rules p) k ≡ refused
unfolding decoded
unclosed p k n = rw (unbase-none p n)
