-- Trees, their canonical octets and their sizes. Octets are numbers; an octet string is a list of them.
use Rattle.std.specs.Prelude.{ℕ, zero, suc, ◌+◌, ◌/◌, ◌%◌, ◌<◌, max, true, false, List, [], ◌∷◌, ◌++◌, length, ltb}

mutual
  -- S 2.1, 2.2: a string without a hint (its data), a string with a hint (the hint, the data: an empty hint is not a missing one), a list
  pub data Tree : Type 0 where
    plain : List ℕ → Tree
    hinted : List ℕ → List ℕ → Tree
    list : Forest → Tree

  -- the elements of a list
  pub data Forest : Type 0 where
    nil : Forest
    cons : Tree → Forest → Forest

-- S 2.3, decimal: `0`, or a first digit that is not `0`; the first number bounds how many more digits there are
unfoldable pub digits_up_to : ℕ → ℕ → List ℕ
digits_up_to zero n = (48 + n) ∷ []
digits_up_to (suc f) n = elim (ltb n 10) [ true ↦ (48 + n) ∷ [] | false ↦ digits_up_to f (n / 10) ++ ((48 + n % 10) ∷ []) ]

unfoldable pub digits : ℕ → List ℕ
digits n = digits_up_to n n

-- S 2.3: verbatim, the length before the octets
unfoldable pub verbatim : List ℕ → List ℕ
verbatim d = digits (length d) ++ 58 ∷ d

-- S 2.4: the canonical form
unfoldable mutual
  pub canon : Tree → List ℕ
  canon (plain d) = verbatim d
  canon (hinted h d) = 91 ∷ verbatim h ++ 93 ∷ verbatim d
  canon (list f) = 40 ∷ canons f ++ 41 ∷ []

  pub canons : Forest → List ℕ
  canons nil = []
  canons (cons t f) = canon t ++ canons f

-- every string and every list is a node
unfoldable mutual
  pub nodes : Tree → ℕ
  nodes (plain d) = 1
  nodes (hinted h d) = 1
  nodes (list f) = 1 + nodess f

  pub nodess : Forest → ℕ
  nodess nil = 0
  nodess (cons t f) = nodes t + nodess f

-- S 6.1: how deep lists nest, an outermost list being 1 deep
unfoldable mutual
  pub depth : Tree → ℕ
  depth (plain d) = 0
  depth (hinted h d) = 0
  depth (list f) = 1 + depths f

  pub depths : Forest → ℕ
  depths nil = 0
  depths (cons t f) = max (depth t) (depths f)

-- ---- trees of octets: every number in a string is below 256
pub data Bytes : List ℕ → Type 0 where
  no_byte : Bytes []
  a_byte : {b : ℕ} {d : List ℕ} → b < 256 → Bytes d → Bytes (b ∷ d)

mutual
  pub data TreeBytes : Tree → Type 0 where
    plain-bytes : {d : List ℕ} → Bytes d → TreeBytes (plain d)
    hinted-bytes : {h d : List ℕ} → Bytes h → Bytes d → TreeBytes (hinted h d)
    list-bytes : {f : Forest} → ForestBytes f → TreeBytes (list f)

  pub data ForestBytes : Forest → Type 0 where
    nil-bytes : ForestBytes nil
    cons-bytes : {t : Tree} {f : Forest} → TreeBytes t → ForestBytes f → ForestBytes (cons t f)
