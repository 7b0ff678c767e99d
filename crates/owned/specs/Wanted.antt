-- What octets and records have to go on with while lists are open, so that the records are those of the tree. A list's record is met
-- where the list begins; what it says of the list's end is claimed until then.
use Rattle.std.specs.Prelude.{ℕ, ◌+◌, ◌≤◌, ◌<◌, ◌≡◌, List, [], ◌∷◌, ◌++◌, length, get_or}
use Rattle.model.specs.Lexemes.{Lexeme, opening, closing, atom, hinting}
use Rattle.model.specs.Limits.{max_depth}
use Rattle.model.specs.Table.{list_row, recorded, body_end}
use Rattle.model.specs.Tree.{Tree, plain, hinted, list, Forest, nil, cons, canon, canons, nodes, nodess, depth, depths}
use Rattle.walk.specs.Events.{string_row, hint_row, hint_end}

-- the innermost of the lists that are open, 0 where none is
unfoldable pub over : List ℕ → ℕ
over [] = 0
over (u ∷ us) = u

-- the octet where a list's data end, by its record, and its node count
abbrev pub claimed_end : List ℕ → ℕ
claimed_end r = get_or r 7 0

abbrev pub claimed_count : List ℕ → ℕ
claimed_count r = get_or r 3 0

module _ (R : ℕ → List ℕ) where
  -- the records from k on are those of a tree that begins at a place, in the list `up`
  unfoldable mutual
    pub Told : Tree → ℕ → ℕ → ℕ → Type 0
    Told (plain d) at k up = R k ≡ recorded (string_row at d) up
    Told (hinted h d) at k up = R k ≡ recorded (hint_row at h d) up
    Told (list f) at k up = (R k ≡ recorded (list_row at (at + length (canon (list f))) (nodes (list f))) up) × Tolds f (at + 1) (k + 1) k

    pub Tolds : Forest → ℕ → ℕ → ℕ → Type 0
    Tolds nil at k up = Unit {0}
    Tolds (cons t f) at k up = Told t at k up × Tolds f (at + length (canon t)) (k + nodes t) up

  -- the elements of the list u up to its closing parenthesis, and then what P asks for
  pub record Closed (P : List ℕ → ℕ → ℕ → Type 0) (outer u : ℕ) (s : List ℕ) (at k : ℕ) : Type 0 where
    pub forest : Forest
    pub rest : List ℕ
    pub is : s ≡ canons forest ++ 41 ∷ rest
    pub told : Tolds forest at k u
    pub shallow : outer + depths forest ≤ max_depth
    pub ends : claimed_end (R u) ≡ at + length (canons forest)
    pub counts : claimed_count (R u) + u ≡ k + nodess forest
    pub on : P rest (at + length (canons forest) + 1) (k + nodess forest)

  module _ (n : ℕ) where
    -- the lists that are open end one after the other, and with them the octets and the n records
    unfoldable pub Ends : List ℕ → List ℕ → ℕ → ℕ → Type 0
    Ends [] s at k = (s ≡ []) × (k ≡ n)
    Ends (u ∷ us) s at k = Closed (Ends us) (length us + 1) u s at k

    -- a tree, and then the end of the lists
    pub record Begins (st : List ℕ) (s : List ℕ) (at k : ℕ) : Type 0 where
      pub tree : Tree
      pub rest : List ℕ
      pub is : s ≡ canon tree ++ rest
      pub told : Told tree at k (over st)
      pub shallow : length st + depth tree ≤ max_depth
      pub on : Ends st rest (at + length (canon tree)) (k + nodes tree)

    -- where no list is open, a tree is to come
    unfoldable pub Wants : List ℕ → List ℕ → ℕ → ℕ → Type 0
    Wants [] s at k = Begins [] s at k
    Wants (u ∷ us) s at k = Ends (u ∷ us) s at k

    -- ---- one lexeme: what is wanted after it

    -- a list begins: its record is a list's, in the list around
    pub record Opens (st s : List ℕ) (at k : ℕ) : Type 0 where
      pub is : R k ≡ recorded (list_row at (get_or (R k) 2 0) (claimed_count (R k))) (over st)
      pub shallow : length st < max_depth
      pub on : Ends (k ∷ st) s (at + 1) (k + 1)

    unfoldable pub Next : Lexeme → List ℕ → List ℕ → ℕ → ℕ → Type 0
    Next opening st s at k = Opens st s at k
    Next closing [] s at k = ⊥
    Next closing (u ∷ us) s at k = (claimed_end (R u) ≡ at) × (claimed_count (R u) + u ≡ k) × Ends us s (at + 1) k
    Next (atom d) st s at k = (R k ≡ recorded (string_row at d) (over st)) × Ends st s (body_end at d) (k + 1)
    Next (hinting h d) st s at k = (R k ≡ recorded (hint_row at h d) (over st)) × Ends st s (body_end (hint_end at h + 1) d) (k + 1)
