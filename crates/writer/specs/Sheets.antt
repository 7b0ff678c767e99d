-- What is known of the octets that are written out.
use Rattle.std.specs.Prelude.{ℕ, ◌≤◌, ◌≡◌, List, [], ◌∷◌, length, get_or}
use Rattle.std.proofs.Math.Option.{some}
use Rattle.model.specs.Limits.{max_canonical}
use Rattle.model.specs.Decode.{decode₁}
use Rattle.model.specs.Tree.{Tree}

-- the canonical octets of a tree, no more than a fitting tree's
pub record Sheet (src : List ℕ) : Type 0 where
  pub tree : Tree
  pub is : decode₁ src ≡ some tree
  pub short : length src ≤ max_canonical

-- the places of a string with a hint
pub record Strings (src : List ℕ) (hint_start hint_end start end : ℕ) : Type 0 where
  pub hint_order : hint_start ≤ hint_end
  pub hint_within : hint_end ≤ length src
  pub order : start ≤ end
  pub within : end ≤ length src

-- the four elements of a group
abbrev pub quartet : List ℕ → List ℕ
quartet g = get_or g 0 0 ∷ get_or g 1 0 ∷ get_or g 2 0 ∷ get_or g 3 0 ∷ []
