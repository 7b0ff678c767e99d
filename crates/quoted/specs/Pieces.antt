-- Pieces of a quoted string at a place of a source.
use Rattle.std.specs.Prelude.{ℕ, ◌-◌, ◌≤◌, ◌<◌, ◌≡◌, List, [], ◌∷◌, length, take, drop, Option, Some, None}
use Rattle.model.specs.Grammar.{rules}
use Rattle.model.specs.Strings.{Read, got, refused, marked}
use Rattle.scan.specs.Marks.{Chunk, Last}
use Rattle.quoted.specs.declared.escapes.Piece.{Piece}
use Rattle.quoted.specs.declared.escapes.Piece.TheVariants.{One, Gone, Quote}

-- the reading y takes g
pub record Took (src : List ℕ) (y : Read (List ℕ)) (at : ℕ) (g : List ℕ) (next : ℕ) : Type 0 where
  pub on : at ≤ next
  pub within : next ≤ length src
  pub reads : y ≡ got g (drop next src)

-- an escape, which the reading y takes, is no closing mark
unfoldable pub Escapes : List ℕ → Read (List ℕ) → ℕ → Option Piece → Type 0
Escapes src y at (Some (One o next)) = Took src y at (o ∷ []) next
Escapes src y at (Some (Gone next)) = Took src y at [] next
Escapes src y at (Some (Quote next)) = ⊥
Escapes src y at None = y ≡ refused

unfoldable pub Quotes : List ℕ → ℕ → Option Piece → Type 0
Quotes src at (Some (One o next)) = Chunk (marked rules 34) src at (o ∷ []) next
Quotes src at (Some (Gone next)) = Chunk (marked rules 34) src at [] next
Quotes src at (Some (Quote next)) = Last (marked rules 34) src at [] next
Quotes src at None = marked rules 34 (drop at src) ≡ refused

-- the string whose octets begin at a place has nothing escaped and ends at r, its mark included
pub record Unescaped (src : List ℕ) (at r : ℕ) : Type 0 where
  pub on : at < r
  pub within : r ≤ length src
  pub is : marked rules 34 (drop at src) ≡ got (take (r - at - 1) (drop at src)) (drop r src)
