-- Base-64 letter by letter, up to a closing mark.
use Rattle.std.specs.Prelude.{ℕ, ◌+◌, ◌≤◌, ◌<◌, ◌≡◌, Bool, false, List, [], ◌∷◌, ◌++◌, length, take, drop, Option, Some, None}
use Rattle.base.specs.Choice.{pick}
use Rattle.model.specs.Octets.{is_whitespace, letter}
use Rattle.model.specs.Grammar.{rules}
use Rattle.model.specs.Strings.{Read, got, refused, bind, unbase, decoded}
use Rattle.model.proofs.Streams.{between}
use Rattle.radix64.specs.declared.steps.Letter.{Letter}
use Rattle.radix64.specs.declared.steps.Letter.TheVariants.{Char, Pad, End}
use Rattle.radix64.specs.declared.steps.Group.{Group}
use Rattle.radix64.specs.declared.steps.Group.TheVariants.{Four, Rest}
use Rattle.radix64.specs.Bits.{three_octets, Low}

-- an octet that closes base-64: the bar, and the brace, for which the rule is the same (S 3.10)
pub record Closing (mark : ℕ) : Type 0 where
  pub no-letter : letter mark ≡ 64
  pub no-pad : mark ≡ 61 → ⊥
  pub no-white : is_whitespace mark ≡ false

-- one more letter or pad, whatever was read before
pub record OneMore (mark : ℕ) (src : List ℕ) (at octet next : ℕ) : Type 0 where
  pub on : at < next
  pub within : next ≤ length src
  pub moves : (p : List ℕ) → between mark (unbase rules) p (drop at src) ≡ between mark (unbase rules) (p ++ (octet ∷ [])) (drop next src)

-- the closing mark, whatever was read before
pub record Closed (mark : ℕ) (src : List ℕ) (at next : ℕ) : Type 0 where
  pub on : at < next
  pub within : next ≤ length src
  pub moves : (p : List ℕ) → between mark (unbase rules) p (drop at src) ≡ decoded (unbase rules p) (drop next src)

unfoldable pub Letters : ℕ → List ℕ → ℕ → Option Letter → Type 0
Letters mark src at (Some (Char x next)) = (letter x < 64) × OneMore mark src at x next
Letters mark src at (Some (Pad next)) = OneMore mark src at 61 next
Letters mark src at (Some (End next)) = Closed mark src at next
Letters mark src at None = (p : List ℕ) → between mark (unbase rules) p (drop at src) ≡ refused

-- the reading y, before which m letters of the group were read, goes on with the octets of a group
pub record Foured (mark : ℕ) (src : List ℕ) (y : Read (List ℕ)) (m at a b c e next : ℕ) : Type 0 where
  pub on : at + 4 ≤ next + m
  pub within : next ≤ length src
  pub low : Low (a ∷ b ∷ c ∷ e ∷ [])
  pub more : y ≡ bind (between mark (unbase rules) [] (drop next src)) (λ d k. got (three_octets a b c e ++ d) k)

-- the reading y ends with the first `len` octets of a group
pub record Rested (src : List ℕ) (y : Read (List ℕ)) (at len a b c next : ℕ) : Type 0 where
  pub on : at < next
  pub within : next ≤ length src
  pub low : Low (a ∷ b ∷ c ∷ 0 ∷ [])
  pub few : len ≤ 2
  pub ends : y ≡ got (take len (three_octets a b c 0)) (drop next src)

unfoldable pub Groups : ℕ → List ℕ → Read (List ℕ) → ℕ → ℕ → Option Group → Type 0
Groups mark src y m at (Some (Four a b c e next)) = Foured mark src y m at a b c e next
Groups mark src y m at (Some (Rest len a b c next)) = Rested src y at len a b c next
Groups mark src y m at None = y ≡ refused

-- a group, where the low bits that are left over may stand
unfoldable pub allowed : Bool → Group → Option Group
allowed t g = pick t (Some g) None
