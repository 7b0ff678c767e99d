-- What the comparing code keeps of a lexeme, and what it needs of two sheets.
use Rattle.std.specs.Prelude.{ℕ, ◌-◌, ◌≤◌, ◌<◌, ◌≡◌, false, List, length, take, drop, eqb}
use Rattle.std.proofs.Math.Option.{some}
use Rattle.base.specs.Choice.{pick}
use Rattle.model.specs.Decode.{decode₁}
use Rattle.model.specs.Lexemes.{Lexeme, opening, closing, atom, hinting, strict_lexeme}
use Rattle.model.specs.Limits.{max_canonical, max_source}
use Rattle.model.specs.Strings.{got}
use Rattle.model.specs.Tree.{Tree}
use Rattle.lookup.specs.declared.alike.Token.{Token}

-- a parenthesis
abbrev pub mark : ℕ → ℕ → Token
mark sort next = record { sort = sort; hinted = false; from = 0; to = 0; start = 0; end = 0; next = next }

-- the octets of a part
abbrev pub part_of : List ℕ → ℕ → ℕ → List ℕ
part_of src s e = take (e - s) (drop s src)

-- the lexeme
unfoldable pub lexeme_of : List ℕ → Token → Lexeme
lexeme_of src t =
    pick (eqb t.sort 0) opening
    (pick (eqb t.sort 1) closing
    (pick t.hinted (hinting (part_of src t.from t.to) (part_of src t.start t.end)) (atom (part_of src t.start t.end))))

-- the hint that it counts with
unfoldable pub hint_in : List ℕ → List ℕ → Token → List ℕ
hint_in x src t = pick t.hinted (part_of src t.from t.to) x

-- its parts are parts of a text of n octets
pub record Lies (n : ℕ) (t : Token) : Type 0 where
  pub sorted : t.sort ≤ 2
  pub hint_ordered : t.from ≤ t.to
  pub hint_ended : t.to ≤ n
  pub ordered : t.start ≤ t.end
  pub ended : t.end ≤ n

-- a lexeme stands at a place
pub record Readable (src : List ℕ) (at : ℕ) : Type 0 where
  pub lexeme : Lexeme
  pub rest : List ℕ
  pub reads : strict_lexeme (drop at src) ≡ got lexeme rest
  pub inside : at < length src
  pub short : length src ≤ max_source

-- and it is this one
pub record TokenAt (src : List ℕ) (at : ℕ) (t : Token) : Type 0 where
  pub reads : strict_lexeme (drop at src) ≡ got (lexeme_of src t) (drop t.next src)
  pub ahead : at < t.next
  pub within : t.next ≤ length src
  pub lies : Lies (length src) t

-- two canonical forms that are short enough
pub record Sheets (a b : List ℕ) : Type 0 where
  pub left : Tree
  pub left_is : decode₁ a ≡ some left
  pub left_short : length a ≤ max_canonical
  pub right : Tree
  pub right_is : decode₁ b ≡ some right
  pub right_short : length b ≤ max_canonical
