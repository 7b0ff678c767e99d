-- What is asked and told of a text. Advanced text is converted; canonical text, and basic text without braces, is its own octets;
-- base-64 in braces is decoded first.
use Rattle.std.specs.Prelude.{ℕ, ◌≤◌, ◌<◌, ◌≡◌, Bool, true, false, List, length, take, get_or, ltb}
use Rattle.std.proofs.Math.Option.{Option, some}
use Rattle.base.specs.Choice.{pick}
use Rattle.model.specs.Tree.{Tree, canon, nodes, depth}
use Rattle.model.specs.Grammar.{rules}
use Rattle.model.specs.Decode.{decode₁, decode₂, decode}
use Rattle.model.specs.Limits.{max_source, max_canonical, max_depth, no_refusal, refusal_form, refusal_source_size}
use Rattle.model.specs.Automaton.{place}
use Rattle.model.specs.Answers.{no_form, place_of}
use Rattle.walk.specs.Extent.{Measures}
use Rattle.walk.specs.Extent.{Measured}
use Rattle.walk.specs.Extent.{Refused}
use Rattle.tables.specs.Told.{Holds}
use Rattle.advanced.specs.Converted.{Lent}

-- rows 1 and 2
unfoldable pub text_verdict : ℕ → ℕ → ℕ
text_verdict form len = pick (no_form form) refusal_form (pick (ltb max_source len) refusal_source_size no_refusal)

-- ---- what is asked

-- a text that rows 1 and 2 don't apply to, and scratch for it
pub record Takeable (form n room : ℕ) : Type 0 where
  pub low : 1 ≤ form
  pub high : form ≤ 4
  pub lent : Lent n room

-- a text of n octets, no more than a bound, to which rows 1 and 2 don't apply
pub record Formed (form n bound : ℕ) : Type 0 where
  pub low : 1 ≤ form
  pub high : form ≤ 4
  pub short : n ≤ bound

-- canonical text of n octets, to which row 2 doesn't apply
pub record Literal (form n : ℕ) : Type 0 where
  pub is : form ≡ 1
  pub short : n ≤ max_source

-- a text that begins with a brace
pub record Braced (text : List ℕ) : Type 0 where
  pub more : 0 < length text
  pub first : get_or text 0 0 ≡ 123

-- how a text of form 1 or 2 is to be taken
pub record Enclosed (form : ℕ) (text : List ℕ) : Type 0 where
  pub braced : Braced text
  pub is : decode form text ≡ decode₂ rules text
  pub told : place_of form text ≡ 0

unfoldable pub Opens : ℕ → List ℕ → Bool → Type 0
Opens form text true = Enclosed form text
Opens form text false = 1 ≤ form → form ≤ 2 → (decode form text ≡ decode₁ text) × (place_of form text ≡ place text)

-- text whose octets are spelled: of form 3 or 4, or in braces
pub record Coded (form : ℕ) (text : List ℕ) : Type 0 where
  pub enclosed : form ≤ 2 → Enclosed form text

-- basic text that means what it means as canonical text
pub record Bared (form : ℕ) (text : List ℕ) : Type 0 where
  pub basic : form ≡ 2
  pub is : decode form text ≡ decode 1 text
  pub told : place_of form text ≡ place_of 1 text

pub record Bare (form : ℕ) (text : List ℕ) (r : Bool) : Type 0 where
  pub bared : r ≡ true → Bared form text

-- ---- what is told

-- the sizes of the tree o that a text means, if it means one, else the place p that is told; where the tree's canonical form is no longer than a sheet, it stands
-- at the front of scratch; and where the tree fits besides and the notes have room, they are the tree's
pub record Taken (o : Option Tree) (p : ℕ) (scratch notes notes' : List ℕ) (r : Measured) : Type 0 where
  pub measures : Measures o r
  pub fails : (q : ℕ) → r ≡ Refused q → q ≡ p
  pub octets : (t : Tree) → o ≡ some t → length (canon t) ≤ max_canonical → take (length (canon t)) scratch ≡ canon t
  pub noted : (t : Tree) → o ≡ some t → length (canon t) ≤ max_canonical → depth t ≤ max_depth → nodes t ≤ length notes → Holds notes' (nodes t) t
