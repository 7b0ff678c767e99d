-- Records that are told to be a sheet's own: what an extract of that sheet needs, and gives.
use Prim.Native.Nat.{ℕ}
use mathlib.Core.Bool.{Bool}
use mathlib.Core.List.{List}
use Rattle.model.specs.Answers.{own_tree}
use Rattle.lookup.specs.Noted.{Owned}
use Rattle.lookup.proofs.Noting.{owned-held}
use Rattle.reader.specs.Stored.{Puts}
use Rattle.answers.specs.Cases.{Reading}
use Rattle.extracts.specs.Extracting.{extracting_own}
use Rattle.extracts.proofs.Answered.{own-sheet}
use Rattle.extract.specs.Given.{Judges, Judged, Gives}

module _ (c : List ℕ) (len : ℕ) (table : List ℕ) (count : ℕ) (notes : List ℕ) (own : Bool) (o : Owned c len table count notes own) where
  judges : Judges (own_tree c len table count) c len notes count own
  judges = record { tells = o.tells; sheeted = λ t e. own-sheet c len table count t e; held = owned-held c len table count notes own o }

  pub own-judged : Judged c len notes count own
  own-judged = record { found = own_tree c len table count; judges = judges }

  pub own-puts : (canonical canonical' : List ℕ) (n : ℕ) (notes' : List ℕ) (r : Reading) → Gives c len notes count own canonical canonical' n notes' r → Puts (extracting_own c len table count canonical) canonical' n notes' r
  unfolding extracting_own
  own-puts canonical canonical' n notes' r g = g.is (own_tree c len table count) judges
