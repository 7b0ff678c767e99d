-- S 3.13: the two escapes of request 3.
use Prim.Native.Nat.{ℕ}
use mathlib.Core.Path.{◌≡◌, refl}
use mathlib.Core.Option.{some}
use mathlib.Core.List.{List, [], ◌∷◌, ◌++◌}
use Rattle.model.specs.Amended.{escaping, listed}
use Rattle.model.specs.Decode.{decode_under, decode}
use Rattle.model.specs.Grammar.{Language, rules}
use Rattle.model.specs.Octets.{escape, escapes}
use Rattle.model.specs.Tree.{Tree}
use Rattle.model.proofs.Apart.{rules-apart, listed-apart}
use Rattle.model.proofs.Laws.{decoder-wider}
use Rattle.model.proofs.Listed.{listed-wider}
use Rattle.model.proofs.Wider.{language-wider}

-- a list that extends another accepts at least the same texts, with the same trees
pub more-escapes : (es fs : List (ℕ × ℕ)) {form : ℕ} {s : List ℕ} {t : Tree} → Language (escaping es) form s t → Language (escaping (es ++ fs)) form s t
more-escapes es fs = language-wider (listed-wider es fs)

-- S 3.8: the list is that of 1997, and the two of request 3
pub two-more : escapes ≡ listed ++ (97, 7) ∷ (63, 63) ∷ []
two-more = refl

-- the rules in force have that list
pub in-force : rules ≡ escaping escapes
unfolding escape
in-force = refl

-- S 3.13: a text accepted before keeps its tree
pub kept : (form : ℕ) (s : List ℕ) (t : Tree) → decode_under (escaping listed) form s ≡ some t → decode form s ≡ some t
unfolding decode escape
kept form s t e = decoder-wider (escaping listed) rules (listed-wider listed ((97, 7) ∷ (63, 63) ∷ [])) listed-apart rules-apart form s t e
