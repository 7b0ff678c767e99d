-- Two corrections of (1:a4:bbbb), computed in either order: node 1 becomes 4:aaaa, node 2 becomes 1:b. Both orders leave (4:aaaa1:b) in
-- eleven octets, and past it zeros or what was there; in room for eleven octets only one of the orders is accepted.
use Prim.Native.Nat.{ℕ}
use mathlib.Core.Path.{◌≡◌, refl}
use mathlib.Core.List.{List, [], ◌∷◌, ◌++◌, map}
use lib.ListN.{take}
use Rattle.base.specs.Choice.{equal, chain, is_none}
use Rattle.model.specs.Answers.{verdict, judged, no_form, the, room_checks, text_checks, settled, fits, fitting, sheet_tree, owns, own_tree, Outcome, filled, replaced, replacing_checks, replacing, telling}
use Rattle.model.specs.Decode.{onto, enclose, place, place_in, nestings, only_tree, only_in, nest, decode₁, decode}
use Rattle.model.specs.Edit.{join, within, replace}
use Rattle.model.specs.Lexemes.{close_strict, strict_lexeme, before, lexemes_by, strict_lexemes}
use Rattle.model.specs.Strings.{bind, number, decimal, first, after_length, verbatim_of}
use Rattle.model.specs.Table.{rows, parents, flat, table_of}
use Rattle.model.specs.Tree.{digits_up_to, digits, verbatim, canon, nodes, depth}
use Rattle.demands.specs.Orders.{Errand, replacement, correcting, then}

-- the sheet, and three octets more
abbrev lent : List ℕ
lent = (40 ∷ 49 ∷ 58 ∷ 97 ∷ 52 ∷ 58 ∷ 98 ∷ 98 ∷ 98 ∷ 98 ∷ 41 ∷ []) ++ (9 ∷ 9 ∷ 9 ∷ [])

abbrev table : List ℕ
table = (2 ∷ 0 ∷ 11 ∷ 3 ∷ 0 ∷ 0 ∷ 1 ∷ 10 ∷ 0 ∷ []) ++ (0 ∷ 1 ∷ 4 ∷ 1 ∷ 0 ∷ 0 ∷ 3 ∷ 4 ∷ 0 ∷ []) ++ (0 ∷ 4 ∷ 10 ∷ 1 ∷ 0 ∷ 0 ∷ 6 ∷ 10 ∷ 0 ∷ [])

abbrev longer : Errand
longer = replacement 1 (52 ∷ 58 ∷ 97 ∷ 97 ∷ 97 ∷ 97 ∷ [])

abbrev shorter : Errand
shorter = replacement 1 (49 ∷ 58 ∷ 98 ∷ [])

-- in so much room
abbrev longer-first : ℕ → Outcome
longer-first room = then (correcting longer (take room lent) table 11 3 1) shorter 2

abbrev shorter-first : ℕ → Outcome
shorter-first room = then (correcting shorter (take room lent) table 11 3 2) longer 1

abbrev left : List ℕ
left = 40 ∷ 52 ∷ 58 ∷ 97 ∷ 97 ∷ 97 ∷ 97 ∷ 49 ∷ 58 ∷ 98 ∷ 41 ∷ []

answers : map (λ (o : Outcome). o.number ∷ o.octets ∷ o.count ∷ []) (longer-first 14 ∷ shorter-first 14 ∷ [])
    ≡ (0 ∷ 11 ∷ 3 ∷ []) ∷ (0 ∷ 11 ∷ 3 ∷ []) ∷ []
unfolding correcting equal chain is_none digits_up_to digits verbatim canon nodes depth flat table_of rows parents bind number decimal first after_length verbatim_of close_strict strict_lexeme before lexemes_by strict_lexemes onto enclose place place_in nestings only_tree only_in nest decode₁ decode join within replace verdict judged no_form the room_checks text_checks settled fits fitting sheet_tree owns own_tree filled replaced replacing_checks replacing telling
answers = refl

-- the rest may differ
rests : map (λ (o : Outcome). o.canonical) (longer-first 14 ∷ shorter-first 14 ∷ [])
    ≡ (left ++ (0 ∷ 0 ∷ 0 ∷ [])) ∷ (left ++ (9 ∷ 9 ∷ 9 ∷ [])) ∷ []
unfolding correcting equal chain is_none digits_up_to digits verbatim canon nodes depth flat table_of rows parents bind number decimal first after_length verbatim_of close_strict strict_lexeme before lexemes_by strict_lexemes onto enclose place place_in nestings only_tree only_in nest decode₁ decode join within replace verdict judged no_form the room_checks text_checks settled fits fitting sheet_tree owns own_tree filled replaced replacing_checks replacing telling
rests = refl

-- S 12.1, all four accepted: the longer one has no room before the shorter one has made it
tight : (correcting longer (take 11 lent) table 11 3 1).number ∷ (shorter-first 11).number ∷ [] ≡ 6 ∷ 0 ∷ []
unfolding correcting equal chain is_none digits_up_to digits verbatim canon nodes depth flat table_of rows parents bind number decimal first after_length verbatim_of close_strict strict_lexeme before lexemes_by strict_lexemes onto enclose place place_in nestings only_tree only_in nest decode₁ decode join within replace verdict judged no_form the room_checks text_checks settled fits fitting sheet_tree owns own_tree filled replaced replacing_checks replacing telling
tight = refl
