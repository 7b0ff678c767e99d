-- Insertions and removals (S 8.7, 8.8), shown of the definitions that the promises cite, as one list: what is answered, what is wanted.
use Prim.Native.Nat.{ℕ}
use mathlib.Core.Path.{◌≡◌, refl}
use mathlib.Core.Bool.{true}
use mathlib.Core.List.{List, [], ◌∷◌, ◌++◌, map}
use lib.ListN.{length, take, replicate}
use Rattle.base.specs.Choice.{member, every, equal, chain, is_none}
use Rattle.model.specs.Answers.{verdict, judged, no_form, the, room_checks, text_checks, settled, fits, fitting, sheet_tree, owns, own_tree, Outcome, unchanged, braced, place_of, telling, filled}
use Rattle.model.specs.Corrections.{inserted, no_place, inserting_checks, inserting, removed, removing_checks, removing}
use Rattle.model.specs.Decode.{onto, enclose, place, place_in, nestings, only_tree, only_in, nest, decode₁, decode}
use Rattle.model.specs.Edit.{join, within, put, put_in, insert, remove}
use Rattle.model.specs.Node.{node_at, node_in, elements, has_place}
use Rattle.model.specs.Lexemes.{close_hint, lexeme, close_strict, strict_lexeme, before, lexemes_by, strict_lexemes}
use Rattle.model.specs.Strings.{bind, skip, number, decimal, first, run, past, sized, after_number, after_length, verbatim_of}
use Rattle.model.specs.Table.{rows, parents, flat, table_of}
use Rattle.model.specs.Tree.{digits_up_to, digits, verbatim, canon, nodes, depth}

-- the sheet ((0:)0:) with its table, in lent space of 12 octets and five records
abbrev sheet : List ℕ
sheet = (40 ∷ 40 ∷ 48 ∷ 58 ∷ 41 ∷ 48 ∷ 58 ∷ 41 ∷ []) ++ replicate 4 9

abbrev table : List ℕ
table =
    (2 ∷ 0 ∷ 8 ∷ 4 ∷ 0 ∷ 0 ∷ 1 ∷ 7 ∷ 0 ∷ [])
    ++ (2 ∷ 1 ∷ 5 ∷ 2 ∷ 0 ∷ 0 ∷ 2 ∷ 4 ∷ 0 ∷ [])
    ++ (0 ∷ 2 ∷ 4 ∷ 1 ∷ 0 ∷ 0 ∷ 4 ∷ 4 ∷ 1 ∷ [])
    ++ (0 ∷ 5 ∷ 7 ∷ 1 ∷ 0 ∷ 0 ∷ 7 ∷ 7 ∷ 0 ∷ [])
    ++ replicate 9 9

-- the text ()
abbrev text : List ℕ
text = (40 ∷ 41 ∷ [])

abbrev insertion : ℕ → ℕ → Outcome
insertion node k = inserting 1 text sheet table 8 4 node k

abbrev removal : ℕ → Outcome
removal node = removing sheet table 8 4 node

abbrev refused : ℕ → Outcome
refused n = unchanged n sheet table

abbrev accepted : List ℕ → ℕ → List ℕ → List ℕ → Outcome
accepted octets count numbers past =
    record { accepted = true; number = 0; place = 0; octets = length octets; count = count; canonical = octets ++ past; table = numbers }

cases : List (Outcome × Outcome)
cases =
    -- first of the outer list: (()(0:)0:)
    (insertion 0 0, accepted (40 ∷ 40 ∷ 41 ∷ 40 ∷ 48 ∷ 58 ∷ 41 ∷ 48 ∷ 58 ∷ 41 ∷ []) 5 (2 ∷ 0 ∷ 10 ∷ 5 ∷ 0 ∷ 0 ∷ 1 ∷ 9 ∷ 0 ∷ 2 ∷ 1 ∷ 3 ∷ 1 ∷ 0 ∷ 0 ∷ 2 ∷ 2 ∷ 0 ∷ 2 ∷ 3 ∷ 7 ∷ 2 ∷ 0 ∷ 0 ∷ 4 ∷ 6 ∷ 0 ∷ 0 ∷ 4 ∷ 6 ∷ 1 ∷ 0 ∷ 0 ∷ 6 ∷ 6 ∷ 2 ∷ 0 ∷ 7 ∷ 9 ∷ 1 ∷ 0 ∷ 0 ∷ 9 ∷ 9 ∷ 0 ∷ []) (9 ∷ 9 ∷ []))
    -- past its last element: ((0:)0:())
    ∷ (insertion 0 2, accepted (40 ∷ 40 ∷ 48 ∷ 58 ∷ 41 ∷ 48 ∷ 58 ∷ 40 ∷ 41 ∷ 41 ∷ []) 5 (2 ∷ 0 ∷ 10 ∷ 5 ∷ 0 ∷ 0 ∷ 1 ∷ 9 ∷ 0 ∷ 2 ∷ 1 ∷ 5 ∷ 2 ∷ 0 ∷ 0 ∷ 2 ∷ 4 ∷ 0 ∷ 0 ∷ 2 ∷ 4 ∷ 1 ∷ 0 ∷ 0 ∷ 4 ∷ 4 ∷ 1 ∷ 0 ∷ 5 ∷ 7 ∷ 1 ∷ 0 ∷ 0 ∷ 7 ∷ 7 ∷ 0 ∷ 2 ∷ 7 ∷ 9 ∷ 1 ∷ 0 ∷ 0 ∷ 8 ∷ 8 ∷ 0 ∷ []) (9 ∷ 9 ∷ []))
    -- past the last of the inner list: ((0:())0:)
    ∷ (insertion 1 1, accepted (40 ∷ 40 ∷ 48 ∷ 58 ∷ 40 ∷ 41 ∷ 41 ∷ 48 ∷ 58 ∷ 41 ∷ []) 5 (2 ∷ 0 ∷ 10 ∷ 5 ∷ 0 ∷ 0 ∷ 1 ∷ 9 ∷ 0 ∷ 2 ∷ 1 ∷ 7 ∷ 3 ∷ 0 ∷ 0 ∷ 2 ∷ 6 ∷ 0 ∷ 0 ∷ 2 ∷ 4 ∷ 1 ∷ 0 ∷ 0 ∷ 4 ∷ 4 ∷ 1 ∷ 2 ∷ 4 ∷ 6 ∷ 1 ∷ 0 ∷ 0 ∷ 5 ∷ 5 ∷ 1 ∷ 0 ∷ 7 ∷ 9 ∷ 1 ∷ 0 ∷ 0 ∷ 9 ∷ 9 ∷ 0 ∷ []) (9 ∷ 9 ∷ []))
    -- k too large; not a list; no such node, whatever k
    ∷ (insertion 1 2, refused 9)
    ∷ (insertion 2 0, refused 9)
    ∷ (insertion 4 9, refused 8)
    -- room one octet short: 6, after 9; four records: 5, before it
    ∷ (inserting 1 text (take 9 sheet) table 8 4 1 1, unchanged 6 (take 9 sheet) table)
    ∷ (inserting 1 text (take 9 sheet) table 8 4 1 2, unchanged 9 (take 9 sheet) table)
    ∷ (inserting 1 text (take 9 sheet) (take 44 table) 8 4 1 1, unchanged 5 (take 9 sheet) (take 44 table))
    -- the inner list, with what is in it: (0:), and zeros
    ∷ (removal 1, accepted (40 ∷ 48 ∷ 58 ∷ 41 ∷ []) 2 (2 ∷ 0 ∷ 4 ∷ 2 ∷ 0 ∷ 0 ∷ 1 ∷ 3 ∷ 0 ∷ 0 ∷ 1 ∷ 3 ∷ 1 ∷ 0 ∷ 0 ∷ 3 ∷ 3 ∷ 0 ∷ 0 ∷ 0 ∷ 0 ∷ 0 ∷ 0 ∷ 0 ∷ 0 ∷ 0 ∷ 0 ∷ 0 ∷ 0 ∷ 0 ∷ 0 ∷ 0 ∷ 0 ∷ 0 ∷ 0 ∷ 0 ∷ 9 ∷ 9 ∷ 9 ∷ 9 ∷ 9 ∷ 9 ∷ 9 ∷ 9 ∷ 9 ∷ []) (0 ∷ 0 ∷ 0 ∷ 0 ∷ 9 ∷ 9 ∷ 9 ∷ 9 ∷ []))
    -- the only element of the inner list: (()0:)
    ∷ (removal 2, accepted (40 ∷ 40 ∷ 41 ∷ 48 ∷ 58 ∷ 41 ∷ []) 3 (2 ∷ 0 ∷ 6 ∷ 3 ∷ 0 ∷ 0 ∷ 1 ∷ 5 ∷ 0 ∷ 2 ∷ 1 ∷ 3 ∷ 1 ∷ 0 ∷ 0 ∷ 2 ∷ 2 ∷ 0 ∷ 0 ∷ 3 ∷ 5 ∷ 1 ∷ 0 ∷ 0 ∷ 5 ∷ 5 ∷ 0 ∷ 0 ∷ 0 ∷ 0 ∷ 0 ∷ 0 ∷ 0 ∷ 0 ∷ 0 ∷ 0 ∷ 9 ∷ 9 ∷ 9 ∷ 9 ∷ 9 ∷ 9 ∷ 9 ∷ 9 ∷ 9 ∷ []) (0 ∷ 0 ∷ 9 ∷ 9 ∷ 9 ∷ 9 ∷ []))
    -- node 0; no such node; a table that is not the sheet's own, before either
    ∷ (removal 0, refused 9)
    ∷ (removal 4, refused 8)
    ∷ (removing sheet table 8 3 0, refused 7)
    ∷ []

corrections : map (λ c. c.0) cases ≡ map (λ c. c.1) cases
unfolding cases member every equal chain is_none digits_up_to digits verbatim canon nodes depth flat table_of rows parents bind skip number decimal first run past sized after_number after_length verbatim_of close_hint lexeme close_strict strict_lexeme before lexemes_by strict_lexemes onto enclose place place_in nestings only_tree only_in nest decode₁ decode join within put put_in insert remove node_at node_in elements has_place verdict judged no_form the room_checks text_checks settled fits fitting sheet_tree owns own_tree braced place_of telling filled inserted no_place inserting_checks inserting removed removing_checks removing
corrections = refl
