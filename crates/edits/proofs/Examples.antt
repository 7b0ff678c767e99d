-- The correction of S 16.1, computed: node 1 of (3:abc[1:x]0:) replaced by "hi".
use mathlib.Core.Path.{◌≡◌, refl}
use mathlib.Core.Bool.{true, false}
use mathlib.Core.List.{[], ◌∷◌, ◌++◌}
use lib.ListN.{take}
use Rattle.model.specs.Edit.{join, within, replace}
use Rattle.edits.specs.Place.{moved, kept}
use Rattle.model.specs.Table.{row_numbers, rows, parents, flat, table_of, row_of}
use Rattle.model.specs.Tree.{Tree, plain, hinted, list, nil, cons, digits_up_to, digits, verbatim, canon, nodes}
use Rattle.edits.specs.Node.{holds}
use Rattle.edits.specs.Levels.{holders}

sheet : Tree
sheet = list (cons (plain (97 ∷ 98 ∷ 99 ∷ [])) (cons (hinted (120 ∷ []) []) nil))

corrected : Tree
corrected = replace sheet 1 (plain (104 ∷ 105 ∷ []))

-- (2:hi[1:x]0:)
octets : canon corrected ≡ (40 ∷ 50 ∷ 58 ∷ 104 ∷ 105 ∷ 91 ∷ 49 ∷ 58 ∷ 120 ∷ 93 ∷ 48 ∷ 58 ∷ 41 ∷ [])
unfolding sheet corrected canon verbatim digits digits_up_to nodes replace within join
octets = refl

records-of : table_of corrected ≡ (2 ∷ 0 ∷ 13 ∷ 3 ∷ 0 ∷ 0 ∷ 1 ∷ 12 ∷ 0 ∷ 0 ∷ 1 ∷ 5 ∷ 1 ∷ 0 ∷ 0 ∷ 3 ∷ 5 ∷ 0 ∷ 1 ∷ 5 ∷ 12 ∷ 1 ∷ 8 ∷ 9 ∷ 12 ∷ 12 ∷ 0 ∷ [])
unfolding sheet corrected canon verbatim digits digits_up_to rows parents flat table_of nodes replace within join
records-of = refl

-- the record of the list around grows, that of the node after moves, with its hint
list-and-later : row_numbers (kept 1 5 4 1 1 (row_of sheet 0)) ++ row_numbers (moved 5 4 (row_of sheet 2)) ≡ (2 ∷ 0 ∷ 13 ∷ 3 ∷ 0 ∷ 0 ∷ 1 ∷ 12 ∷ 1 ∷ 5 ∷ 12 ∷ 1 ∷ 8 ∷ 9 ∷ 12 ∷ 12 ∷ [])
unfolding sheet canon verbatim digits digits_up_to rows nodes
list-and-later = refl

-- the list holds both strings, and no string holds the other
held : (holds sheet 0 1 ∷ holds sheet 0 2 ∷ holds sheet 1 2 ∷ []) ≡ (true ∷ true ∷ false ∷ [])
unfolding sheet canon verbatim digits digits_up_to rows nodes
held = refl

-- one list is around each string
around-both : (holders (take 1 (rows sheet 0)) 0 1 ∷ holders (take 2 (rows sheet 0)) 0 2 ∷ []) ≡ (1 ∷ 1 ∷ [])
unfolding sheet canon verbatim digits digits_up_to rows nodes holders
around-both = refl
