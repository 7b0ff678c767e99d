-- The table that the host lends as records, as plain numbers; and a node's hint or data, by one name.
use Rattle.std.specs.Prelude.{ℕ, Bool, List, [], ◌∷◌, ◌++◌}
use Rattle.std.proofs.Math.Option.{Option}
use Rattle.base.specs.Choice.{pick}
use Rattle.model.specs.Answers.{Part, hint_part, data_part}
use Rattle.records.specs.declared.Record.{Record}

-- the nine numbers of a record, in the order of S 4.1
abbrev pub nine : Record → List ℕ
nine r = r.kind ∷ r.start ∷ r.end ∷ r.nodes ∷ r.hint_start ∷ r.hint_end ∷ r.data_start ∷ r.data_end ∷ r.parent ∷ []

-- S 4.3, a table lent as records: the numbers of each, one after another
unfoldable pub numbers : List Record → List ℕ
numbers [] = []
numbers (r ∷ rs) = nine r ++ numbers rs

-- where a node's hint stands, or its data (S 8.5)
unfoldable pub part_of : Bool → List ℕ → ℕ → List ℕ → ℕ → ℕ → Option Part
part_of hinted canonical len table count node = pick hinted (hint_part canonical len table count node) (data_part canonical len table count node)
