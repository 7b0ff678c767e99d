-- The laws of pieces (S 13).
use Prim.Native.Nat.{ℕ, min}
use mathlib.Core.Path.{◌≡◌, sym, ap, ◌∙◌}
use mathlib.Core.List.{List, ◌++◌}
use lib.ListN.{length}
use Rattle.model.specs.Answers.{reading}
use Rattle.answers.specs.Cases.{outcome}
use Rattle.std.specs.Prelude.{Ok}
use Rattle.answers.specs.Cases.{Reading}
use Rattle.pieces.specs.Feeding.{sheet_after, state_after, InTurn, Piece}
use Rattle.pieces.specs.Handed.{Handed, starts, fed}
use Rattle.pieces.specs.Ending.{in_sheet, End}
use Rattle.pieces.specs.declared.state.State.{State}
use Rattle.pieces.specs.declared.state.Fed.{Fed}
use Rattle.pieces.proofs.Turns.{turn-start, turn-piece}

pub in-turn : {first : List ℕ} {lent : ℕ} {s : List ℕ} {x : State} {sheet : List ℕ} → Handed first lent s x sheet → InTurn first lent s x sheet
in-turn {first} {lent} (starts {x} e) = turn-start first lent x e
in-turn (fed h p) = turn-piece (in-turn h) p

-- S 13.5: state and sheet depend on the octets fed and on what the sheet first held, and not on how they were cut; no piece is lent the
-- table to write
pub never-by-the-cutting : {first : List ℕ} {lent : ℕ} {s : List ℕ} {x y : State} {sheet sheet' : List ℕ} → Handed first lent s x sheet → Handed first lent s y sheet' → (x ≡ y) × (sheet ≡ sheet')
never-by-the-cutting h k = ((in-turn h).x-is ∙ sym (in-turn k).x-is, (in-turn h).sheet-is ∙ sym (in-turn k).sheet-is)

-- S 13.3: the octets taken so far, up to 32,769
pub told-so-far : {first : List ℕ} {lent : ℕ} {s : List ℕ} {x : State} {sheet piece after : List ℕ} {r : Fed} → Handed first lent s x sheet → Piece x piece sheet lent after r
    → r.taken ≡ Ok (min (length (s ++ piece)) 32769)
unfolding state_after
told-so-far {first} {lent} {s} h p = let e = (p.goes_on first s (in-turn h)).0 in ap (λ (f : Fed). f.taken) e

-- S 13.3: they stand at the front of the sheet, as many as it has room for, and 16,384 at most
pub begins-with : {first : List ℕ} {lent : ℕ} {s : List ℕ} {x : State} {sheet : List ℕ} → Handed first lent s x sheet → sheet ≡ sheet_after first s
begins-with h = (in-turn h).sheet-is

-- S 13.4: the end answers as reading all of it in form 1 does, and accepted leaves its sheet and table; refused, it restores nothing
pub whatever-the-cutting : {first : List ℕ} {lent : ℕ} {s : List ℕ} {x : State} {sheet table table' : List ℕ} {r : Reading} → Handed first lent s x sheet → End x sheet lent table table' r
    → outcome r sheet table' ≡ in_sheet (sheet_after first s) (reading 1 s first table)
whatever-the-cutting {first} {s = s} {table = table} h e = e.ends first s (in-turn h) ∙ ap (λ (y : List ℕ). in_sheet y (reading 1 s first table)) (in-turn h).sheet-is
