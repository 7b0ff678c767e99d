-- Text in pieces (S 13): what state and sheet are after the octets fed so far, and what a piece does.
use Rattle.std.specs.Prelude.{ℕ, ◌+◌, ◌-◌, min, ◌≡◌, Bool, false, List, ◌++◌, length, take, drop, leb, eqb, Ok, Err}
use Rattle.std.proofs.lemmas.List.Edits.{sets}
use Rattle.base.specs.Choice.{pick, both}
use Rattle.model.specs.Limits.{max_canonical}
use Rattle.model.specs.Automaton.{start, run}
use Rattle.pieces.specs.Capped.{cap, capped}
use Rattle.pieces.specs.Tracks.{meant, coded}
use Rattle.pieces.specs.declared.state.State.{State}
use Rattle.answers.specs.declared.refusal.Refusal.TheVariants.{NotOwn}
use Rattle.pieces.specs.declared.state.Fed.{Fed}
use Rattle.pieces.specs.declared.track.Track.{Track}

-- ---- what is promised

-- S 13.3: as many octets as the sheet has room for, and 16,384 at most
abbrev pub space : ℕ → ℕ
space room = min room max_canonical

-- S 13.3: the octets with which the sheet begins
unfoldable pub kept : List ℕ → List ℕ → List ℕ
kept first s = take (space (length first)) s

unfoldable pub sheet_after : List ℕ → List ℕ → List ℕ
sheet_after first s = kept first s ++ drop (length (kept first s)) first

-- while the sheet holds all of the text, nothing else is known of it; from then on the automaton has gone over it
unfoldable pub track_after : ℕ → List ℕ → Track
track_after room s = pick (leb (length s) (space room)) (coded start) (coded (run capped start (take cap s)))

-- S 13.5: by the octets fed, and of the buffers by their sizes.
-- S 13.3: the count goes up to 32,769, and octets past it are not looked at
unfoldable pub state_after : ℕ → ℕ → List ℕ → State
state_after room lent s = record { track = track_after room s; fed = min (length s) cap; room = room; lent = lent }

-- S 13.6, the start's state and those given from it in turn, the sheet left alone between:
-- the octets s were fed, and the sheet first held `first`
pub record InTurn (first : List ℕ) (lent : ℕ) (s : List ℕ) (x : State) (sheet : List ℕ) : Type 0 where
  pub x-is : x ≡ state_after (length first) lent s
  pub sheet-is : sheet ≡ sheet_after first s

-- S 13.2, sizes as at the start: the sheet's octets, and the table's numbers or records
unfoldable pub same_sizes : State → ℕ → ℕ → Bool
same_sizes x room lent = both (eqb room x.room) (eqb lent x.lent)

-- S 13.2: 7, and no count
abbrev pub sent_back : State → Fed
sent_back x = record { state = x; taken = Err NotOwn }

-- S 13.3: the octets taken so far
abbrev pub taken : State → Fed
taken x = record { state = x; taken = Ok x.fed }

-- a piece, fed in a state, into a sheet; with the sheet afterwards, and the answer. With other states, or a sheet changed between, only the
-- sizes are compared, and the rest is left open (S 13.6)
pub record Piece (x : State) (piece sheet : List ℕ) (lent : ℕ) (after : List ℕ) (r : Fed) : Type 0 where
  -- S 13.2, whatever the state is: nothing changes, the state included
  pub resized : same_sizes x (length sheet) lent ≡ false → (r ≡ sent_back x) × (after ≡ sheet)
  pub goes_on : (first s : List ℕ) → InTurn first lent s x sheet → (r ≡ taken (state_after (length first) lent (s ++ piece))) × (after ≡ sheet_after first (s ++ piece))

-- ---- what the code does, whatever the state is

pub record Fill : Type 0 where
  pub state : State
  pub sheet : List ℕ

abbrev pub fill : State → List ℕ → Fill
fill x sheet = record { state = x; sheet = sheet }

abbrev pub advanced_to : State → Track → ℕ → State
advanced_to x track fed = record { track = track; fed = fed; room = x.room; lent = x.lent }

-- octets stored from a place on, as far as the space goes
unfoldable pub stored_by : ℕ → List ℕ → List ℕ → List ℕ
stored_by at piece sheet = sets sheet at (take (space (length sheet) - at) piece)

abbrev pub total : ℕ → ℕ → ℕ
total fed n = min (fed + n) cap

-- the track of the octets so far, which the sheet has while it holds them all
unfoldable pub caught_up : Track → ℕ → List ℕ → Track
caught_up track fed sheet = pick (leb fed (space (length sheet))) (coded (run capped start (take fed sheet))) track

unfoldable pub gone_on : Track → ℕ → List ℕ → List ℕ → Track
gone_on track fed piece sheet =
    pick (leb (total fed (length piece)) (space (length sheet))) track (coded (run capped (meant (caught_up track fed sheet)) (take (cap - fed) piece)))

unfoldable pub fed_by : State → List ℕ → List ℕ → Fill
fed_by x piece sheet = fill (advanced_to x (gone_on x.track x.fed piece sheet) (total x.fed (length piece))) (stored_by x.fed piece sheet)
