-- What a C entry of the spool answers. A state is four numbers: where the old entries end, the sheet's octets, the stores made, and
-- whether the addition is done (any number but 0).
use Rattle.std.specs.Prelude.{not, ℕ, List, [], ◌∷◌, get_or, eqb}
use Rattle.model.specs.Limits.{no_refusal}
use Rattle.model.specs.Answers.{part, octets_at}
use Rattle.spools.specs.Adding.{Adding, Start, Step, Added}
use Rattle.spools.specs.Spool.{Opening}
use Rattle.etglavino_c.specs.Pointers.{flag}

-- the number, which tells an acceptance, the count, and where the sheet shown stands in the area
abbrev pub opening_of : ℕ → ℕ → ℕ → ℕ → List ℕ → Opening
opening_of n count s e area = record { accepted = eqb n no_refusal; number = n; place = 0; count = count; stands = part s e; shown = octets_at area (part s e) }

-- the state that numbers say, and the numbers of a state
abbrev pub state_in : List ℕ → Adding
state_in s = record { at = get_or s 0 0; octets = get_or s 1 0; made = get_or s 2 0; done = not (eqb (get_or s 3 0) 0) }

unfoldable pub state_numbers : Adding → List ℕ
state_numbers a = a.at ∷ a.octets ∷ a.made ∷ flag a.done ∷ []

-- a start: the number, and the state
pub record Begun : Type 0 where
  pub number : ℕ
  pub state : List ℕ

abbrev pub begun : ℕ → List ℕ → Begun
begun n s = record { number = n; state = s }

unfoldable pub begun_of : Start → Begun
begun_of s = begun s.number (state_numbers s.state)

-- a step: 1 for done, the state, and the area
pub record Stepped : Type 0 where
  pub done : ℕ
  pub state : List ℕ
  pub area : List ℕ

abbrev pub stepped : ℕ → List ℕ → List ℕ → Stepped
stepped d s area = record { done = d; state = s; area = area }

unfoldable pub stepped_of : Step → Stepped
stepped_of s = stepped (flag s.state.done) (state_numbers s.state) s.area

-- a whole addition: the number, which tells an acceptance, and the area
abbrev pub adding_of : ℕ → List ℕ → Added
adding_of n area = record { accepted = eqb n no_refusal; number = n; place = 0; area = area }
