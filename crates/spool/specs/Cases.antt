-- Whether each case of an answer is an acceptance, and its number and values (S 14.2).
use Rattle.std.specs.Prelude.{ℕ, ◌≡◌, ⊤, true, false, List, Result, Ok, Err}
use Rattle.model.specs.Limits.{no_refusal}
use Rattle.model.specs.Answers.{part, octets_at}
use Rattle.spools.specs.Adding as spools
use Rattle.spools.specs.Spool.{unopened_at}
use Rattle.answers.specs.Refusals.{number_of, place_in}
use Rattle.answers.specs.declared.refusal.Refusal.{Refusal}
use Rattle.spool.specs.declared.Contents.{Contents}
use Rattle.spool.specs.declared.Adding.{Adding}
use Rattle.spool.specs.declared.Unstarted.{Unstarted}

abbrev pub Opening : Type 0
Opening = Result Contents Refusal

abbrev pub Starting : Type 0
Starting = Result Adding Unstarted

abbrev pub Added : Type 0
Added = Result ⊤ Refusal

-- the answer of opening, with the octets that stand in the area at the place told
unfoldable pub opened : Opening → List ℕ → Rattle.spools.specs.Spool.Opening
opened (Ok c) area = record { accepted = true; number = no_refusal; place = 0; count = c.count; stands = part c.stands.start c.stands.end; shown = octets_at area (part c.stands.start c.stands.end) }
opened (Err f) area = unopened_at (number_of f) (place_in f)

-- the state of an addition
abbrev pub state_of : Adding → spools.Adding
state_of a = record { at = a.at; octets = a.octets; made = a.made; done = a.done }

-- the answer of a start
unfoldable pub start_of : Starting → spools.Start
start_of (Ok s) = spools.started (state_of s)
start_of (Err u) = record { accepted = false; number = number_of u.refusal; place = place_in u.refusal; state = state_of u.state }

-- the state that a step hands back, and the area
abbrev pub step_of : Adding → List ℕ → spools.Step
step_of a area = record { state = state_of a; area = area }

-- the answer of a whole addition, with the area
unfoldable pub added_of : Added → List ℕ → spools.Added
added_of (Ok u) area = record { accepted = true; number = no_refusal; place = 0; area = area }
added_of (Err f) area = spools.unadded_at (number_of f) (place_in f) area

-- a state that goes no further
pub record Halts (a r : Adding) : Type 0 where
  pub state : state_of r ≡ spools.halted (state_of a)

-- a start refused with f: the state that it hands out stores nothing (S 9.4)
pub record Unbegun (f : Refusal) (u : Unstarted) : Type 0 where
  pub row : u.refusal ≡ f
  pub state : state_of u.state ≡ spools.nowhere
