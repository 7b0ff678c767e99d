-- The loop that follows a text octet by octet; what a track says of the text so far.
use Prim.Native.Nat.{ℕ, ◌+◌, ◌≤◌, ◌<◌}
use native.Mathlib.Omega.{arith}
use native.Mathlib.Numerals.{add-one}
use mathlib.Core.Path.{◌≡◌, refl, sym, ap, ◌∙◌}
use mathlib.Core.Bool.{Bool, true, false}
use mathlib.Core.List.{List, [], ◌∷◌}
use lib.ListN.{length, take, get_or}
use lib.Seq.{take-suc, take_all}
use Rattle.base.proofs.Cases.{picked, unpicked}
use Rattle.model.specs.Count.{shut_by}
use Rattle.walk.specs.Extent.{Whole, Refused}
use Rattle.model.specs.Automaton as automaton
use Rattle.model.specs.Automaton.{step, run, rests}
use Rattle.automaton.proofs.Runs.{run-append}
use Rattle.pieces.specs.Capped.{capped, extent}
use Rattle.pieces.specs.Tracks.{phase_of, meant, coded_phase, coded}
use Rattle.pieces.specs.declared.track.Phase.{Phase}
use Rattle.pieces.specs.declared.track.Phase.TheVariants.{Between, Sizing, Counting, Filling, Bracket, Dead}
use Rattle.pieces.specs.declared.track.Track.{Track}

-- ---- a track and what it means

coded-phase : (p : Phase) → coded_phase (phase_of p) ≡ p
coded-phase Between = refl
coded-phase (Sizing h) = refl
coded-phase (Counting h n) = refl
coded-phase (Filling h n) = refl
coded-phase Bracket = refl
coded-phase Dead = refl

pub coded-meant : (x : Track) → coded (meant x) ≡ x
coded-meant x = λ i. record { phase = coded-phase x.phase i; opened = x.opened; deepest = x.deepest; seen = x.seen; taken = x.taken }

meant-phase : (p : automaton.Phase) → phase_of (coded_phase p) ≡ p
meant-phase automaton.between = refl
meant-phase (automaton.sizing h) = refl
meant-phase (automaton.counting h n) = refl
meant-phase (automaton.filling h n) = refl
meant-phase automaton.bracket = refl
meant-phase automaton.dead = refl

pub meant-coded : (x : automaton.State) → meant (coded x) ≡ x
meant-coded x = λ i. record { phase = meant-phase x.phase i; tally = x.tally; taken = x.taken }

-- ---- the loop: the track has followed the first i octets
pub record Follows (from : Track) (text : List ℕ) (track : Track) (i : ℕ) : Type 0 where
  pub inside : i ≤ length text
  pub is : meant track ≡ run capped (meant from) (take i text)

pub follows-start : (from : Track) (text : List ℕ) → Follows from text from 0
unfolding run
follows-start from text = record { inside = omega arith; is = refl }

pub follows_next : (from : Track) (text : List ℕ) (track : Track) (i : ℕ) → Follows from text track i → i < length text → (track' : Track) → meant track' ≡ step capped (meant track) (get_or text i 0) → Follows from text track' (i + 1)
unfolding run
follows_next from text track i w h track' e =
    record {
      inside = omega arith;
      is =
          e
          ∙ ap (λ (x : automaton.State). step capped x (get_or text i 0)) w.is
          ∙ sym (run-append capped (take i text) (get_or text i 0 ∷ []) (meant from))
          ∙ ap (run capped (meant from)) (sym (take-suc text i 0 h) ∙ ap (λ (n : ℕ). take n text) (sym (add-one i)));
    }

pub follows-end : (from : Track) (text : List ℕ) (track : Track) (i : ℕ) → Follows from text track i → length text ≤ i → meant track ≡ run capped (meant from) text
follows-end from text track i w h = w.is ∙ ap (run capped (meant from)) (take_all i text h)

-- ---- what a track says

-- what is told of each phase
pub rests-as : (p q : Phase) (t : Bool) → p ≡ q → t ≡ rests (phase_of q) → t ≡ rests (phase_of p)
rests-as p q t e f = f ∙ ap (λ (x : Phase). rests (phase_of x)) (sym e)

module _ (x : Track) (u : Bool) (g : u ≡ rests (phase_of x.phase)) where
  pub extent-other : u ≡ false → Refused x.taken ≡ extent (meant x)
  unfolding extent
  extent-other z = sym (unpicked _ _ (unpicked _ _ (sym g ∙ z)))

  module _ (z : u ≡ true) (q : Bool) (f : q ≡ shut_by x.opened x.seen) where
    pub extent-whole : q ≡ true → Whole x.taken x.seen x.deepest ≡ extent (meant x)
    unfolding extent
    extent-whole t = sym (picked _ _ (picked _ _ (sym g ∙ z) ∙ sym f ∙ t))

    pub extent-part : q ≡ false → Refused x.taken ≡ extent (meant x)
    unfolding extent
    extent-part t = sym (unpicked _ _ (picked _ _ (sym g ∙ z) ∙ sym f ∙ t))
