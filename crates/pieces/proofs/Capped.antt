-- Numbers that stop one past the longest text tell the same of every text that is no longer: a length of which nothing is known
-- but that it is larger than the text never comes to its end there.
use Prim.Native.Nat.{ℕ, ◌+◌, ◌*◌, ◌-◌, ◌≤◌, ◌<◌}
use native.Mathlib.Omega.{arith}
use mathlib.Core.Path.{◌≡◌, refl, sym, ap, ap₂, subst}
use mathlib.Core.Bool.{Bool, true, false}
use mathlib.Core.List.{List, [], ◌∷◌}
use lib.ListN.{length}
use lib.Dec.{ltb, eqb}
use borrow.Author.Tests.{lt-ltb}
use Rattle.base.specs.Choice.{pick, both}
use Rattle.base.proofs.Cases.{by_bool, by_le, picked}
use Rattle.model.specs.Limits.{max_source}
use Rattle.model.specs.Octets.{is_digit}
use Rattle.model.specs.Automaton.{Phase, between, sizing, counting, filling, bracket, dead, State, state, start, free, ended, coming, step_at, step, run, rests}
use Rattle.model.specs.Count.{Count, shut}
use Rattle.automaton.proofs.Runs.{step-taken}
use Rattle.pieces.specs.Capped.{cap, capped, whole, extent}

cap-small : (n : ℕ) → n ≤ cap → capped n ≡ n
unfolding capped
cap-small n h = omega arith

cap-large : (n : ℕ) → cap < n → capped n ≡ cap
unfolding capped
cap-large n h = omega arith

-- the phase with capped numbers, after so many octets, and the phase itself
data NearPhase (at : ℕ) : Phase → Phase → Type 0 where
  near_same : {p : Phase} → NearPhase at p p
  near-counting : {h : Bool} {n : ℕ} → cap ≤ n → NearPhase at (counting h cap) (counting h n)
  near-filling : {h : Bool} {m n : ℕ} → cap ≤ m + at → m ≤ n → NearPhase at (filling h m) (filling h n)

record Near (x y : State) : Type 0 where
  same-tally : x.tally ≡ y.tally
  same_taken : x.taken ≡ y.taken
  phases : NearPhase y.taken x.phase y.phase

-- no count is over what was taken
Few : State → Type 0
Few x = (x.tally.opened ≤ x.taken) × (x.tally.seen ≤ x.taken)

near-eq : {x y : State} → x ≡ y → Near x y
near-eq {x} {y} e = record { same-tally = ap (λ (z : State). z.tally) e; same_taken = ap (λ (z : State). z.taken) e; phases = subst (λ (p : Phase). NearPhase y.taken p y.phase) (sym (ap (λ (z : State). z.phase) e)) near_same }

-- ---- one octet

end_same : (h : Bool) (c : Count) (at : ℕ) → c.seen + 1 ≤ cap → ended capped h c at ≡ ended free h c at
unfolding ended
end_same true c at k = refl
end_same false c at k = rw (cap-small (c.seen + 1) k)

come-same : (h : Bool) (n : ℕ) (c : Count) (at : ℕ) → c.seen + 1 ≤ cap → coming capped h n c at ≡ coming free h n c at
unfolding coming
come-same h n c at k = ap (pick (ltb 0 n) (state (filling h n) c at)) (end_same h c at k)

come-more : (keep : ℕ → ℕ) (h : Bool) (n : ℕ) (c : Count) (at : ℕ) → 0 < n → coming keep h n c at ≡ state (filling h n) c at
unfolding coming
come-more keep h n c at k = picked _ _ (lt-ltb 0 n k)

-- more octets are to come than the text has
near-come : (h : Bool) (m n : ℕ) (c : Count) (at : ℕ) → 0 < m → m ≤ n → cap ≤ m + at → Near (coming capped h m c at) (coming free h n c at)
near-come h m n c at z k l = rw (come-more capped h m c at z, come-more free h n c at (omega arith)) (record { same-tally = refl; same_taken = refl; phases = near-filling l k })

module _ (c : Count) (at b : ℕ) (o : c.opened ≤ at) (v : c.seen ≤ at) (k : at < max_source) where
  -- the colon, or a digit
  near-number : (h : Bool) (m n : ℕ) → ltb 0 m ≡ ltb 0 n → capped (m * 10 + (b - 48)) ≡ capped (n * 10 + (b - 48)) → Near (coming capped h m c (at + 1)) (coming free h n c (at + 1)) → Near (step_at capped (counting h m) c at b) (step_at free (counting h n) c at b)
  unfolding step_at
  near-number h m n z e w =
      rw (cap-small (at + 1) (omega arith), z, e)
      (by_bool (eqb b 58) (λ t. rw t w)
      (λ t. rw t (by_bool (both (ltb 0 n) (is_digit b)) (λ u. rw u (grown (n * 10 + (b - 48)))) (λ u. rw u (near-eq refl)))))
    where
      grown : (n : ℕ) → Near (state (counting h (capped n)) c (at + 1)) (state (counting h n) c (at + 1))
      grown n =
          by_le n cap
          (λ l. near-eq (rw (cap-small n l)))
          (λ l. rw (cap-large n l) (record { same-tally = refl; same_taken = refl; phases = near-counting {n = n} (omega arith) }))

  near_step : {p q : Phase} → NearPhase at p q → Near (step_at capped p c at b) (step_at free q c at b)
  unfolding step_at capped
  near_step (near_same {p = between}) = near-eq (rw (cap-small (at + 1) (omega arith), cap-small (c.opened + 1) (omega arith), cap-small (c.seen + 1) (omega arith)))
  near_step (near_same {p = sizing h}) = near-eq (rw (cap-small (at + 1) (omega arith)))
  near_step (near_same {p = counting h n}) = near-number h n n refl refl (near-eq (come-same h n c (at + 1) (omega arith)))
  near_step (near_same {p = filling h n}) = near-eq (rw (cap-small (at + 1) (omega arith)) (come-same h (n - 1) c (at + 1) (omega arith)))
  near_step (near_same {p = bracket}) = near-eq (rw (cap-small (at + 1) (omega arith)))
  near_step (near_same {p = dead}) = near-eq refl
  near_step (near-counting {h} {n} l) = near-number h cap n (sym (lt-ltb 0 n (omega arith))) (omega arith) (near-come h cap n c (at + 1) (omega arith) l (omega arith))
  near_step (near-filling {h} {m} {n} l e) = rw (cap-small (at + 1) (omega arith)) (near-come h (m - 1) (n - 1) c (at + 1) (omega arith) (omega arith) (omega arith))

-- ---- no count is over what was taken

few-end : (h : Bool) (c : Count) (at : ℕ) → c.opened ≤ at → c.seen ≤ at → Few (ended free h c (at + 1))
unfolding Few ended
few-end true c at o v = (omega arith, omega arith)
few-end false c at o v = (omega arith, omega arith)

few-come : (h : Bool) (n : ℕ) (c : Count) (at : ℕ) → c.opened ≤ at → c.seen ≤ at → Few (coming free h n c (at + 1))
unfolding Few coming
few-come h n c at o v = by_bool (ltb 0 n) (λ t. rw t (omega arith, omega arith)) (λ t. rw t (few-end h c at o v))

few-step : (p : Phase) (c : Count) (at b : ℕ) → c.opened ≤ at → c.seen ≤ at → Few (step_at free p c at b)
unfolding Few step_at
few-step between c at b o v =
    by_bool (shut c) (λ t. rw t (o, v))
    (λ t. rw t (by_bool (eqb b 40) (λ u. rw u (omega arith, omega arith))
    (λ u. rw u (by_bool (eqb b 41) (λ w. rw w (by_bool (eqb c.opened 0) (λ y. rw y (o, v)) (λ y. rw y (omega arith, omega arith))))
    (λ w. rw w (by_bool (eqb b 91) (λ y. rw y (omega arith, omega arith))
    (λ y. rw y (by_bool (is_digit b) (λ z. rw z (omega arith, omega arith)) (λ z. rw z (o, v))))))))))
few-step (sizing h) c at b o v = by_bool (is_digit b) (λ z. rw z (omega arith, omega arith)) (λ z. rw z (o, v))
few-step (counting h n) c at b o v =
    by_bool (eqb b 58) (λ u. rw u (few-come h n c at o v))
    (λ u. rw u (by_bool (both (ltb 0 n) (is_digit b)) (λ z. rw z (omega arith, omega arith)) (λ z. rw z (o, v))))
few-step (filling h n) c at b o v = few-come h (n - 1) c at o v
few-step bracket c at b o v = by_bool (eqb b 93) (λ z. rw z (omega arith, omega arith)) (λ z. rw z (o, v))
few-step dead c at b o v = (o, v)

-- ---- all octets

near-one : (x y : State) (b : ℕ) → Near x y → Few y → y.taken < max_source → Near (step capped x b) (step free y b)
unfolding Few
near-one x y b n f k = rw (n.same-tally, n.same_taken) (near_step y.tally y.taken b f.0 f.1 k n.phases)

near-run : (s : List ℕ) (x y : State) → Near x y → Few y → y.taken + length s ≤ max_source → Near (run capped x s) (run free y s)
unfolding run Few
near-run [] x y n f k = n
near-run (b ∷ s) x y n f k =
    near-run s (step capped x b) (step free y b) (near-one x y b n f (omega arith)) (few-step y.phase y.tally y.taken b f.0 f.1) (omega (arith, step-taken y.phase y.tally y.taken b))

capped-near : (s : List ℕ) → length s ≤ max_source → Near (run capped start s) (run free start s)
unfolding Few
capped-near s h = near-run s start start (near-eq refl) (omega arith, omega arith) (omega arith)

-- ---- what the state says is the same

near-rests : {at : ℕ} {p q : Phase} → NearPhase at p q → rests p ≡ rests q
unfolding rests
near-rests near_same = refl
near-rests (near-counting l) = refl
near-rests (near-filling l e) = refl

module _ (s : List ℕ) (h : length s ≤ max_source) where
  pub capped-taken : (run capped start s).taken ≡ (run free start s).taken
  capped-taken = (capped-near s h).same_taken

  pub capped-whole : whole (run capped start s) ≡ whole (run free start s)
  capped-whole = ap₂ both (near-rests (capped-near s h).phases) (ap shut (capped-near s h).same-tally)

  pub capped-extent : extent (run capped start s) ≡ extent (run free start s)
  unfolding extent
  capped-extent = rw (capped-whole, (capped-near s h).same-tally, (capped-near s h).same_taken)
