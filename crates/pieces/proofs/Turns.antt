-- A piece fed in turn: the state and the sheet that s led to become those that s and the piece lead to.
use Prim.Native.Nat.{ℕ, ◌+◌, ◌-◌, ◌≤◌, ◌<◌, min}
use native.Mathlib.Omega.{arith}
use mathlib.Core.Path.{◌≡◌, refl, sym, ap, ◌∙◌}
use mathlib.Core.List.{List, [], ◌++◌, append-nil}
use lib.ListN.{length, take, drop, length-append, length-take, length-drop}
use lib.Seq.{sets, sets-eq, take_all, take_at, drop-append-add, drop-drop}
use borrow.Author.Tests.{le-leb, lt-leb, eq-eqb}
use Rattle.base.proofs.Cases.{by_le, picked, unpicked, true-both, differ}
use Rattle.model.specs.Automaton as automaton
use Rattle.model.specs.Automaton.{start, run}
use Rattle.automaton.proofs.Runs.{run-append}
use Rattle.pieces.specs.Capped.{cap, capped}
use Rattle.pieces.specs.Tracks.{meant, coded}
use Rattle.pieces.specs.Feeding.{space, kept, sheet_after, track_after, state_after, InTurn, same_sizes, sent_back, taken, Piece, Fill, fill, advanced_to, stored_by, total, caught_up, gone_on, fed_by}
use Rattle.pieces.specs.declared.state.State.{State}
use Rattle.pieces.specs.declared.state.Fed.{Fed}
use Rattle.pieces.specs.declared.track.Track.{Track}
use Rattle.pieces.proofs.Following.{meant-coded}
use Rattle.pieces.proofs.Storing.{take-both}

-- ---- the sheet

kept-length : (first s : List ℕ) → length (kept first s) ≡ min (space (length first)) (length s)
unfolding kept
kept-length first s = length-take (space (length first)) s

pub sheet-length : (first s : List ℕ) → length (sheet_after first s) ≡ length first
unfolding sheet_after
sheet-length first s =
    omega (arith, length-append (kept first s) (drop (length (kept first s)) first), length-drop (length (kept first s)) first, kept-length first s)

-- octets behind those that stand at the front
sets_behind : (first k y : List ℕ) → length k + length y ≤ length first → sets (k ++ drop (length k) first) (length k) y ≡ (k ++ y) ++ drop (length (k ++ y)) first
sets_behind first k y h =
    let l : length k + length y ≤ length (k ++ drop (length k) first) = omega (arith, length-append k (drop (length k) first), length-drop (length k) first) in
    sets-eq y (k ++ drop (length k) first) (length k) l
    ∙ (λ i. take_at k (drop (length k) first) (length k) refl i ++ y ++ (drop-append-add k (drop (length k) first) (length y) ∙ drop-drop (length y) (length k) first ∙ ap (λ (n : ℕ). drop n first) (sym (length-append k y))) i)

-- where the sheet holds all of it
pub sheet-whole : (first s : List ℕ) → length s ≤ space (length first) → sheet_after first s ≡ s ++ drop (length s) first
unfolding sheet_after kept
sheet-whole first s h = ap (λ (k : List ℕ). k ++ drop (length k) first) (take_all (space (length first)) s h)

module _ (first s piece : List ℕ) where
  sheet-more : length s ≤ space (length first) → (at : ℕ) → at ≡ length s → stored_by at piece (sheet_after first s) ≡ sheet_after first (s ++ piece)
  unfolding stored_by sheet_after kept
  sheet-more h at e =
      let few : length (take (space (length first) - length s) piece) ≤ space (length first) - length s = omega (arith, length-take (space (length first) - length s) piece) in
      let room : space (length (sheet_after first s)) - at ≡ space (length first) - length s = omega (arith, e, sheet-length first s) in
      let cut : space (length first) - length s ≡ space (length first) - min (length s) (space (length first)) = omega arith in
      let all : take (space (length first)) s ≡ s = take_all (space (length first)) s h in
      (λ i. sets (sheet-whole first s h i) (e i) (take (room i) piece))
      ∙ sets_behind first s (take (space (length first) - length s) piece) (omega (arith, few))
      ∙ ap (λ (k : List ℕ). k ++ drop (length k) first)
      ((λ i. sym all i ++ take (cut i) piece) ∙ take-both (space (length first)) s piece)

  sheet-full : space (length first) < length s → (at : ℕ) → space (length first) ≤ at → stored_by at piece (sheet_after first s) ≡ sheet_after first (s ++ piece)
  unfolding stored_by sheet_after kept
  sheet-full h at k =
      let room : space (length (sheet_after first s)) - at ≡ 0 = omega (arith, sheet-length first s) in
      let cut : 0 ≡ space (length first) - min (length s) (space (length first)) = omega arith in
      (λ i. sets (sheet_after first s) at (take (room i) piece))
      ∙ ap (λ (z : List ℕ). z ++ drop (length z) first) (sym (append-nil (take (space (length first)) s)) ∙ (λ i. take (space (length first)) s ++ take (cut i) piece) ∙ take-both (space (length first)) s piece)

  pub sheet-on : stored_by (min (length s) cap) piece (sheet_after first s) ≡ sheet_after first (s ++ piece)
  sheet-on =
      by_le (length s) (space (length first))
      (λ h. sheet-more h (min (length s) cap) (omega arith))
      (λ h. sheet-full h (min (length s) cap) (omega arith))

  -- ---- the track

  caught-on : meant (caught_up (track_after (length first) s) (min (length s) cap) (sheet_after first s)) ≡ run capped start (take cap s)
  unfolding caught_up track_after
  caught-on =
      by_le (length s) (space (length first))
      (λ h.
      let e : min (length s) cap ≡ length s = omega arith in
      ap meant (picked _ _ (le-leb (min (length s) cap) (space (length (sheet_after first s))) (omega (arith, sheet-length first s))))
      ∙ meant-coded _
      ∙ ap (run capped start) ((λ i. take (e i) (sheet-whole first s h i)) ∙ take_at s (drop (length s) first) (length s) refl ∙ sym (take_all cap s (omega arith))))
      (λ h.
      ap meant (unpicked _ _ (lt-leb (min (length s) cap) (space (length (sheet_after first s))) (omega (arith, sheet-length first s))) ∙ unpicked _ _ (lt-leb (length s) (space (length first)) h))
      ∙ meant-coded _)

  track-inside : length s + length piece ≤ space (length first) → gone_on (track_after (length first) s) (min (length s) cap) piece (sheet_after first s) ≡ track_after (length first) (s ++ piece)
  unfolding gone_on track_after
  track-inside h =
      picked _ _ (le-leb (total (min (length s) cap) (length piece)) (space (length (sheet_after first s))) (omega (arith, sheet-length first s)))
      ∙ picked _ _ (le-leb (length s) (space (length first)) (omega arith))
      ∙ sym (picked _ _ (le-leb (length (s ++ piece)) (space (length first)) (omega (arith, length-append s piece))))

  track-outside : space (length first) < length s + length piece → gone_on (track_after (length first) s) (min (length s) cap) piece (sheet_after first s) ≡ track_after (length first) (s ++ piece)
  unfolding gone_on track_after
  track-outside h =
      unpicked _ _ (lt-leb (total (min (length s) cap) (length piece)) (space (length (sheet_after first s))) (omega (arith, sheet-length first s)))
      ∙ ap coded
      (ap (λ (x : automaton.State). run capped x (take (cap - min (length s) cap) piece)) caught-on
      ∙ sym (run-append capped (take cap s) (take (cap - min (length s) cap) piece) start)
      ∙ ap (run capped start) (take-both cap s piece))
      ∙ sym (unpicked _ _ (lt-leb (length (s ++ piece)) (space (length first)) (omega (arith, length-append s piece))))

  pub track-on : gone_on (track_after (length first) s) (min (length s) cap) piece (sheet_after first s) ≡ track_after (length first) (s ++ piece)
  track-on = by_le (length s + length piece) (space (length first)) track-inside track-outside

  -- ---- both

  pub fed-on : (lent : ℕ) → fed_by (state_after (length first) lent s) piece (sheet_after first s) ≡ fill (state_after (length first) lent (s ++ piece)) (sheet_after first (s ++ piece))
  unfolding fed_by state_after
  fed-on lent =
      let e : total (min (length s) cap) (length piece) ≡ min (length (s ++ piece)) cap = omega (arith, length-append s piece) in
      λ i. fill (record { track = track-on i; fed = e i; room = length first; lent = lent }) (sheet-on i)

-- ---- a piece

module _ (x : State) (piece sheet : List ℕ) (lent : ℕ) where
  -- in turn, the sizes are the first ones
  turn-sizes : (first s : List ℕ) → InTurn first lent s x sheet → (length sheet ≡ x.room) × (lent ≡ x.lent)
  unfolding state_after
  turn-sizes first s t = (ap length t.sheet-is ∙ sheet-length first s ∙ sym (ap (λ (y : State). y.room) t.x-is), sym (ap (λ (y : State). y.lent) t.x-is))

  pub piece-room : (length sheet ≡ x.room → ⊥) → (r : Fed) → r ≡ sent_back x → Piece x piece sheet lent sheet r
  piece-room n r e = record { resized = λ z. (e, refl); goes_on = λ first s t. absurd (n (turn-sizes first s t).0) }

  pub piece-lent : (lent ≡ x.lent → ⊥) → (r : Fed) → r ≡ sent_back x → Piece x piece sheet lent sheet r
  piece-lent n r e = record { resized = λ z. (e, refl); goes_on = λ first s t. absurd (n (turn-sizes first s t).1) }

  pub piece-fed : length sheet ≡ x.room → lent ≡ x.lent → (track : Track) → track ≡ gone_on x.track x.fed piece sheet → (after : List ℕ) → after ≡ stored_by x.fed piece sheet → (n : ℕ) → n ≡ total x.fed (length piece)
      → Piece x piece sheet lent after (taken (advanced_to x track n))
  unfolding same_sizes fed_by
  piece-fed e f track g after k n q =
      record {
        resized = λ z. differ (true-both (eq-eqb _ _ e) (eq-eqb _ _ f)) z;
        goes_on = λ first s t.
            let u : fill (advanced_to x track n) after ≡ fill (state_after (length first) lent (s ++ piece)) (sheet_after first (s ++ piece)) =
            (λ i. fill (advanced_to x (g i) (q i)) (k i)) ∙ (λ i. fed_by (t.x-is i) piece (t.sheet-is i)) ∙ fed-on first s piece lent in
            (ap (λ (w : Fill). taken w.state) u, ap (λ (w : Fill). w.sheet) u);
      }

-- ---- turn by turn

pub turn-start : (first : List ℕ) (lent : ℕ) (x : State) → x ≡ state_after (length first) lent [] → InTurn first lent [] x first
unfolding sheet_after kept
turn-start first lent x e = record { x-is = e; sheet-is = sym (ap (λ (k : List ℕ). k ++ drop (length k) first) (take_all (space (length first)) [] (omega arith))) }

pub turn-piece : {first : List ℕ} {lent : ℕ} {s : List ℕ} {x : State} {sheet piece after : List ℕ} {r : Fed} → InTurn first lent s x sheet → Piece x piece sheet lent after r → InTurn first lent (s ++ piece) r.state after
turn-piece {first} {s = s} t p = record { x-is = ap (λ (y : Fed). y.state) (p.goes_on first s t).0; sheet-is = (p.goes_on first s t).1 }
