-- A piece stored and followed, whatever the state is.
use Prim.Native.Nat.{ℕ, ◌+◌, ◌-◌, ◌≤◌, ◌<◌, min}
use native.Mathlib.Omega.{arith}
use mathlib.Core.Path.{◌≡◌, sym, ap, ◌∙◌}
use mathlib.Core.List.{List, [], ◌++◌, append-nil}
use lib.ListN.{length, take, drop}
use lib.Seq.{sets, take_all, take-append-le, take-append-add}
use borrow.Author.Tests.{le-leb, lt-leb}
use Rattle.base.proofs.Cases.{by_le, picked, unpicked}
use Rattle.base.proofs.Lists.{front_length}
use Rattle.scan.specs.Writes.{Wrote}
use Rattle.model.specs.Automaton as automaton
use Rattle.model.specs.Automaton.{start, run}
use Rattle.pieces.specs.Capped.{cap, capped}
use Rattle.pieces.specs.Tracks.{meant, coded}
use Rattle.pieces.specs.Feeding.{space, track_after, state_after, stored_by, total, caught_up, gone_on}
use Rattle.pieces.specs.declared.state.State.{State}
use Rattle.pieces.specs.declared.track.Track.{Track}
use Rattle.pieces.proofs.Following.{coded-meant}

-- the front of two lists
pub take-both : {A : Type 0} (n : ℕ) (s p : List A) → take n s ++ take (n - min (length s) n) p ≡ take n (s ++ p)
take-both n s p =
    by_le (length s) n
    (λ h.
    let e : n - min (length s) n ≡ n - length s = omega arith in
    let f : length s + (n - length s) ≡ n = omega arith in
    (λ i. take_all n s h i ++ take (e i) p) ∙ sym (take-append-add s p (n - length s)) ∙ ap (λ (m : ℕ). take m (s ++ p)) f)
    (λ h.
    let e : n - min (length s) n ≡ 0 = omega arith in
    ap (λ (m : ℕ). take n s ++ take m p) e ∙ append-nil (take n s) ∙ sym (take-append-le n s p (omega arith)))

-- at most as many as there are
pub take-few : {A : Type 0} (k : ℕ) (l : List A) → take (min k (length l)) l ≡ take k l
take-few k l =
    by_le (length l) k
    (λ h. let e : min k (length l) ≡ length l = omega arith in ap (λ (m : ℕ). take m l) e ∙ take_all (length l) l (omega arith) ∙ sym (take_all k l h))
    (λ h. let e : min k (length l) ≡ k = omega arith in ap (λ (m : ℕ). take m l) e)

pub front-fed : (l : List ℕ) (fed room : ℕ) → room ≡ space (length l) → fed ≤ room → fed ≡ length (take fed l)
front-fed l fed room e h = front_length l fed (omega (arith, e))

pub front-few : (l : List ℕ) (k n : ℕ) → n ≡ min k (length l) → n ≡ length (take n l)
front-few l k n e = front_length l n (omega (arith, e))

module _ (piece before : List ℕ) (at : ℕ) where
  pub store-some : (room : ℕ) → room ≡ space (length before) → (n : ℕ) → n ≡ min (length piece) (room - at) → (after : List ℕ) (next : ℕ) → Wrote (take n (drop 0 piece)) at before after next → after ≡ stored_by at piece before
  unfolding stored_by
  store-some room e n f after next w =
      let g : n ≡ min (space (length before) - at) (length piece) = omega (arith, e, f) in
      w.same ∙ ap (sets before at) (ap (λ (m : ℕ). take m piece) g ∙ take-few (space (length before) - at) piece)

  pub store-none : (room : ℕ) → room ≡ space (length before) → room ≤ at → before ≡ stored_by at piece before
  unfolding stored_by
  store-none room e h = let z : space (length before) - at ≡ 0 = omega (arith, e) in ap (λ (m : ℕ). sets before at (take m piece)) (sym z)

module _ (track : Track) (fed : ℕ) (sheet : List ℕ) where
  pub catch-up : (room : ℕ) → room ≡ space (length sheet) → fed ≤ room → (x : Track) → meant x ≡ start → (r : Track) → meant r ≡ run capped (meant x) (take fed sheet) → r ≡ caught_up track fed sheet
  unfolding caught_up
  catch-up room e h x f r g =
      sym (coded-meant r)
      ∙ ap coded (g ∙ ap (λ (y : automaton.State). run capped y (take fed sheet)) f)
      ∙ sym (picked _ _ (le-leb fed (space (length sheet)) (omega (arith, e))))

  pub caught : (room : ℕ) → room ≡ space (length sheet) → room < fed → track ≡ caught_up track fed sheet
  unfolding caught_up
  caught room e h = sym (unpicked _ _ (lt-leb fed (space (length sheet)) (omega (arith, e))))

  module _ (piece : List ℕ) (sum : ℕ) (q : sum ≡ total fed (length piece)) (room : ℕ) (e : room ≡ space (length sheet)) where
    pub stay-inside : sum ≤ room → track ≡ gone_on track fed piece sheet
    unfolding gone_on
    stay-inside h = sym (picked _ _ (le-leb (total fed (length piece)) (space (length sheet)) (omega (arith, e, q))))

    pub go-past : room < sum → (x : Track) → x ≡ caught_up track fed sheet → (l n : ℕ) → l ≡ cap - fed → n ≡ min l (length piece) → (r : Track) → meant r ≡ run capped (meant x) (take n piece) → r ≡ gone_on track fed piece sheet
    unfolding gone_on
    go-past h x f l n g k r m =
        let z : n ≡ min (cap - fed) (length piece) = omega (arith, g, k) in
        sym (coded-meant r)
        ∙ ap coded (m ∙ (λ i. run capped (meant (f i)) ((ap (λ (j : ℕ). take j piece) z ∙ take-few (cap - fed) piece) i)))
        ∙ sym (unpicked _ _ (lt-leb (total fed (length piece)) (space (length sheet)) (omega (arith, e, q))))

pub started : (room lent : ℕ) (x : Track) → meant x ≡ start → ◌≡◌ {A = State} (record { track = x; fed = 0; room = room; lent = lent }) (state_after room lent [])
unfolding state_after track_after
started room lent x e =
    let z : min 0 cap ≡ 0 = omega arith in
    λ i. record {
      track = (sym (coded-meant x) ∙ ap coded e ∙ sym (picked (coded start) (coded (run capped start (take cap []))) (le-leb 0 (space room) (omega arith)))) i;
      fed = sym z i;
      room = room;
      lent = lent;
    }
