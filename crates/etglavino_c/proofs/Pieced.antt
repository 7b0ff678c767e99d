-- A piece and the end, handed out as numbers.
use Prim.Native.Nat.{ℕ, ◌≤◌, ◌<◌}
use native.Mathlib.Omega.{arith}
use mathlib.Core.Path.{◌≡◌, refl, ap, ◌∙◌, subst, sym}
use mathlib.Core.List.{List, [], ◌++◌}
use lib.ListN.{length}
use Rattle.model.specs.Answers.{unchanged, reading}
use Rattle.model.specs.Limits.{refusal_not_own}
use Rattle.model.proofs.Numbered.{reading-numbered}
use Rattle.answers.specs.Cases.{Reading}
use Rattle.pieces.specs.Coded.{state_in, state_numbers}
use Rattle.pieces.specs.Ending.{in_sheet, End}
use Rattle.pieces.specs.Feeding.{state_after, InTurn, Piece}
use Rattle.pieces.proofs.Coding.{comes_back}
use Rattle.pieces.proofs.Turns.{turn-start}
use Rattle.pieces.specs.declared.state.State.{State}
use Rattle.answers.proofs.Judged.{ok-err, ok-equal, err-equal}
use Rattle.answers.specs.Refusals.{number_of}
use Rattle.answers.specs.declared.refusal.Refusal.{Refusal}
use Rattle.std.specs.Prelude.{Ok, Err}
use Rattle.pieces.specs.declared.state.Fed.{Fed}
use Rattle.etglavino_c.specs.Pointers.{HandsPlaced}
use Rattle.etglavino_c.specs.Piecing.{PieceAt, piece_at, PieceOut, EndOut}

pub start-handed : (room lent : ℕ) (x : State) → x ≡ state_after room lent [] → (s : List ℕ) → s ≡ state_numbers x → s ≡ state_numbers (state_after room lent [])
start-handed room lent x e s f = f ∙ ap state_numbers e

module _ (before piece sheet : List ℕ) (lent : ℕ) (x : State) (e : x ≡ state_in before) (after : List ℕ) (r : Fed) (q : Piece x piece sheet lent after r) where
  p : Piece (state_in before) piece sheet lent after r
  p = subst (λ (y : State). Piece y piece sheet lent after r) e q

  -- the numbers of the state stay
  pub piece-refused : (f : Refusal) → r.taken ≡ Err f → PieceOut before piece sheet lent after before (number_of f) 0
  piece-refused f z =
      record {
        resized = λ y. let g = p.resized y in λ i. piece_at before (g.1 i) (number_of (err-equal (sym z ∙ ap (λ (w : Fed). w.taken) g.0) i)) 0;
        goes_on = λ first s t. ok-err (sym (ap (λ (w : Fed). w.taken) (p.goes_on first s t).0) ∙ z);
      }

  pub piece-taken : (n : ℕ) → r.taken ≡ Ok n → (y : List ℕ) → y ≡ state_numbers r.state → PieceOut before piece sheet lent after y 0 n
  piece-taken n z y f =
      record {
        resized = λ y. ok-err (sym z ∙ ap (λ (w : Fed). w.taken) (p.resized y).0);
        goes_on = λ first s t.
            let g = p.goes_on first s t in
            λ i. piece_at ((f ∙ ap (λ (w : Fed). state_numbers w.state) g.0) i) (g.1 i) 0 (ok-equal (sym z ∙ ap (λ (w : Fed). w.taken) g.0) i);
      }

module _ (state sheet : List ℕ) (lent : ℕ) (table table' : List ℕ) (r : Reading) (n p len count : ℕ) (h : HandsPlaced r n len count p) where
  pub ended-handed : End (state_in state) sheet lent table table' r → EndOut (state_in state) sheet lent table table' n p len count
  ended-handed e =
      record {
        resized = λ z. h.is sheet table' (unchanged refusal_not_own sheet table) (e.resized z) refl;
        ends = λ first s t. h.is sheet table' (in_sheet sheet (reading 1 s first table)) (e.ends first s t) (reading-numbered 1 s first table);
      }

  pub end-handed : (x : State) → x ≡ state_in state → End x sheet lent table table' r → EndOut (state_in state) sheet lent table table' n p len count
  end-handed x f e = ended-handed (subst (λ (y : State). End y sheet lent table table' r) f e)

-- ---- S 13.6, states given in turn: the numbers that a start and a piece hand out are such states

pub start-in-turn : (first : List ℕ) (lent : ℕ) (state : List ℕ) → state ≡ state_numbers (state_after (length first) lent []) → InTurn first lent [] (state_in state) first
start-in-turn first lent state e = turn-start first lent (state_in state) (ap state_in e ∙ comes_back (state_after (length first) lent []))

pub piece-in-turn : {first s before piece sheet sheet' after : List ℕ} {lent n octets : ℕ} → InTurn first lent s (state_in before) sheet → PieceOut before piece sheet lent sheet' after n octets
    → InTurn first lent (s ++ piece) (state_in after) sheet'
piece-in-turn {first} {s} {piece = piece} {lent = lent} t p =
    let e = p.goes_on first s t in
    record { x-is = ap (λ (y : PieceAt). state_in y.state) e ∙ comes_back (state_after (length first) lent (s ++ piece)); sheet-is = ap (λ (y : PieceAt). y.sheet) e }
