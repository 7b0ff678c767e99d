-- An answer's meaning settles the answer: two answers that mean the same are the same, so that an acceptance and a refusal never are.
use Prim.Native.Nat.{ℕ}
use native.Mathlib.Omega.{arith}
use mathlib.Core.Path.{◌≡◌, sym, ap, ap₂}
use mathlib.Core.Bool.{true, false}
use mathlib.Core.List.{List}
use Rattle.spools.specs.Adding.{Start, Added as Whole}
use Rattle.spools.specs.Spool.{Opening as Shown}
use Rattle.answers.proofs.Injective.{refusal-injective}
use Rattle.std.specs.Prelude.{Ok, Err}
use Rattle.answers.specs.declared.refusal.Refusal.{Refusal}
use Rattle.spool.specs.Cases.{Opening, opened, state_of, Starting, start_of, Added, added_of}
use Rattle.spool.specs.declared.Adding.{Adding}

apart : {G : Type 0} → true ≡ false → G
apart e = let z : ◌≡◌ {A = ℕ} 0 1 = cc in absurd (omega arith)

pub opened-injective : (area : List ℕ) (r s : Opening) → opened r area ≡ opened s area → r ≡ s
unfolding opened
opened-injective area (Ok a) (Ok b) e = λ i. Ok (record { count = (e i).count; stands = record { start = (e i).stands.start; end = (e i).stands.end } })
opened-injective area (Ok a) (Err g) e = apart (ap (λ (o : Shown). o.accepted) e)
opened-injective area (Err f) (Ok b) e = apart (sym (ap (λ (o : Shown). o.accepted) e))
opened-injective area (Err f) (Err g) e = ap (λ (f : Refusal). Err f) (refusal-injective f g (ap (λ (o : Shown). o.number) e) (ap (λ (o : Shown). o.place) e))

pub state-injective : (a b : Adding) → state_of a ≡ state_of b → a ≡ b
state-injective a b e = λ i. record { at = (e i).at; octets = (e i).octets; made = (e i).made; done = (e i).done }

pub start-injective : (r s : Starting) → start_of r ≡ start_of s → r ≡ s
unfolding start_of
start-injective (Ok a) (Ok b) e = ap (λ (a : Adding). Ok a) (state-injective a b (ap (λ (o : Start). o.state) e))
start-injective (Ok a) (Err g) e = apart (ap (λ (o : Start). o.accepted) e)
start-injective (Err f) (Ok b) e = apart (sym (ap (λ (o : Start). o.accepted) e))
start-injective (Err a) (Err b) e =
    ap₂ (λ (f : Refusal) (s : Adding). Err (record { refusal = f; state = s }))
    (refusal-injective a.refusal b.refusal (ap (λ (o : Start). o.number) e) (ap (λ (o : Start). o.place) e))
    (state-injective a.state b.state (ap (λ (o : Start). o.state) e))

pub added-injective : (x y : List ℕ) (r s : Added) → added_of r x ≡ added_of s y → r ≡ s
unfolding added_of
added-injective x y (Ok u) (Ok v) e = λ i. Ok u
added-injective x y (Ok u) (Err g) e = apart (ap (λ (o : Whole). o.accepted) e)
added-injective x y (Err f) (Ok v) e = apart (sym (ap (λ (o : Whole). o.accepted) e))
added-injective x y (Err f) (Err g) e = ap (λ (f : Refusal). Err f) (refusal-injective f g (ap (λ (o : Whole). o.number) e) (ap (λ (o : Whole). o.place) e))
