-- A place is told with refusal 3, and with no other answer.
use Prim.Native.Nat.{ℕ, zero, suc}
use mathlib.Core.Path.{◌≡◌, refl, ap, ◌∙◌}
use mathlib.Core.Bool.{Bool, false}
use mathlib.Core.Option.{some}
use mathlib.Core.List.{List, [], ◌∷◌}
use lib.Dec.{eqb}
use Rattle.base.specs.Choice.{is_none}
use Rattle.base.proofs.Cases.{by_bool, unpicked}
use Rattle.model.specs.Answers.{Check, when, verdict, judged, the, room_checks, text_checks, Outcome, unchanged, place_of, telling, filled, reading_checks, reading}
use Rattle.model.specs.Decode.{decode}
use Rattle.model.specs.Limits.{refusal_syntax}
use Rattle.model.specs.Tree.{Tree}
use Rattle.model.proofs.Judging.{judged-holds}

pub telling-same : (p : ℕ) (o : Outcome) → eqb o.number refusal_syntax ≡ false → telling p o ≡ o
unfolding telling
telling-same p o e =
    λ i. record { accepted = o.accepted; number = o.number; place = unpicked p o.place e i; octets = o.octets; count = o.count; canonical = o.canonical; table = o.table }

-- checks none of which gives 3
pub record Other (cs : List Check) : Type 0 where
  pub is : eqb (verdict cs) refusal_syntax ≡ false

pub other_none : Other []
unfolding verdict
other_none = record { is = refl }

-- another row, whether it applies or not
pub other_row : {n : ℕ} {t : Bool} {cs : List Check} → eqb n refusal_syntax ≡ false → Other cs → Other (when n t ∷ cs)
unfolding verdict
other_row {n} {t} {cs} e f = record { is = by_bool t (λ u. rw u e) (λ u. rw u f.is) }

-- row 3 where it doesn't apply
pub other-past : {t : Bool} {cs : List Check} → t ≡ false → Other cs → Other (when refusal_syntax t ∷ cs)
unfolding verdict
other-past {t} {cs} e f = record { is = rw e f.is }

pub rooms-other : (t : Tree) (canonical table : List ℕ) → Other (room_checks t canonical table)
unfolding room_checks
rooms-other t canonical table = other_row refl (other_row refl (other_row refl other_none))

pub telling-judged : (p : ℕ) (cs : List Check) (accepted : Outcome) (canonical table : List ℕ) → Other cs → eqb accepted.number refusal_syntax ≡ false
    → telling p (judged cs accepted (λ n. unchanged n canonical table)) ≡ judged cs accepted (λ n. unchanged n canonical table)
unfolding judged
telling-judged p cs accepted canonical table e f = by (verdict cs) e.is
  where
    by : (v : ℕ) → eqb v refusal_syntax ≡ false
        → telling p (elim v [ zero ↦ accepted | suc n ↦ unchanged (suc n) canonical table ]) ≡ elim v [ zero ↦ accepted | suc n ↦ unchanged (suc n) canonical table ]
    by zero g = telling-same p accepted f
    by (suc n) g = telling-same p (unchanged (suc n) canonical table) g

-- a text that is in its form's language has no place
pub reading-unplaced : (form : ℕ) (text canonical table : List ℕ) (t : Tree) → decode form text ≡ some t → (reading form text canonical table).place ≡ 0
unfolding reading reading_checks text_checks filled is_none
reading-unplaced form text canonical table t e =
    ap (λ (o : Outcome). o.place)
    (telling-judged (place_of form text) (reading_checks form text canonical table) (filled (the (decode form text)) 0 0 canonical table) canonical table
    (other_row refl (other_row refl (other-past (ap is_none e) (rooms-other (the (decode form text)) canonical table)))) refl)
    ∙ judged-holds (reading_checks form text canonical table) (filled (the (decode form text)) 0 0 canonical table) (λ n. unchanged n canonical table) (λ (o : Outcome). o.place ≡ 0) refl (λ n. refl)
