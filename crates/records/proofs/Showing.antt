-- Places in a sheet by its records, and what is shown there.
use mathlib.Core.Path.{◌≡◌, sym, ap, ◌∙◌, subst}
use mathlib.Core.Bool.{Bool, true, false}
use mathlib.Core.Option.{Option}
use mathlib.Core.List.{List, []}
use Prim.Native.Nat.{ℕ, ◌+◌, ◌-◌, ◌≤◌}
use native.Mathlib.Omega.{arith}
use lib.ListN.{length, take, drop}
use Rattle.std.specs.Borrow.{Bor}
use Rattle.model.specs.Answers.{Part, octets_at, hint_part, data_part, hint_shown, data_shown, shown_or}
use Rattle.answers.specs.Cases.{placed}
use Rattle.answers.specs.Shown.{Shows, shown_at}
use Rattle.answers.specs.Cases.{Place}
use Rattle.answers.specs.declared.Part as told
use Rattle.std.specs.Prelude.{Some, None}
use Rattle.lookup.proofs.Shown.{hint-ordered, hint-ended, data-ordered, data-ended}
use Rattle.records.specs.declared.Record.{Record}
use Rattle.records.specs.Numbers.{numbers, part_of}
use Rattle.records.specs.Places.{Inside}
use Rattle.lookup.specs.Noted.{Owning, ShowsPlace}

-- by the notes of a sheet that has these records
pub place-noted : (c : List ℕ) (len : ℕ) (ys : List Record) (count node : ℕ) (h : Bool) (notes : List ℕ) (own : Bool) (p : Place)
    → Owning c len (numbers ys) count notes own → ShowsPlace notes count node own h p → placed p ≡ part_of h c len (numbers ys) count node
unfolding part_of
place-noted c len ys count node h notes own p o s = s.is c len (numbers ys) o

-- ---- in a sheet

module _ (p : Place) (c : List ℕ) (len : ℕ) (t : List ℕ) (count node : ℕ) where
  pub hint-in : placed p ≡ hint_part c len t count node → Inside p (length c)
  hint-in w = record { ordered = λ x q. hint-ordered c len t count node p w x q; ended = λ x q. hint-ended c len t count node p w x q }

  pub data-in : placed p ≡ data_part c len t count node → Inside p (length c)
  data-in w = record { ordered = λ x q. data-ordered c len t count node p w x q; ended = λ x q. data-ended c len t count node p w x q }

module _ (p : Place) (found : told.Part) (q : p ≡ Some found) where
  pub place-ordered : (n : ℕ) → Inside p n → found.start ≤ found.end
  place-ordered n i = i.ordered found q

  pub place-ended : (n : ℕ) → Inside p n → found.end ≤ n
  place-ended n i = i.ended found q

  pub place-shown : (c d : List ℕ) → take (found.end - found.start) (drop found.start c) ≡ shown_or (placed p) c d
  unfolding placed shown_or octets_at
  place-shown c d = sym (ap (λ (x : Place). shown_or (placed x) c d) q)

  pub place_at : (x y : ℕ × ℕ) → (x.0, found.start + x.1) ≡ shown_at (placed p) x y
  unfolding placed shown_at
  place_at x y = sym (ap (λ (p : Place). shown_at (placed p) x y) q)

pub place_none : (p : Place) (c d : List ℕ) → p ≡ None → d ≡ shown_or (placed p) c d
unfolding placed shown_or
place_none p c d q = sym (ap (λ (x : Place). shown_or (placed x) c d) q)

pub place-none-at : (p : Place) (x y : ℕ × ℕ) → p ≡ None → y ≡ shown_at (placed p) x y
unfolding placed shown_at
place-none-at p x y q = sym (ap (λ (p : Place). shown_at (placed p) x y) q)

pub place-front-at : (p : Place) (x : ℕ × ℕ) → p ≡ None → (x.0, 0 + x.1) ≡ shown_at (placed p) x x
place-front-at p x q = let e : 0 + x.1 ≡ x.1 = omega arith in (λ i. (x.0, e i)) ∙ place-none-at p x x q

-- ---- what a place shows
module _ (p : Place) (c : List ℕ) (len : ℕ) (t : List ℕ) (count node : ℕ) where
  pub hint-placed : placed p ≡ part_of true c len t count node → placed p ≡ hint_part c len t count node
  unfolding part_of
  hint-placed e = e

  pub data-placed : placed p ≡ part_of false c len t count node → placed p ≡ data_part c len t count node
  unfolding part_of
  data-placed e = e

  module _ (r : Bor (List ℕ)) (x y : ℕ × ℕ) where
    pub shows-hint : (d : List ℕ) → placed p ≡ part_of true c len t count node → Shows r (shown_or (placed p) c d) (shown_at (placed p) x y)
        → Shows r (hint_shown c len t count node d) (shown_at (hint_part c len t count node) x y)
    unfolding hint_shown
    shows-hint d e s = subst (λ (o : Option Part). Shows r (shown_or o c d) (shown_at o x y)) (hint-placed e) s

    pub shows-data : placed p ≡ part_of false c len t count node → Shows r (shown_or (placed p) c []) (shown_at (placed p) x y)
        → Shows r (data_shown c len t count node) (shown_at (data_part c len t count node) x y)
    unfolding data_shown
    shows-data e s = subst (λ (o : Option Part). Shows r (shown_or o c []) (shown_at o x y)) (data-placed e) s
