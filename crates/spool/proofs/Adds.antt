-- A whole addition, by its start.
use Prim.Native.Nat.{ℕ, zero, suc, ◌+◌, ◌-◌}
use native.Mathlib.Omega.{arith}
use mathlib.Core.Path.{◌≡◌, refl, sym, ap, ap₂, ◌∙◌}
use mathlib.Core.Bool.{true, false}
use mathlib.Core.List.{List, ◌++◌}
use lib.ListN.{length, length-append, take}
use lib.Seq.{length-take-le}
use Rattle.base.proofs.Cases.{differ}
use Rattle.spools.specs.Adding.{Start, started, starting, stored, stores, adding}
use Rattle.spools.specs.Groups.{groups}
use Rattle.spools.specs.Rules.{Addable}
use Rattle.spools.specs.Spool.{entry}
use Rattle.spools.proofs.Judged.{sheet-of-lent, sheet-of-small, accepted-0, start-of, start-refused, adding-of, adding-refused}
use Rattle.spools.proofs.Opened.{spool-sound}
use Rattle.spool.specs.Cases.{state_of, Starting, start_of, added_of}
use Rattle.spool.specs.Whole.{Room}
use Rattle.spool.specs.declared.Adding.{Adding}
use Rattle.spool.specs.declared.Unstarted.{Unstarted}
use Rattle.std.specs.Prelude.{⊤, Ok, Err}
use Rattle.answers.specs.Refusals.{number_of, place_in}
use Rattle.answers.specs.declared.refusal.Refusal.{Refusal}

module _ (area sheet : List ℕ) (len : ℕ) (r : Starting) (w : start_of r ≡ starting area sheet len) where
  module _ (s : Adding) (e : r ≡ Ok s) where
    begun : starting area sheet len ≡ started (state_of s)
    unfolding start_of
    begun = sym w ∙ ap start_of e

    addable : Addable area sheet len
    addable = (accepted-0 area sheet len).0 (ap (λ (x : Start). x.number) begun)

    -- where the old entries end
    at-is : s.at ≡ length area - length addable.old.rest
    at-is = ap (λ (x : Start). x.state.at) (sym begun ∙ start-of area sheet len addable)

    pub add-room : Room (length area) s.at (length sheet) len
    unfolding entry
    add-room =
        let a = addable in
        let l = sheet-of-lent sheet len a.tree a.good in
        let n : length (take len sheet) ≡ len = length-take-le len sheet l in
        let o = spool-sound area a.opened in
        let m : length (groups (length (take len sheet)) ++ take len sheet) ≡ length (groups len) + len =
        length-append (groups (length (take len sheet))) (take len sheet) ∙ rw n in
        record {
          within = l;
          small = sheet-of-small sheet len a.tree a.good;
          room = omega (arith, at-is, a.room, m, ap length o.is, length-append o.octets a.old.rest);
        }

    pub add-whole : (u : ⊤) (after : List ℕ) → after ≡ stored area (stores (length area) s.at (entry (take len sheet))) → added_of (Ok u) after ≡ adding area sheet len
    unfolding added_of
    add-whole u after h =
        ap (λ (z : List ℕ). record { accepted = true; number = 0; place = 0; area = z }) (h ∙ ap (λ (n : ℕ). stored area (stores (length area) n (entry (take len sheet)))) at-is)
        ∙ sym (adding-of area sheet len addable)

  pub add-refused : (u : Unstarted) → r ≡ Err u → added_of (Err u.refusal) area ≡ adding area sheet len
  unfolding start_of added_of
  add-refused u e = of (number_of f) refl
    where
      f : Refusal
      f = u.refusal

      v : starting area sheet len ≡ record { accepted = false; number = number_of f; place = place_in f; state = state_of u.state }
      v = sym w ∙ ap start_of e

      of : (n : ℕ) → number_of f ≡ n → record { accepted = false; number = number_of f; place = place_in f; area = area } ≡ adding area sheet len
      of zero h =
          let a : Addable area sheet len = (accepted-0 area sheet len).0 (ap (λ (x : Start). x.number) v ∙ h) in
          differ (ap (λ (x : Start). x.accepted) (start-of area sheet len a)) (ap (λ (x : Start). x.accepted) v)
      of (suc n) h =
          let g : (starting area sheet len).number ≡ suc n = ap (λ (x : Start). x.number) v ∙ h in
          let p : place_in f ≡ 0 = ap (λ (x : Start). x.place) (sym v ∙ start-refused area sheet len (suc n) g (omega arith)) in
          ap₂ (λ (m k : ℕ). record { accepted = false; number = m; place = k; area = area }) h p ∙ sym (adding-refused area sheet len (suc n) g (omega arith))
