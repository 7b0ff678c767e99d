-- What opening shows, and a start, by what going through the area found.
use Prim.Native.Nat.{ℕ, ◌+◌, ◌-◌, ◌≤◌, ◌<◌}
use native.Mathlib.Omega.{arith}
use mathlib.Core.Path.{◌≡◌, sym, ap, ap₂, ◌∙◌, subst}
use mathlib.Core.Bool.{Bool, true, false, not}
use mathlib.Core.Option.{none, some}
use mathlib.Core.List.{List, []}
use lib.ListN.{length, length-drop, take, drop}
use Rattle.base.specs.Choice.{is_none}
use Rattle.base.proofs.Cases.{not-true, not-false}
use Rattle.model.specs.Answers.{sheet_tree, Part, part, octets_at}
use Rattle.model.specs.Limits.{max_canonical}
use Rattle.model.specs.Tree.{Tree}
use Rattle.spools.specs.Rules.{Addable, NoRoom}
use Rattle.spools.specs.Adding.{Adding, fresh, nowhere, started, starting}
use Rattle.spools.specs.Spool.{entry, shows, Opening as Shown, opening}
use Rattle.spools.proofs.Damaged.{spool-damage}
use Rattle.spools.proofs.Judged.{none_of, some_of, sheet-of-lent, sheet-of-small, damaged-10, bad-7, room-6, start-of, start-refused, opening_of, opening-none}
use Rattle.spools.proofs.Placed.{part-octets}
use Rattle.answers.specs.Shown.{shown_at}
use Rattle.spool.proofs.Storing.{entry-long}
use Rattle.spool.specs.Cases.{opened, start_of, Unbegun}
use Rattle.groups.specs.Octets.{Long}
use Rattle.spool.specs.Opens.{Found, Unfound, Surveys}
use Rattle.std.specs.Prelude.{Result, Ok, Err}
use Rattle.answers.specs.Refusals.{number_of, place_in}
use Rattle.answers.specs.declared.refusal.Refusal.{Refusal}
use Rattle.answers.specs.declared.refusal.Refusal.TheVariants.{Size, NotOwn}
use Rattle.spool.specs.declared.Survey.{Survey}
use Rattle.spool.specs.declared.Unstarted.{Unstarted}

-- ---- what a refused start means
refused_by : (f : Refusal) (u : Unstarted) → Unbegun f u → start_of (Err u) ≡ record { accepted = false; number = number_of f; place = place_in f; state = nowhere }
unfolding start_of
refused_by f u v = ap₂ (λ (g : Refusal) (s : Adding). record { accepted = false; number = number_of g; place = place_in g; state = s }) v.row v.state

-- ---- the sheet that is to be added
module _ (sheet : List ℕ) (len : ℕ) (b : Bool) (t : b ≡ not (is_none (sheet_tree sheet len))) where
  good : {G : Type 0} → b ≡ true → ((u : Tree) → sheet_tree sheet len ≡ some u → G) → G
  good e g = some_of (sheet_tree sheet len) (not-true (sym t ∙ e)) g

  bad : b ≡ false → sheet_tree sheet len ≡ none
  bad e = none_of (sheet_tree sheet len) (not-false (sym t ∙ e))

  pub sheet-small : b ≡ true → len ≤ max_canonical
  sheet-small e = good e (λ u f. sheet-of-small sheet len u f)

module _ (area : List ℕ) (k : ℕ) (r : Result Survey Refusal) (w : Surveys area k r) where
  damaged : (f : Refusal) → r ≡ Err f → Unfound area f
  unfolding Surveys
  damaged f e = subst (Surveys area k) e w

  module _ (survey : Survey) (e : r ≡ Ok survey) where
    abbrev count : ℕ
    count = survey.count

    abbrev start : ℕ
    start = survey.stands.start

    abbrev end : ℕ
    end = survey.stands.end

    abbrev rest : ℕ
    rest = survey.rest

    found : Found area k count start end rest
    unfolding Surveys
    found = subst (Surveys area k) e w

    pub rest-within : rest ≤ length area
    rest-within = found.within

    rest-is : length found.old.rest ≡ length area - rest
    rest-is = sym (ap length found.left) ∙ length-drop rest area

    pub part-ordered : start ≤ end
    part-ordered = found.ordered

    pub part-ended : end ≤ length area
    part-ended = found.ended

    -- ---- what is shown
    opening-is : opening area k ≡ shows found.old.sheets k
    opening-is = opening_of area k found.old found.opened

    octets-are : octets_at area (part start end) ≡ (opening area k).shown
    octets-are =
        ap (octets_at area) (sym found.placed) ∙ part-octets area k found.old found.opened ∙ sym (ap (λ (x : Shown). x.shown) opening-is)

    pub open-whole : opened (Ok (record { count = survey.count; stands = survey.stands })) area ≡ opening area k
    unfolding opened
    open-whole =
        rw found.counted
        (ap₂ (λ (p : Part) (x : List ℕ). record { accepted = true; number = 0; place = 0; count = length found.old.sheets; stands = p; shown = x })
        (sym found.placed) (octets-are ∙ ap (λ (x : Shown). x.shown) opening-is)
        ∙ sym opening-is)

    pub shown-part : take (end - start) (drop start area) ≡ (opening area k).shown
    unfolding octets_at
    shown-part = octets-are

    pub shown-at : (x y : ℕ × ℕ) → (x.0, start + x.1) ≡ shown_at (some (opening area k).stands) x y
    unfolding shown_at
    shown-at x y = ap (λ (p : Part). (x.0, p.start + x.1)) (sym found.placed ∙ sym (ap (λ (z : Shown). z.stands) opening-is))

    -- ---- a start
    module _ (sheet : List ℕ) (len : ℕ) (b : Bool) (t : b ≡ not (is_none (sheet_tree sheet len))) where
      pub start-bad : (u : Unstarted) → Unbegun NotOwn u → b ≡ false → start_of (Err u) ≡ starting area sheet len
      start-bad u v g =
          refused_by NotOwn u v
          ∙ sym (start-refused area sheet len 7 ((bad-7 area sheet len).1 (record { old = found.old; opened = found.opened; bad = bad sheet len b t g })) (omega arith))

      pub start-no-room : (x : Unstarted) → Unbegun Size x → (n : ℕ) → b ≡ true → Long len n → length area - rest < n → start_of (Err x) ≡ starting area sheet len
      start-no-room x y n g l h =
          refused_by Size x y
          ∙ good sheet len b t g
          (λ u f.
          let z : length (entry (take len sheet)) ≡ n = entry-long sheet len n l (sheet-of-lent sheet len u f) in
          let v : NoRoom area sheet len = record { old = found.old; opened = found.opened; tree = u; good = f; longer = omega (arith, rest-is) } in
          sym (start-refused area sheet len 6 ((room-6 area sheet len).1 v) (omega arith)))

      pub start-good : (n : ℕ) → b ≡ true → Long len n → n ≤ length area - rest → start_of (Ok (record { at = rest; octets = len; made = 0; done = false })) ≡ starting area sheet len
      unfolding start_of
      start-good n g l h =
          good sheet len b t g
          (λ u f.
          let z : length (entry (take len sheet)) ≡ n = entry-long sheet len n l (sheet-of-lent sheet len u f) in
          let v : Addable area sheet len = record { old = found.old; opened = found.opened; tree = u; good = f; room = omega (arith, rest-is) } in
          let q : length area - length found.old.rest ≡ rest = omega (arith, rest-is, found.within) in
          sym (start-of area sheet len v ∙ ap (λ (m : ℕ). started (fresh m len)) q))

  pub start-damaged : (sheet : List ℕ) (len : ℕ) (f : Refusal) → r ≡ Err f → (u : Unstarted) → Unbegun f u → start_of (Err u) ≡ starting area sheet len
  start-damaged sheet len f e u v =
      let d = damaged f e in
      refused_by f u v
      ∙ rw d.row (sym (start-refused area sheet len 10 ((damaged-10 area sheet len).1 (spool-damage area d.none_opened)) (omega arith)))

  pub open-damaged : (f : Refusal) → r ≡ Err f → opened (Err f) area ≡ opening area k
  unfolding opened
  open-damaged f e = let d = damaged f e in rw d.row (sym (opening-none area k d.none_opened))

  pub shown-none : (f : Refusal) → r ≡ Err f → [] ≡ (opening area k).shown
  shown-none f e = sym (ap (λ (x : Shown). x.shown) (opening-none area k (damaged f e).none_opened))

  pub shown-none-at : (x y : ℕ × ℕ) (f : Refusal) → r ≡ Err f → (x.0, 0 + x.1) ≡ shown_at (some (opening area k).stands) x y
  unfolding shown_at
  shown-none-at x y f e = ap (λ (p : Part). (x.0, p.start + x.1)) (sym (ap (λ (z : Shown). z.stands) (opening-none area k (damaged f e).none_opened)))
