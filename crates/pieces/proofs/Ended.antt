-- The end by steps, whatever the state is.
use Prim.Native.Nat.{ℕ, ◌+◌, ◌≤◌, ◌<◌}
use native.Mathlib.Omega.{arith}
use mathlib.Core.Path.{◌≡◌, refl, sym, ap, ◌∙◌, subst}
use mathlib.Core.List.{List, ◌++◌}
use lib.ListN.{length, take, drop, take-append-drop}
use lib.Seq.{sets, length-take-le}
use borrow.Author.Tests.{le-leb, lt-leb, lt-ltb, le-ltb, eq-eqb, ne_eqb}
use Rattle.base.proofs.Cases.{by_le, picked, unpicked, true-both}
use Rattle.base.proofs.Lists.{front_length}
use Rattle.base.proofs.Stores.{sets-all}
use Rattle.model.specs.Answers.{no_form, Outcome, unchanged_at, place_of, reading}
use Rattle.model.specs.Automaton.{place}
use Rattle.model.specs.Decode.{decode₁, decode}
use Rattle.model.specs.Limits.{max_source}
use Rattle.model.specs.Table.{records}
use Rattle.walk.specs.Extent.{Measured}
use Rattle.walk.specs.declared.Extent.{Extent}
use Rattle.walk.specs.declared.Broken.{Broken}
use Rattle.std.specs.Prelude.{Ok, Err, ⊤}
use Rattle.scan.specs.Writes.{Wrote}
use Rattle.sheets.specs.Notes.{Noted}
use Rattle.texts.specs.Texts.{text_verdict, Taken}
use Rattle.texts.proofs.Taking.{through}
use Rattle.answers.specs.Cases.{Reading, Judging, Judges, accepted, RefusesAt, Refuses}
use Rattle.answers.specs.declared.refusal.Refusal.{Refusal}
use Rattle.answers.specs.declared.refusal.Refusal.TheVariants.{Syntax, Size}
use Rattle.answers.proofs.Judged.{judge-none, judged-refuses, judged-row, refuses}
use Rattle.rooms.specs.Rooms.{room_verdict}
use Rattle.reader.specs.Stored.{read_tree, Noteable, Puts}
use Rattle.reader.proofs.Storing.{puts-refused, put-none, put_refused, put-room, put-accepted}
use Rattle.reader.proofs.Entry.{notes-taken}
use Rattle.pieces.specs.Capped.{extent}
use Rattle.pieces.specs.Tracks.{meant}
use Rattle.pieces.specs.Feeding.{space, same_sizes}
use Rattle.pieces.specs.Ending.{past_row, past_place, ended_by, Held}
use Rattle.pieces.specs.declared.state.State.{State}
use Rattle.pieces.specs.declared.track.Track.{Track}

-- ---- octets that the sheet holds

sets-self : (l : List ℕ) (n : ℕ) → n ≤ length l → sets l 0 (take n l) ≡ l
sets-self l n h =
    let e : length (take n l) ≡ n = length-take-le n l h in
    sets-all l (take n l) (omega (arith, e)) ∙ ap (λ (m : ℕ). take n l ++ drop m l) e ∙ take-append-drop n l

module _ (canonical : List ℕ) (fed : ℕ) (notes : List ℕ) (g : Held fed (length canonical) (length notes)) where
  pub inside-part : fed ≡ length (take fed canonical)
  inside-part = front_length canonical fed (omega (arith, g.inside))

  pub inside-short : length (take fed canonical) ≤ max_source
  inside-short = omega (arith, g.inside, inside-part)

  judges : 0 ≡ text_verdict 1 (length (take fed canonical))
  unfolding text_verdict no_form
  judges = sym (unpicked _ _ (le-ltb max_source (length (take fed canonical)) inside-short))

  noteable : Noteable (length (take fed canonical)) (length notes)
  noteable = subst (λ (n : ℕ). Noteable n (length notes)) inside-part g.notable

  module _ (n : ℕ) (notes' : List ℕ) (x : Measured) (v : Noted (take fed canonical) notes notes' x) where
    taken : Taken (decode 1 (take fed canonical)) (place_of 1 (take fed canonical)) canonical notes notes' x
    unfolding decode place_of
    taken =
        through (decode₁ (take fed canonical)) (take fed canonical) canonical notes notes' x v inside-short refl (place (take fed canonical)) x v.measures v.fails
        (λ h. ap (λ (m : ℕ). take m canonical) (sym inside-part))

    -- rows 1 and 2 never apply
    passed : (a : Reading) → Puts (read_tree (decode 1 (take fed canonical)) (place_of 1 (take fed canonical)) canonical) canonical n notes' a → Puts (reading 1 (take fed canonical) canonical) canonical n notes' a
    passed = notes-taken 1 (take fed canonical) canonical notes' n (Ok tt) (judge-none _ tt (sym judges)) canonical tt refl

    pub inside-none : (q : Broken) → x ≡ Err q → Puts (reading 1 (take fed canonical) canonical) canonical n notes' (Err (Syntax q.place))
    inside-none q e = passed (Err (Syntax q.place)) (put-none 1 (take fed canonical) canonical canonical n notes notes' x taken q e)

    module _ (sizes : Extent) (e : x ≡ Ok sizes) (r : Judging) (j : Judges (room_verdict sizes.depth sizes.nodes sizes.len (length canonical) n) r) where
      pub inside-refused : (f : Refusal) → r ≡ Err f → Puts (reading 1 (take fed canonical) canonical) canonical n notes' (Err f)
      inside-refused f i = passed (Err f) (put_refused 1 (take fed canonical) canonical canonical n notes notes' x taken sizes e r j f i)

      pub inside-accepted : (u : ⊤) → r ≡ Ok u → Puts (reading 1 (take fed canonical) canonical) canonical n notes' (accepted sizes.len sizes.nodes)
      inside-accepted u i =
          let w : Wrote (take sizes.len (drop 0 canonical)) 0 canonical canonical (0 + length (take sizes.len canonical)) =
          record { place = refl; same = sym (sets-self canonical sizes.len (omega (arith, put-room 1 (take fed canonical) canonical canonical n notes notes' x taken sizes e r j u i))) } in
          passed (accepted sizes.len sizes.nodes)
          (put-accepted 1 (take fed canonical) canonical canonical n notes notes' x taken sizes e r j u i noteable canonical (0 + length (take sizes.len canonical)) w)

-- ---- octets that went past it

module _ (track : Track) (room n : ℕ) (x : Measured) (g : x ≡ extent (meant track)) where
  by_extent : (y : Measured) (r : Reading) → x ≡ y → RefusesAt (past_row y room n) (past_place y) r → RefusesAt (past_row (extent (meant track)) room n) (past_place (extent (meant track))) r
  by_extent y r e f = subst (λ (y : Measured). RefusesAt (past_row y room n) (past_place y) r) (sym e ∙ g) f

  pub past-none : (q : Broken) → x ≡ Err q → RefusesAt (past_row (extent (meant track)) room n) (past_place (extent (meant track))) (Err (Syntax q.place))
  unfolding past_row past_place
  past-none q e = by_extent (Err q) (Err (Syntax q.place)) e (refuses (Syntax q.place))

  module _ (sizes : Extent) (e : x ≡ Ok sizes) (r : Judging) (j : Judges (room_verdict sizes.depth sizes.nodes sizes.len room n) r) where
    pub past-refused : (f : Refusal) → r ≡ Err f → RefusesAt (past_row (extent (meant track)) room n) (past_place (extent (meant track))) (Err f)
    unfolding past_row past_place
    past-refused f i =
        let k : ℕ = room_verdict sizes.depth sizes.nodes sizes.len room n in
        let z : k ≡ past_row (Ok sizes) room n = sym (picked _ _ (lt-ltb 0 k (judged-row k r j f i))) in
        by_extent (Ok sizes) (Err f) e (subst (λ (m : ℕ). Refuses m (Err f)) z (judged-refuses k r j f i))

    pub past-never : (u : ⊤) → r ≡ Ok u → RefusesAt (past_row (extent (meant track)) room n) (past_place (extent (meant track))) (Err Size)
    unfolding past_row past_place
    past-never u i =
        let k : ℕ = room_verdict sizes.depth sizes.nodes sizes.len room n in
        let z : 6 ≡ past_row (Ok sizes) room n = sym (unpicked _ _ (le-ltb 0 k (omega (arith, j.passes u i)))) in
        by_extent (Ok sizes) (Err Size) e (subst (λ (m : ℕ). Refuses m (Err Size)) z (refuses Size))

past-positive : (x : Measured) (room n : ℕ) → 0 < past_row x room n
unfolding past_row
past-positive (Ok x) room n =
    by_le (room_verdict x.depth x.nodes x.len room n) 0
    (λ h. subst (λ (m : ℕ). 0 < m) (sym (unpicked _ _ (le-ltb 0 (room_verdict x.depth x.nodes x.len room n) h))) (omega arith))
    (λ h. subst (λ (m : ℕ). 0 < m) (sym (picked _ _ (lt-ltb 0 (room_verdict x.depth x.nodes x.len room n) h))) h)
past-positive (Err p) room n = omega arith

-- ---- both

module _ (x : State) (sheet : List ℕ) (lent n : ℕ) (notes : List ℕ) where
  -- an answer that is another's for every table
  puts-as : (f : List ℕ → Outcome) → ((table : List ℕ) → f table ≡ ended_by x sheet lent table) → (r : Reading) → Puts f sheet n notes r → Puts (ended_by x sheet lent) sheet n notes r
  puts-as f e r p = subst (λ (h : List ℕ → Outcome). Puts h sheet n notes r) (λ i. λ table. e table i) p

  unsized : (k p : ℕ) → 0 < k → (r : Reading) → RefusesAt k p r → ((table : List ℕ) → records table ≡ n → unchanged_at k p sheet table ≡ ended_by x sheet lent table) → Puts (ended_by x sheet lent) sheet n notes r
  unsized k p h r f e = puts-refused (ended_by x sheet lent) sheet notes n k h p r f (λ table z. f.is sheet table ∙ e table z)

  pub end-room : (length sheet ≡ x.room → ⊥) → (r : Reading) → Refuses 7 r → Puts (ended_by x sheet lent) sheet n notes r
  unfolding ended_by same_sizes
  end-room z r f = unsized 7 0 (omega arith) r f (λ table q. sym (unpicked _ _ (unpicked _ _ (ne_eqb (length sheet) x.room z))))

  module _ (a : length sheet ≡ x.room) where
    pub end-lent : (lent ≡ x.lent → ⊥) → (r : Reading) → Refuses 7 r → Puts (ended_by x sheet lent) sheet n notes r
    unfolding ended_by same_sizes
    end-lent z r f = unsized 7 0 (omega arith) r f (λ table q. sym (unpicked _ _ (picked _ _ (eq-eqb (length sheet) x.room a) ∙ ne_eqb lent x.lent z)))

    module _ (b : lent ≡ x.lent) where
      same-sizes : same_sizes x (length sheet) lent ≡ mathlib.Core.Bool.true
      unfolding same_sizes
      same-sizes = true-both (eq-eqb _ _ a) (eq-eqb _ _ b)

      pub end-long : max_source < x.fed → (r : Reading) → Refuses 2 r → Puts (ended_by x sheet lent) sheet n notes r
      unfolding ended_by
      end-long h r f = unsized 2 0 (omega arith) r f (λ table q. sym (picked _ _ same-sizes ∙ picked _ _ (lt-ltb max_source x.fed h)))

      module _ (h : x.fed ≤ max_source) (room : ℕ) (e : room ≡ space (length sheet)) where
        pub end-inside : x.fed ≤ room → (r : Reading) → Puts (reading 1 (take x.fed sheet) sheet) sheet n notes r → Puts (ended_by x sheet lent) sheet n notes r
        unfolding ended_by
        end-inside k r p =
            puts-as (reading 1 (take x.fed sheet) sheet)
            (λ table. sym (picked _ _ same-sizes ∙ unpicked _ _ (le-ltb max_source x.fed h) ∙ picked _ _ (le-leb x.fed (space (length sheet)) (omega (arith, e))))) r p

        pub end-past : room < x.fed → (r : Reading) → RefusesAt (past_row (extent (meant x.track)) (length sheet) n) (past_place (extent (meant x.track))) r → Puts (ended_by x sheet lent) sheet n notes r
        unfolding ended_by
        end-past k r f =
            unsized (past_row (extent (meant x.track)) (length sheet) n) (past_place (extent (meant x.track))) (past-positive (extent (meant x.track)) (length sheet) n) r f
            (λ table q.
            ap (λ (m : ℕ). unchanged_at (past_row (extent (meant x.track)) (length sheet) m) (past_place (extent (meant x.track))) sheet table) (sym q)
            ∙ sym (picked _ _ same-sizes ∙ unpicked _ _ (le-ltb max_source x.fed h) ∙ unpicked _ _ (lt-leb x.fed (space (length sheet)) (omega (arith, e)))))

pub held : (fed len room notes : ℕ) → room ≡ space len → fed ≤ room → Noteable fed notes → Held fed len notes
held fed len room notes e h m = record { inside = omega (arith, e); notable = m }
