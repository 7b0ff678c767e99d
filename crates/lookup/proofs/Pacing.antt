-- A sheet and its records gone through one record at a time: the start, a turn, the end.
use Prim.Native.Nat.{ℕ, ◌+◌, ◌*◌, ◌-◌, ◌≤◌, ◌<◌}
use native.Mathlib.Omega.{arith}
use mathlib.Core.Path.{◌≡◌, refl, sym, ap, ◌∙◌, subst}
use mathlib.Core.Bool.{Bool, true, false, not}
use mathlib.Core.Option.{Option, some}
use Rattle.std.specs.Prelude.{Option as Optional, None, Some}
use mathlib.Core.List.{List}
use lib.ListN.{length, take, get_or, set, length-set}
use lib.Seq.{length-take-le, get_or-set_same, get_or-set_other}
use lib.Dec.{eqb}
use borrow.Author.Tests.{eq-eqb, ne_eqb}
use Rattle.base.specs.Choice.{chain, is_none}
use Rattle.base.proofs.Cases.{by_bool, by-eq, differ, picked, unpicked, true-both}
use Rattle.base.proofs.Lists.{same-equal}
use Rattle.model.specs.Answers.{fits, fitting, sheet_tree, owns, own_tree}
use Rattle.model.specs.Limits.{most_nodes, max_canonical, max_source}
use Rattle.model.specs.Table.{width, records}
use Rattle.model.specs.Tree.{Tree, canon, nodes}
use Rattle.model.proofs.Canonical.{canon-two}
use Rattle.model.proofs.Exact.{canon-sound}
use Rattle.walk.specs.Events.{record_at}
use Rattle.walk.proofs.Walked.{nodes-pos}
use Rattle.tables.specs.Claimed.{record_by, Claim, Claimed}
use Rattle.tables.specs.Rows.{record_list, RowAt}
use Rattle.tables.specs.declared.rows.Row as coded
use Rattle.tables.proofs.Alike.{taken}
use Rattle.owned.specs.Owned.{Checkable, Checked}
use Rattle.lookup.specs.Noted.{Notes, Owned}
use Rattle.lookup.specs.Pacing.{node_of, Sized, Bounded, answers, Judged, Claims, lost, Passable, Passed, Turnable, Turned, Goes}
use Rattle.lookup.proofs.Claiming.{unclaimed, judged-by}
use Rattle.lookup.proofs.Sheets.{no-tree, a-tree, fitted, within, Own, own_of, own-beyond, own-long, own-unlent}

-- ---- the sizes

module _ (octets len room n : ℕ) where
  unbounded : ((c table : List ℕ) → length c ≡ octets → records table ≡ room → false ≡ not (is_none (own_tree c len table n))) → Bounded octets len room n 0
  unbounded f = record { some = λ d. absurd (d refl); none = λ e c table i j. f c table i j }

  pub bound-beyond : octets < len → Bounded octets len room n 0
  bound-beyond h = unbounded (λ c table i j. own-beyond c len table n (omega arith))

  pub bound-long : max_canonical < len → Bounded octets len room n 0
  bound-long h = unbounded (λ c table i j. own-long c len table n h)

  pub bound-empty : len ≡ 0 → Bounded octets len room n 0
  bound-empty h = unbounded (λ c table i j. no-tree _ (λ t e. let o : Own c len table n t = own_of c len table n t e in omega (arith, o.sheet.size, canon-two t)))

  pub bound-many : most_nodes < n → Bounded octets len room n 0
  bound-many h = unbounded (λ c table i j. no-tree _ (λ t e. let o : Own c len table n t = own_of c len table n t e in omega (arith, o.counted, o.sheet.fitting.many)))

  pub bound-unlent : room < n → Bounded octets len room n 0
  bound-unlent h = unbounded (λ c table i j. own-unlent c len table n (omega (arith, j)))

  pub bound-so : len ≤ octets → len ≤ max_canonical → (len ≡ 0 → ⊥) → n ≤ most_nodes → n ≤ room → (e : ℕ) → e ≡ n → Bounded octets len room n e
  bound-so a b d f g e z =
      record {
        some = λ i. record { is = z; lent = a; short = b; long = omega (arith, d); few = f; recorded = g };
        none = λ i c table j k. no-tree _ (λ t l. let o : Own c len table n t = own_of c len table n t l in omega (arith, o.counted, nodes-pos t));
      }

pub answer-none : (e len s : ℕ) → e ≡ 0 → false ≡ answers e len s
unfolding answers
answer-none e len s z = sym (picked _ _ (eq-eqb e 0 z))

pub answer-low : (e len s : ℕ) → (e ≡ 0 → ⊥) → s < e → false ≡ answers e len s
unfolding answers
answer-low e len s d h = sym (unpicked _ _ (ne_eqb e 0 d) ∙ ne_eqb s (e + len) (λ z. omega arith))

pub answer-so : (e len s : ℕ) → (e ≡ 0 → ⊥) → e ≤ s → eqb (s - e) len ≡ answers e len s
unfolding answers
answer-so e len s d h =
    by-eq (s - e) len (λ z. eq-eqb (s - e) len z ∙ sym (unpicked _ _ (ne_eqb e 0 d) ∙ eq-eqb s (e + len) (omega arith)))
    (λ z. ne_eqb (s - e) len z ∙ sym (unpicked _ _ (ne_eqb e 0 d) ∙ ne_eqb s (e + len) (λ y. z (omega arith))))

-- ---- a turn

module _ (c : List ℕ) (len : ℕ) (r : List ℕ) (n : ℕ) (notes : List ℕ) (s : ℕ) (g : Turnable c len r n notes s) where
  front : length (take len c) ≡ len
  front = length-take-le len c g.lent

  -- nothing is to come, and no table of which r is a record is the sheet's
  refused : (notes' : List ℕ) → ((table : List ℕ) → width * n ≤ length table → record_at table s ≡ r → Claims table notes s → Judged (take len c) table n notes' false) → Turned c len r n notes s notes' lost
  refused notes' f =
      record {
        further = omega (arith, g.some, g.few);
        low = λ h. absurd (omega (arith, g.few));
        high = λ h table l e cl. subst (Judged (take len c) table n notes') (sym (ne_eqb lost (n + len) (λ z. omega (arith, g.few, g.short)))) (f table l e cl);
      }

  pub turn-none : Claimed r None → Turned c len r n notes s notes lost
  turn-none v =
      refused notes
      (λ table l e cl. record {
        yes = λ i. differ i refl;
        no = λ i t o. unclaimed (take len c) table n (omega (arith, front, g.short)) l s g.some (subst (λ (x : List ℕ). Claimed x None) (sym e) v) t o;
      })

  pub turn-room : s < length notes
  turn-room = omega (arith, g.some, g.fits)

  module _ (m : ℕ) (claim : Claim r m) where
    abbrev after : List ℕ
    after = set notes s m

    -- what holds of the notes before, and of this one
    one_more : (P : ℕ → ℕ → Type 0) → ((i : ℕ) → i < s → P i (get_or notes i 0)) → P s m → (i : ℕ) → i < s + 1 → P i (get_or after i 0)
    one_more P f x i h =
        by-eq i s
        (λ e. rw e (subst (P s) (sym (get_or-set_same notes s m 0 turn-room)) x))
        (λ e. subst (P i) (sym (get_or-set_other notes s i m 0 e)) (f i (omega arith)))

    more : (table : List ℕ) → record_at table s ≡ r → Claims table notes s → Claims table after (s + 1)
    more table e cl = one_more (λ (i x : ℕ). Claim (record_at table i) x) cl (subst (λ (x : List ℕ). Claim x m) (sym e) claim)

    own-claim : Claim (record_by m) m
    own-claim = record { small = claim.small; sound = claim.sound; told = refl }

    pub turn-next : s + 1 < n → Turned c len r n notes s after (s + 1)
    turn-next h = record { further = omega arith; low = λ i. more; high = λ i. absurd (omega arith) }

    module _ (h : n ≤ s + 1) where
      last : n ≡ s + 1
      last = omega (arith, g.some)

      pub turn-checkable : Checkable (take len c) after n
      turn-checkable =
          record {
            short = omega (arith, front, g.short);
            few = g.few;
            fits = omega (arith, length-set notes s m, g.fits);
            claimed = λ i l. one_more (λ (i x : ℕ). Claim (record_by x) x) g.claimed own-claim i (omega (arith, last));
          }

      module _ (b : Bool) (x : Checked (take len c) after n b) where
        judged : (table : List ℕ) → width * n ≤ length table → record_at table s ≡ r → Claims table notes s → Judged (take len c) table n after b
        judged table l e cl =
            judged-by (take len c) table n (omega (arith, front, g.short)) l after (omega (arith, length-set notes s m, g.fits)) (λ i z. more table e cl i (omega (arith, last))) b x

        pub turn-off : b ≡ false → Turned c len r n notes s after lost
        turn-off f = refused after (λ table l e cl. subst (Judged (take len c) table n after) f (judged table l e cl))

        pub turn_on : b ≡ true → Turned c len r n notes s after (n + len)
        turn_on f =
            record {
              further = omega (arith, g.some);
              low = λ i. absurd (omega arith);
              high = λ i table l e cl. subst (Judged (take len c) table n after) (f ∙ sym (eq-eqb (n + len) (n + len) refl)) (judged table l e cl);
            }

-- ---- octets and a table judged, and the sheet's own

module _ (c : List ℕ) (len : ℕ) (table : List ℕ) (count : ℕ) (notes : List ℕ) (lent : len ≤ length c) (short : len ≤ max_canonical) (recorded : count ≤ records table) where
  unowned : false ≡ not (is_none (own_tree c len table count)) → Owned c len table count notes false
  unowned e = record { tells = e; sheet = λ z. differ z refl }

  owned-judged : (b : Bool) → Judged (take len c) table count notes b → Owned c len table count notes b
  unfolding chain fitting owns own_tree
  owned-judged b x = by_bool b (λ y. so y) (λ y. subst (Owned c len table count notes) (sym y) (unowned (no-tree _ (λ t e.
      let o : Own c len table count t = own_of c len table count t e in
      x.no y t (record { is = o.sheet.decoded; deep = o.sheet.fitting.deep; counted = o.counted; same = o.recorded })))))
    where
      so : b ≡ true → Owned c len table count notes b
      so y =
          let z = x.yes y in
          let t : Tree = z.tree in
          let l : length (canon t) ≡ len = sym (ap length (canon-sound (take len c) t z.own.is)) ∙ length-take-le len c lent in
          let f : fits t ≡ true = fitted t z.own.deep (omega arith) in
          let i : sheet_tree c len ≡ some t = within c len lent ∙ ap (λ (o : Option Tree). chain o fitting) z.own.is ∙ picked _ _ f in
          let j : own_tree c len table count ≡ some t =
          ap (λ (o : Option Tree). chain o (owns table count)) i ∙ picked _ _ (true-both (eq-eqb count (nodes t) z.own.counted) (same-equal _ _ z.own.same)) in
          record { tells = y ∙ a-tree _ t j; sheet = λ e. record { tree = t; is = i; held = z.held; lent = recorded } }

-- ---- the start, and on

module _ (c : List ℕ) (len : ℕ) (table : List ℕ) (n e : ℕ) (notes : List ℕ) where
  pub goes-start : Bounded (length c) len (records table) n e → Notes n (length notes) → Goes c len table n e notes 0
  goes-start b g =
      record {
        low = λ h. let s : Sized (length c) len (records table) n e = b.some (omega arith) in record { sized = s; fits = omega (arith, s.few, g.enough); claims = λ i l. absurd (omega arith) };
        high = λ h.
            let z : e ≡ 0 = omega arith in
            subst (Owned c len table n notes) (answer-none e len 0 z) (record { tells = b.none z c table refl refl; sheet = λ y. differ y refl });
      }

  module _ (s : ℕ) (g : Goes c len table n e notes s) where
    pub goes_end : e ≤ s → Owned c len table n notes (answers e len s)
    goes_end h = g.high h

    module _ (h : s < e) where
      pub goes-node : node_of s < records table
      goes-node = let k = g.low h in omega (arith, k.sized.is, k.sized.recorded)

      pub goes-turnable : Turnable c len (record_at table (node_of s)) n notes s
      goes-turnable =
          let k = g.low h in
          record {
            lent = k.sized.lent;
            short = k.sized.short;
            some = omega (arith, k.sized.is);
            few = k.sized.few;
            fits = k.fits;
            claimed = λ i l. let x = k.claims i l in record { small = x.small; sound = x.sound; told = refl };
          }

      module _ (notes' : List ℕ) (s' : ℕ) (t : Turned c len (record_at table (node_of s)) n notes s notes' s') where
        pub goes_further : s < s'
        goes_further = t.further

        pub goes_on : length notes' ≡ length notes → Goes c len table n e notes' s'
        unfolding answers
        goes_on l =
            let k = g.low h in
            let z : n + len ≡ e + len = omega (arith, k.sized.is) in
            record {
              low = λ i. record { sized = k.sized; fits = omega (arith, k.fits); claims = t.low (omega (arith, k.sized.is)) table refl k.claims };
              high = λ i.
                  subst (Owned c len table n notes') (sym (unpicked _ _ (ne_eqb e 0 (λ z. omega arith)) ∙ ap (eqb s') (sym z)))
                  (owned-judged c len table n notes' k.sized.lent k.sized.short k.sized.recorded (eqb s' (n + len)) (t.high (omega (arith, k.sized.is)) table (omega (arith, k.sized.recorded)) refl k.claims));
            }

-- ---- one note more, for any record that claims it

module _ (c : List ℕ) (len n : ℕ) (notes : List ℕ) (m s : ℕ) (g : Passable c len n notes m s) where
  -- with any other record it may be gone on in the same way
  also : (r : List ℕ) → Turnable c len r n notes s
  also r = record { lent = g.ready.lent; short = g.ready.short; some = g.ready.some; few = g.ready.few; fits = g.ready.fits; claimed = g.ready.claimed }

  pub pass-room : s < length notes
  pass-room = turn-room c len g.r n notes s g.ready

  pub pass-next : (s + 1 ≡ n → ⊥) → Passed c len n notes m s (set notes s m) (s + 1)
  pass-next d = record { on = λ r v. turn-next c len r n notes s (also r) m v (omega (arith, d, g.ready.some)) }

  module _ (e : s + 1 ≡ n) where
    at_last : n ≤ s + 1
    at_last = omega arith

    pub pass-checkable : Checkable (take len c) (set notes s m) n
    pass-checkable = turn-checkable c len g.r n notes s g.ready m g.claimed at_last

    module _ (b : Bool) (x : Checked (take len c) (set notes s m) n b) where
      pub pass-off : b ≡ false → Passed c len n notes m s (set notes s m) lost
      pass-off f = record { on = λ r v. turn-off c len r n notes s (also r) m v at_last b x f }

      pub pass_on : b ≡ true → Passed c len n notes m s (set notes s m) (n + len)
      pass_on f = record { on = λ r v. turn_on c len r n notes s (also r) m v at_last b x f }

-- ---- the loop over a table

pub record Claiming (c : List ℕ) (len : ℕ) (table : List ℕ) (n : ℕ) (notes₀ notes : List ℕ) (k : ℕ) : Type 0 where
  pub sized : Sized (length c) len (records table) n n
  pub long : length notes ≡ length notes₀
  pub fits : n ≤ length notes
  pub few : k ≤ n
  pub claims : Claims table notes k

module _ (c : List ℕ) (len : ℕ) (table : List ℕ) (n : ℕ) where
  pub claims-none : (notes : List ℕ) (e : ℕ) → Bounded (length c) len (records table) n e → e ≡ 0 → Owned c len table n notes false
  claims-none notes e b z = record { tells = b.none z c table refl refl; sheet = λ y. differ y refl }

  pub claims-start : (notes : List ℕ) (e : ℕ) → Bounded (length c) len (records table) n e → (e ≡ 0 → ⊥) → Notes n (length notes) → Claiming c len table n notes notes 0
  claims-start notes e b z g =
      let s : Sized (length c) len (records table) n e = b.some z in
      record {
        sized = subst (Sized (length c) len (records table) n) s.is s;
        long = refl;
        fits = omega (arith, s.few, g.enough);
        few = omega arith;
        claims = λ i h. absurd (omega arith);
      }

  module _ (notes₀ notes : List ℕ) (k : ℕ) (j : Claiming c len table n notes₀ notes k) where
    src-short : length (take len c) ≤ max_source
    src-short = omega (arith, length-take-le len c j.sized.lent, j.sized.short)

    pub claims-long : length notes ≡ length notes₀
    claims-long = j.long

    module _ (h : n ≤ k) where
      same : k ≡ n
      same = omega (arith, j.few)

      all : Claims table notes n
      all = subst (Claims table notes) same j.claims

      pub claims-checkable : Checkable (take len c) notes n
      claims-checkable =
          record {
            short = omega (arith, length-take-le len c j.sized.lent, j.sized.short);
            few = j.sized.few;
            fits = j.fits;
            claimed = λ i z. let x = all i z in record { small = x.small; sound = x.sound; told = refl };
          }

      pub claims-end : (b : Bool) → Checked (take len c) notes n b → Owned c len table n notes b
      claims-end b x =
          owned-judged c len table n notes j.sized.lent j.sized.short j.sized.recorded b
          (judged-by (take len c) table n src-short (omega (arith, j.sized.recorded)) notes j.fits all b x)

    module _ (h : k < n) where
      pub claims-record : (k ≤ max_source) × (width * (k + 1) ≤ length table)
      claims-record = (omega (arith, j.sized.few), omega (arith, j.sized.recorded))

      pub claims-room : (k < length notes) × (k ≤ max_source)
      claims-room = (omega (arith, j.fits), omega (arith, j.sized.few))

      module _ (row : coded.Row) (t : RowAt table k row) (parent : ℕ) (u : parent ≡ get_or table (k * width + 8) 0) (o : Optional ℕ) (v : Claimed (record_list row parent) o) where
        here : Claimed (record_at table k) o
        here = subst (λ (r : List ℕ). Claimed r o) (sym (taken table k row parent claims-record.1 t u)) v

        pub claims-lost : o ≡ None → Owned c len table n notes false
        claims-lost z =
            owned-judged c len table n notes j.sized.lent j.sized.short j.sized.recorded false
            (record {
              yes = λ e. differ e refl;
              no = λ e. unclaimed (take len c) table n src-short (omega (arith, j.sized.recorded)) k h (subst (Claimed (record_at table k)) z here);
            })

        pub claims-on : (m : ℕ) → o ≡ Some m → Claiming c len table n notes₀ (set notes k m) (k + 1)
        claims-on m z =
            record {
              sized = j.sized;
              long = length-set notes k m ∙ j.long;
              fits = omega (arith, length-set notes k m, j.fits);
              few = omega arith;
              claims = λ i q.
                  by-eq i k
                  (λ e. rw e (subst (Claim (record_at table k)) (sym (get_or-set_same notes k m 0 (omega (arith, j.fits)))) (here.yes m z)))
                  (λ e. subst (Claim (record_at table i)) (sym (get_or-set_other notes k i m 0 e)) (j.claims i (omega arith)));
            }
