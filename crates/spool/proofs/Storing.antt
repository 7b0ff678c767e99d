-- The next store of an addition, by the cases of the code.
use Prim.Native.Nat.{ℕ, zero, suc, ◌+◌, ◌-◌, ◌≤◌, ◌<◌}
use native.Mathlib.Omega.{arith}
use mathlib.Core.Path.{◌≡◌, refl, sym, ap, ◌∙◌, subst}
use mathlib.Core.Bool.{Bool, true, false, not}
use mathlib.Core.List.{List, ◌∷◌}
use lib.ListN.{length, length-append, get_or, take, get_or-eq_default}
use lib.Seq.{length-take-le}
use lib.Dec.{leb, ltb}
use borrow.Author.Tests.{lt-ltb, le-ltb, le-leb, lt-leb, eq-eqb, ne_eqb, ltb-true, ltb-false, leb-true}
use Rattle.base.specs.Choice.{pick, both}
use Rattle.base.proofs.Cases.{by_bool, by_le, by-eq, unpicked, both_true, true-both, not-true, differ}
use Rattle.model.specs.Limits.{max_canonical}
use Rattle.spools.specs.Adding.{Store, store, lastly, stores, stores_of, going}
use Rattle.spools.specs.Groups.{groups_up_to, groups}
use Rattle.spools.specs.Spool.{entry}
use Rattle.spools.proofs.Stored.{stores-length}
use Rattle.spools.proofs.Three.{groups-three}
use Rattle.spools.proofs.Order.{stores-behind, stores-at-end, lastly-length, lastly-rest, lastly-first}
use Rattle.spool.specs.Cases.{state_of}
use Rattle.groups.specs.Octets.{Wide, Long}
use Rattle.groups.proofs.Octets.{entry-data}
use Rattle.std.specs.Prelude.{Some, None}
use Rattle.spool.specs.Stores.{offset_of, stores_of_len, Stores, NextOf}
use Rattle.spool.specs.declared.Adding.{Adding}
use Rattle.spool.specs.declared.stores.Next.TheVariants.{Body, Octet}

-- ---- how many stores there are

pub count-behind : (b : Bool) (len : ℕ) → b ≡ true → len + 1 ≡ stores_of_len b len
unfolding stores_of_len
count-behind b len e = rw e

pub count-end : (b : Bool) (len : ℕ) → b ≡ false → len ≡ stores_of_len b len
unfolding stores_of_len
count-end b len e = rw e

total-is : (size at : ℕ) (e : List ℕ) → length (stores size at e) ≡ stores_of_len (ltb (at + length e) size) (length e)
total-is size at e =
    by_bool (ltb (at + length e) size)
    (λ t. ap length (stores-behind size at e (ltb-true _ _ t)) ∙ omega (arith, lastly-length at e) ∙ count-behind (ltb (at + length e) size) (length e) t)
    (λ t. ap length (stores-at-end size at e (ltb-false _ _ t)) ∙ lastly-length at e ∙ count-end (ltb (at + length e) size) (length e) t)

-- ---- which each is: the octet at an offset of the entry, or the 0 behind it

last-is : (at : ℕ) (e : List ℕ) (m : ℕ) (d : Store) → m < length e → get_or (lastly at e) m d ≡ store (at + offset_of false (length e) m) (get_or e (offset_of false (length e) m) 0)
unfolding offset_of
last-is at e m d h =
    by_le (length e) (m + 1)
    (λ l. let z : at ≡ at + 0 = omega arith in lastly-first at e m d (omega arith) ∙ rw (le-ltb (m + 1) (length e) l) (ap (λ (n : ℕ). store n (get_or e 0 0)) z))
    (λ l. let z : suc m ≡ m + 1 = omega arith in lastly-rest at e m d (omega arith) ∙ rw (lt-ltb (m + 1) (length e) l) (ap (λ (n : ℕ). store (at + n) (get_or e n 0)) z))

behind-is : (at : ℕ) (e : List ℕ) (m : ℕ) (d : Store) → m < length e + 1 → get_or (store (at + length e) 0 ∷ lastly at e) m d ≡ store (at + offset_of true (length e) m) (get_or e (offset_of true (length e) m) 0)
unfolding offset_of
behind-is at e zero d h = (ap (λ (n : ℕ). store (at + length e) n) (sym (get_or-eq_default e 0 (omega arith))))
behind-is at e (suc m) d h =
    by_le (length e) (suc m)
    (λ l. let z : at ≡ at + 0 = omega arith in lastly-first at e m d (omega arith) ∙ rw (ne_eqb (suc m) 0 (λ x. omega arith), le-ltb (suc m) (length e) l) (ap (λ (n : ℕ). store n (get_or e 0 0)) z))
    (λ l. lastly-rest at e m d (omega arith) ∙ rw (ne_eqb (suc m) 0 (λ x. omega arith), lt-ltb (suc m) (length e) l))

store_is : (size at : ℕ) (e : List ℕ) (m : ℕ) (d : Store) → m < length (stores size at e)
    → get_or (stores size at e) m d ≡ store (at + offset_of (ltb (at + length e) size) (length e) m) (get_or e (offset_of (ltb (at + length e) size) (length e) m) 0)
store_is size at e m d h =
    by_bool (ltb (at + length e) size)
    (λ t.
    let w = stores-behind size at e (ltb-true _ _ t) in
    ap (λ (s : List Store). get_or s m d) w
    ∙ behind-is at e m d (omega (arith, ap length w, lastly-length at e))
    ∙ ap (λ (b : Bool). store (at + offset_of b (length e) m) (get_or e (offset_of b (length e) m) 0)) (sym t))
    (λ t.
    let w = stores-at-end size at e (ltb-false _ _ t) in
    ap (λ (s : List Store). get_or s m d) w
    ∙ last-is at e m d (omega (arith, ap length w, lastly-length at e))
    ∙ ap (λ (b : Bool). store (at + offset_of b (length e) m) (get_or e (offset_of b (length e) m) 0)) (sym t))

-- whether the area has an octet behind the entry, by the room that there is
same-behind : (at len size : ℕ) → at ≤ size → ltb len (size - at) ≡ ltb (at + len) size
same-behind at len size h =
    by_le size (at + len)
    (λ l. le-ltb len (size - at) (omega arith) ∙ sym (le-ltb (at + len) size l))
    (λ l. lt-ltb len (size - at) (omega arith) ∙ sym (lt-ltb (at + len) size l))

-- ---- and it lies in the area

pub made-within : (b : Bool) (len made total : ℕ) → total ≡ stores_of_len b len → made < total → made ≤ len
unfolding stores_of_len
made-within true len made total e h = omega arith
made-within false len made total e h = omega arith

offset-short : (len made : ℕ) → made < len → offset_of false len made < len
unfolding offset_of
offset-short len made h = by_le len (made + 1) (λ l. rw (le-ltb (made + 1) len l) (omega arith)) (λ l. rw (lt-ltb (made + 1) len l) (omega arith))

offset-most : (len made : ℕ) → offset_of true len made ≤ len
unfolding offset_of
offset-most len made =
    by-eq made 0
    (λ z. rw (eq-eqb made 0 z) (omega arith))
    (λ z. by_le len made (λ l. rw (ne_eqb made 0 z, le-ltb made len l) (omega arith)) (λ l. rw (ne_eqb made 0 z, lt-ltb made len l) (omega arith)))

pub stored-within : (at len size made total i : ℕ) → total ≡ stores_of_len (ltb (at + len) size) len → i ≡ offset_of (ltb (at + len) size) len made → len ≤ size → at ≤ size - len → made < total → at + i < size
stored-within at len size made total i t o l a m =
    by_bool (ltb (at + len) size)
    (λ e.
    let x : i ≡ offset_of true len made = o ∙ ap (λ (b : Bool). offset_of b len made) e in
    let y : at + len < size = ltb-true (at + len) size e in omega (arith, offset-most len made))
    (λ e.
    let x : i ≡ offset_of false len made = o ∙ ap (λ (b : Bool). offset_of b len made) e in
    let y : total ≡ len = t ∙ ap (λ (b : Bool). stores_of_len b len) e ∙ sym (count-end false len refl) in
    omega (arith, offset-short len made (omega arith)))

-- ---- where nothing is stored

long_of : {octets g : ℕ} → Wide octets g → Long octets (g + octets)
long_of {octets} w = record { is = ap (λ (n : ℕ). n + octets) w.is; few = omega (arith, w.few) }

pub entry-long : (sheet : List ℕ) (octets len : ℕ) → Long octets len → octets ≤ length sheet → length (entry (take octets sheet)) ≡ len
unfolding entry
entry-long sheet octets len l h =
    let f = length-take-le octets sheet h in
    length-append (groups (length (take octets sheet))) (take octets sheet) ∙ rw f (sym l.is)

-- what holds where something is stored
record Goes (a : Adding) (area sheet : List ℕ) : Type 0 where
  going_on : a.done ≡ false
  lent : a.octets ≤ length sheet
  small : a.octets ≤ max_canonical
  room : a.at + length (entry (take a.octets sheet)) ≤ length area
  left : a.made < length (stores (length area) a.at (entry (take a.octets sheet)))

goes : (a : Adding) (area sheet : List ℕ) → going (state_of a) area sheet ≡ true → Goes a area sheet
unfolding going stores_of
goes a area sheet e =
    let e₀ = entry (take a.octets sheet) in
    let r : Bool = ltb a.made (length (stores (length area) a.at e₀)) in
    let q : Bool = both (leb (a.at + length e₀) (length area)) r in
    let p : Bool = both (leb a.octets max_canonical) q in
    let w : (not a.done ≡ true) × (both (leb a.octets (length sheet)) p ≡ true) = both_true e in
    let x : (leb a.octets (length sheet) ≡ true) × (p ≡ true) = both_true w.1 in
    let y : (leb a.octets max_canonical ≡ true) × (q ≡ true) = both_true x.1 in
    let z : (leb (a.at + length e₀) (length area) ≡ true) × (r ≡ true) = both_true y.1 in
    record { going_on = not-true w.0; lent = leb-true _ _ x.0; small = leb-true _ _ y.0; room = leb-true _ _ z.0; left = ltb-true _ _ z.1 }

-- so that few stores have been made
pub few-made : (a : Adding) (area sheet : List ℕ) → going (state_of a) area sheet ≡ true → a.made < 16388
unfolding entry
few-made a area sheet e =
    let g = goes a area sheet e in
    let d = take a.octets sheet in
    let n : length d ≡ a.octets = length-take-le a.octets sheet g.lent in
    omega (arith, g.left, g.small, stores-length (length area) a.at (entry d), length-append (groups (length d)) d, groups-three (length d) (omega (arith, g.small)))

module _ (a : Adding) (area sheet : List ℕ) where
  never : (Goes a area sheet → ⊥) → NextOf a area sheet None
  unfolding NextOf
  never f = by_bool (going (state_of a) area sheet) (λ e. absurd (f (goes a area sheet e))) (λ e. e)

  pub stop-done : a.done ≡ true → NextOf a area sheet None
  stop-done e = never (λ g. differ e g.going_on)

  pub stop-lent : length sheet < a.octets → NextOf a area sheet None
  stop-lent e = never (λ g. omega (arith, g.lent))

  pub stop-large : max_canonical < a.octets → NextOf a area sheet None
  stop-large e = never (λ g. omega (arith, g.small))

  pub stop-beyond : length area < a.at → NextOf a area sheet None
  stop-beyond e = never (λ g. omega (arith, g.room))

  pub stop-room : (n : ℕ) → Wide a.octets n → a.at ≤ length area → length area - a.at < n + a.octets → NextOf a area sheet None
  stop-room n w k e = never (λ g. omega (arith, g.room, entry-long sheet a.octets (n + a.octets) (long_of w) g.lent))

  pub stop-made : (n total : ℕ) → Wide a.octets n → a.at ≤ length area → total ≡ stores_of_len (ltb (n + a.octets) (length area - a.at)) (n + a.octets) → total ≤ a.made
      → NextOf a area sheet None
  stop-made n total x k t e =
      never
      (λ g.
      let len = n + a.octets in
      let w = entry-long sheet a.octets len (long_of x) g.lent in
      let v : length (stores (length area) a.at (entry (take a.octets sheet))) ≡ stores_of_len (ltb len (length area - a.at)) len =
      total-is (length area) a.at (entry (take a.octets sheet)) ∙ ap (λ (n : ℕ). stores_of_len (ltb (a.at + n) (length area)) n) w
      ∙ ap (λ (b : Bool). stores_of_len b len) (sym (same-behind a.at len (length area) k)) in
      omega (arith, g.left))

-- ---- where something is
module _ (a : Adding) (area sheet : List ℕ) (g total i : ℕ) where
  abbrev len : ℕ
  len = g + a.octets

  stores_at : a.done ≡ false → a.octets ≤ length sheet → a.octets ≤ max_canonical → Wide a.octets g → len ≤ length area → a.at ≤ length area - len
      → total ≡ stores_of_len (ltb (a.at + len) (length area)) len → a.made < total → i ≡ offset_of (ltb (a.at + len) (length area)) len a.made
      → Stores a area sheet i g (leb total (a.made + 1))
  unfolding stores_of going
  stores_at d o m x n p t k e =
      let l : Long a.octets len = long_of x in
      let e₀ = entry (take a.octets sheet) in
      let w : length e₀ ≡ len = entry-long sheet a.octets len l o in
      let v : length (stores (length area) a.at e₀) ≡ total =
      total-is (length area) a.at e₀ ∙ ap (λ (n : ℕ). stores_of_len (ltb (a.at + n) (length area)) n) w ∙ sym t in
      let s : get_or (stores (length area) a.at e₀) a.made (store 0 0) ≡ store (a.at + i) (get_or e₀ i 0) =
      store_is (length area) a.at e₀ a.made (store 0 0) (omega arith)
      ∙ ap (λ (n : ℕ). store (a.at + offset_of (ltb (a.at + n) (length area)) n a.made) (get_or e₀ (offset_of (ltb (a.at + n) (length area)) n a.made) 0)) w
      ∙ ap (λ (n : ℕ). store (a.at + n) (get_or e₀ n 0)) (sym e) in
      record {
        goes = true-both (ap (λ (x : Bool). not x) d) (true-both (le-leb _ _ o) (true-both (le-leb _ _ m) (true-both (le-leb (a.at + length e₀) (length area) (omega arith)) (lt-ltb a.made (length (stores (length area) a.at e₀)) (omega arith)))));
        place = ap (λ (z : Store). z.place) s;
        octet = ap (λ (z : Store). z.octet) s;
        ends = ap (λ (n : ℕ). leb n (a.made + 1)) (sym v);
        within = stored-within a.at len (length area) a.made total i t e n p k;
        entried = record { within = o; small = m; wide = x };
        few = omega (arith, made-within (ltb (a.at + len) (length area)) len a.made total t k, l.few);
      }

  module _ (d : a.done ≡ false) (o : a.octets ≤ length sheet) (m : a.octets ≤ max_canonical) (x : Wide a.octets g) (p : a.at ≤ length area) (n : len ≤ length area - a.at) where
    abbrev behind : Bool
    behind = ltb len (length area - a.at)

    by-room : total ≡ stores_of_len behind len → a.made < total → i ≡ offset_of behind len a.made → Stores a area sheet i g (leb total (a.made + 1))
    by-room t k e =
        let b : behind ≡ ltb (a.at + len) (length area) = same-behind a.at len (length area) p in
        stores_at d o m x (omega arith) (omega arith) (t ∙ ap (λ (y : Bool). stores_of_len y len) b) k (e ∙ ap (λ (y : Bool). offset_of y len a.made) b)

    pub stores-on : total ≡ stores_of_len behind len → a.made < total → i ≡ offset_of behind len a.made → NextOf a area sheet (Some (Octet i g (leb total (a.made + 1))))
    unfolding NextOf
    stores-on t k e = by-room t k e

-- ---- and it is an octet of the sheet

some-groups : (f n : ℕ) → 0 < length (groups_up_to f n)
unfolding groups_up_to
some-groups zero n = omega arith
some-groups (suc f) n = by_bool (ltb n 128) (λ e. rw (e, groups_up_to) (omega arith)) (λ e. rw (e, groups_up_to) (omega arith))

pub wide-some : (n g : ℕ) → Wide n g → 0 < g
unfolding groups
wide-some n g w = omega (arith, w.is, some-groups n n)

pub first-end : (b : Bool) (g : ℕ) → b ≡ false → g - 1 ≡ pick b g (g - 1)
first-end b g e = sym (unpicked _ _ e)

-- which store an octet of the sheet is, and that another follows
record Within (behind : Bool) (len made i : ℕ) : Type 0 where
  pub offset : i ≡ offset_of behind len made
  pub more : made + 1 < stores_of_len behind len

sheet-store : (behind : Bool) (g octets made : ℕ) → 0 < g → pick behind g (g - 1) ≤ made → made - pick behind g (g - 1) < octets
    → Within behind (g + octets) made (g + (made - pick behind g (g - 1)))
unfolding offset_of stores_of_len
sheet-store true g octets made h k l =
    record { offset = rw (ne_eqb made 0 (λ (z : made ≡ 0). omega arith), lt-ltb made (g + octets) (omega arith)) (omega arith); more = omega arith }
sheet-store false g octets made h k l =
    record { offset = rw (lt-ltb (made + 1) (g + octets) (omega arith)) (omega arith); more = omega arith }

module _ (a : Adding) (area sheet : List ℕ) (g f : ℕ) where
  abbrev whole : ℕ
  whole = g + a.octets

  abbrev after : Bool
  after = ltb whole (length area - a.at)

  pub copies-on : a.done ≡ false → a.octets ≤ length sheet → a.octets ≤ max_canonical → Wide a.octets g → a.at ≤ length area → whole ≤ length area - a.at
      → f ≡ pick after g (g - 1) → f ≤ a.made → a.made - f < a.octets → NextOf a area sheet (Some (Body (a.made - f) (a.at + g + (a.made - f))))
  unfolding NextOf
  copies-on d o m x p n e k l =
      let b : Within after whole a.made (g + (a.made - f)) = subst (λ (z : ℕ). Within after whole a.made (g + (a.made - z))) (sym e)
      (sheet-store after g a.octets a.made (wide-some a.octets g x) (subst (λ (z : ℕ). z ≤ a.made) e k) (subst (λ (z : ℕ). a.made - z < a.octets) e l)) in
      let i : ℕ = g + (a.made - f) in
      let total : ℕ = stores_of_len after whole in
      let s : Stores a area sheet i g (leb total (a.made + 1)) = by-room a area sheet g total i d o m x p n refl (omega (arith, b.more)) b.offset in
      let j : i - g ≡ a.made - f = omega arith in
      let q : a.at + i ≡ a.at + g + (a.made - f) = omega arith in
      record {
        goes = s.goes;
        place = s.place ∙ q;
        octet = s.octet ∙ sym (entry-data sheet a.octets g i s.entried (omega arith) (omega arith)) ∙ ap (λ (z : ℕ). get_or sheet z 0) j;
        goes_on = sym (lt-leb total (a.made + 1) b.more) ∙ s.ends;
        within = omega (arith, s.within);
        lent = omega arith;
        few = s.few;
      }
