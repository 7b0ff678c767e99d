-- What the loops over notes keep.
use Prim.Native.Nat.{ℕ, suc, ◌+◌, ◌-◌, ◌≤◌, ◌<◌}
use native.Mathlib.Omega.{arith}
use native.Mathlib.Numerals.{add-one}
use mathlib.Core.Path.{◌≡◌, refl, sym, ap, ap₂, ◌∙◌, subst}
use mathlib.Core.Bool.{Bool, true, false}
use mathlib.Core.List.{List}
use lib.ListN.{length, get_or, set, length-set}
use lib.Seq.{get_or-set_same, get_or-set_other}
use lib.Dec.{eqb}
use borrow.Author.Tests.{ne_eqb}
use Rattle.base.specs.Choice.{pick}
use Rattle.base.proofs.Cases.{by_bool, by-eq, picked, unpicked}
use Rattle.edits.specs.Levels.{latest}
use Rattle.splice.specs.Moved.{later_note, own_note, list_over, grown_note, kept_note, Later, Owning, Growing, over_at, Growable, Growths, Grown, Shiftable, Shifted, own_at, Puttable, Put}
use Rattle.splice.proofs.Noting.{kept-grown, kept-aside}
use Rattle.splice.specs.declared.notes.Growth.{Growth}

-- ---- a store

module _ (notes : List ℕ) (j v i : ℕ) where
  pub stored_other : (i ≡ j → ⊥) → get_or (set notes j v) i 0 ≡ get_or notes i 0
  stored_other d = get_or-set_other notes j i v 0 d

-- ---- the notes before a spot

pub record Around (notes : List ℕ) (first e : ℕ) (b : Growth) (cur : List ℕ) (up j : ℕ) : Type 0 where
  pub given : Growable notes first e b
  pub inside : j ≤ first
  pub fits : first ≤ length cur
  pub is : Growths notes e b j cur
  pub near : up ≤ j
  pub inner : latest (over_at notes e) (first - j) j up ≡ latest (over_at notes e) first 0 0

module _ (notes : List ℕ) (first e : ℕ) (b : Growth) where
  pub grow-start : Growable notes first e b → Around notes first e b notes 0 0
  grow-start g =
      let z : first - 0 ≡ first = omega arith in
      record { given = g; inside = omega arith; fits = g.fits; is = record { long = refl; done = λ i h. absurd (omega arith); rest = λ i h. refl }; near = omega arith; inner = rw z }

  module _ (cur : List ℕ) (up j : ℕ) (a : Around notes first e b cur up j) where
    pub grow-long : length cur ≡ length notes
    grow-long = a.is.long

    pub grow-end : first ≤ j → Grown notes first e b cur up
    unfolding latest
    grow-end h =
        let z : j ≡ first = omega (arith, a.inside) in
        let y : first - j ≡ 0 = omega arith in
        record {
          grew = subst (λ (k : ℕ). Growths notes e b k cur) z a.is;
          inner = sym (ap (λ (n : ℕ). latest (over_at notes e) n j up) y) ∙ a.inner;
          near = omega (arith, a.near);
        }

    module _ (h : j < first) where
      here : get_or cur j 0 ≡ get_or notes j 0
      here = a.is.rest j (omega arith)

      -- one more, stored or not: up is then the last so far
      on : (after : List ℕ) → length after ≡ length cur → get_or after j 0 ≡ kept_note (get_or notes j 0) e b → ((i : ℕ) → (i ≡ j → ⊥) → get_or after i 0 ≡ get_or cur i 0)
          → (up' : ℕ) → pick (over_at notes e j) j up ≡ up' → up' ≤ j + 1 → Around notes first e b after up' (j + 1)
      unfolding latest
      on after long q others up' w near =
          let z : first - j ≡ suc (first - (j + 1)) = omega arith in
          record {
            given = a.given;
            inside = omega arith;
            fits = omega (arith, a.fits);
            is = record {
              long = long ∙ a.is.long;
              done = λ i k. by-eq i j (λ p. rw p q) (λ p. others i p ∙ a.is.done i (omega arith));
              rest = λ i k. others i (λ p. omega arith) ∙ a.is.rest i (omega arith);
            };
            near = near;
            inner = ap₂ (λ (k u : ℕ). latest (over_at notes e) (first - (j + 1)) k u) (add-one j) (sym w)
                ∙ sym (ap (λ (n : ℕ). latest (over_at notes e) n j up) z) ∙ a.inner;
          }

      module _ (o : Bool) (f : o ≡ list_over (get_or cur j 0) e) where
        over-is : over_at notes e j ≡ o
        over-is = sym (f ∙ ap (λ (m : ℕ). list_over m e) here)

        pub grow-growing : o ≡ true → Growing (get_or cur j 0) b
        grow-growing y = rw here (a.given.each j h (over-is ∙ y))

        pub grow-over : o ≡ true → (v : ℕ) → v ≡ grown_note (get_or cur j 0) b → Around notes first e b (set cur j v) j (j + 1)
        grow-over y v q =
            on (set cur j v) (length-set cur j v)
            (get_or-set_same cur j v 0 (omega (arith, a.fits)) ∙ q ∙ ap (λ (m : ℕ). grown_note m b) here ∙ kept-grown (get_or notes j 0) e b (over-is ∙ y))
            (λ i p. stored_other cur j v i p) j (picked _ _ (over-is ∙ y)) (omega arith)

        pub grow-aside : o ≡ false → Around notes first e b cur up (j + 1)
        grow-aside y = on cur refl (here ∙ kept-aside (get_or notes j 0) e b (over-is ∙ y)) (λ i p. refl) up (unpicked _ _ (over-is ∙ y)) (omega (arith, a.near))

-- ---- the notes behind it

-- of n notes, D are done, and L are left and not yet written over
pub record Shifting (notes : List ℕ) (first from to n : ℕ) (b : Growth) (D L : ℕ → Type 0) (cur : List ℕ) : Type 0 where
  pub given : Shiftable notes first from to n b
  pub long : length cur ≡ length notes
  pub before : (i : ℕ) → i < from → i < to → get_or cur i 0 ≡ get_or notes i 0
  pub done : (i : ℕ) → i < n → D i → get_or cur (to + i) 0 ≡ later_note (get_or notes (from + i) 0) first b
  pub left : (i : ℕ) → i < n → L i → get_or cur (from + i) 0 ≡ get_or notes (from + i) 0

module _ (notes : List ℕ) (first from to n : ℕ) (b : Growth) where
  begin : (D L : ℕ → Type 0) → ((i : ℕ) → i < n → D i → ⊥) → Shiftable notes first from to n b → Shifting notes first from to n b D L notes
  begin D L none g = record { given = g; long = refl; before = λ i h k. refl; done = λ i h d. absurd (none i h d); left = λ i h l. refl }

  module _ (D L : ℕ → Type 0) (cur : List ℕ) (a : Shifting notes first from to n b D L cur) where
    all : ((i : ℕ) → i < n → D i) → Shifted notes first from to n b cur
    all every = record { long = a.long; before = a.before; done = λ i h. a.done i h (every i h) }

    module _ (k : ℕ) (h : k < n) (l : L k) where
      pub shift-later : Later (get_or cur (from + k) 0) first b
      shift-later = rw (a.left k h l) (a.given.each k h)

      -- one more
      step : (v : ℕ) → v ≡ later_note (get_or cur (from + k) 0) first b → (D' L' : ℕ → Type 0) → ((i : ℕ) → D' i → (i ≡ k → ⊥) → D i) → ((i : ℕ) → L' i → L i)
          → ((i : ℕ) → L' i → from + i ≡ to + k → ⊥) → Shifting notes first from to n b D' L' (set cur (to + k) v)
      step v e D' L' dones lefts apart =
          record {
            given = a.given;
            long = length-set cur (to + k) v ∙ a.long;
            before = λ i p q. stored_other cur (to + k) v i (λ z. omega arith) ∙ a.before i p q;
            done = λ i p d.
                by-eq i k
                (λ z. rw z (get_or-set_same cur (to + k) v 0 (omega (arith, a.long, a.given.fits)) ∙ e ∙ ap (λ (m : ℕ). later_note m first b) (a.left k h l)))
                (λ z. stored_other cur (to + k) v (to + i) (λ y. z (omega arith)) ∙ a.done i p (dones i d z));
            left = λ i p q. stored_other cur (to + k) v (from + i) (apart i q) ∙ a.left i p (lefts i q);
          }

-- from the first on
abbrev pub Lowering : List ℕ → ℕ → ℕ → ℕ → ℕ → Growth → List ℕ → ℕ → Type 0
Lowering notes first from to n b cur j = Shifting notes first from to n b (λ (i : ℕ). i < j) (λ (i : ℕ). j ≤ i) cur

-- from the last on
pub record Raising (notes : List ℕ) (first from to n : ℕ) (b : Growth) (cur : List ℕ) (j : ℕ) : Type 0 where
  pub inside : j ≤ n
  pub is : Shifting notes first from to n b (λ (i : ℕ). j ≤ i) (λ (i : ℕ). i < j) cur

module _ (notes : List ℕ) (first from to n : ℕ) (b : Growth) where
  pub lower-start : Shiftable notes first from to n b → Lowering notes first from to n b notes 0
  lower-start g = begin notes first from to n b _ _ (λ i h d. omega arith) g

  pub raise-start : Shiftable notes first from to n b → Raising notes first from to n b notes n
  raise-start g = record { inside = omega arith; is = begin notes first from to n b _ _ (λ i h d. omega arith) g }

  module _ (cur : List ℕ) (j : ℕ) where
    pub lower_long : Lowering notes first from to n b cur j → length cur ≡ length notes
    lower_long a = a.long

    pub raise-long : Raising notes first from to n b cur j → length cur ≡ length notes
    raise-long a = a.is.long

    pub lower-end : Lowering notes first from to n b cur j → n ≤ j → Shifted notes first from to n b cur
    lower-end a h = all notes first from to n b _ _ cur a (λ i k. omega arith)

    pub raise-end : Raising notes first from to n b cur j → j ≤ 0 → Shifted notes first from to n b cur
    raise-end a h = all notes first from to n b _ _ cur a.is (λ i k. omega arith)

    pub lower-later : Lowering notes first from to n b cur j → j < n → Later (get_or cur (from + j) 0) first b
    lower-later a h = shift-later notes first from to n b _ _ cur a j h (omega arith)

    pub lower-on : Lowering notes first from to n b cur j → j < n → to ≤ from → (v : ℕ) → v ≡ later_note (get_or cur (from + j) 0) first b
        → Lowering notes first from to n b (set cur (to + j) v) (j + 1)
    lower-on a h o v e = step notes first from to n b _ _ cur a j h (omega arith) v e _ _ (λ i d z. omega arith) (λ i l. omega arith) (λ i l z. omega arith)

    pub raise-later : Raising notes first from to n b cur j → 0 < j → Later (get_or cur (from + (j - 1)) 0) first b
    raise-later a h = shift-later notes first from to n b _ _ cur a.is (j - 1) (omega (arith, a.inside)) (omega arith)

    pub raise-on : Raising notes first from to n b cur j → 0 < j → from ≤ to → (v : ℕ) → v ≡ later_note (get_or cur (from + (j - 1)) 0) first b
        → Raising notes first from to n b (set cur (to + (j - 1)) v) (j - 1)
    raise-on a h o v e =
        record {
          inside = omega (arith, a.inside);
          is = step notes first from to n b _ _ cur a.is (j - 1) (omega (arith, a.inside)) (omega arith) v e _ _ (λ i d z. omega arith) (λ i l. omega arith) (λ i l z. omega arith);
        }

-- ---- the notes of what comes

pub record Putting (notes : List ℕ) (start first up : ℕ) (cur : List ℕ) (above j : ℕ) : Type 0 where
  pub given : Puttable notes start first up
  pub inside : j ≤ length notes
  pub long : length cur ≡ length notes
  pub next : above ≡ pick (eqb j 0) up first
  pub done : (i : ℕ) → i < j → get_or cur i 0 ≡ own_at notes start first up i
  pub rest : (i : ℕ) → j ≤ i → get_or cur i 0 ≡ get_or notes i 0

module _ (notes : List ℕ) (start first up : ℕ) where
  pub put-start : Puttable notes start first up → Putting notes start first up notes up 0
  put-start g = record { given = g; inside = omega arith; long = refl; next = refl; done = λ i h. absurd (omega arith); rest = λ i h. refl }

  module _ (cur : List ℕ) (above j : ℕ) (a : Putting notes start first up cur above j) where
    pub put-long : length cur ≡ length notes
    put-long = a.long

    pub put-end : length notes ≤ j → Put notes start first up cur
    put-end h = record { long = a.long; done = λ i k. a.done i (omega (arith, a.long)) }

    module _ (h : j < length notes) where
      here-is : get_or cur j 0 ≡ get_or notes j 0
      here-is = a.rest j (omega arith)

      pub put-owning : Owning (get_or cur j 0) start above
      put-owning =
          record {
            small = rw here-is (a.given.small j (omega (arith, a.long)));
            short = a.given.short;
            few = by_bool (eqb j 0) (λ y. omega (arith, a.next, picked up first y, a.given.few)) (λ y. omega (arith, a.next, unpicked up first y, a.given.few));
          }

      pub put_on : (v : ℕ) → v ≡ own_note (get_or cur j 0) start above → Putting notes start first up (set cur j v) first (j + 1)
      put_on v e =
          record {
            given = a.given;
            inside = omega (arith, a.long);
            long = length-set cur j v ∙ a.long;
            next = sym (unpicked _ _ (ne_eqb (j + 1) 0 (λ z. omega arith)));
            done = λ i k.
                by-eq i j
                (λ z. rw z (get_or-set_same cur j v 0 (omega (arith, a.long)) ∙ e ∙ ap₂ (λ (m u : ℕ). own_note m start u) here-is a.next))
                (λ z. stored_other cur j v i z ∙ a.done i (omega arith));
            rest = λ i k. stored_other cur j v i (λ z. omega arith) ∙ a.rest i (omega arith);
          }
