-- What each function does to one note.
use mir.Syntax.{w64}
use mir.Val.{Fits}
use Prim.Native.Nat.{ℕ, ◌+◌, ◌*◌, ◌-◌, ◌/◌, ◌≤◌, ◌<◌}
use native.Mathlib.Omega.{arith}
use mathlib.Core.Path.{◌≡◌, sym, ap, ◌∙◌}
use mathlib.Core.Bool.{true, false}
use lib.Dec.{leb}
use borrow.Author.Tests.{lt-ltb, le-ltb, eq-eqb, ne_eqb}
use Rattle.base.proofs.Cases.{by-eq, by_le, picked, unpicked}
use Rattle.sheets.specs.Notes.{list_mark}
use Rattle.tables.specs.Told.{end_part, third_part}
use Rattle.splice.specs.Moved.{span, third, top, plainly, hintedly, moved_note, later_note, own_note, list_over, grown_note, kept_note, Moving, Later, Owning}
use Rattle.splice.specs.declared.notes.Growth.{Growth}

-- ---- a node that moves
module _ (m l l' : ℕ) where
  pub moved_plain : third_part m ≡ 0 → plainly m l l' ≡ moved_note m l l'
  unfolding moved_note
  moved_plain z = sym (picked _ _ (eq-eqb (third_part m) 0 z))

  module _ (n : third_part m ≡ 0 → ⊥) where
    pub moved-hinted : third_part m < list_mark → hintedly m l l' ≡ moved_note m l l'
    unfolding moved_note
    moved-hinted h = sym (unpicked _ _ (ne_eqb (third_part m) 0 n) ∙ picked _ _ (lt-ltb (third_part m) list_mark h))

    pub moved-list : list_mark ≤ third_part m → plainly m l l' ≡ moved_note m l l'
    unfolding moved_note
    moved-list h = sym (unpicked _ _ (ne_eqb (third_part m) 0 n) ∙ unpicked _ _ (le-ltb (third_part m) list_mark h))

  pub moving-hinted : Moving m l l' → (third_part m ≡ 0 → ⊥) → third_part m < list_mark → l * third ≤ plainly m l l' + l' * third
  moving-hinted g n h = g.hinted n h

  moved-most : moved_note m l l' ≤ m + l' * (span + third)
  moved-most =
      by-eq (third_part m) 0
      (λ z. rw (← moved_plain z) (omega arith))
      (λ n. by_le list_mark (third_part m)
      (λ b. rw (← moved-list n b) (omega arith))
      (λ b. rw (← moved-hinted n b) (omega arith)))

-- ---- one behind the spot
module _ (m k : ℕ) (b : Growth) where
  module _ (r : ℕ) (e : r ≡ moved_note m b.old b.len) where
    pub later-fits : Later m k b → Fits w64 (r + b.count * top)
    later-fits g = omega (arith, e, moved-most m b.old b.len, g.moving.small, g.fit.short, g.fit.few)

    pub later-low : Later m k b → k ≤ m / top → b.held * top ≤ r + b.count * top
    later-low g h = omega (arith, e, g.low h)

    pub later-inside : m / top < k → r ≡ later_note m k b
    unfolding later_note
    later-inside h = e ∙ sym (picked _ _ (lt-ltb (m / top) k h))

    pub later-behind : k ≤ m / top → r + b.count * top - b.held * top ≡ later_note m k b
    unfolding later_note
    later-behind h = ap (λ (x : ℕ). x + b.count * top - b.held * top) e ∙ sym (unpicked _ _ (le-ltb (m / top) k h))

-- ---- one that comes
module _ (m start up : ℕ) where
  pub own-moving : Owning m start up → Moving m 0 start
  own-moving g = record { small = g.small; short = (omega arith, g.short); low = omega arith; hinted = λ n h. omega arith }

  module _ (r : ℕ) (e : r ≡ moved_note m 0 start) where
    pub own-fits : Owning m start up → Fits w64 (r + up * top)
    own-fits g = omega (arith, e, moved-most m 0 start, g.small, g.short, g.few)

    pub own-note : r + up * top ≡ own_note m start up
    unfolding own_note
    own-note = ap (λ (x : ℕ). x + up * top) e

-- ---- a list around
module _ (m e : ℕ) where
  pub over-string : third_part m < list_mark → false ≡ list_over m e
  unfolding list_over
  over-string h = sym (picked _ _ (lt-ltb (third_part m) list_mark h))

  pub over-list : list_mark ≤ third_part m → leb e (end_part m) ≡ list_over m e
  unfolding list_over
  over-list h = sym (unpicked _ _ (le-ltb (third_part m) list_mark h))

module _ (m e : ℕ) (b : Growth) where
  pub kept-grown : list_over m e ≡ true → grown_note m b ≡ kept_note m e b
  unfolding kept_note
  kept-grown y = sym (picked _ _ y)

  pub kept-aside : list_over m e ≡ false → m ≡ kept_note m e b
  unfolding kept_note
  kept-aside y = sym (unpicked _ _ y)
