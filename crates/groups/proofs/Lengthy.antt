-- A length at a place, by how many groups it has; the sheet after it.
use Prim.Native.Nat.{ℕ, suc, ◌+◌, ◌*◌, ◌-◌, ◌%◌, ◌≤◌, ◌<◌}
use native.Mathlib.Omega.{arith}
use native.Mathlib.Numerals.{add-one}
use mathlib.Core.Path.{◌≡◌, refl, sym, ap, ap₂, ◌∙◌, subst}
use mathlib.Core.Bool.{Bool, true, false, not}
use mathlib.Core.List.{List, [], ◌∷◌}
use lib.ListN.{length, length-drop, take, drop, get_or, drop_of_length-le}
use lib.Seq.{drop-cons, drop-drop, length-take-le}
use borrow.Author.Tests.{le-leb, lt-leb}
use Rattle.std.specs.Prelude.{Option, Some, None}
use Rattle.base.specs.Choice.{is_none}
use Rattle.base.proofs.Cases.{picked, unpicked, not-true, not-false}
use Rattle.model.specs.Answers.{sheet_tree}
use Rattle.model.specs.Strings.{got, refused, bind, first}
use Rattle.spools.specs.Groups.{length_of}
use Rattle.spools.specs.Spool.{no_sheet, entry_of}
use Rattle.spools.proofs.Damaged.{no_length}
use Rattle.spools.proofs.Groups.{read-last, read_more, read-needless, read_past}
use Rattle.spools.proofs.Three.{three-groups}
use Rattle.answers.specs.Cases.{place_at}
use Rattle.groups.specs.Places.{Lengthy, Lengths, SheetAt}
use Rattle.groups.specs.declared.lengths.Length.{Length}

-- a length that there is
abbrev length_is : ℕ → ℕ → Option Length
length_is value next = Some (record { value = value; next = next })

-- the octets at a place
abbrev at₀ : List ℕ → ℕ → ℕ
at₀ s i = get_or s i 0

from_one : (s : List ℕ) (at : ℕ) → at < length s → drop at s ≡ at₀ s at ∷ drop (at + 1) s
from_one s at h = drop-cons s at 0 h ∙ ap (λ (n : ℕ). at₀ s at ∷ drop n s) (sym (add-one at))

from-two : (s : List ℕ) (at : ℕ) → at + 1 < length s → drop at s ≡ at₀ s at ∷ at₀ s (at + 1) ∷ drop (at + 2) s
from-two s at h =
    let z : suc (at + 1) ≡ at + 2 = omega arith in
    from_one s at (omega arith) ∙ ap (λ (k : List ℕ). at₀ s at ∷ k) (drop-cons s (at + 1) 0 h ∙ ap (λ (n : ℕ). at₀ s (at + 1) ∷ drop n s) z)

from-three : (s : List ℕ) (at : ℕ) → at + 2 < length s → drop at s ≡ at₀ s at ∷ at₀ s (at + 1) ∷ at₀ s (at + 2) ∷ drop (at + 3) s
from-three s at h =
    let z : suc (at + 2) ≡ at + 3 = omega arith in
    from-two s at (omega arith) ∙ ap (λ (k : List ℕ). at₀ s at ∷ at₀ s (at + 1) ∷ k) (drop-cons s (at + 2) 0 h ∙ ap (λ (n : ℕ). at₀ s (at + 2) ∷ drop n s) z)

module _ (s : List ℕ) (at : ℕ) (h : at < length s) where
  pub one-group : at₀ s at < 128 → Lengths s at (length_is (at₀ s at) (at + 1))
  unfolding Lengths
  one-group a = record { reads = ap length_of (from_one s at h) ∙ read-last (at₀ s at) (drop (at + 1) s) a; from = omega arith; within = omega arith; small = omega arith }

  empty : length_of [] ≡ refused
  unfolding length_of
  empty = refl

  pub no_second : 128 ≤ at₀ s at → length s ≤ at + 1 → Lengths s at None
  unfolding Lengths
  no_second a l =
      no_length (drop at s)
      (ap length_of (from_one s at h ∙ ap (λ (k : List ℕ). at₀ s at ∷ k) (drop_of_length-le s l)) ∙ read_past (at₀ s at) [] a empty)

  pub second-zero : 128 ≤ at₀ s at → at + 1 < length s → at₀ s (at + 1) ≡ 0 → Lengths s at None
  unfolding Lengths
  second-zero a l b =
      let k = drop (at + 2) s in
      no_length (drop at s)
      (ap length_of (from-two s at l ∙ ap (λ (x : ℕ). at₀ s at ∷ x ∷ k) b) ∙ read-needless (at₀ s at) (0 ∷ k) k a (read-last 0 k (omega arith)))

  pub two-groups : 128 ≤ at₀ s at → at + 1 < length s → (at₀ s (at + 1) ≡ 0 → ⊥) → at₀ s (at + 1) < 128 → Lengths s at (length_is (at₀ s at % 128 + 128 * at₀ s (at + 1)) (at + 2))
  unfolding Lengths
  two-groups a l z b =
      let k = drop (at + 2) s in
      record {
        reads = ap length_of (from-two s at l) ∙ read_more (at₀ s at) (at₀ s (at + 1)) (at₀ s (at + 1) ∷ k) k a (read-last (at₀ s (at + 1)) k b) (omega arith);
        from = omega arith;
        within = omega arith;
        small = omega arith;
      }

  pub no_third : 128 ≤ at₀ s at → at + 1 < length s → 128 ≤ at₀ s (at + 1) → length s ≤ at + 2 → Lengths s at None
  unfolding Lengths
  no_third a l b m =
      no_length (drop at s)
      (ap length_of (from-two s at l ∙ ap (λ (k : List ℕ). at₀ s at ∷ at₀ s (at + 1) ∷ k) (drop_of_length-le s m))
      ∙ read_past (at₀ s at) (at₀ s (at + 1) ∷ []) a (read_past (at₀ s (at + 1)) [] b empty))

  pub third-zero : 128 ≤ at₀ s at → 128 ≤ at₀ s (at + 1) → at + 2 < length s → at₀ s (at + 2) ≡ 0 → Lengths s at None
  unfolding Lengths
  third-zero a b l c =
      let k = drop (at + 3) s in
      no_length (drop at s)
      (ap length_of (from-three s at l ∙ ap (λ (x : ℕ). at₀ s at ∷ at₀ s (at + 1) ∷ x ∷ k) c)
      ∙ read_past (at₀ s at) (at₀ s (at + 1) ∷ 0 ∷ k) a (read-needless (at₀ s (at + 1)) (0 ∷ k) k b (read-last 0 k (omega arith))))

  pub three-read : 128 ≤ at₀ s at → 128 ≤ at₀ s (at + 1) → at + 2 < length s → (at₀ s (at + 2) ≡ 0 → ⊥) → at₀ s (at + 2) < 128
      → Lengths s at (length_is (at₀ s at % 128 + 128 * (at₀ s (at + 1) % 128) + 16384 * at₀ s (at + 2)) (at + 3))
  unfolding Lengths
  three-read a b l z c =
      let k = drop (at + 3) s in
      let v : at₀ s at % 128 + 128 * (at₀ s (at + 1) % 128 + 128 * at₀ s (at + 2)) ≡ at₀ s at % 128 + 128 * (at₀ s (at + 1) % 128) + 16384 * at₀ s (at + 2) = omega arith in
      record {
        reads =
            ap length_of (from-three s at l)
            ∙ read_more (at₀ s at) (at₀ s (at + 1) % 128 + 128 * at₀ s (at + 2)) (at₀ s (at + 1) ∷ at₀ s (at + 2) ∷ k) k a
            (read_more (at₀ s (at + 1)) (at₀ s (at + 2)) (at₀ s (at + 2) ∷ k) k b (read-last (at₀ s (at + 2)) k c) (omega arith)) (omega arith)
            ∙ ap (λ (n : ℕ). got n k) v;
        from = omega arith;
        within = omega arith;
        small = omega arith;
      }

  pub third-more : 128 ≤ at₀ s at → 128 ≤ at₀ s (at + 1) → at + 2 < length s → 128 ≤ at₀ s (at + 2) → Lengths s at None
  unfolding Lengths
  third-more a b l c = ap entry_of (from-three s at l) ∙ three-groups (at₀ s at) (at₀ s (at + 1)) (at₀ s (at + 2)) (drop (at + 3) s) a b c

-- ---- the sheet after a length
module _ (s : List ℕ) (at : ℕ) (r : Option Length) (w : Lengths s at r) where
  pub no-sheet : r ≡ None → SheetAt s at None
  unfolding Lengths SheetAt
  no-sheet e = subst (Lengths s at) e w

  module _ (found : Length) (e : r ≡ Some found) where
    abbrev value : ℕ
    value = found.value

    abbrev next : ℕ
    next = found.next

    l : Lengthy s at value next
    unfolding Lengths
    l = subst (Lengths s at) e w

    pub length-within : next ≤ length s
    length-within = l.within

    pub runs_past : length s - next < value → SheetAt s at None
    unfolding SheetAt entry_of bind first
    runs_past h = rw l.reads (rw (lt-leb value (length (drop next s)) (omega (arith, length-drop next s))))

    pub part-within : value ≤ length s - next → next + value ≤ length s
    part-within h = omega (arith, l.within)

    abbrev new : List ℕ
    new = take (next + value - next) (drop next s)

    first-is : next + value ≤ length s → first value (drop next s) ≡ got new (drop (next + value) s)
    unfolding first
    first-is h =
        let z : value ≡ next + value - next = omega arith in
        picked _ _ (le-leb value (length (drop next s)) (omega (arith, length-drop next s, l.within)))
        ∙ ap₂ (λ (n : ℕ) (k : List ℕ). got (take n (drop next s)) k) z (drop-drop value next s)

    new-length : next + value ≤ length s → length new ≡ value
    new-length h = let z : next + value - next ≡ value = omega arith in length-take-le (next + value - next) (drop next s) (omega (arith, length-drop next s, l.within)) ∙ z

    tested : next + value ≤ length s → (b : Bool) → b ≡ not (is_none (sheet_tree new value)) → b ≡ not (no_sheet new)
    unfolding no_sheet
    tested h b t = t ∙ ap (λ (n : ℕ). not (is_none (sheet_tree new n))) (sym (new-length h))

    pub a-sheet : (b : Bool) → value ≤ length s - next → b ≡ not (is_none (sheet_tree new value)) → b ≡ true → SheetAt s at (place_at next (next + value))
    unfolding SheetAt entry_of bind
    a-sheet b g t y =
        let h = part-within g in
        let n : no_sheet new ≡ false = not-true (sym (tested h b t) ∙ y) in
        record { reads = rw (l.reads, first-is h) (unpicked _ _ n); from = omega (arith, l.from); ordered = omega arith; within = h }

    pub not-sheet : (b : Bool) → value ≤ length s - next → b ≡ not (is_none (sheet_tree new value)) → b ≡ false → SheetAt s at None
    unfolding SheetAt entry_of bind
    not-sheet b g t y =
        let h = part-within g in
        let n : no_sheet new ≡ true = not-false (sym (tested h b t) ∙ y) in
        rw (l.reads, first-is h) (picked _ _ n)
