-- All stores of an addition, made by runs.
use Prim.Native.Nat.{ℕ, suc, ◌+◌, ◌≤◌, ◌<◌}
use native.Mathlib.Omega.{arith}
use native.Mathlib.Numerals.{add-one}
use mathlib.Core.Path.{◌≡◌, refl, sym, ap, ap₂, ◌∙◌}
use mathlib.Core.List.{List, [], ◌∷◌, ◌++◌}
use lib.ListN.{length, length-append, length-set, take, drop, get_or, set}
use lib.Seq.{sets, length-take-le}
use borrow.Author.Tests.{lt-ltb, le-ltb}
use Rattle.base.proofs.Stores.{sets-append}
use Rattle.scan.specs.Writes.{Wrote}
use Rattle.groups.specs.Octets.{Wide}
use Rattle.spools.specs.Adding.{store, run, behind, lastly, stores, stored}
use Rattle.spools.specs.Groups.{groups}
use Rattle.spools.specs.Spool.{entry}
use Rattle.spools.proofs.Groups.{says_some, groups-say}
use Rattle.spools.proofs.Stored.{stored-append, stored-run}
use Rattle.spool.specs.Whole.{Grouped, Room}

-- ---- the 0 behind

pub none-behind : (area : List ℕ) (p : ℕ) → length area ≤ p → area ≡ stored area (behind (length area) p)
unfolding behind stored
none-behind area p h = rw (le-ltb p (length area) h)

pub zero-behind : (area : List ℕ) (p : ℕ) → p < length area → set area p 0 ≡ stored area (behind (length area) p)
unfolding behind stored
zero-behind area p h = rw (lt-ltb p (length area) h)

-- ---- the groups but for the first

rest-none : (g : List ℕ) → length g ≡ 1 → drop 1 g ≡ []
rest-none [] e = absurd (omega arith)
rest-none (a ∷ []) e = refl
rest-none (a ∷ b ∷ g) e = absurd (omega arith)

rest-one : (g : List ℕ) → length g ≡ 2 → drop 1 g ≡ get_or g 1 0 ∷ []
rest-one [] e = absurd (omega arith)
rest-one (a ∷ []) e = absurd (omega arith)
rest-one (a ∷ b ∷ []) e = refl
rest-one (a ∷ b ∷ c ∷ g) e = absurd (omega arith)

rest-two : (g : List ℕ) → length g ≡ 3 → drop 1 g ≡ get_or g 1 0 ∷ get_or g 2 0 ∷ []
rest-two [] e = absurd (omega arith)
rest-two (a ∷ []) e = absurd (omega arith)
rest-two (a ∷ b ∷ []) e = absurd (omega arith)
rest-two (a ∷ b ∷ c ∷ []) e = refl
rest-two (a ∷ b ∷ c ∷ d ∷ g) e = absurd (omega arith)

pub groups-some : (n : ℕ) → 0 < length (groups n)
groups-some n = says_some (groups-say n)

module _ (area : List ℕ) (at octets count : ℕ) (g : Grouped (length area) at octets count) where
  pub one-group : count ≡ 1 → area ≡ sets area (at + 1) (drop 1 (groups octets))
  one-group e = rw (rest-none (groups octets) (sym g.wide.is ∙ e))

  pub two-groups : (b : ℕ) → count ≡ 2 → b ≡ get_or (groups octets) 1 0 → set area (at + 1) b ≡ sets area (at + 1) (drop 1 (groups octets))
  two-groups b e h = rw (rest-one (groups octets) (sym g.wide.is ∙ e), h)

  pub three-groups : (b c : ℕ) → (count ≡ 1 → ⊥) → (count ≡ 2 → ⊥) → b ≡ get_or (groups octets) 1 0 → c ≡ get_or (groups octets) 2 0
      → set (set area (at + 1) b) (at + 2) c ≡ sets area (at + 1) (drop 1 (groups octets))
  three-groups b c x y h k =
      let z : suc (at + 1) ≡ at + 2 = omega arith in
      rw (rest-two (groups octets) (omega (arith, g.wide.is, g.wide.few, groups-some octets)), h, k) (ap (λ (n : ℕ). set (set area (at + 1) (get_or (groups octets) 1 0)) n (get_or (groups octets) 2 0)) (sym z))

  pub second-within : (count ≡ 1 → ⊥) → at + 1 < length area
  second-within x = omega (arith, g.room, g.wide.is, groups-some octets)

  pub third-within : (p b : ℕ) → (count ≡ 1 → ⊥) → (count ≡ 2 → ⊥) → at + 2 < length (set area p b)
  third-within p b x y = omega (arith, g.room, g.wide.is, groups-some octets, length-set area p b)

  pub second_group : (count ≡ 1 → ⊥) → 1 < length (groups octets)
  second_group x = omega (arith, g.wide.is, groups-some octets)

  pub third_group : (count ≡ 1 → ⊥) → (count ≡ 2 → ⊥) → 2 < length (groups octets)
  third_group x y = omega (arith, g.wide.is, groups-some octets)

-- ---- the whole entry

-- stores of an entry whose octets are groups and then a sheet
by_runs : (area g d : List ℕ) (size at n : ℕ) → 0 < length g → n ≡ at + length g
    → set (sets (sets (stored area (behind size (at + length (g ++ d)))) (at + 1) (drop 1 g)) n d) at (get_or g 0 0) ≡ stored area (stores size at (g ++ d))
unfolding stores lastly stored
by_runs area [] d size at n h e = absurd (omega arith)
by_runs area (b ∷ g) d size at n h e =
    let a = stored area (behind size (at + length ((b ∷ g) ++ d))) in
    let m : n ≡ suc at + length g = omega arith in
    ap (λ (z : List ℕ). set z at b)
    (ap₂ (λ (p q : ℕ). sets (sets a p g) q d) (add-one at) m
    ∙ sym (sets-append a g d (suc at))
    ∙ sym (stored-run a (suc at) (g ++ d)))
    ∙ sym (stored-append a (run (suc at) (g ++ d)) (store at b ∷ []))
    ∙ sym (stored-append area (behind size (at + length ((b ∷ g) ++ d))) (run (suc at) (g ++ d) ++ (store at b ∷ [])))

module _ (area sheet : List ℕ) (at octets : ℕ) (r : Room (length area) at (length sheet) octets) (count : ℕ) (w : Wide octets count) where
  -- in an area of the same size
  pub grouped : (size : ℕ) → size ≡ length area → Grouped size at octets count
  grouped size e = record { wide = w; small = r.small; room = omega (arith, r.room, w.is) }

  pub place-within : at + count + octets ≤ length area
  place-within = omega (arith, r.room, w.is)

  pub first_group : 0 < length (groups octets)
  first_group = groups-some octets

  pub whole-put : (a b c : List ℕ) (n x : ℕ) → a ≡ stored area (behind (length area) (at + count + octets)) → b ≡ sets a (at + 1) (drop 1 (groups octets))
      → Wrote (take octets (drop 0 sheet)) (at + count) b c n → x ≡ get_or (groups octets) 0 0
      → set c at x ≡ stored area (stores (length area) at (entry (take octets sheet)))
  unfolding entry
  whole-put a b c n x p q v y =
      let d = take octets sheet in
      let l : length d ≡ octets = length-take-le octets sheet r.within in
      let k : at + count + octets ≡ at + length (groups octets ++ d) = omega (arith, w.is, length-append (groups octets) d) in
      let u : a ≡ stored area (behind (length area) (at + length (groups octets ++ d))) = p ∙ ap (λ (z : ℕ). stored area (behind (length area) z)) k in
      rw (l, v.same, q, u, y) (by_runs area (groups octets) d (length area) at (at + count) first_group (omega (arith, w.is)))
