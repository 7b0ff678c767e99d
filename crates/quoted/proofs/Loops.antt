-- A quoted string in which nothing is escaped.
use Prim.Native.Nat.{ℕ, ◌+◌, ◌-◌, ◌<◌}
use native.Mathlib.Omega.{arith}
use mathlib.Core.Path.{◌≡◌, refl, ap, ◌∙◌}
use mathlib.Core.List.{List, [], append-nil}
use lib.ListN.{length, take, drop, get_or}
use Rattle.model.specs.Grammar.{rules}
use Rattle.model.specs.Strings.{got, bind, marked}
use Rattle.scan.specs.Marks.{Stretch, Last}
use Rattle.quoted.specs.Pieces.{Quotes, Unescaped}
use Rattle.quoted.proofs.PieceSteps.{piece-quote}

module _ (src : List ℕ) (at j : ℕ) (s : Stretch (marked rules 34) src at (take (j - at) (drop at src)) j) where
  pub unescaped-whole : j < length src → get_or src j 0 ≡ 34 → Unescaped src at (j + 1)
  unfolding bind Quotes
  unescaped-whole h e =
      let z : j + 1 - at - 1 ≡ j - at = omega (arith, s.on) in
      let c : Last (marked rules 34) src j [] (j + 1) = piece-quote src j h _ refl e in
      record {
        on = omega (arith, s.on);
        within = omega arith;
        is = s.more ∙ rw (c.ends, z) (ap (λ (d : List ℕ). got d (drop (j + 1) src)) (append-nil (take (j - at) (drop at src))));
      }
