-- Which spelling is written, and that it is the string's.
use Prim.Native.Nat.{ℕ, ◌+◌, ◌-◌, ◌≤◌, ◌<◌}
use native.Mathlib.Omega.{arith}
use mathlib.Core.Path.{◌≡◌, sym, ap, ◌∙◌}
use mathlib.Core.Bool.{Bool, true, false}
use mathlib.Core.List.{List, [], ◌∷◌}
use lib.ListN.{length, take, drop, length-append}
use Rattle.base.specs.Choice.{among, every}
use Rattle.base.proofs.Cases.{by_le}
use Rattle.model.specs.Write.{quote_all, hex_all, shown}
use Rattle.scan.specs.Runs.{Reach}
use Rattle.blocks.specs.Fronts.{Front}
use Rattle.spelling.specs.Spelled.{cut, framed, Standing, TokenEnd, Quotable}
use Rattle.spelling.proofs.Cuts.{cut-length}
use Rattle.spelling.proofs.Judging.{print-past, shown-empty, shown-token, shown-quoted, shown-hex}

module _ (src : List ℕ) (start end pos : ℕ) (out : List ℕ) (room : pos + length (shown (cut src start end)) + 16 ≤ length out) where
  pub empty-front : end ≤ start → (out' : List ℕ) (r : ℕ) → Front (34 ∷ 34 ∷ []) pos out out' r → Front (shown (cut src start end)) pos out out' r
  empty-front h out' r f = rw (shown-empty src start end h) f

  module _ (long : end ≤ length src) (token : ℕ) (t : TokenEnd src start end token) where
    module _ (h : end ≤ token) where
      is-token : shown (cut src start end) ≡ cut src start end
      is-token = shown-token (cut src start end) (t.made h)

      pub token-room : pos + (end - start) + 16 ≤ length out
      token-room = omega (arith, ap length is-token, cut-length src start end long)

      pub token-front : (out' : List ℕ) (r : ℕ) → Front (take (end - start) (drop start src)) pos out out' r → Front (shown (cut src start end)) pos out out' r
      token-front out' r f = rw is-token f

    module _ (h : token < end) (from : ℕ) (w : Reach src token end 4 from) where
      standing : Standing src start from
      standing =
          record {
            from = omega (arith, t.from, w.from);
            within = omega arith;
            all = λ k f l. by_le token k (λ g. w.all k g l) (λ g. t.standing.all k f g);
            stop = λ l. absurd (omega arith);
          }

      module _ (p : Bool) (e : p ≡ every (among 32 126) (cut src from end)) where
        tested : every (among 32 126) (cut src start end) ≡ p
        tested = print-past src start from end long standing w.within ∙ sym e

        module _ (y : p ≡ true) where
          is-quoted : shown (cut src start end) ≡ framed 34 (quote_all (cut src start end))
          is-quoted = shown-quoted (cut src start end) (t.unmade h) (tested ∙ y)

          pub quotable : Quotable src start from end
          quotable = record { standing = standing; rest = record { order = w.within; long = long; printed = sym e ∙ y; due = w.stop } }

          pub quoted-room : pos + length (quote_all (cut src start end)) + 18 ≤ length out
          quoted-room = omega (arith, ap length is-quoted, length-append (quote_all (cut src start end)) (34 ∷ []))

          pub quoted-front : (out' : List ℕ) (r : ℕ) → Front (framed 34 (quote_all (cut src start end))) pos out out' r → Front (shown (cut src start end)) pos out out' r
          quoted-front out' r f = rw is-quoted f

        module _ (y : p ≡ false) where
          is-hex : shown (cut src start end) ≡ framed 35 (hex_all (cut src start end))
          is-hex = shown-hex (cut src start end) (t.unmade h) (tested ∙ y)

          pub hexed-room : pos + length (hex_all (cut src start end)) + 18 ≤ length out
          hexed-room = omega (arith, ap length is-hex, length-append (hex_all (cut src start end)) (35 ∷ []))

          pub hexed-front : (out' : List ℕ) (r : ℕ) → Front (framed 35 (hex_all (cut src start end))) pos out out' r → Front (shown (cut src start end)) pos out out' r
          hexed-front out' r f = rw is-hex f
