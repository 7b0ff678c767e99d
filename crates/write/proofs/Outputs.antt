-- From the sheet that an entry is lent to what the writers require and promise.
use Prim.Native.Nat.{ℕ, ◌-◌, ◌≤◌, max}
use native.Mathlib.Omega.{arith}
use mathlib.Core.Path.{◌≡◌, sym, ap, ◌∙◌}
use mathlib.Core.Option.{some}
use mathlib.Core.List.{List}
use lib.ListN.{length, take}
use Rattle.base.proofs.Stores.{sets-all}
use Rattle.model.specs.Answers.{the, settled, sheet_tree, written}
use Rattle.model.specs.Decode.{decode₁}
use Rattle.model.specs.Tree.{Tree, canon}
use Rattle.model.specs.Write.{advanced, basic, encode}
use Rattle.scan.specs.Writes.{Wrote}
use Rattle.writer.specs.Sheets.{Sheet}
use Rattle.lookup.proofs.Sheets as lookup
use Rattle.lookup.proofs.Sheets.{sheet-of}

module _ (canonical : List ℕ) (len : ℕ) (t : Tree) (e : sheet_tree canonical len ≡ some t) where
  own : lookup.Sheet canonical len t
  own = sheet-of canonical len t e

  pub own-sheet : Sheet (take len canonical)
  own-sheet = record { tree = t; is = own.decoded; short = omega (arith, own.fitting.long, ap length own.is) }

  own-tree : the (decode₁ (take len canonical)) ≡ the (sheet_tree canonical len)
  own-tree = ap the (own.decoded ∙ sym e)

  pub own-advanced : advanced (the (decode₁ (take len canonical))) ≡ written 3 canonical len
  unfolding written encode
  own-advanced = ap advanced own-tree

  pub own-basic : basic (the (decode₁ (take len canonical))) ≡ written 2 canonical len
  unfolding written encode
  own-basic = ap basic own-tree

  pub own-canonical : take len canonical ≡ written 1 canonical len
  unfolding written encode the
  own-canonical = own.is ∙ ap canon (sym (ap the e))

-- octets written from the front, and what stands past them
pub wrote-settled : (x out out' : List ℕ) (r : ℕ) → length x ≤ length out → Wrote x 0 out out' r → out' ≡ settled out 0 x
unfolding settled
wrote-settled x out out' r h w =
    let a : 0 - length x ≡ 0 = omega arith in
    let b : max 0 (length x) ≡ length x = omega arith in
    w.same ∙ sets-all out x h ∙ rw (a, b)
