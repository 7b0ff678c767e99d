-- A good sheet in each form: what the leaves ask, how long it is, and row 6.
use Prim.Native.Nat.{ℕ, ◌+◌, ◌*◌, ◌/◌, ◌≤◌, ◌<◌}
use native.Mathlib.Omega.{arith}
use mathlib.Core.Path.{◌≡◌, sym, ap, ap₂, ◌∙◌}
use mathlib.Core.Option.{Option}
use mathlib.Core.List.{List}
use lib.ListN.{length, take, drop}
use borrow.Author.Tests.{lt-ltb, le-ltb}
use Rattle.model.specs.Limits.{max_canonical}
use Rattle.base.proofs.Cases.{picked, unpicked}
use Rattle.model.specs.Answers.{the, written}
use Rattle.model.specs.Decode.{decode₁}
use Rattle.model.specs.Tree.{Tree, canon}
use Rattle.model.specs.Write.{advanced, basic}
use Rattle.model.proofs.Laws.{advanced-within-2n}
use Rattle.model.proofs.OutputSizes.{basic-length}
use Rattle.scan.specs.Writes.{Wrote}
use Rattle.blocks.specs.Fronts.{Front}
use Rattle.writer.specs.Sheets.{Sheet}
use Rattle.write.proofs.Outputs.{own-sheet, own-advanced, own-basic, own-canonical, wrote-settled}
use Rattle.base.proofs.Lists.{front_length}
use Rattle.lookup.proofs.Sheets.{sheet-of}
use Rattle.answers.specs.Cases.{RefusesWriting, output}
use Rattle.write.specs.Sized.{Good, Roomy, sized}
use Rattle.answers.specs.Cases.{Writing}
use Rattle.std.specs.Prelude.{Ok}

-- ---- row 6

too_long : (x out : List ℕ) → length out < length x → (a : Writing) → RefusesWriting 6 a → output a out ≡ sized x out
unfolding sized
too_long x out h a f = f.is out ∙ sym (picked _ _ (lt-ltb _ _ h))

goes-out : (x out out' : List ℕ) (k r : ℕ) → k ≡ length x → length x ≤ length out → Wrote x 0 out out' r → output (Ok k) out' ≡ sized x out
unfolding sized
goes-out x out out' k r e h w = ap₂ (λ (k : ℕ) (l : List ℕ). output (Ok k) l) e (wrote-settled x out out' r h w) ∙ sym (unpicked _ _ (le-ltb _ _ h))

module _ (c : List ℕ) (n : ℕ) (g : Good c n) where
  -- ---- the sheet

  lent : n ≤ length c
  lent = (sheet-of c n g.tree g.is).lent

  pub good-short : n ≤ max_canonical
  good-short = omega (arith, (sheet-of c n g.tree g.is).size, (sheet-of c n g.tree g.is).fitting.long)

  pub good_length : n ≡ length (take n c)
  good_length = front_length c n lent

  pub good-sheet : Sheet (take n c)
  good-sheet = own-sheet c n g.tree g.is

  -- ---- form 1

  canonical-size : n ≡ length (written 1 c n)
  canonical-size = good_length ∙ ap length (own-canonical c n g.tree g.is)

  pub canonical-room : (out : List ℕ) → n ≤ length out → (0 + n ≤ length c) × (0 + n ≤ length out)
  canonical-room out h = (omega (arith, lent), omega arith)

  pub canonical-refused : (out : List ℕ) (a : Writing) → RefusesWriting 6 a → length out < n → output a out ≡ sized (written 1 c n) out
  canonical-refused out a f h = too_long (written 1 c n) out (omega (arith, canonical-size)) a f

  pub canonical-written : (out out' : List ℕ) (r : ℕ) → n ≤ length out → Wrote (take n (drop 0 c)) 0 out out' r → output (Ok n) out' ≡ sized (written 1 c n) out
  canonical-written out out' r h w =
      let v : Wrote (written 1 c n) 0 out out' r = rw (own-canonical c n g.tree g.is) at w in
      goes-out (written 1 c n) out out' n r canonical-size (omega (arith, canonical-size)) v

  -- ---- form 2

  tree-size : length (canon (the (decode₁ (take n c)))) ≡ n
  unfolding the
  tree-size = ap (λ (o : Option Tree). length (canon (the o))) (sheet-of c n g.tree g.is).decoded ∙ (sheet-of c n g.tree g.is).size

  basic-here : basic (the (decode₁ (take n c))) ≡ written 2 c n
  basic-here = own-basic c n g.tree g.is

  module _ (k : ℕ) (e : k ≡ (n + 2) / 3 * 4 + 2) where
    basic-size : k ≡ length (basic (the (decode₁ (take n c))))
    basic-size = omega (arith, e, basic-length (the (decode₁ (take n c))), tree-size)

    pub basic-refused : (out : List ℕ) (a : Writing) → RefusesWriting 6 a → length out < k → output a out ≡ sized (written 2 c n) out
    basic-refused out a f h = too_long (written 2 c n) out (omega (arith, basic-size, ap length basic-here)) a f

    pub basic-room : (out : List ℕ) → k ≤ length out → length (basic (the (decode₁ (take n c)))) ≤ length out
    basic-room out h = omega (arith, basic-size)

    pub basic-written : (out out' : List ℕ) (r : ℕ) → k ≤ length out → Wrote (basic (the (decode₁ (take n c)))) 0 out out' r → output (Ok k) out' ≡ sized (written 2 c n) out
    basic-written out out' r h w =
        let v : Wrote (written 2 c n) 0 out out' r = rw basic-here at w in
        goes-out (written 2 c n) out out' k r (basic-size ∙ ap length basic-here) (omega (arith, basic-size, ap length basic-here)) v

  -- ---- form 3

  advanced-here : advanced (the (decode₁ (take n c))) ≡ written 3 c n
  advanced-here = own-advanced c n g.tree g.is

  pub scratch-room : (scratch : List ℕ) → Roomy n scratch → length (advanced (the (decode₁ (take n c)))) + 16 ≤ length scratch
  scratch-room scratch r = omega (arith, r.room, advanced-within-2n (the (decode₁ (take n c))), tree-size)

  module _ (scratch scratch' : List ℕ) (k : ℕ) (f : Front (advanced (the (decode₁ (take n c)))) 0 scratch scratch' k) where
    advanced-size : k ≡ length (written 3 c n)
    advanced-size = omega (arith, f.place, ap length advanced-here)

    pub advanced-refused : (out : List ℕ) (a : Writing) → RefusesWriting 6 a → length out < k → output a out ≡ sized (written 3 c n) out
    advanced-refused out a g h = too_long (written 3 c n) out (omega (arith, advanced-size)) a g

    pub advanced-written : (out out' : List ℕ) (r : ℕ) → k ≤ length out → Wrote (take k (drop 0 scratch')) 0 out out' r → output (Ok k) out' ≡ sized (written 3 c n) out
    advanced-written out out' r h w =
        let v : Wrote (written 3 c n) 0 out out' r = rw (f.same ∙ advanced-here) at w in
        goes-out (written 3 c n) out out' k r advanced-size (omega (arith, advanced-size)) v
