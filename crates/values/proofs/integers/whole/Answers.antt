use native.Mathlib.Omega.{arith}
use Prim.Native.Nat.{ℕ, ◌≤◌, ◌<◌}
use mathlib.Core.Path.{◌≡◌}
use Rattle.typed.proofs.Wholly.{part-long, part-padded, part-zero, part-plus-half, part-minus-half, part-plus, part-minus}
use Rattle.values.proofs.Signs.{back-plus, back-minus}
use Rattle.values.proofs.integers.whole.Goals as goal

less : {s e : ℕ} → s ≤ e → (s ≡ e → ⊥) → s < e
less h n = omega arith

pub returns-then-end-start-gt8 : goal.returns-then-end-start-gt8
returns-then-end-start-gt8 c = part-long c.args.src.now c.args.start c.args.end c.requires.1 c.if-end-start-gt8.true

pub returns-then-not-is_shortest : goal.returns-then-not-is_shortest
returns-then-not-is_shortest c = part-padded c.args.src.now c.args.start c.args.end c.requires.1 c.is_shortest.result c.is_shortest.ensures c.if-not-is_shortest.true

pub returns-then-start-end : goal.returns-then-start-end
returns-then-start-end c = part-zero c.args.src.now c.args.start c.args.end c.requires.1 c.if-end-start-gt8.false c.is_shortest.result c.is_shortest.ensures c.if-not-is_shortest.false c.if-start-end.true

pub plus-requires : goal.plus-requires
plus-requires c = part-plus-half c.args.src.now c.args.start c.args.end c.requires.1 c.if-end-start-gt8.false c.is_shortest.result c.is_shortest.ensures c.if-not-is_shortest.false (λ i. (c.shared_slice_known-2-1.given i).fits) (less c.requires.0 c.if-start-end.false) c.number-m.result c.number-m.ensures.0 c.if-src-start-lt128.true

pub returns-then-src-start-lt128 : goal.returns-then-src-start-lt128
returns-then-src-start-lt128 c = part-plus c.args.src.now c.args.start c.args.end c.requires.1 c.if-end-start-gt8.false c.is_shortest.result c.is_shortest.ensures c.if-not-is_shortest.false (λ i. (c.shared_slice_known-2-1.given i).fits) (less c.requires.0 c.if-start-end.false) c.number-m.result c.number-m.ensures.0 c.if-src-start-lt128.true _ (back-plus _ c.plus.result (part-plus-half c.args.src.now c.args.start c.args.end c.requires.1 c.if-end-start-gt8.false c.is_shortest.result c.is_shortest.ensures c.if-not-is_shortest.false (λ i. (c.shared_slice_known-2-1.given i).fits) (less c.requires.0 c.if-start-end.false) c.number-m.result c.number-m.ensures.0 c.if-src-start-lt128.true) c.plus.ensures)

pub minus-requires : goal.minus-requires
minus-requires c = part-minus-half c.args.src.now c.args.start c.args.end c.requires.1 c.if-end-start-gt8.false c.is_shortest.result c.is_shortest.ensures c.if-not-is_shortest.false (λ i. (c.shared_slice_known-2-1.given i).fits) (less c.requires.0 c.if-start-end.false) c.number-m-2.result c.number-m-2.ensures.0 c.if-src-start-lt128.false

pub returns : goal.returns
returns c = part-minus c.args.src.now c.args.start c.args.end c.requires.1 c.if-end-start-gt8.false c.is_shortest.result c.is_shortest.ensures c.if-not-is_shortest.false (λ i. (c.shared_slice_known-2-1.given i).fits) (less c.requires.0 c.if-start-end.false) c.number-m-2.result c.number-m-2.ensures.0 c.if-src-start-lt128.false _ (back-minus _ c.minus.result (part-minus-half c.args.src.now c.args.start c.args.end c.requires.1 c.if-end-start-gt8.false c.is_shortest.result c.is_shortest.ensures c.if-not-is_shortest.false (λ i. (c.shared_slice_known-2-1.given i).fits) (less c.requires.0 c.if-start-end.false) c.number-m-2.result c.number-m-2.ensures.0 c.if-src-start-lt128.false) c.minus.ensures)
