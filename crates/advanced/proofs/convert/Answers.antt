use Rattle.advanced.proofs.Converting.{convert-none, convert-inside, convert-long, convert-notes, convert-stacks, convert-numbers, convert-more, convert-whole, convert-short}
use Rattle.advanced.proofs.Stepping.{one-room, one_less, open-on, close-none, close-leaving, close-on, node-spare, node-none, node-from, node-fits, node-less, node-keepable, node-on}
use Rattle.advanced.proofs.Hints.{spare-room, node-plain}
use Rattle.advanced.proofs.Holding.{held-refused, held-less, held-deep, held-many, held-long, held_on}
use Rattle.advanced.specs.Nodes.{Nodes}
use native.Mathlib.Omega.{arith}
use borrow.Author.Rules.{rules}
use Rattle.advanced.proofs.convert.Goals as goal
use Rattle.advanced.proofs.convert.Goals.{then-b-eq91, else-b-eq91}

pub loop-starts-init : goal.loop-starts-init
loop-starts-init c = search (convert-none, arith)

pub skip_at-i-requires : goal.skip_at-i-requires
skip_at-i-requires c = search (convert-inside, arith)

pub shape_of-out-then-i-src : goal.shape_of-out-then-i-src
shape_of-out-then-i-src c = search (convert-long, arith)

pub shape_of-notes-then-i-src : goal.shape_of-notes-then-i-src
shape_of-notes-then-i-src c = search (convert-notes, arith)

pub returns-then-i-src : goal.returns-then-i-src
returns-then-i-src c = search (convert-more, arith)

pub shape_of-out-then-closed : goal.shape_of-out-then-closed
shape_of-out-then-closed c = search (convert-long, arith)

pub shape_of-notes-then-closed : goal.shape_of-notes-then-closed
shape_of-notes-then-closed c = search (convert-notes, arith)

pub returns-then-closed : goal.returns-then-closed
returns-then-closed c = search (convert-whole, arith)

pub shape_of-out-then-i-src-2 : goal.shape_of-out-then-i-src-2
shape_of-out-then-i-src-2 c = search (convert-long, arith)

pub shape_of-notes-then-i-src-2 : goal.shape_of-notes-then-i-src-2
shape_of-notes-then-i-src-2 c = search (convert-notes, arith)

pub returns-then-i-src-2 : goal.returns-then-i-src-2
returns-then-i-src-2 c = search (convert-short, arith)

pub bounds-out-o : goal.bounds-out-o
bounds-out-o c = search (one-room, arith)

pub enter-requires : goal.enter-requires
enter-requires c = search (convert-stacks, arith)

pub loop-starts-smaller-then-b-eq40 : goal.loop-starts-smaller-then-b-eq40
loop-starts-smaller-then-b-eq40 c = search (one_less, arith)

pub loop-starts-preserved-then-b-eq40 : goal.loop-starts-preserved-then-b-eq40
loop-starts-preserved-then-b-eq40 c = search (open-on, arith)

pub shape_of-out-then-opened-eq0 : goal.shape_of-out-then-opened-eq0
shape_of-out-then-opened-eq0 c = search (convert-long, arith)

pub shape_of-notes-then-opened-eq0 : goal.shape_of-notes-then-opened-eq0
shape_of-notes-then-opened-eq0 c = search (convert-notes, arith)

pub returns-then-opened-eq0 : goal.returns-then-opened-eq0
returns-then-opened-eq0 c = search (close-none, arith)

pub leave-requires : goal.leave-requires
leave-requires c = search (close-leaving, arith)

pub bounds-out-o-then-b-eq41 : goal.bounds-out-o-then-b-eq41
bounds-out-o-then-b-eq41 c = search (one-room, arith)

pub loop-starts-smaller-then-b-eq41 : goal.loop-starts-smaller-then-b-eq41
loop-starts-smaller-then-b-eq41 c = search (one_less, arith)

pub loop-starts-preserved-then-b-eq41 : goal.loop-starts-preserved-then-b-eq41
loop-starts-preserved-then-b-eq41 c = search (close-on, arith)

pub tree_at-requires : goal.tree_at-requires
tree_at-requires c = (search rules, search (node-spare, arith), search (arith))

pub overflow_add-opened-then-opens : goal.overflow_add-opened-then-opens
overflow_add-opened-then-opens c = search (held-deep, arith)

pub overflow_add-seen-then-opens : goal.overflow_add-seen-then-opens
overflow_add-seen-then-opens c = search (held-many, arith)

pub overflow_add-size-then-opens : goal.overflow_add-size-then-opens
overflow_add-size-then-opens c =
    held-long _ _ _ _ _ _ _ _ _ _ _ _ _ c.loop-starts.invariant _ c.skip_at-i.ensures _ c.closed.ensures c.if-closed.false c.if-i-src-2.false _ c.wrap-o.ensures _ c.opens.ensures c.if-opens.true _ _ c.tree_at.ensures _ c.in-Some.is

pub loop-starts-smaller-then-opens : goal.loop-starts-smaller-then-opens
loop-starts-smaller-then-opens c = search (held-less, arith)

pub loop-starts-preserved-then-opens : goal.loop-starts-preserved-then-opens
loop-starts-preserved-then-opens c =
    held_on _ _ _ _ _ _ _ _ _ _ _ _ _ c.loop-starts.invariant _ c.skip_at-i.ensures _ c.closed.ensures c.if-closed.false c.if-i-src-2.false _ c.wrap-o.ensures _ c.opens.ensures c.if-opens.true _ _ c.tree_at.ensures _ c.in-Some.is _ c.larger-deepest-then-opens.ensures

pub shape_of-notes-in_default : goal.shape_of-notes-in_default
shape_of-notes-in_default c = search (convert-notes, arith)

pub returns-in_default : goal.returns-in_default
returns-in_default c = search (held-refused, arith)

pub hinted-after-requires : goal.hinted-after-requires
hinted-after-requires c = (search rules, search (node-spare, arith), search rules)

pub simple-after-requires : goal.simple-after-requires
simple-after-requires c = search (spare-room, node-spare, arith)

pub shape_of-notes-in_default-after : goal.shape_of-notes-in_default-after
shape_of-notes-in_default-after c = search (convert-notes, arith)

pub returns-in_default-after : goal.returns-in_default-after
returns-in_default-after c =
    let strung : Nodes c.args.src.now c.skip_at-i.result c.wrap-o.result c.loop-starts.out c.if-b-eq91.out c.if-b-eq91.mid c.if-b-eq91.end c.if-b-eq91.after =
    elim c.if-b-eq91.branch [
      | then-b-eq91 w ↦ rw (w.out-is, w.mid-is, w.end-is, w.after-is) w.hinted-after.ensures
      | else-b-eq91 w ↦
          rw (w.out-is, w.mid-is, w.end-is, w.after-is)
          (node-plain _ _ _ _ (search rules) (search (node-spare, arith)) (search rules) (search rules) w.if-b-eq91.false _ _ _ w.simple-after.ensures)
    ]
    in
    node-none _ _ _ _ _ _ _ _ _ _ _ _ _ c.loop-starts.invariant _ c.skip_at-i.ensures _ c.closed.ensures c.if-closed.false c.if-i-src-2.false _ c.wrap-o.ensures _ c.opens.ensures c.if-opens.false _ _ _ _ strung c.in_default-after.is _

pub up_of-up-requires : goal.up_of-up-requires
up_of-up-requires c = search (convert-numbers, arith)

pub keep_string-requires : goal.keep_string-requires
keep_string-requires c =
    let strung : Nodes c.args.src.now c.skip_at-i.result c.wrap-o.result c.loop-starts.out c.if-b-eq91.out c.if-b-eq91.mid c.if-b-eq91.end c.if-b-eq91.after =
    elim c.if-b-eq91.branch [
      | then-b-eq91 w ↦ rw (w.out-is, w.mid-is, w.end-is, w.after-is) w.hinted-after.ensures
      | else-b-eq91 w ↦
          rw (w.out-is, w.mid-is, w.end-is, w.after-is)
          (node-plain _ _ _ _ (search rules) (search (node-spare, arith)) (search rules) (search rules) w.if-b-eq91.false _ _ _ w.simple-after.ensures)
    ]
    in
    node-keepable _ _ _ _ _ _ _ _ _ _ _ _ _ c.loop-starts.invariant _ c.skip_at-i.ensures _ c.closed.ensures c.if-closed.false c.if-i-src-2.false _ c.wrap-o.ensures _ c.opens.ensures c.if-opens.false _ _ _ _ strung _ c.in-Some-after.is c.up_of-up.result c.up_of-up.ensures

pub overflow_sub-size : goal.overflow_sub-size
overflow_sub-size c =
    let strung : Nodes c.args.src.now c.skip_at-i.result c.wrap-o.result c.loop-starts.out c.if-b-eq91.out c.if-b-eq91.mid c.if-b-eq91.end c.if-b-eq91.after =
    elim c.if-b-eq91.branch [
      | then-b-eq91 w ↦ rw (w.out-is, w.mid-is, w.end-is, w.after-is) w.hinted-after.ensures
      | else-b-eq91 w ↦
          rw (w.out-is, w.mid-is, w.end-is, w.after-is)
          (node-plain _ _ _ _ (search rules) (search (node-spare, arith)) (search rules) (search rules) w.if-b-eq91.false _ _ _ w.simple-after.ensures)
    ]
    in
    node-from _ _ _ _ _ _ _ _ _ _ _ _ _ c.loop-starts.invariant _ c.skip_at-i.ensures _ c.closed.ensures c.if-closed.false c.if-i-src-2.false _ c.wrap-o.ensures _ c.opens.ensures c.if-opens.false _ _ _ _ strung _ c.in-Some-after.is

pub overflow_add-size-in-loop-starts : goal.overflow_add-size-in-loop-starts
overflow_add-size-in-loop-starts c =
    let strung : Nodes c.args.src.now c.skip_at-i.result c.wrap-o.result c.loop-starts.out c.if-b-eq91.out c.if-b-eq91.mid c.if-b-eq91.end c.if-b-eq91.after =
    elim c.if-b-eq91.branch [
      | then-b-eq91 w ↦ rw (w.out-is, w.mid-is, w.end-is, w.after-is) w.hinted-after.ensures
      | else-b-eq91 w ↦
          rw (w.out-is, w.mid-is, w.end-is, w.after-is)
          (node-plain _ _ _ _ (search rules) (search (node-spare, arith)) (search rules) (search rules) w.if-b-eq91.false _ _ _ w.simple-after.ensures)
    ]
    in
    node-fits _ _ _ _ _ _ _ _ _ _ _ _ _ c.loop-starts.invariant _ c.skip_at-i.ensures _ c.closed.ensures c.if-closed.false c.if-i-src-2.false _ c.wrap-o.ensures _ c.opens.ensures c.if-opens.false _ _ _ _ strung _ c.in-Some-after.is

pub loop-starts-smaller : goal.loop-starts-smaller
loop-starts-smaller c =
    let strung : Nodes c.args.src.now c.skip_at-i.result c.wrap-o.result c.loop-starts.out c.if-b-eq91.out c.if-b-eq91.mid c.if-b-eq91.end c.if-b-eq91.after =
    elim c.if-b-eq91.branch [
      | then-b-eq91 w ↦ rw (w.out-is, w.mid-is, w.end-is, w.after-is) w.hinted-after.ensures
      | else-b-eq91 w ↦
          rw (w.out-is, w.mid-is, w.end-is, w.after-is)
          (node-plain _ _ _ _ (search rules) (search (node-spare, arith)) (search rules) (search rules) w.if-b-eq91.false _ _ _ w.simple-after.ensures)
    ]
    in
    node-less _ _ _ _ _ _ _ _ _ _ _ _ _ c.loop-starts.invariant _ c.skip_at-i.ensures _ c.closed.ensures c.if-closed.false c.if-i-src-2.false _ c.wrap-o.ensures _ c.opens.ensures c.if-opens.false _ _ _ _ strung _ c.in-Some-after.is

pub loop-starts-preserved : goal.loop-starts-preserved
loop-starts-preserved c =
    let strung : Nodes c.args.src.now c.skip_at-i.result c.wrap-o.result c.loop-starts.out c.if-b-eq91.out c.if-b-eq91.mid c.if-b-eq91.end c.if-b-eq91.after =
    elim c.if-b-eq91.branch [
      | then-b-eq91 w ↦ rw (w.out-is, w.mid-is, w.end-is, w.after-is) w.hinted-after.ensures
      | else-b-eq91 w ↦
          rw (w.out-is, w.mid-is, w.end-is, w.after-is)
          (node-plain _ _ _ _ (search rules) (search (node-spare, arith)) (search rules) (search rules) w.if-b-eq91.false _ _ _ w.simple-after.ensures)
    ]
    in
    node-on _ _ _ _ _ _ _ _ _ _ _ _ _ c.loop-starts.invariant _ c.skip_at-i.ensures _ c.closed.ensures c.if-closed.false c.if-i-src-2.false _ c.wrap-o.ensures _ c.opens.ensures c.if-opens.false _ _ _ _ strung _ c.in-Some-after.is c.up_of-up.result c.up_of-up.ensures _ c.keep_string.ensures
