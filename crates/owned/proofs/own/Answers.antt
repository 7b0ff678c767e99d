use mathlib.Core.Path.{refl}
use native.Mathlib.Omega.{arith}
use Rattle.owned.proofs.Owning.{own-start, stand-on, stand-last, own-up, own-inside, own-short, own-full, shut_none, shut-ready, shut-off, shut-on, own_meets, own-few, own-unread, own-note, own-fits, plain-off, plain-less, plain-on, near-less, near_on, begin-off, begin-on, hint-off, hint-less, hint-on}
use Rattle.owned.proofs.own.Goals as goal

pub loop-nodes-init : goal.loop-nodes-init
loop-nodes-init c = search (own-start, arith)

pub returns-then-closed : goal.returns-then-closed
returns-then-closed c = stand-last _ _ _ _ _ _ _ c.loop-nodes.invariant _ c.closed.ensures c.if-closed.true _ c.ended.ensures

pub returns-then-at-src : goal.returns-then-at-src
returns-then-at-src c = own-short _ _ _ _ _ _ _ (stand-on _ _ _ _ _ _ _ c.loop-nodes.invariant _ c.closed.ensures c.if-closed.false) c.if-at-src.true

pub offset_bounds-notes-seen : goal.offset_bounds-notes-seen
offset_bounds-notes-seen c =
    let o = stand-on _ _ _ _ _ _ _ c.loop-nodes.invariant _ c.closed.ensures c.if-closed.false in
    omega (arith, own-few _ _ _ _ _ _ _ o c.if-at-src.false c.if-seen-nodes.true)

pub bounds-notes-seen : goal.bounds-notes-seen
bounds-notes-seen c =
    let o = stand-on _ _ _ _ _ _ _ c.loop-nodes.invariant _ c.closed.ensures c.if-closed.false in
    own-note _ _ _ _ _ _ _ o c.if-at-src.false c.if-seen-nodes.true

pub near-requires : goal.near-requires
near-requires c =
    let o = stand-on _ _ _ _ _ _ _ c.loop-nodes.invariant _ c.closed.ensures c.if-closed.false in
    own_meets _ _ _ _ _ _ _ o c.if-at-src.false c.if-seen-nodes.true

pub loop-nodes-smaller-then-near : goal.loop-nodes-smaller-then-near
loop-nodes-smaller-then-near c =
    let o = stand-on _ _ _ _ _ _ _ c.loop-nodes.invariant _ c.closed.ensures c.if-closed.false in
    near-less _ _ _ _ _ _ _ o c.if-at-src.false c.if-seen-nodes.true _ c.near.ensures c.if-near.true

pub loop-nodes-preserved-then-near : goal.loop-nodes-preserved-then-near
loop-nodes-preserved-then-near c =
    let o = stand-on _ _ _ _ _ _ _ c.loop-nodes.invariant _ c.closed.ensures c.if-closed.false in
    near_on _ _ _ _ _ _ _ o c.if-at-src.false c.if-seen-nodes.true _ c.near.ensures c.if-near.true

pub returns-then-opened-eq0 : goal.returns-then-opened-eq0
returns-then-opened-eq0 c =
    let o = stand-on _ _ _ _ _ _ _ c.loop-nodes.invariant _ c.closed.ensures c.if-closed.false in
    shut_none _ _ _ _ _ _ _ o c.if-at-src.false c.if-b-eq41.true c.if-opened-eq0.true

pub closes-requires : goal.closes-requires
closes-requires c =
    let o = stand-on _ _ _ _ _ _ _ c.loop-nodes.invariant _ c.closed.ensures c.if-closed.false in
    shut-ready _ _ _ _ _ _ _ o c.if-at-src.false c.if-b-eq41.true c.if-opened-eq0.false

pub around-up-requires : goal.around-up-requires
around-up-requires c =
    let o = stand-on _ _ _ _ _ _ _ c.loop-nodes.invariant _ c.closed.ensures c.if-closed.false in
    (shut-ready _ _ _ _ _ _ _ o c.if-at-src.false c.if-b-eq41.true c.if-opened-eq0.false).inside

pub loop-nodes-preserved-then-closes : goal.loop-nodes-preserved-then-closes
loop-nodes-preserved-then-closes c =
    let o = stand-on _ _ _ _ _ _ _ c.loop-nodes.invariant _ c.closed.ensures c.if-closed.false in
    shut-on _ _ _ _ _ _ _ o c.if-at-src.false c.if-b-eq41.true c.if-opened-eq0.false _ c.closes.ensures c.if-closes.true _ c.around-up.ensures

pub returns-then-b-eq41 : goal.returns-then-b-eq41
returns-then-b-eq41 c =
    let o = stand-on _ _ _ _ _ _ _ c.loop-nodes.invariant _ c.closed.ensures c.if-closed.false in
    shut-off _ _ _ _ _ _ _ o c.if-at-src.false c.if-b-eq41.true c.if-opened-eq0.false _ c.closes.ensures c.if-closes.false

pub returns-then-seen-nodes-2 : goal.returns-then-seen-nodes-2
returns-then-seen-nodes-2 c =
    let o = stand-on _ _ _ _ _ _ _ c.loop-nodes.invariant _ c.closed.ensures c.if-closed.false in
    own-full _ _ _ _ _ _ _ o c.if-at-src.false c.if-b-eq41.false c.if-seen-nodes-2.true

pub offset_bounds-notes-seen-in-loop-nodes : goal.offset_bounds-notes-seen-in-loop-nodes
offset_bounds-notes-seen-in-loop-nodes c =
    let o = stand-on _ _ _ _ _ _ _ c.loop-nodes.invariant _ c.closed.ensures c.if-closed.false in
    omega (arith, own-few _ _ _ _ _ _ _ o c.if-at-src.false c.if-seen-nodes-2.false)

pub bounds-notes-seen-in-loop-nodes : goal.bounds-notes-seen-in-loop-nodes
bounds-notes-seen-in-loop-nodes c =
    let o = stand-on _ _ _ _ _ _ _ c.loop-nodes.invariant _ c.closed.ensures c.if-closed.false in
    own-note _ _ _ _ _ _ _ o c.if-at-src.false c.if-seen-nodes-2.false

pub string_at-requires : goal.string_at-requires
string_at-requires c =
    let o = stand-on _ _ _ _ _ _ _ c.loop-nodes.invariant _ c.closed.ensures c.if-closed.false in
    own-inside _ _ _ _ _ _ _ o

pub overflow_mul-up : goal.overflow_mul-up
overflow_mul-up c =
    let o = stand-on _ _ _ _ _ _ _ c.loop-nodes.invariant _ c.closed.ensures c.if-closed.false in
    omega (arith, own-up _ _ _ _ _ _ _ o)

pub overflow_add-s : goal.overflow_add-s
overflow_add-s c =
    let o = stand-on _ _ _ _ _ _ _ c.loop-nodes.invariant _ c.closed.ensures c.if-closed.false in
    own-fits _ _ _ _ _ _ _ o c.if-at-src.false c.if-seen-nodes-2.false _ c.in-Some.ensures

pub loop-nodes-smaller-then-note-s : goal.loop-nodes-smaller-then-note-s
loop-nodes-smaller-then-note-s c =
    let o = stand-on _ _ _ _ _ _ _ c.loop-nodes.invariant _ c.closed.ensures c.if-closed.false in
    plain-less _ _ _ _ _ _ _ o c.if-at-src.false c.if-seen-nodes-2.false _ c.in-Some.ensures c.if-note-s.true

pub loop-nodes-preserved-then-note-s : goal.loop-nodes-preserved-then-note-s
loop-nodes-preserved-then-note-s c =
    let o = stand-on _ _ _ _ _ _ _ c.loop-nodes.invariant _ c.closed.ensures c.if-closed.false in
    plain-on _ _ _ _ _ _ _ o c.if-at-src.false c.if-seen-nodes-2.false _ c.in-Some.ensures c.if-note-s.true

pub returns-in-Some : goal.returns-in-Some
returns-in-Some c =
    let o = stand-on _ _ _ _ _ _ _ c.loop-nodes.invariant _ c.closed.ensures c.if-closed.false in
    plain-off _ _ _ _ _ _ _ o c.if-at-src.false c.if-seen-nodes-2.false _ c.in-Some.ensures c.if-note-s.false

pub begins-requires : goal.begins-requires
begins-requires c =
    let o = stand-on _ _ _ _ _ _ _ c.loop-nodes.invariant _ c.closed.ensures c.if-closed.false in
    (own-few _ _ _ _ _ _ _ o c.if-at-src.false c.if-seen-nodes-2.false).0

pub loop-nodes-preserved-then-begins : goal.loop-nodes-preserved-then-begins
loop-nodes-preserved-then-begins c =
    let o = stand-on _ _ _ _ _ _ _ c.loop-nodes.invariant _ c.closed.ensures c.if-closed.false in
    begin-on _ _ _ _ _ _ _ o c.if-at-src.false c.if-seen-nodes-2.false c.if-b-eq40.true _ c.begins.ensures c.if-begins.true

pub returns-then-b-eq40 : goal.returns-then-b-eq40
returns-then-b-eq40 c =
    let o = stand-on _ _ _ _ _ _ _ c.loop-nodes.invariant _ c.closed.ensures c.if-closed.false in
    begin-off _ _ _ _ _ _ _ o c.if-at-src.false c.if-seen-nodes-2.false c.if-b-eq40.true _ c.begins.ensures c.if-begins.false

pub hints-requires : goal.hints-requires
hints-requires c =
    let o = stand-on _ _ _ _ _ _ _ c.loop-nodes.invariant _ c.closed.ensures c.if-closed.false in
    record { meetable = own_meets _ _ _ _ _ _ _ o c.if-at-src.false c.if-seen-nodes-2.false; unread = own-unread _ _ _ _ _ _ _ o c.if-at-src.false c.if-b-eq41.false c.in_default.ensures c.if-b-eq40.false }

pub returns-in_default-hints : goal.returns-in_default-hints
returns-in_default-hints c =
    let o = stand-on _ _ _ _ _ _ _ c.loop-nodes.invariant _ c.closed.ensures c.if-closed.false in
    hint-off _ _ _ _ _ _ _ o c.if-at-src.false c.if-seen-nodes-2.false _ c.in_default-hints.ensures refl

pub loop-nodes-smaller : goal.loop-nodes-smaller
loop-nodes-smaller c =
    let o = stand-on _ _ _ _ _ _ _ c.loop-nodes.invariant _ c.closed.ensures c.if-closed.false in
    hint-less _ _ _ _ _ _ _ o c.if-at-src.false c.if-seen-nodes-2.false _ c.in-Some-hints.ensures _ refl

pub loop-nodes-preserved : goal.loop-nodes-preserved
loop-nodes-preserved c =
    let o = stand-on _ _ _ _ _ _ _ c.loop-nodes.invariant _ c.closed.ensures c.if-closed.false in
    hint-on _ _ _ _ _ _ _ o c.if-at-src.false c.if-seen-nodes-2.false _ c.in-Some-hints.ensures _ refl
