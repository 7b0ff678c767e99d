use Rattle.spool.proofs.Storing.{stop-done, stop-lent, stop-large, stop-beyond, stop-room, wide-some, copies-on, stop-made, made-within, stores-on}
use native.Mathlib.Omega.{arith}
use Rattle.spool.proofs.stores.next_store.Goals as goal

pub returns-then-adding : goal.returns-then-adding
returns-then-adding c = search (stop-done, arith)

pub returns-then-octets-sheet : goal.returns-then-octets-sheet
returns-then-octets-sheet c = search (stop-lent, arith)

pub returns-then-octets-gt-CANONICAL : goal.returns-then-octets-gt-CANONICAL
returns-then-octets-gt-CANONICAL c = search (stop-large, arith)

pub returns-then-at-area : goal.returns-then-at-area
returns-then-at-area c = search (stop-beyond, arith)

pub returns-then-len-room : goal.returns-then-len-room
returns-then-len-room c = search (stop-room, arith)

pub sheet_first-first-requires : goal.sheet_first-first-requires
sheet_first-first-requires c = search (wide-some, arith)

pub returns-then-k-octets : goal.returns-then-k-octets
returns-then-k-octets c = search (copies-on, arith)

pub returns-then-made-total : goal.returns-then-made-total
returns-then-made-total c = search (stop-made, arith)

pub offset-i-requires : goal.offset-i-requires
offset-i-requires c = made-within _ _ _ _ c.stores_len-total.ensures (omega arith)

pub returns : goal.returns
returns c = search (stores-on, arith)
