use Rattle.blocks.proofs.Copies.{run_room, string-put}
use native.Mathlib.Omega.{arith}
use borrow.Author.Rules.{rules}
use Rattle.blocks.proofs.put_string.Goals as goal

pub copy-requires : goal.copy-requires
copy-requires c = (search (rules), search (run_room, arith))

pub returns : goal.returns
returns c = search (string-put, arith)
