use native.Mathlib.Omega.{arith}
use Rattle.spelling.proofs.Choosing.{empty-front, token-room, token-front, quotable, quoted-room, quoted-front, hexed-room, hexed-front}
use borrow.Author.Rules.{rules}
use Rattle.spelling.proofs.put_spelled.Goals as goal

pub returns-then-start-end : goal.returns-then-start-end
returns-then-start-end c = search (empty-front, arith)

pub copy-requires : goal.copy-requires
copy-requires c = (search rules, search (token-room, arith))

pub returns-then-token-end : goal.returns-then-token-end
returns-then-token-end c = search (token-front, arith)

pub put_quoted-requires-clause-quotable : goal.put_quoted-requires-clause-quotable
put_quoted-requires-clause-quotable c = search (quotable, arith)

pub put_quoted-requires-clause-end_in_bounds : goal.put_quoted-requires-clause-end_in_bounds
put_quoted-requires-clause-end_in_bounds c = search (quoted-room, arith)

pub returns-then-printable : goal.returns-then-printable
returns-then-printable c = search (quoted-front, arith)

pub put_hexadecimal-requires-clause-end_in_bounds : goal.put_hexadecimal-requires-clause-end_in_bounds
put_hexadecimal-requires-clause-end_in_bounds c = search (hexed-room, arith)

pub returns : goal.returns
returns c = search (hexed-front, arith)
