use native.Mathlib.Omega.{arith}
use Rattle.canonical.proofs.Lexing.{verb-end, verb-low, verb-high, verb-digit, value-within, verb-value, verb-huge}
use Rattle.canonical.proofs.verbatim_at.Goals as goal

pub returns-in_err-b : goal.returns-in_err-b
returns-in_err-b c = let k = c.in_err-b.ensures.lookup in rw c.from_residual.ensures (verb-end _ _ (omega arith))

pub returns-then-b-lt48 : goal.returns-then-b-lt48
returns-then-b-lt48 c = let k = c.in_ok-b.ensures.lookup in let e = k.3.1 0 in verb-low _ _ (omega arith) (omega arith)

pub returns-then-b-gt57 : goal.returns-then-b-gt57
returns-then-b-gt57 c = let k = c.in_ok-b.ensures.lookup in let e = k.3.1 0 in verb-high _ _ (omega arith) (omega arith)

pub decimal_at-requires : goal.decimal_at-requires
decimal_at-requires c = let k = c.in_ok-b.ensures.lookup in let e = k.3.1 0 in (omega arith, verb-digit c.args.src.now c.args.at (omega arith) (omega arith) (omega arith))

pub returns-in_err-number : goal.returns-in_err-number
returns-in_err-number c = let k = c.in_ok-b.ensures.lookup in let e = k.3.1 0 in rw c.from_residual-in_err-number.ensures (verb-huge _ _ (omega arith) (omega arith) (omega arith) c.in_err-number.ensures)

pub after_length-requires : goal.after_length-requires
after_length-requires c = let k = c.in_ok-b.ensures.lookup in let e = k.3.1 0 in value-within _ _ (omega arith) (omega arith) (omega arith) _ c.in_ok-number.ensures

pub returns : goal.returns
returns c = let k = c.in_ok-b.ensures.lookup in let e = k.3.1 0 in verb-value _ _ (omega arith) (omega arith) (omega arith) _ c.in_ok-number.ensures _ c.after_length.ensures
