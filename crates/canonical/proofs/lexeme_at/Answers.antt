use native.Mathlib.Omega.{arith}
use Rattle.canonical.proofs.Lexing.{lex-open, lex-close, hint-within, lex-hinted, lex-unhinted, lex-none, lex-plain}
use Rattle.canonical.proofs.lexeme_at.Goals as goal

pub returns-then-b-eq40 : goal.returns-then-b-eq40
returns-then-b-eq40 c = search (lex-open, arith)

pub returns-then-b-eq41 : goal.returns-then-b-eq41
returns-then-b-eq41 c = search (lex-close, arith)

pub returns-in_err-hint : goal.returns-in_err-hint
returns-in_err-hint c = rw c.from_residual.ensures (lex-unhinted _ _ (omega arith) c.if-b-eq40.false c.if-b-eq41.false c.if-b-eq91.true c.in_err-hint.ensures)

pub after_hint-requires : goal.after_hint-requires
after_hint-requires c = hint-within _ _ (omega arith) c.if-b-eq40.false c.if-b-eq41.false c.if-b-eq91.true _ c.in_ok-hint.ensures

pub returns-then-b-eq91 : goal.returns-then-b-eq91
returns-then-b-eq91 c = lex-hinted _ _ (omega arith) c.if-b-eq40.false c.if-b-eq41.false c.if-b-eq91.true _ c.in_ok-hint.ensures _ c.after_hint.ensures

pub returns-in_err-data : goal.returns-in_err-data
returns-in_err-data c = rw c.from_residual-in_err-data.ensures (lex-none _ _ (omega arith) c.if-b-eq40.false c.if-b-eq41.false c.if-b-eq91.false c.in_err-data.ensures)

pub returns : goal.returns
returns c = lex-plain _ _ (omega arith) c.if-b-eq40.false c.if-b-eq41.false c.if-b-eq91.false _ c.in_ok-data.ensures
