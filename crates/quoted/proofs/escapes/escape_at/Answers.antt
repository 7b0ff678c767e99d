use Rattle.quoted.proofs.EscapeSteps.{escaped-end, escaped-named, escaped-hex, escaped-cr, escaped-lf, escaped-octal}
use native.Mathlib.Omega.{arith}
use Rattle.quoted.proofs.escapes.escape_at.Goals as goal

pub returns-in_err-e : goal.returns-in_err-e
returns-in_err-e c = let k = c.in_err-e.ensures.lookup in rw c.from_residual.ensures (escaped-end _ _ (omega arith))

pub returns-in-Some : goal.returns-in-Some
returns-in-Some c = let k = c.in_ok-e.ensures.lookup in escaped-named _ _ (omega arith) _ (k.3.1 0) _ c.in-Some.ensures

pub returns-in-120 : goal.returns-in-120
returns-in-120 c = let k = c.in_ok-e.ensures.lookup in escaped-hex _ _ (omega arith) _ (k.3.1 0) c.in_default.ensures (omega arith) _ c.hex_escape.ensures

pub returns-in-13 : goal.returns-in-13
returns-in-13 c =
    let k = c.in_ok-e.ensures.lookup in
    escaped-cr _ _ (omega arith) _ (k.3.1 0) c.in_default.ensures (λ e. absurd (omega arith)) (omega arith) _ c.line_escape.ensures

pub returns-in-10 : goal.returns-in-10
returns-in-10 c =
    let k = c.in_ok-e.ensures.lookup in
    escaped-lf _ _ (omega arith) _ (k.3.1 0) c.in_default.ensures (λ e. absurd (omega arith)) (λ e. absurd (omega arith)) (omega arith) _ c.line_escape-in-10.ensures

pub returns-in_default-e : goal.returns-in_default-e
returns-in_default-e c =
    let k = c.in_ok-e.ensures.lookup in
    escaped-octal _ _ (omega arith) _ (k.3.1 0) c.in_default.ensures (λ e. absurd (omega arith)) (λ e. absurd (omega arith)) (λ e. absurd (omega arith)) _ c.octal_escape.ensures
