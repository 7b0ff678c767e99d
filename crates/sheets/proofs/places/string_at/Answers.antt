use Rattle.sheets.proofs.Packing.{string-short, string-low, string-high, string-digit}
use native.Mathlib.Omega.{arith}
use Rattle.sheets.proofs.places.string_at.Goals as goal

pub returns-then-src-at-lt2 : goal.returns-then-src-at-lt2
returns-then-src-at-lt2 c = search (string-short, arith)

pub returns-then-b-lt48 : goal.returns-then-b-lt48
returns-then-b-lt48 c = search (string-low, arith)

pub returns-then-b-gt57 : goal.returns-then-b-gt57
returns-then-b-gt57 c = search (string-high, arith)

pub returns-then-src-at-eq58 : goal.returns-then-src-at-eq58
returns-then-src-at-eq58 c = search (string-digit, arith)
