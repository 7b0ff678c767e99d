use Rattle.hexadecimal.proofs.Digits.{value-digit}
use Rattle.hexadecimal.proofs.value.Goals as goal

pub returns : goal.returns
returns c = search value-digit
