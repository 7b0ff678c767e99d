-- The grammar's classes exclude each other, each pair by one computed test.
use Prim.Native.Nat.{ℕ, ◌<◌}
use native.Mathlib.Omega.{arith}
use mathlib.Core.Path.{◌≡◌, refl}
use mathlib.Core.Bool.{Bool, true, false}
use lib.Dec.{ltb}
use borrow.Author.Tests.{lt-ltb, ltb-true}
use Rattle.base.specs.Choice.{member, every}
use Rattle.base.proofs.Below.{below, excludes, apart}
use Rattle.base.proofs.Cases.{by_bool, differ, among-true}
use Rattle.base.proofs.Lists.{member-every}
use Rattle.model.specs.Octets.{is_whitespace, is_digit, is_alpha, is_simple_punc, is_token_start, hexval, letter}

white_low : (b : ℕ) → is_whitespace b ≡ true → b < 33
unfolding is_whitespace every
white_low b h = ltb-true b 33 (member-every (λ a. ltb a 33) _ b refl h)

digit_low : (b : ℕ) → is_digit b ≡ true → b < 58
digit_low b h = omega (arith, among-true 48 57 b h)

white-digit : below 33 (excludes is_whitespace is_digit) ≡ true
unfolding below is_whitespace member
white-digit = refl

white-start : below 33 (excludes is_whitespace is_token_start) ≡ true
unfolding below is_whitespace member is_token_start is_alpha is_simple_punc
white-start = refl

digit-start : below 58 (excludes is_digit is_token_start) ≡ true
unfolding below is_token_start is_alpha is_simple_punc member
digit-start = refl

abbrev is_hex : ℕ → Bool
is_hex a = ltb (hexval a) 16

white-hex : below 33 (excludes is_whitespace is_hex) ≡ true
unfolding below is_whitespace member hexval
white-hex = refl

abbrev is_letter : ℕ → Bool
is_letter a = ltb (letter a) 64

white-letter : below 33 (excludes is_whitespace is_letter) ≡ true
unfolding below is_whitespace member letter
white-letter = refl

-- what is one is not the other
module _ (b : ℕ) where
  pub digit-unwhite : is_digit b ≡ true → is_whitespace b ≡ false
  digit-unwhite h = by_bool (is_whitespace b) (λ t. differ h (apart is_whitespace is_digit 33 white_low white-digit b t)) (λ t. t)

  pub start-unwhite : is_token_start b ≡ true → is_whitespace b ≡ false
  start-unwhite h = by_bool (is_whitespace b) (λ t. differ h (apart is_whitespace is_token_start 33 white_low white-start b t)) (λ t. t)

  pub start-undigit : is_token_start b ≡ true → is_digit b ≡ false
  start-undigit h = by_bool (is_digit b) (λ t. differ h (apart is_digit is_token_start 58 digit_low digit-start b t)) (λ t. t)

  pub hex-unwhite : hexval b < 16 → is_whitespace b ≡ false
  hex-unwhite h = by_bool (is_whitespace b) (λ t. differ (lt-ltb (hexval b) 16 h) (apart is_whitespace is_hex 33 white_low white-hex b t)) (λ t. t)

  pub letter-unwhite : letter b < 64 → is_whitespace b ≡ false
  letter-unwhite h = by_bool (is_whitespace b) (λ t. differ (lt-ltb (letter b) 64 h) (apart is_whitespace is_letter 33 white_low white-letter b t)) (λ t. t)
