-- What is said of the lexeme at a place of a canonical text.
use Rattle.std.specs.Prelude.{ℕ, ◌+◌, ◌≤◌, ◌≡◌, List, length, take, drop, Option, Some, None}
use Rattle.model.specs.Strings.{got, refused, after_length, verbatim_of}
use Rattle.model.specs.Lexemes.{opening, closing, atom, hinting, close_strict, strict_lexeme}
use Rattle.model.specs.Table.{body_start, body_end}
use Rattle.canonical.specs.declared.Span.{Span}
use Rattle.canonical.specs.declared.Item.{Item}
use Rattle.canonical.specs.declared.Item.TheVariants.{Open, Close, Plain, Hinted}

-- a colon at `at`, and n octets from `start` to `end`
pub record Followed (src : List ℕ) (at n start end : ℕ) : Type 0 where
  pub begins : start ≡ at + 1
  pub ends : end ≡ start + n
  pub within : end ≤ length src
  pub reads : after_length n (drop at src) ≡ got (take n (drop start src)) (drop end src)

unfoldable pub Follows : List ℕ → ℕ → ℕ → Option Span → Type 0
Follows src at n (Some s) = Followed src at n s.start s.end
Follows src at n None = after_length n (drop at src) ≡ refused

-- a verbatim string at `at`, whose octets stand from `start` to `end`
pub record Spanned (src : List ℕ) (at start end : ℕ) : Type 0 where
  pub octets : List ℕ
  pub reads : verbatim_of (drop at src) ≡ got octets (drop end src)
  pub begins : start ≡ body_start at octets
  pub ends : end ≡ body_end at octets
  pub within : end ≤ length src

unfoldable pub Spans : List ℕ → ℕ → Option Span → Type 0
Spans src at (Some s) = Spanned src at s.start s.end
Spans src at None = verbatim_of (drop at src) ≡ refused

-- a bracket at `he`, and a verbatim string after it
pub record ClosedBy (src : List ℕ) (he start end : ℕ) : Type 0 where
  pub octets : List ℕ
  pub reads : (h : List ℕ) → close_strict h (drop he src) ≡ got (hinting h octets) (drop end src)
  pub begins : start ≡ body_start (he + 1) octets
  pub ends : end ≡ body_end (he + 1) octets
  pub within : end ≤ length src

-- after a hint, whatever its octets
unfoldable pub Closes : List ℕ → ℕ → ℕ → Option Item → Type 0
Closes src hs he (Some Open) = ⊥
Closes src hs he (Some Close) = ⊥
Closes src hs he (Some (Plain s e)) = ⊥
Closes src hs he (Some (Hinted hs' he' s e)) = (hs' ≡ hs) × (he' ≡ he) × ClosedBy src he s e
Closes src hs he None = (h : List ℕ) → close_strict h (drop he src) ≡ refused

-- a string at `at`
pub record Plainly (src : List ℕ) (at start end : ℕ) : Type 0 where
  pub octets : List ℕ
  pub reads : strict_lexeme (drop at src) ≡ got (atom octets) (drop end src)
  pub begins : start ≡ body_start at octets
  pub ends : end ≡ body_end at octets
  pub within : end ≤ length src

-- a string with a hint at `at`
pub record Hintedly (src : List ℕ) (at hint_start hint_end start end : ℕ) : Type 0 where
  pub hint : List ℕ
  pub octets : List ℕ
  pub reads : strict_lexeme (drop at src) ≡ got (hinting hint octets) (drop end src)
  pub hint_begins : hint_start ≡ body_start (at + 1) hint
  pub hint_ends : hint_end ≡ body_end (at + 1) hint
  pub begins : start ≡ body_start (hint_end + 1) octets
  pub ends : end ≡ body_end (hint_end + 1) octets
  pub within : end ≤ length src

unfoldable pub ItemAt : List ℕ → ℕ → Option Item → Type 0
ItemAt src at (Some Open) = strict_lexeme (drop at src) ≡ got opening (drop (at + 1) src)
ItemAt src at (Some Close) = strict_lexeme (drop at src) ≡ got closing (drop (at + 1) src)
ItemAt src at (Some (Plain s e)) = Plainly src at s e
ItemAt src at (Some (Hinted hs he s e)) = Hintedly src at hs he s e
ItemAt src at None = strict_lexeme (drop at src) ≡ refused
