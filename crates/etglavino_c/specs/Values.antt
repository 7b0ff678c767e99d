-- What a C entry for values and hours returns and gives out: what is not there is 0.
use Rattle.std.specs.Prelude.{ℕ, ◌≡◌, eqb, ℤ, pos, Float}
use Rattle.std.proofs.Math.Option.{Option, none, some}
use Rattle.std.specs.Float.{binary32, binary64}
use Rattle.std.specs.Float.Ieee.{of_bits}
use Rattle.base.specs.Choice.{pick}
use Rattle.typed.specs.Cases.{Valued, valued, Totalled, totalled, Lined, lined, Summed, summed}
use Rattle.typed.specs.declared.Value.{Value}
use Rattle.typed.specs.declared.Value.TheVariants.{Single, Double, Whole, Raw}
use Rattle.typed.specs.declared.Line.{Line}
use Rattle.typed.specs.declared.Total.{Total}
use Rattle.typed.specs.Cases.{Valuing}
use Rattle.typed.specs.Cases.{Totalling}
use Rattle.typed.specs.Cases.{Lining}
use Rattle.typed.specs.Cases.{Summing}

-- ---- a value: its kind, 1 a single, 2 a double, 3 a whole number, 4 raw, and what it carries

pub record ValueOut : Type 0 where
  pub number : ℕ
  pub kind : ℕ
  pub single : Float
  pub double : Float
  pub whole : ℤ
  pub start : ℕ
  pub end : ℕ

abbrev pub value_out : ℕ → ℕ → Float → Float → ℤ → ℕ → ℕ → ValueOut
value_out n k x y w s e = record { number = n; kind = k; single = x; double = y; whole = w; start = s; end = e }

-- plus zero
abbrev pub nil32 : Float
nil32 = of_bits binary32 0

abbrev pub nil64 : Float
nil64 = of_bits binary64 0

unfoldable pub carried : ℕ → Option Value → ValueOut
carried n none = value_out n 0 nil32 nil64 (pos 0) 0 0
carried n (some (Single x)) = value_out n 1 x nil64 (pos 0) 0 0
carried n (some (Double y)) = value_out n 2 nil32 y (pos 0) 0 0
carried n (some (Whole w)) = value_out n 3 nil32 nil64 w 0 0
carried n (some (Raw s e)) = value_out n 4 nil32 nil64 (pos 0) s e

unfoldable pub handed_value : Valued → ValueOut
handed_value v = carried v.number v.value

abbrev pub HandsValue : Valuing → ℕ → ℕ → Float → Float → ℤ → ℕ → ℕ → Type 0
HandsValue answer n k x y w s e = value_out n k x y w s e ≡ handed_value (valued answer)

-- the value that a kind and its payload are; any other kind is raw
unfoldable pub value_for : ℕ → Float → Float → ℤ → ℕ → ℕ → Value
value_for k x y w s e = pick (eqb k 1) (Single x) (pick (eqb k 2) (Double y) (pick (eqb k 3) (Whole w) (Raw s e)))

-- ---- a total

pub record TotalOut : Type 0 where
  pub number : ℕ
  pub quarters : ℕ
  pub hours : Float

abbrev pub total_out : ℕ → ℕ → Float → TotalOut
total_out n q x = record { number = n; quarters = q; hours = x }

unfoldable pub total_given : ℕ → Option Total → TotalOut
total_given n none = total_out n 0 nil64
total_given n (some s) = total_out n s.quarters s.hours

unfoldable pub handed_total : Totalled → TotalOut
handed_total v = total_given v.number v.total

abbrev pub HandsTotal : Totalling → ℕ → ℕ → Float → Type 0
HandsTotal answer n q x = total_out n q x ≡ handed_total (totalled answer)

-- a line that the caller made up
abbrev pub line_for : Float → Float → Float → Line
line_for x y z = record { ordinary = x; night = y; holiday = z }

-- ---- a line with its total

pub record LineOut : Type 0 where
  pub number : ℕ
  pub ordinary : Float
  pub night : Float
  pub holiday : Float
  pub quarters : ℕ
  pub hours : Float

abbrev pub line_out : ℕ → Float → Float → Float → ℕ → Float → LineOut
line_out n x y z q h = record { number = n; ordinary = x; night = y; holiday = z; quarters = q; hours = h }

unfoldable pub line_given : ℕ → Option Line → Option Total → LineOut
line_given n none s = line_out n nil64 nil64 nil64 0 nil64
line_given n (some l) none = line_out n nil64 nil64 nil64 0 nil64
line_given n (some l) (some s) = line_out n l.ordinary l.night l.holiday s.quarters s.hours

unfoldable pub handed_line : Lined → LineOut
handed_line v = line_given v.number v.line v.total

abbrev pub HandsLine : Lining → ℕ → Float → Float → Float → ℕ → Float → Type 0
HandsLine answer n x y z q h = line_out n x y z q h ≡ handed_line (lined answer)

-- ---- a list of lines

pub record WeekOut : Type 0 where
  pub number : ℕ
  pub lines : ℕ
  pub quarters : ℕ
  pub hours : Float
  pub bad : ℕ

abbrev pub week_out : ℕ → ℕ → ℕ → Float → ℕ → WeekOut
week_out n l q h b = record { number = n; lines = l; quarters = q; hours = h; bad = b }

unfoldable pub week_given : ℕ → ℕ → Option Total → ℕ → WeekOut
week_given n l none b = week_out n l 0 nil64 b
week_given n l (some s) b = week_out n l s.quarters s.hours b

unfoldable pub handed_week : Summed → WeekOut
handed_week v = week_given v.number v.lines v.total v.bad

abbrev pub HandsWeek : Summing → ℕ → ℕ → ℕ → Float → ℕ → Type 0
HandsWeek answer n l q h b = week_out n l q h b ≡ handed_week (summed answer)
