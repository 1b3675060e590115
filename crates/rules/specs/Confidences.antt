-- Document 01, "Shape of a line": a confidence (4.10) is `*` and a decimal. Document 02, M-102: it may begin with the point. `*.5` is
-- read as 0.5, one decimal: where the whole part is 0 and a point follows, that 0 may be left out. Assumes nothing.
use Rattle.std.specs.Prelude.{ℕ, Bool, ◌&&◌, List, ◌++◌, T, eqb, leb}
use Rattle.rules.specs.Bytes.{bytes}
use Rattle.rules.specs.Decimals.{Decimal, whole, point_text, decimal_text}

-- the whole part is 0, and a point follows
abbrev pub begins_zero_point : Decimal → Bool
begins_zero_point d = eqb (whole d.places d.value) 0 && leb 1 d.places

-- a decimal whose 0 may be left out
pub record ZeroPoint : Type 0 where
  pub decimal : Decimal
  pub begins : T (begins_zero_point decimal)

-- a confidence as it is written: its decimal in full, or from the point on. In a table it is the decimal.
pub data Confidence : Type 0 where
  in_full : Decimal → Confidence
  from_point_lem : ZeroPoint → Confidence

abbrev pub confidence_text : Confidence → List ℕ
confidence_text (in_full d) = bytes "*" ++ decimal_text d
confidence_text (from_point_lem z) = bytes "*" ++ point_text z.decimal.places z.decimal.value

-- the decimal that it means: a 0 that is left out is there
abbrev pub meant_decimal : Confidence → Decimal
meant_decimal (in_full d) = d
meant_decimal (from_point_lem z) = z.decimal
