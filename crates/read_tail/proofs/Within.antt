-- Whatever the bytes are, the decimal of a confidence and of a deviation is within its bounds. Assumes nothing.
use Prim.Native.Nat.{ℕ, ◌+◌, ◌-◌}
use mathlib.Core.Bool.{Bool, true, false, cond}
use mathlib.Core.List.{List}
use lib.Dec.{T}
use lib.ListN.{length, drop}
use Rattle.std.specs.Prelude.{Option}
use Rattle.rules.specs.Bytes.{bytes}
use Rattle.rules.specs.Texts.{starts_with}
use Rattle.rules.specs.Limits.{fits}
use Rattle.numbers.specs.declared.FirstByte.{FirstByte}
use Rattle.numbers.specs.declared.FirstByte.TheVariants.{Digit, DigitOrPoint}
use Rattle.numbers.specs.Making.{ruled, made_decimal}
use Rattle.numbers.specs.Points.{decimal_from, may_begin, nothing_read, decimal_of}
use Rattle.numbers.proofs.Bounds.{zero_within, told_within}
use Rattle.faults.specs.declared.Refusal.{Refusal}
use Rattle.read_tail.specs.declared.PartKind.{PartKind}
use Rattle.read_tail.specs.declared.PartKind.TheVariants.{Plain, Ppm}
use Rattle.read_tail.specs.declared.DecimalPart.{DecimalPart}
use Rattle.read_tail.specs.Decimals.{no_part, part_of, digit_at, confidence_of, deviation_in, deviation_of}

pub record Within (p : DecimalPart) : Type 0 where
  pub bounds : T (fits (ruled p.size))

none_within : (f : Option Refusal) → Within (no_part f)
none_within f = record { bounds = zero_within }

made_decimal_within : (first : FirstByte) (s : List ℕ) → T (fits (ruled (made_decimal (decimal_of first s).made)))
unfolding decimal_of decimal_from
made_decimal_within first s = by (may_begin first s)
  where
    by : (b : Bool) → T (fits (ruled (made_decimal (cond b (decimal_from s) nothing_read).made)))
    by true = told_within _ _
    by false = zero_within

part_within : (first : FirstByte) (s : List ℕ) (kind : PartKind) (minus bare : Bool) (len place : ℕ) (f : Option Refusal)
    → Within (part_of (decimal_of first s).made kind minus bare len place f)
unfolding part_of
part_within first s kind minus bare len place f = record { bounds = made_decimal_within first s }

either_within : (t : Bool) {p q : DecimalPart} → Within p → Within q → Within (cond t p q)
either_within true a b = a
either_within false a b = b

module _ (end : ℕ) (s : List ℕ) (f : Option Refusal) where
  pub confidence_within : Within (confidence_of end s f)
  unfolding confidence_of
  confidence_within =
      let t = drop 1 s in
      let bare = starts_with (bytes ".") t in
      either_within (starts_with (bytes "*") s)
      (part_within DigitOrPoint t Plain false bare (1 + (decimal_of DigitOrPoint t).len) (end - (length s - digit_at bare)) f) (none_within f)

  pub deviation_within : Within (deviation_of end s f)
  unfolding deviation_of
  deviation_within = either_within (starts_with (bytes "/") s) (by (starts_with (bytes "-") (drop 1 s))) (none_within f)
    where
      by : (m : Bool) → Within (deviation_in end s m f)
      by m =
          let t = drop (digit_at m) s in
          let len = digit_at m + (decimal_of Digit t).len in
          let place = end - (length s - digit_at m) in
          either_within (starts_with (bytes "ppm") (drop len s)) (part_within Digit t Ppm m false (len + 3) place f) (part_within Digit t Plain m false len place f)
