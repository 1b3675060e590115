-- The deviation and the confidence that bytes begin with. Assumes nothing.
use Rattle.std.specs.Prelude.{ℕ, ◌+◌, ◌-◌, Bool, true, false, cond, List, length, drop, Option, is_none}
use Rattle.rules.specs.Bytes.{bytes}
use Rattle.rules.specs.Texts.{starts_with}
use Rattle.numbers.specs.declared.Decimal.{Decimal}
use Rattle.numbers.specs.declared.DecimalRead.{DecimalRead}
use Rattle.numbers.specs.declared.FirstByte.TheVariants.{Digit, DigitOrPoint}
use Rattle.numbers.specs.Making.{zero_decimal, made_decimal}
use Rattle.numbers.specs.Points.{decimal_of}
use Rattle.faults.specs.declared.Refusal.{Refusal}
use Rattle.faults.specs.declared.Why.TheVariants.{PastBound}
use Rattle.faults.specs.Faults.{mark, join}
use Rattle.read_tail.specs.declared.PartKind.{PartKind}
use Rattle.read_tail.specs.declared.PartKind.TheVariants.{Absent, Plain, Ppm}
use Rattle.read_tail.specs.declared.DecimalPart.{DecimalPart}

abbrev pub no_part : Option Refusal → DecimalPart
no_part f = record { kind = Absent; minus = false; bare = false; size = zero_decimal; len = 0; fault = f }

-- a decimal at a place, and the number of its refusal; past its bounds it is told as 0
unfoldable pub part_of : Option Decimal → PartKind → Bool → Bool → ℕ → ℕ → Option Refusal → DecimalPart
part_of m kind minus bare len place f = record { kind = kind; minus = minus; bare = bare; size = made_decimal m; len = len; fault = join f (mark PastBound place (is_none m)) }

-- where the first digit stands: behind `/` or `*`, or behind one byte more, `-` or the point
abbrev pub digit_at : Bool → ℕ
digit_at true = 2
digit_at false = 1

-- a confidence may begin with the point
abbrev pub confidence_in : ℕ → ℕ → Bool → DecimalRead → Option Refusal → DecimalPart
confidence_in end left bare d f = part_of d.made Plain false bare (1 + d.len) (end - (left - digit_at bare)) f

unfoldable pub confidence_of : ℕ → List ℕ → Option Refusal → DecimalPart
confidence_of end s f =
    let t = drop 1 s in cond (starts_with (bytes "*") s) (confidence_in end (length s) (starts_with (bytes ".") t) (decimal_of DigitOrPoint t) f) (no_part f)

-- a decimal `at` bytes behind the beginning, and whether `ppm` follows
abbrev pub deviation_end : ℕ → List ℕ → Bool → DecimalRead → Option Refusal → DecimalPart
deviation_end end s m d f =
    let place = end - (length s - digit_at m) in
    let len = digit_at m + d.len in
    cond (starts_with (bytes "ppm") (drop len s)) (part_of d.made Ppm m false (len + 3) place f) (part_of d.made Plain m false len place f)

abbrev pub deviation_in : ℕ → List ℕ → Bool → Option Refusal → DecimalPart
deviation_in end s m f = deviation_end end s m (decimal_of Digit (drop (digit_at m) s)) f

unfoldable pub deviation_of : ℕ → List ℕ → Option Refusal → DecimalPart
deviation_of end s f = cond (starts_with (bytes "/") s) (deviation_in end s (starts_with (bytes "-") (drop 1 s)) f) (no_part f)
