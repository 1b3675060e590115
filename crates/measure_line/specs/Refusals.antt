-- Which refusal is given, of those that were found in the annotations of a line. Assumes nothing.
use Rattle.std.specs.Prelude.{Option}
use Rattle.std.specs.Option.{option_or}
use Rattle.faults.specs.declared.Refusal.{Refusal}
use Rattle.measure_line.specs.declared.Totals.{Totals}

-- 4 and 5, then 11, then 6, then 7
unfoldable pub first_of : Totals → Option Refusal
first_of t =
    option_or (option_or (option_or t.limit t.form) t.breach) t.excess
