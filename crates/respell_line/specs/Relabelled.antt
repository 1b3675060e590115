-- What is answered for a line that has a shape. Assumes nothing.
use Rattle.std.specs.Prelude.{ℕ, List}
use Rattle.std.specs.Option.{option_map_or}
use Rattle.rules.specs.Editions.{current}
use Rattle.rules.specs.Answers.{Answer, refuses}
use Rattle.answers.specs.Delivered.{line_over}
use Rattle.faults.specs.Refusals.{number_of}
use Rattle.read_annotation.specs.declared.Parts.{Parts}
use Rattle.measure_line.specs.declared.Totals.{Totals}
use Rattle.measure_line.specs.Totals.{parts_at, totals_of}
use Rattle.measure_line.specs.Refusals.{first_of}
use Rattle.respell_line.specs.Plain.{spelling_of}

-- the first refusal, or the spelling, where t was counted and p read of its first annotation
abbrev pub relabelled_with : List ℕ → ℕ → Totals → Parts → Answer
relabelled_with line room t p =
    option_map_or (λ r. refuses room (number_of r.why) r.place) (first_of t) (line_over (spelling_of line t p) room)

unfoldable pub relabelled_over : List ℕ → ℕ → Answer
relabelled_over line room = relabelled_with line room (totals_of current line) (parts_at line 0)
