-- The code's answers to a line with a shape are those of the model. Assumes nothing.
use Prim.Native.Nat.{ℕ}
use mathlib.Core.Path.{◌≡◌, ap, ap₂, ◌∙◌}
use mathlib.Core.List.{List}
use lib.ListN.{replicate}
use Rattle.std.specs.Prelude.{Option, Some, None, Err}
use Rattle.std.specs.Option.{option_map_or}
use Rattle.rules.specs.Answers as rules
use Rattle.rules.specs.Answers.{refuses}
use Rattle.rules.specs.Editions.{current}
use Rattle.faults.specs.declared.Refusal.{Refusal}
use Rattle.faults.specs.Refusals.{number_of}
use Rattle.read_annotation.specs.declared.Parts.{Parts}
use Rattle.answers.specs.Delivered.{answered, line_over}
use Rattle.measure_line.specs.declared.Totals.{Totals}
use Rattle.measure_line.specs.Totals.{parts_at, totals_by}
use Rattle.measure_line.specs.Refusals.{first_of}
use Rattle.respell_line.specs.Plain.{spelling_of}
use Rattle.respell_line.specs.Relabelled.{relabelled_with, relabelled_over}

module _ (line : List ℕ) (room : ℕ) {t : Totals} {p : Parts} {f : Option Refusal} (pp : p ≡ parts_at line 0) (pt : t ≡ totals_by current line p) (pf : f ≡ first_of t) where
  -- what was counted and read is what is counted and read of the line
  over_is : relabelled_with line room t p ≡ relabelled_over line room
  unfolding relabelled_over
  over_is = ap₂ (relabelled_with line room) (pt ∙ ap (totals_by current line) pp) pp

  abbrev answer_by : Option Refusal → rules.Answer
  answer_by g = option_map_or (λ q. refuses room (number_of q.why) q.place) g (line_over (spelling_of line t p) room)

  pub refused_over : {out : List ℕ} {q : Refusal} → f ≡ Some q → out ≡ replicate room 0 → answered (Err q) out ≡ relabelled_over line room
  refused_over {out} {q} h z =
      let w : answered (Err q) out ≡ answer_by f = rw (h, z) in w ∙ ap answer_by pf ∙ over_is

  pub given_over : {b : rules.Answer} → f ≡ None → b ≡ line_over (spelling_of line t p) room → b ≡ relabelled_over line room
  given_over {b} h e = let w : b ≡ answer_by f = rw h e in w ∙ ap answer_by pf ∙ over_is
