-- What is spelled in a part of the output that is a byte longer than the line for each annotation is the answer to the line, and so for rows. Assumes nothing.
use Prim.Native.Nat.{ℕ, ◌+◌, ◌-◌, ◌<◌, ◌≤◌, ◌^◌, min}
use mathlib.Core.Path.{◌≡◌, sym, ap, ◌∙◌}
use mathlib.Core.List.{List, ◌++◌}
use native.Mathlib.Omega.{arith}
use lib.ListN.{length, get_or, take, drop, length-take, length-drop}
use lib.Seq.{length-take-le, take_at, drop_at, take-append-le}
use Rattle.rules.specs.Limits.{max_annotations}
use Rattle.rules.specs.RowAnswers.{max_row}
use Rattle.rules.specs.Editions.{LineEdition}
use Rattle.rules.specs.Answers as rules
use Rattle.scan_line.specs.Steps.{machine_bytes, scanned_by}
use Rattle.answers.specs.Delivered.{Answer, size_in, answered}
use Rattle.lines.specs.Relabels.{relabelled_of}
use Rattle.lines.proofs.Right.{relabel_made}
use Rattle.respell_row.specs.Relabelled.{relabelled_row_of}
use Rattle.rows.proofs.RelabelRow.{relabel_row_made}
use Rattle.run_program.specs.declared.Input.{Input}
use Rattle.run_program.specs.declared.Input.TheVariants.{Lines, Rows}
use Rattle.run_relabel.specs.Spelled.{relabel_as, RelabelsAs, a_line_lem, a_row, Spelled}
use Rattle.run_relabel.proofs.Rooms.{relabels_roomy, relabels_enough, relabels_also}

-- what the lines are was tested

pub relabel_lines : {input : Input} (m line : List ℕ) (room : ℕ) {a : rules.Answer} → input ≡ Lines → a ≡ relabelled_of (scanned_by m line) line room
    → a ≡ relabel_as input m line room
unfolding relabel_as
relabel_lines m line room h e = e ∙ ap (λ (i : Input). relabel_as i m line room) (sym h)

pub relabel_rows : {input : Input} (m row : List ℕ) (room : ℕ) {a : rules.Answer} → input ≡ Rows → a ≡ relabelled_row_of m row room → a ≡ relabel_as input m row room
unfolding relabel_as
relabel_rows m row room h e = e ∙ ap (λ (i : Input). relabel_as i m row room) (sym h)

-- by the machine of an edition it is what the rules say
relabels_made : (l : LineEdition) (input : Input) (line : List ℕ) (room : ℕ) (m : List ℕ) {a : rules.Answer} → m ≡ machine_bytes l → ((i : ℕ) → i < length line → get_or line i 0 < 256)
    → length line < 2 ^ 64 → room ≤ max_row → a ≡ relabel_as input m line room → RelabelsAs l input line room a
unfolding relabel_as
relabels_made l Lines line room m made bytes short small e = a_line_lem (relabel_made l line room m made bytes short e)
relabels_made l Rows line room m made bytes short small e = a_row (relabel_row_made l line room m made (omega arith) bytes short e)

-- n bytes of output d are lent from a place on, and are p then; r is the answer
module _ (l : LineEdition) (input : Input) (m line d : List ℕ) {e p : List ℕ} (at n : ℕ) (r : Answer) (made : m ≡ machine_bytes l) (bytes : (i : ℕ) → i < length line → get_or line i 0 < 256)
    (short : length line < 2 ^ 64) (fits : at + max_row ≤ length d) (lent : n ≡ min (length line + max_annotations) max_row)
    (by : answered r p ≡ relabel_as input m line (length (take (at + n - at) (drop at d))))
    (is : e ≡ take at d ++ (p ++ drop (at + n - at) (drop at d))) where
  room : length (take (at + n - at) (drop at d)) ≡ n
  room = omega (arith, length-take (at + n - at) (drop at d), length-drop at d)

  by_rules : RelabelsAs l input line n (answered r p)
  by_rules = relabels_made l input line n m made bytes short (omega arith) (by ∙ ap (relabel_as input m line) room)

  head_length : length (take at d) ≡ at
  head_length = length-take-le at d (omega arith)

  pub spelled_there : Spelled l input line d at e r
  spelled_there =
      let x = relabels_also (omega arith) by_rules (relabels_enough line by_rules (omega arith)) in
      let y = relabels_roomy by_rules in
      let s = x.same in
      let rest = drop (at + n - at) (drop at d) in
      record {
        answer = x.answer;
        answers = x.is;
        number = s.number;
        place = s.place;
        len = s.size;
        stands =
            ap (λ (w : List ℕ). take (size_in r) (drop at w)) is ∙ ap (take (size_in r)) (drop_at (take at d) (p ++ rest) at head_length)
            ∙ take-append-le (size_in r) p rest (omega (arith, y.all, y.result)) ∙ s.result;
        before = ap (take at) is ∙ take_at (take at d) (p ++ rest) at head_length;
      }
