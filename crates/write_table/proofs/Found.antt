-- A line printed for bytes that may be a table, and read again. The sizes of buffers are variables here, so that no list of zeros is
-- ever computed. Assumes nothing.
use Prim.Native.Nat.{ℕ, ◌-◌, ◌<◌, ◌≤◌}
use mathlib.Core.Path.{◌≡◌, sym, ap, ap₂, ◌∙◌}
use mathlib.Core.Bool.{Bool, true, false}
use mathlib.Core.List.{List}
use native.Mathlib.Omega.{arith}
use lib.ListN.{length, take, replicate}
use lib.Seq.{take_at}
use borrow.Author.Tests.{lt-ltb, le-ltb}
use Rattle.put_bytes.specs.Puts.{max_place, Put}
use Rattle.put_bytes.proofs.Putting.{over_zeros}
use Rattle.rules.specs.Answers as Rules
use Rattle.rules.specs.Answers.{refuses}
use Rattle.rules.specs.Editions as rules
use Rattle.rules.specs.Editions.{current, ed2, first_lines, second_lines}
use Rattle.rules.specs.Largest.{max_any_table}
use Rattle.scan_line.specs.Steps.{machine_bytes, takes_letters, scanned_by}
use Rattle.layout.specs.declared.Edition.{Edition}
use Rattle.layout.specs.declared.Edition.TheVariants.{First, Second}
use Rattle.layout.specs.Editions.{edition_of}
use Rattle.print_table.specs.Tables.{printed_table}
use Rattle.faults.specs.declared.Why.{Why}
use Rattle.faults.specs.declared.Why.TheVariants.{NoTable}
use Rattle.faults.specs.Refusals.{number_of}
use Rattle.answers.specs.Delivered.{Answer, answered, refused_of}
use Rattle.read_line.specs.Readings.{keeps_all}
use Rattle.read_line.specs.Back.{reads_to, few, zeros}
use Rattle.answers.specs.Delivered.{line_over}
use Rattle.write_table.specs.Writings.{edition_for, first_number, unheld_number, line_of, handed_of, found_of, found_as, found_in, longest_printed, answer_of, judged_first, judged_for, answer_for}
use Rattle.write_table.specs.declared.Wanted.{Wanted}

-- ---- the line of a table, by its edition

module _ (w : List ℕ) (room : ℕ) {e : Edition} where
  pub line_first : {out : List ℕ} {r : Answer} → e ≡ First → out ≡ replicate room 0 → {y : Why} → number_of y ≡ first_number w → r ≡ refused_of y 0 → answered r out ≡ line_of (edition_of e) w room
  line_first p z q f =
      ap₂ (λ (r : Answer) (out : List ℕ). answered r out) f z ∙ ap (λ (n : ℕ). refuses room n 0) q ∙ ap (λ (e : Edition). line_of (edition_of e) w room) (sym p)

  pub line_second : {a : Rules.Answer} → e ≡ Second → a ≡ line_over w room → a ≡ line_of (edition_of e) w room
  line_second p q = q ∙ ap (λ (e : Edition). line_of (edition_of e) w room) (sym p)

-- ---- the machine that judges

module _ (wanted : Wanted) (machine table : List ℕ) (room : ℕ) {b : Bool} (l : b ≡ takes_letters machine) {a : Rules.Answer} where
  pub judged_lent : b ≡ false → a ≡ answer_of wanted machine table room → a ≡ answer_of wanted (judged_first machine) table room
  unfolding judged_first
  judged_lent f q = q ∙ rw (sym l ∙ f)

  pub judged_first_lem : b ≡ true → {m : List ℕ} → m ≡ machine_bytes first_lines → a ≡ answer_of wanted m table room → a ≡ answer_of wanted (judged_first machine) table room
  unfolding judged_first
  judged_first_lem t i q = q ∙ ap (λ (m : List ℕ). answer_of wanted m table room) i ∙ rw (sym l ∙ t)

module _ (wanted : Wanted) (machine table : List ℕ) (room : ℕ) {d : Edition} (i : d ≡ edition_for wanted table) {a : Rules.Answer} where
  pub for_first : d ≡ First → a ≡ answer_of wanted (judged_first machine) table room → a ≡ answer_for wanted machine table room
  for_first q x = x ∙ ap (λ (d : Edition). answer_of wanted (judged_for (edition_of d) machine) table room) (sym q ∙ i)

  pub for_second : d ≡ Second → a ≡ answer_of wanted machine table room → a ≡ answer_for wanted machine table room
  for_second q x = x ∙ ap (λ (d : Edition). answer_of wanted (judged_for (edition_of d) machine) table room) (sym q ∙ i)

-- ---- found to be the line of a table

module _ (wanted : Wanted) (e : rules.Edition) (w : List ℕ) (room : ℕ) where
  pub found_not : {out : List ℕ} {r : Answer} (held : Bool) {y : Why} {n : ℕ} → held ≡ false → number_of y ≡ n → out ≡ replicate room 0 → r ≡ refused_of y 0 → answered r out ≡ found_of wanted e held n w room
  unfolding found_of
  found_not held h i z f = rw (h, f, z, i)

  pub found_held : {a : Rules.Answer} (held : Bool) (n : ℕ) → held ≡ true → a ≡ handed_of wanted e w room → a ≡ found_of wanted e held n w room
  unfolding found_of
  found_held held n h q = q ∙ rw h

module _ (wanted : Wanted) (machine : List ℕ) (most : ℕ) (scratch w table : List ℕ) (room : ℕ) where
  pub found_long : {out : List ℕ} {r : Answer} → most < length w → out ≡ replicate room 0 → r ≡ refused_of NoTable 0
      → answered r out ≡ found_in wanted machine most scratch w table room
  unfolding found_in
  found_long h z e = rw (lt-ltb most (length w) h, e, z)

  -- s is what stands in the buffer, and d the edition that the bytes have to be of
  pub found_within : {s : List ℕ} {d : Edition} {held : Bool} {a : Rules.Answer} → s ≡ w → length w ≤ most → d ≡ edition_for wanted table
      → held ≡ reads_to (edition_of d) (scanned_by machine s) scratch s table → a ≡ found_of wanted (edition_of d) held (unheld_number (edition_of d) machine s table) s room
      → a ≡ found_in wanted machine most scratch w table room
  unfolding found_in
  found_within {s} {d} {held} q h i e f =
      f ∙ ap (λ (b : Bool). found_of wanted (edition_of d) b (unheld_number (edition_of d) machine s table) s room) e ∙ ap (λ (d : Edition). found_as wanted (edition_of d) machine scratch s table room) i
      ∙ ap (λ (l : List ℕ). found_as wanted (edition_of (edition_for wanted table)) machine scratch l table room) q ∙ rw (le-ltb most (length w) h)

-- ---- printed into a buffer

module _ {most n : ℕ} {w e : List ℕ} (p : Put (replicate most 0) 0 w e n) (h : most < max_place) where
  pub printed_past : most < n → most < length w
  printed_past g = omega (arith, p.next)

  pub printed_within : n ≤ most → length w ≤ most
  printed_within g = omega (arith, p.next)

  pub printed_first : n ≤ most → take n e ≡ w
  printed_first g =
      let k : length w ≤ most = printed_within g in
      let z : length w ≡ n = omega (arith, p.next) in
      ap (take n) (over_zeros p k) ∙ take_at w (replicate (most - length w) 0) n z

-- ---- by small buffers or by large ones

module _ (wanted : Wanted) (machine table : List ℕ) (room : ℕ) {a : Rules.Answer} where
  pub answered_many : few < length (printed_table table) → a ≡ found_in wanted machine longest_printed (zeros max_any_table) (printed_table table) table room
      → a ≡ answer_of wanted machine table room
  unfolding answer_of
  answered_many h q = q ∙ rw (lt-ltb few (length (printed_table table)) h)

  pub answered_large : length (printed_table table) ≤ few → few < length table
      → a ≡ found_in wanted machine longest_printed (zeros max_any_table) (printed_table table) table room → a ≡ answer_of wanted machine table room
  unfolding answer_of
  answered_large h g q = q ∙ rw (le-ltb few (length (printed_table table)) h, lt-ltb few (length table) g)

  pub answered_few : length (printed_table table) ≤ few → length table ≤ few
      → a ≡ found_in wanted machine few (zeros few) (printed_table table) table room → a ≡ answer_of wanted machine table room
  unfolding answer_of
  answered_few h g q = q ∙ rw (le-ltb few (length (printed_table table)) h, le-ltb few (length table) g)
