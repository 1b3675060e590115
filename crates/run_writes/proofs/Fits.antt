-- No answer says that its line, its row or its table is longer than its room. Assumes nothing.
use Prim.Native.Nat.{ℕ, ◌-◌, ◌≤◌}
use mathlib.Core.Path.{◌≡◌, refl, subst}
use mathlib.Core.Bool.{Bool, true, false, cond, ◌||◌}
use mathlib.Core.List.{List, ◌++◌}
use native.Mathlib.Omega.{arith}
use lib.Dec.{eqb, ltb}
use lib.ListN.{length, take, length-replicate}
use borrow.Author.Tests.{ltb-false}
use Rattle.std.specs.Prelude.{Option, Some, None, Result, Ok, Err}
use Rattle.std.specs.Option.{option_map_or}
use Rattle.rules.specs.Limits.{max_line}
use Rattle.rules.specs.Rows.{tab}
use Rattle.rules.specs.Answers.{Answer}
use Rattle.rules.specs.Largest.{max_any_table}
use Rattle.rules.specs.Editions.{Edition, ed1, ed2, current}
use Rattle.store_sections.specs.Headers.{end_at}
use Rattle.scan_line.specs.Steps.{scanned_by}
use Rattle.layout.specs.Editions.{edition_of}
use Rattle.print_table.specs.Tables.{printed_table}
use Rattle.io_hex.specs.Hexes.{spelled, unhexed}
use Rattle.answers.specs.Delivered.{line_over}
use Rattle.measure_line.specs.Totals.{totals_of}
use Rattle.measure_line.specs.Refusals.{first_of}
use Rattle.read_line.specs.Readings.{table_over, spelled_over}
use Rattle.read_line.specs.Back.{reads_to, few, zeros}
use Rattle.write_table.specs.declared.Wanted.{Wanted}
use Rattle.write_table.specs.declared.Wanted.TheVariants.{Line, Table}
use Rattle.write_table.specs.Writings.{edition_for, first_number, handed_of, unheld_number, judged_for, found_of, found_in, longest_printed, answer_of}
use Rattle.write_row.specs.declared.Head.{Head}
use Rattle.answers.specs.Behind.{capped}
use Rattle.write_row.specs.Writings.{behind_of, head_of, headed_of, write_row_of}
use Rattle.run_writes.specs.declared.Task.{Task}
use Rattle.run_writes.specs.declared.Task.TheVariants.{WriteTable, WriteRow, ConvertTable}
use Rattle.run_writes.specs.Answered.{answer_as, hex_of}

-- an answer within its room
pub record Fits (room : ℕ) (a : Answer) : Type 0 where
  pub is : a.size ≤ room

either : {room : ℕ} {a b : Answer} (c : Bool) → Fits room a → Fits room b → Fits room (cond c a b)
either true h g = h
either false h g = g

-- a refusal, over any bytes
refused : (room number place : ℕ) {d : List ℕ} → Fits room (record { number = number; place = place; size = 0; out = d })
refused room number place = record { is = omega arith }

-- so many bytes, or 8 where they are more than there is room for
within : (room n : ℕ) (d out : List ℕ) → Fits room (cond (ltb room n) (record { number = 8; place = n; size = 0; out = d }) (record { number = 0; place = 0; size = n; out = out }))
within room n d out = by (ltb room n) refl
  where
    by : (c : Bool) → ltb room n ≡ c → Fits room (cond c (record { number = 8; place = n; size = 0; out = d }) (record { number = 0; place = 0; size = n; out = out }))
    by true h = refused room 8 n
    by false h = record { is = ltb-false room n h }

line_fits : (w : List ℕ) (room : ℕ) → Fits room (line_over w room)
unfolding line_over
line_fits w room = either (ltb max_line (length w)) (refused room 1 max_line) (within room (length w) (zeros room) (w ++ zeros (room - length w)))

-- a line that is read again, to a table
spelled_fits : (e : Edition) (d w : List ℕ) → Fits (length d) (spelled_over e d w)
unfolding spelled_over
spelled_fits e d w =
    let t = totals_of e w in
    by (λ r. record { is = omega arith }) (first_of t) (within (length d) (end_at e t.counts) d (table_over e d w t.counts))
  where
    by : {A : Type 0} {g : A → Answer} {a : Answer} → ((x : A) → Fits (length d) (g x)) → (f : Option A) → Fits (length d) a → Fits (length d) (option_map_or g f a)
    by h None i = i
    by h (Some x) i = h x

handed_fits : (wanted : Wanted) (e : Edition) (w : List ℕ) (room : ℕ) → Fits room (handed_of wanted e w room)
handed_fits Line ed1 w room = refused room (first_number w) 0
handed_fits Line ed2 w room = line_fits w room
handed_fits Table e w room = subst (λ (n : ℕ). Fits n (spelled_over current (zeros room) w)) (length-replicate {A = ℕ} room 0) (spelled_fits current (zeros room) w)

found_fits : (wanted : Wanted) (machine : List ℕ) (most : ℕ) (scratch w table : List ℕ) (room : ℕ) → Fits room (found_in wanted machine most scratch w table room)
unfolding found_in found_of
found_fits wanted machine most scratch w table room =
    let e = edition_of (edition_for wanted table) in
    either (ltb most (length w)) (refused room 9 0)
    (either (reads_to e (scanned_by machine w) scratch w table) (handed_fits wanted e w room) (refused room (unheld_number e machine w table) 0))

answer_fits : (wanted : Wanted) (machine table : List ℕ) (room : ℕ) → Fits room (answer_of wanted machine table room)
unfolding answer_of
answer_fits wanted machine table room =
    let w = printed_table table in
    either (ltb few (length w) || ltb few (length table))
    (found_fits wanted machine longest_printed (zeros max_any_table) w table room)
    (found_fits wanted machine few (zeros few) w table room)

behind_fits : (columns : List ℕ) (to room : ℕ) (b : Answer) → Fits room (behind_of columns to room b)
unfolding behind_of
behind_fits columns to room b =
    either (eqb b.number 0)
    (either (eqb b.size 0)
    (within room to (zeros room) (columns ++ zeros (room - to)))
    (within room (capped (capped to 1) b.size) (zeros room) (columns ++ (tab ++ b.out))))
    (either (eqb b.number 8) (refused room 8 (capped (capped to 1) b.place)) (refused room b.number b.place))

row_fits : (machine stored : List ℕ) (room : ℕ) → Fits room (write_row_of machine stored room)
unfolding write_row_of
row_fits machine stored room = by (head_of stored)
  where
    by : (o : Result Head Head) → Fits room (headed_of machine stored room o)
    by (Ok h) = behind_fits _ _ room _
    by (Err h) = refused room 9 0

as_fits : (task : Task) (machine table : List ℕ) (room : ℕ) → Fits room (answer_as task machine table room)
unfolding answer_as
as_fits WriteTable machine table room = answer_fits Line (judged_for (edition_of (edition_for Line table)) machine) table room
as_fits WriteRow machine table room = row_fits machine table room
as_fits ConvertTable machine table room = answer_fits Table (judged_for (edition_of (edition_for Table table)) machine) table room

pub hex_fits : (task : Task) (machine digits : List ℕ) (tableRoom room : ℕ) → Fits room (hex_of task machine digits tableRoom room)
unfolding hex_of
hex_fits task machine digits tableRoom room =
    either (spelled digits) (as_fits task machine (take tableRoom (unhexed digits)) room) (refused room 9 0)
