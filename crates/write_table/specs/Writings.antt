-- The answer to bytes that may be a table: their line is printed, read again, and what it reads to is held against them.
-- Assumes nothing.
use Rattle.std.specs.Prelude.{ℕ, Bool, cond, ◌||◌, List, ltb, length}
use Rattle.rules.specs.Answers.{Answer, refuses}
use Rattle.rules.specs.Editions as rules
use Rattle.rules.specs.Editions.{ed1, ed2, current, first_lines, second_lines}
use Rattle.rules.specs.Largest.{max_any_table}
use Rattle.answers.specs.Delivered.{line_over}
use Rattle.scan_line.specs.Steps.{machine_bytes, takes_letters, scanned_by}
use Rattle.layout.specs.declared.Edition.{Edition}
use Rattle.layout.specs.declared.Edition.TheVariants.{First}
use Rattle.layout.specs.Editions.{edition_of}
use Rattle.print_table.specs.Parts.{edition_in}
use Rattle.print_table.specs.Tables.{printed_table}
use Rattle.read_line.specs.Readings.{spelled_over, keeps_all}
use Rattle.read_line.specs.Back.{reads_to, few, zeros}
use Rattle.write_table.specs.declared.Wanted.{Wanted}
use Rattle.write_table.specs.declared.Wanted.TheVariants.{Line, Table}

-- the edition that bytes have to be of: for its line a table may name any
abbrev pub edition_for : Wanted → List ℕ → Edition
edition_for Line table = edition_in table
edition_for Table table = First

-- the number for the line of an edition 1 table: 10 where it can be read today, else 9
unfoldable pub first_number : List ℕ → ℕ
first_number w = cond (keeps_all current w) 10 9

-- the line of a table of an edition
abbrev pub line_of : rules.Edition → List ℕ → ℕ → Answer
line_of ed1 w room = refuses room (first_number w) 0
line_of ed2 w room = line_over w room

-- what is wanted, where the line is that of a table of an edition
abbrev pub handed_of : Wanted → rules.Edition → List ℕ → ℕ → Answer
handed_of Line e w room = line_of e w room
handed_of Table e w room = spelled_over current (zeros room) w

-- the number for bytes that the line w, printed for them, does not read to by a machine: 20 where it does in the second edition of lines, else 9
abbrev pub unheld_number : rules.Edition → List ℕ → List ℕ → List ℕ → ℕ
unheld_number ed1 machine w table = 9
unheld_number ed2 machine w table =
    cond (takes_letters machine) 9 (cond (reads_to current (scanned_by (machine_bytes second_lines) w) (zeros max_any_table) w table) 20 9)

-- a line, where it is known whether it reads to the bytes that it was printed for, and the number if it does not
unfoldable pub found_of : Wanted → rules.Edition → Bool → ℕ → List ℕ → ℕ → Answer
found_of wanted e held number w room = cond held (handed_of wanted e w room) (refuses room number 0)

-- held against bytes that may be a table of an edition; the line is read again into `scratch`
abbrev pub found_as : Wanted → rules.Edition → List ℕ → List ℕ → List ℕ → List ℕ → ℕ → Answer
found_as wanted e machine scratch w table room = found_of wanted e (reads_to e (scanned_by machine w) scratch w table) (unheld_number e machine w table) w room

-- line w of a table, printed into a buffer of `most` bytes
unfoldable pub found_in : Wanted → List ℕ → ℕ → List ℕ → List ℕ → List ℕ → ℕ → Answer
found_in wanted machine most scratch w table room =
    cond (ltb most (length w)) (refuses room 9 0) (found_as wanted (edition_of (edition_for wanted table)) machine scratch w table room)

-- enough for the line of every table
abbrev pub longest_printed : ℕ
longest_printed = 65536

unfoldable pub answer_of : Wanted → List ℕ → List ℕ → ℕ → Answer
answer_of wanted machine table room =
    let w = printed_table table in
    cond (ltb few (length w) || ltb few (length table))
    (found_in wanted machine longest_printed (zeros max_any_table) w table room)
    (found_in wanted machine few (zeros few) w table room)

-- a table of edition 1 has a line of the first edition, whichever is asked for
unfoldable pub judged_first : List ℕ → List ℕ
judged_first machine = cond (takes_letters machine) (machine_bytes first_lines) machine

abbrev pub judged_for : rules.Edition → List ℕ → List ℕ
judged_for ed1 machine = judged_first machine
judged_for ed2 machine = machine

abbrev pub answer_for : Wanted → List ℕ → List ℕ → ℕ → Answer
answer_for wanted machine table room = answer_of wanted (judged_for (edition_of (edition_for wanted table)) machine) table room

abbrev pub written_of : List ℕ → List ℕ → ℕ → Answer
written_of machine table room = answer_for Line machine table room

abbrev pub converted_of : List ℕ → List ℕ → ℕ → Answer
converted_of machine table room = answer_for Table machine table room
