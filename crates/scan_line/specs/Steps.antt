-- What the functions of the scan mean, for a machine of any bytes: a step, a walk over a part of a line, and the verdict at its end.
-- That the verdicts by `machine_bytes` are what the rules say is a law (proofs/Scans.antt). Assumes nothing.
use Rattle.std.specs.Prelude.{ℕ, ◌+◌, ◌*◌, ◌^◌, Bool, cond, ◌&&◌, List, [], ◌∷◌, ltb, leb, eqb, length, get_or, set}
use Rattle.lang.specs.Re.{in_c}
use Rattle.lang.specs.Parts.{flat}
use Rattle.lang.specs.Scan.{moved}
use Rattle.rules.specs.Editions.{LineEdition, first_lines, second_lines}
use Rattle.rules.specs.Stored.{little}
use Rattle.rules.specs.Texts.{name_brackets}
use Rattle.shape.specs.Tables.{states, deeps, flats, kinds, rows_at, ends_at, size, x_at, y_at, z_at, packed}
use Rattle.scan_line.specs.declared.Progress.{Progress}
use Rattle.scan_line.specs.declared.Stand.{Stand}
use Rattle.scan_line.specs.declared.Verdict.{Verdict}
use Rattle.scan_line.specs.declared.Verdict.TheVariants.{Fine, Short, Stray}

-- the bytes of the machine that decides shapes of the second edition of lines
unfoldable pub second_bytes : List ℕ
second_bytes = flat (little 8) packed

-- those of each edition: in the first no letter goes on behind the `m` of an internal ion
unfoldable pub machine_bytes : LineEdition → List ℕ
machine_bytes first_lines = set (set (set second_bytes x_at states) y_at states) z_at states
machine_bytes second_lines = second_bytes

-- a letter goes on behind the `m` of an internal ion
unfoldable pub takes_letters : List ℕ → Bool
takes_letters m = ltb x_at (length m) && ltb (get_or m x_at 0) states

-- from state q by the byte b, as the table has it
unfoldable pub step_by : List ℕ → ℕ → ℕ → ℕ
step_by m q b = get_or m (rows_at + q * kinds + get_or m b 0) 0

-- a bracket is open inside a name
abbrev pub deep_at : ℕ → Bool
deep_at q = leb deeps q && ltb q flats

-- with d brackets more open inside a name than state q says: in a deep state those that open and close are counted, and no row is needed for each depth
unfoldable pub move_by : List ℕ → ℕ → ℕ → ℕ → ℕ × ℕ
move_by m q d b = moved (deep_at q) (in_c name_brackets.opens b) (in_c name_brackets.closes b) q d (step_by m q b)

abbrev pub stand_of : ℕ × ℕ → Stand
stand_of p = record { state = p.0; depth = p.1 }

unfoldable pub ends_by : List ℕ → ℕ → Bool
ends_by m q = eqb (get_or m (ends_at + q) 0) 1

abbrev pub standing : ℕ → ℕ → ℕ → Progress
standing q d at = record { state = q; depth = d; at = at }

-- from state q, with d brackets more open, at a place, over bytes: the walk stops where no shape goes on
unfoldable pub run_by : List ℕ → ℕ → ℕ → ℕ → List ℕ → Progress
run_by m q d at [] = standing q d at
run_by m q d at (b ∷ w) =
    let p = move_by m q d b in
    let more = run_by m p.0 p.1 (at + 1) w in
    cond (ltb p.0 states) more (standing states 0 at)

-- a scan that stopped stays, and so does one by too few bytes, one with more brackets open than bytes were read, and one whose place would not fit a usize
abbrev pub goes_on : List ℕ → Progress → List ℕ → Bool
goes_on m s part = leb size (length m) && (ltb s.state states && (leb s.depth s.at && ltb (s.at + length part) (2 ^ 64)))

unfoldable pub taken_by : List ℕ → Progress → List ℕ → Progress
taken_by m s part = cond (goes_on m s part) (run_by m s.state s.depth s.at part) s

-- by too few bytes everything is stray
unfoldable pub verdict_by : List ℕ → Progress → Verdict
verdict_by m s = cond (leb size (length m)) (cond (ltb s.state states) (cond (ends_by m s.state) Fine Short) (Stray s.at)) (Stray 0)

-- a line in one part
unfoldable pub scanned_by : List ℕ → List ℕ → Verdict
scanned_by m line = verdict_by m (taken_by m (standing 0 0 0) line)
