-- A walk over the annotations of a line, one after the other, that gives something of each. Assumes nothing.
use Rattle.std.specs.Prelude.{ℕ, ◌+◌, min, cond, List, [], ◌++◌, eqb, length, drop}
use Rattle.read_annotation.specs.declared.Parts.{Parts}
use Rattle.read_annotation.specs.Measured.{annotation_size}
use Rattle.measure_line.specs.Loops.{loop}
use Rattle.measure_line.specs.Totals.{goes_on, behind_comma, parts_at}

-- the place behind the annotation that begins at `from`, of which p was read
abbrev pub behind_by : List ℕ → ℕ → Parts → ℕ
behind_by line from p = min (from + annotation_size (drop from line) p) (length line)

-- how far, and what was given so far
pub record Done (X : Type 0) : Type 0 where
  pub at : ℕ
  pub given : List X

-- `give` says what the bytes that begin with an annotation give, where the parts were read of them
abbrev pub done_by : {X : Type 0} → (List ℕ → Parts → List X) → List ℕ → List X → ℕ → Parts → Done X
done_by give line xs from p = record { at = behind_by line from p; given = xs ++ give (drop from line) p }

abbrev pub done_one : {X : Type 0} → (List ℕ → Parts → List X) → List ℕ → List X → ℕ → Done X
done_one give line xs from = done_by give line xs from (parts_at line from)

abbrev pub done_next : {X : Type 0} → (List ℕ → Parts → List X) → List ℕ → Done X → Done X
done_next give line a = done_one give line a.given (behind_comma line a.at)

abbrev pub done_from : {X : Type 0} → (List ℕ → Parts → List X) → List ℕ → ℕ → Done X → Done X
done_from give line n a = loop (λ a. goes_on line a.at) (done_next give line) n a

-- of the first annotation, p was read, and it may give something else than the others; the empty line has no annotations
unfoldable pub line_given_by : {X : Type 0} → (List ℕ → Parts → List X) → (List ℕ → Parts → List X) → List ℕ → Parts → List X
line_given_by first give line p = cond (eqb (length line) 0) [] (done_from give line (length line) (done_by first line [] 0 p)).given
