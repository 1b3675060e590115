-- The scan's tables, as machines of the grammar of each edition of lines. Assumes nothing.
use Prim.Native.Nat.{ℕ, min}
use mathlib.Core.List.{List, [], ◌∷◌, map}
use lib.ListN.{take}
use Rattle.lang.specs.Re.{eps}
use Rattle.lang.proofs.Certify.{Tables}
use Rattle.rules.specs.Editions.{LineEdition, first_lines, second_lines}
use Rattle.rules.specs.Texts.{name_brackets}
use Rattle.shape.specs.Tables.{states, deeps, flats, kinds, classes, reps, rows, accepts, words}
use Rattle.shape.proofs.Grammar.{line_re, letters_re}

unfoldable pub machine : Tables
machine =
    record {
      start = (line_re letters_re ∷ []) ∷ [];
      words = words;
      rows = rows;
      accepts = accepts;
      classes = classes;
      reps = reps;
      states = states;
      kinds = kinds;
      deeps = deeps;
      flats = flats;
      brackets = name_brackets;
    }

-- the first edition's: the same rows, where a step to a state that letters alone lead to is a step to nowhere
unfoldable pub rows1 : List (List ℕ)
unfolding rows
rows1 = map (map (λ q. min q flats)) (take flats rows)

unfoldable pub words1 : List (List ℕ)
unfolding words
words1 = take flats words

unfoldable pub machine1 : Tables
machine1 =
    record {
      start = (line_re eps ∷ []) ∷ [];
      words = words1;
      rows = rows1;
      accepts = accepts;
      classes = classes;
      reps = reps;
      states = flats;
      kinds = kinds;
      deeps = deeps;
      flats = flats;
      brackets = name_brackets;
    }

abbrev pub machine_of : LineEdition → Tables
machine_of first_lines = machine1
machine_of second_lines = machine
