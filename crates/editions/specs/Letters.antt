-- Document 02, M-113: where the letters of internal ions stand in a line, and what first-edition reading answers to a line that has some, and to one
-- that has none. Assumes nothing.
use Rattle.std.specs.Prelude.{ℕ, ◌+◌, ◌≡◌, true, false, cond, [], ◌∷◌, ◌↔◌, leb, length}
use Rattle.lang.specs.Parts.{Opt, silent, written, opt_text}
use Rattle.rules.specs.Bytes.{bytes}
use Rattle.rules.specs.Annotations.{SpelledAnnotation, flag_text, analyte_text, annotation_text}
use Rattle.rules.specs.Lines.{Spelling, line_text, unlettered}
use Rattle.rules.specs.Limits.{max_line}
use Rattle.rules.specs.Editions.{first_lines, second_lines}
use Rattle.rules.specs.Answers.{Answer, refuses, Reads}

-- the letters of an annotation stand behind what opens it and the `m` of its ion
abbrev pub letters_at : SpelledAnnotation → ℕ
letters_at a = length (flag_text (bytes "&") a.marked) + length (opt_text analyte_text a.analyte) + 1

-- the place of the first letter, where the annotations begin at a place
abbrev pub first_letter : ℕ → Spelling → Opt ℕ
first_letter at [] = silent
first_letter at (a ∷ more) = elim (unlettered a.ion) [ true ↦ first_letter (at + length (annotation_text a) + 1) more | false ↦ written (at + letters_at a) ]

-- a spelling of the second edition with letters: 2 at the first of them, and 1 where the line is too long, in an output of any length
abbrev pub RefusesLetters : Type 0
RefusesLetters = (s : Spelling) (place : ℕ) → first_letter 0 s ≡ written place → (room : ℕ) (a : Answer)
    → Reads first_lines (line_text s) room a ↔ (a ≡ cond (leb (length (line_text s)) max_line) (refuses room 2 place) (refuses room 1 max_line))

-- all others of that shape are answered the same
abbrev pub AnswersOthersAlike : Type 0
AnswersOthersAlike = (s : Spelling) → first_letter 0 s ≡ silent → (room : ℕ) (a : Answer) → Reads first_lines (line_text s) room a ↔ Reads second_lines (line_text s) room a
