-- An ion as the record of its annotation says: s begins with the record, u with the ion's units, t with its text. Assumes nothing.
use Rattle.std.specs.Prelude.{ℕ, cond, List, [], ◌∷◌, ◌++◌, eqb, get_or, take, drop}
use Rattle.rules.specs.Bytes.{bytes}
use Rattle.rules.specs.Numbers.{digits}
use Rattle.rules.specs.Layout.{kind_at, letter_at, position_at, last_at}
use Rattle.slices.specs.Numbers.{u16_at}
use Rattle.put_formula.specs.Preferred.{printed_units}
use Rattle.print_ion.specs.Texts.{series_printed, letters_printed, braces_printed, brackets_printed, ion_units, ion_bytes}

unfoldable pub position_printed : List ℕ → List ℕ → List ℕ
position_printed s w = series_printed (get_or s letter_at 0) ++ (digits (u16_at (drop position_at s)) ++ braces_printed w)

unfoldable pub internal_printed : List ℕ → List ℕ → List ℕ
internal_printed s w =
    bytes "m" ++ (letters_printed (get_or s letter_at 0) ++ (digits (u16_at (drop position_at s)) ++ (bytes ":" ++ (digits (u16_at (drop last_at s)) ++ braces_printed w))))

unfoldable pub immonium_printed : List ℕ → List ℕ → List ℕ
immonium_printed s w = bytes "I" ++ (get_or s letter_at 0 ∷ brackets_printed w)

-- a label of 0 is none
unfoldable pub label_printed : List ℕ → List ℕ
label_printed s = bytes "?" ++ cond (eqb (u16_at (drop position_at s)) 0) [] (digits (u16_at (drop position_at s)))

unfoldable pub composed_printed : List ℕ → List ℕ → List ℕ
composed_printed s u = bytes "f{" ++ (printed_units (ion_units s) u ++ bytes "}")

-- by kind, with the text w
unfoldable pub kind_printed : ℕ → List ℕ → List ℕ → List ℕ → List ℕ
kind_printed k s u w =
    cond (eqb k 1) (position_printed s w)
    (cond (eqb k 2) (internal_printed s w)
    (cond (eqb k 3) (immonium_printed s w)
    (cond (eqb k 4) (bytes "p")
    (cond (eqb k 5) (bytes "r" ++ brackets_printed w)
    (cond (eqb k 6) (bytes "_" ++ braces_printed w)
    (cond (eqb k 7) (composed_printed s u)
    (cond (eqb k 8) (bytes "s" ++ braces_printed w)
    (cond (eqb k 9) (label_printed s) []))))))))

abbrev pub ion_printed : List ℕ → List ℕ → List ℕ → List ℕ
ion_printed s u t = kind_printed (get_or s kind_at 0) s u (take (ion_bytes s) t)
