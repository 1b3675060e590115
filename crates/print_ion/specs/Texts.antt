-- Changes of an ion's text as its record says. Assumes nothing.
use Rattle.std.specs.Prelude.{ℕ, List, [], ◌∷◌, ◌++◌, map, cond, eqb, get_or}
use Prim.Native.Char.{code}
use Rattle.rules.specs.Bytes.{bytes}
use Rattle.rules.specs.Ions.{series_names, cleavage_names}
use Rattle.rules.specs.Limits.{max_units, max_text}
use Rattle.rules.specs.Layout.{text_length_at, unit_count_at}
use Rattle.print_parts.specs.Numbers.{number_at}

-- the name of a series, 1 to 13; nothing for another number
unfoldable pub series_printed : ℕ → List ℕ
series_printed n = get_or ([] ∷ map bytes series_names) n []

-- the letters of an internal ion, by the number of its cleavage: nothing for yb, which is 0, and for a number that no table holds
unfoldable pub letters_printed : ℕ → List ℕ
letters_printed n = cond (eqb n 5) [] (get_or ([] ∷ map bytes cleavage_names) n [])

-- a text or name between two bytes; nothing where there is none
abbrev pub enclosed_printed : ℕ → List ℕ → ℕ → List ℕ
enclosed_printed first [] last = []
enclosed_printed first (b ∷ w) last = first ∷ ((b ∷ w) ++ (last ∷ []))

abbrev pub braces_printed : List ℕ → List ℕ
braces_printed w = enclosed_printed (code "{") w (code "}")

abbrev pub brackets_printed : List ℕ → List ℕ
brackets_printed w = enclosed_printed (code "[") w (code "]")

-- how many units, and how many bytes of text; no more than the limits allow
unfoldable pub ion_units : List ℕ → ℕ
ion_units s = number_at s unit_count_at max_units

unfoldable pub ion_bytes : List ℕ → ℕ
ion_bytes s = number_at s text_length_at max_text
