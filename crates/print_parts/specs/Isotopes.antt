-- Isotopes as their records say. Assumes nothing.
use Rattle.std.specs.Prelude.{ℕ, cond, List, [], ◌++◌, eqb, get_or, drop}
use Rattle.rules.specs.Bytes.{bytes}
use Rattle.rules.specs.Numbers.{digits}
use Rattle.rules.specs.Layout.{isotope_width, isotope_sign_at, isotope_kind_at, isotope_shift_at, isotope_nucleons_at, isotope_element_at}
use Rattle.changes.specs.Signs.{sign_of_byte}
use Rattle.put_formula.specs.Chains.{chain}
use Rattle.slices.specs.Numbers.{u16_at}
use Rattle.put_formula.specs.Preferred.{symbol_text}
use Rattle.print_count.specs.Heads.{sign_bytes, count_text}

-- plain, average, or nucleons and symbol
unfoldable pub which_printed : List ℕ → List ℕ
which_printed s =
    cond (eqb (get_or s isotope_kind_at 0) 0) [] (cond (eqb (get_or s isotope_kind_at 0) 1) (bytes "A") (digits (u16_at (drop isotope_nucleons_at s)) ++ symbol_text (u16_at (drop isotope_element_at s))))

unfoldable pub isotope_printed : List ℕ → List ℕ
isotope_printed s = sign_bytes (sign_of_byte (get_or s isotope_sign_at 0)) ++ (count_text (u16_at (drop isotope_shift_at s)) ++ (bytes "i" ++ which_printed s))

-- n of them
abbrev pub isotopes_printed : ℕ → List ℕ → List ℕ
isotopes_printed n s = chain isotope_printed (λ r. isotope_width) n s
