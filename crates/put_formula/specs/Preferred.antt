-- The preferred text of units. Assumes nothing.
use Rattle.std.specs.Prelude.{ℕ, cond, List, [], ◌++◌, eqb, leb, take}
use Rattle.rules.specs.Numbers.{digits}
use Rattle.rules.specs.Texts.{in_brackets}
use Rattle.rules.specs.Layout.{unit_width}
use Rattle.elements.specs.Numbers.{word, letters_of}
use Rattle.read_formula.specs.declared.UnitRead.{UnitRead}
use Rattle.read_formula.specs.declared.UnitSpan.{UnitSpan}
use Rattle.read_formula.specs.Units.{span_of}
use Rattle.read_formula.specs.Formulas.{unit_size}
use Rattle.put_formula.specs.Chains.{chain}
use Rattle.put_formula.specs.Records.{stored_unit}

-- the symbol of an atomic number; nothing where there is none
unfoldable pub symbol_text : ℕ → List ℕ
symbol_text n = cond (eqb (letters_of n).first 0) [] (word (letters_of n).first (letters_of n).second)

-- a 1 is left out where there is no nucleon number
unfoldable pub plain_text : UnitRead → List ℕ
plain_text u = symbol_text u.element ++ cond (leb u.count 1) [] (digits u.count)

unfoldable pub labelled_text : UnitRead → List ℕ
labelled_text u = in_brackets (digits u.nucleons ++ (symbol_text u.element ++ digits u.count))

unfoldable pub preferred_unit : UnitRead → List ℕ
preferred_unit u = cond (eqb u.nucleons 0) (plain_text u) (labelled_text u)

-- how many bytes of a unit stand in its preferred text: all, but for a 1 that is left out
unfoldable pub kept_of : UnitSpan → ℕ
kept_of u = cond (eqb u.nucleons 0) (cond (leb u.count 1) u.count_at u.len) u.len

-- the preferred text of the unit that bytes begin with, as it stands there
unfoldable pub kept_unit : List ℕ → List ℕ
kept_unit r = take (kept_of (span_of r)) r

-- of the first n units that bytes begin with, and of the n units whose records they begin with
abbrev pub preferred_units : ℕ → List ℕ → List ℕ
preferred_units n s = chain kept_unit unit_size n s

abbrev pub printed_units : ℕ → List ℕ → List ℕ
printed_units n t = chain (λ r. preferred_unit (stored_unit r)) (λ r. unit_width) n t
