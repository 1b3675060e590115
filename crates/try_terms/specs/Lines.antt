-- What is said to a line, as text. Assumes nothing.
use Rattle.std.specs.Prelude.{ℕ, cond, List, ◌++◌, eqb, ltb, length, drop, get_or, Option, Some, None}
use Prim.Native.Char.{code}
use Rattle.rules.specs.Bytes.{bytes}
use Rattle.rules.specs.Numbers.{digits}
use Rattle.rules.specs.Decimals.{decimal_text}
use Rattle.numbers.specs.declared.Number.{Number}
use Rattle.numbers.specs.declared.Decimal.{Decimal}
use Rattle.numbers.specs.declared.DecimalRead.{DecimalRead}
use Rattle.numbers.specs.Leading.{number_of}
use Rattle.numbers.specs.Making.{ruled}
use Rattle.numbers.specs.declared.FirstByte.TheVariants.{DigitOrPoint}
use Rattle.numbers.specs.Points.{decimal_of}
use Rattle.faults.specs.declared.Refusal.{Refusal}
use Rattle.faults.specs.Refusals as faults
use Rattle.elements.specs.declared.Element.{Element}
use Rattle.elements.specs.Symbols.{element_of}
use Rattle.read_formula.specs.declared.FormulaRead.{FormulaRead}
use Rattle.read_formula.specs.Formulas.{formula_of}
use Rattle.io_answers.specs.Tells.{field}
use Rattle.put_formula.specs.Preferred.{symbol_text, preferred_units}

-- value and bytes
abbrev pub number_text : Number → List ℕ
number_text n = field n.value ++ digits n.len

abbrev pub number_said : List ℕ → List ℕ
number_said text = number_text (number_of text)

-- value without point, decimals and spelling, or that the decimal is past its bounds
unfoldable pub made_text : Option Decimal → List ℕ
made_text (Some x) = field x.value ++ (field x.places ++ decimal_text (ruled x))
made_text None = bytes "past"

-- behind the bytes
abbrev pub read_text : DecimalRead → List ℕ
read_text d = field d.len ++ made_text d.made

abbrev pub decimal_said : List ℕ → List ℕ
decimal_said text = read_text (decimal_of DigitOrPoint text)

-- atomic number, bytes and symbol
abbrev pub element_text : Element → List ℕ
element_text e = field e.number ++ (field e.len ++ symbol_text e.number)

abbrev pub symbol_said : List ℕ → List ℕ
symbol_said text = element_text (element_of text)

-- number and place
abbrev pub refusal_text : Option Refusal → List ℕ
refusal_text None = field 0 ++ field 0
refusal_text (Some r) = field (faults.number_of r.why) ++ field r.place

-- units, bytes, number and place of the first broken limit, and the preferred spelling
abbrev pub units_text : FormulaRead → List ℕ → List ℕ
units_text f text =
    field f.units
    ++ (field f.len ++ (refusal_text f.fault ++ preferred_units f.units text))

abbrev pub formula_said : List ℕ → List ℕ
formula_said text = units_text (formula_of (length text) text None) text

-- by the first byte
unfoldable pub said_of : ℕ → List ℕ → List ℕ
said_of kind text =
    cond (eqb kind (code "n")) (number_said text)
    (cond (eqb kind (code "d")) (decimal_said text)
    (cond (eqb kind (code "s")) (symbol_said text) (cond (eqb kind (code "f")) (formula_said text) (bytes "?"))))

-- the text stands behind two bytes
unfoldable pub answer_to : List ℕ → List ℕ
answer_to line = cond (ltb (length line) 2) (bytes "?") (said_of (get_or line 0 0) (drop 2 line))
