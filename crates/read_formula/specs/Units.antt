-- The unit that bytes begin with, and its limits. Places are counted from the end: in a text of `end` bytes of which `left` are left,
-- the next stands at end - left. Assumes nothing.
use Rattle.std.specs.Prelude.{ℕ, ◌+◌, ◌-◌, min, Bool, cond, ◌&&◌, ◌||◌, List, ◌∷◌, ◌++◌, eqb, length, drop, Option}
use Rattle.rules.specs.Bytes.{bytes, digit, capital}
use Rattle.rules.specs.Texts.{first_in, starts_with}
use Rattle.rules.specs.Limits.{max_units, max_count, number_mark, many_mark}
use Rattle.numbers.specs.Leading.{number_of}
use Rattle.numbers.specs.declared.Number.{Number}
use Rattle.elements.specs.Symbols.{element_of}
use Rattle.faults.specs.declared.Refusal.{Refusal}
use Rattle.read_formula.specs.declared.UnitRead.{UnitRead}
use Rattle.read_formula.specs.declared.UnitSpan.{UnitSpan}
use Rattle.faults.specs.Faults.{after}

-- a capital letter, or `[` and a digit: a unit stands here
unfoldable pub begins_unit : List ℕ → Bool
begins_unit s = first_in capital s || (starts_with (bytes "[") s && first_in digit (drop 1 s))

-- no digits: 1
abbrev pub or_one : Number → ℕ
or_one n = cond (eqb n.len 0) 1 n.value

-- symbol, count
unfoldable pub plain_span : List ℕ → UnitSpan
plain_span s =
    let q = (element_of s).len in
    let n = number_of (drop q s) in
    record { nucleons = 0; symbol_at = 0; count = or_one n; count_at = q; len = q + n.len }

-- `[`, nucleon number, symbol, count, `]`
unfoldable pub labelled_span : List ℕ → UnitSpan
labelled_span s =
    let a = number_of (drop 1 s) in
    let e = element_of (drop (1 + a.len) s) in
    let n = number_of (drop (1 + a.len + e.len) s) in
    record {
      nucleons = a.value;
      symbol_at = 1 + a.len;
      count = n.value;
      count_at = 1 + a.len + e.len;
      len = min (1 + a.len + e.len + n.len + 1) (length s);
    }

unfoldable pub span_of : List ℕ → UnitSpan
span_of s = cond (starts_with (bytes "[") s) (labelled_span s) (plain_span s)

-- what is measured of a unit, and its element
abbrev pub unit_with : UnitSpan → ℕ → UnitRead
unit_with u e = record { nucleons = u.nucleons; element = e; count = u.count; count_at = u.count_at; len = u.len }

unfoldable pub unit_of : List ℕ → UnitRead
unit_of s = let u = span_of s in unit_with u (element_of (drop u.symbol_at s)).number

-- the limits of number i of at most `most` things in a row, each with two numbers, one a byte behind its beginning, the other `at` bytes behind it
unfoldable pub numbers_fault : Option Refusal → ℕ → ℕ → ℕ → ℕ → ℕ → ℕ → ℕ → Option Refusal
numbers_fault f most i first second at end left =
    after f (many_mark most i (end - left) ∷ (number_mark max_count first (end - (left - 1)) ++ number_mark max_count second (end - (left - at))))

-- the limits of unit number i of a formula
abbrev pub unit_fault : Option Refusal → UnitSpan → ℕ → ℕ → ℕ → Option Refusal
unit_fault f u i end left = numbers_fault f max_units i u.nucleons u.count u.count_at end left
