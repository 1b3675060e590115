-- What is said, from what the code finds. Assumes nothing.
use Prim.Native.Nat.{ℕ, ◌≤◌, ◌<◌}
use mathlib.Core.Path.{◌≡◌, sym, ap, ◌∙◌}
use mathlib.Core.List.{List, ◌++◌}
use lib.ListN.{length, drop, get_or}
use borrow.Author.Tests.{ne_eqb, lt-ltb, le-ltb}
use Rattle.rules.specs.Bytes.{bytes}
use Rattle.rules.specs.Decimals.{decimal_text}
use Rattle.numbers.specs.declared.Decimal.{Decimal}
use Rattle.std.specs.Prelude.{Option, Some, None}
use Rattle.numbers.specs.declared.DecimalRead.{DecimalRead}
use Rattle.numbers.specs.Making.{ruled}
use Rattle.numbers.specs.declared.FirstByte.TheVariants.{DigitOrPoint}
use Rattle.numbers.specs.Points.{decimal_of}
use Rattle.io_answers.specs.Tells.{field}
use Rattle.try_terms.specs.Lines.{made_text, read_text, number_said, decimal_said, symbol_said, formula_said, said_of, answer_to}

-- ---- a decimal

made_as : (d : DecimalRead) (text : List ℕ) {m : Option Decimal} → d ≡ decimal_of DigitOrPoint text → d.made ≡ m → field d.len ++ made_text m ≡ decimal_said text
made_as d text h e = ap (λ (m : Option Decimal). field d.len ++ made_text m) (sym e) ∙ ap read_text h

pub decimal_fits : (d : DecimalRead) (text : List ℕ) {x : Decimal} → d ≡ decimal_of DigitOrPoint text → d.made ≡ Some x
    → field d.len ++ (field x.value ++ (field x.places ++ decimal_text (ruled x))) ≡ decimal_said text
unfolding made_text
decimal_fits d text h e = made_as d text h e

pub decimal_past : (d : DecimalRead) (text : List ℕ) → d ≡ decimal_of DigitOrPoint text → d.made ≡ None → field d.len ++ bytes "past" ≡ decimal_said text
unfolding made_text
decimal_past d text h e = made_as d text h e

-- ---- a line

pub line_short : (line : List ℕ) → length line < 2 → bytes "?" ≡ answer_to line
unfolding answer_to
line_short line h = rw (lt-ltb (length line) 2 h)

pub line_number : (line : List ℕ) {text : List ℕ} → 2 ≤ length line → text ≡ drop 2 line → get_or line 0 0 ≡ 110
    → number_said text ≡ answer_to line
unfolding said_of answer_to
line_number line h t e = rw (le-ltb (length line) 2 h, t, e)

pub line_decimal : (line : List ℕ) {text : List ℕ} → 2 ≤ length line → text ≡ drop 2 line → get_or line 0 0 ≡ 100
    → decimal_said text ≡ answer_to line
unfolding said_of answer_to
line_decimal line h t e = rw (le-ltb (length line) 2 h, t, e)

pub line_symbol : (line : List ℕ) {text : List ℕ} → 2 ≤ length line → text ≡ drop 2 line → get_or line 0 0 ≡ 115
    → symbol_said text ≡ answer_to line
unfolding said_of answer_to
line_symbol line h t e = rw (le-ltb (length line) 2 h, t, e)

pub line_formula : (line : List ℕ) {text : List ℕ} → 2 ≤ length line → text ≡ drop 2 line → get_or line 0 0 ≡ 102
    → formula_said text ≡ answer_to line
unfolding said_of answer_to
line_formula line h t e = rw (le-ltb (length line) 2 h, t, e)

pub line_other : (line : List ℕ) → 2 ≤ length line → (get_or line 0 0 ≡ 110 → ⊥) → (get_or line 0 0 ≡ 100 → ⊥) → (get_or line 0 0 ≡ 115 → ⊥)
    → (get_or line 0 0 ≡ 102 → ⊥) → bytes "?" ≡ answer_to line
unfolding said_of answer_to
line_other line h n d s f =
    let k = get_or line 0 0 in rw (le-ltb (length line) 2 h, ne_eqb k 110 n, ne_eqb k 100 d, ne_eqb k 115 s, ne_eqb k 102 f)
