-- The loss or adduct item that bytes begin with: sign, count, and a formula, a name or `e`. Assumes nothing.
use Rattle.std.specs.Prelude.{ℕ, ◌+◌, ◌-◌, min, cond, List, ◌∷◌, length, drop, Option}
use Rattle.rules.specs.Bytes.{bytes}
use Rattle.rules.specs.Texts.{starts_with}
use Rattle.rules.specs.Limits.{max_count, number_mark, many_mark}
use Rattle.changes.specs.declared.Content.{Content}
use Rattle.changes.specs.declared.Content.TheVariants as content
use Rattle.changes.specs.Contents.{content_units, content_bytes}
use Rattle.faults.specs.declared.Refusal.{Refusal}
use Rattle.read_formula.specs.declared.FormulaRead.{FormulaRead}
use Rattle.faults.specs.Faults.{after}
use Rattle.read_formula.specs.Units.{begins_unit}
use Rattle.read_formula.specs.Formulas.{formula_of}
use Rattle.read_opening.specs.declared.Head.{Head}
use Rattle.read_opening.specs.declared.Enclosed.{Enclosed}
use Rattle.read_opening.specs.Heads.{head_of}
use Rattle.read_opening.specs.Enclosed.{name_of}
use Rattle.read_changes.specs.declared.ChangeRead.{ChangeRead}

-- the limits of sign and count, where i stand before this one and no more than `bound` may stand in all
unfoldable pub head_fault : ℕ → ℕ → Head → ℕ → ℕ → Option Refusal → Option Refusal
head_fault bound i h end left f = after f (many_mark bound i (end - left) ∷ number_mark max_count h.count (end - (left - 1)))

-- behind sign and count, as far as the bytes s go
abbrev pub change_with : List ℕ → Head → Content → ℕ → Option Refusal → ChangeRead
change_with s h content len f =
    record { sign = h.sign; count = h.count; start = h.len; content = content; len = min (h.len + len) (length s); fault = f }

abbrev pub formula_change : List ℕ → Head → FormulaRead → ChangeRead
formula_change s h x = change_with s h (content.Formula x.units) x.len x.fault

abbrev pub name_change : List ℕ → Head → Enclosed → ChangeRead
name_change s h x = change_with s h (content.Name x.size) x.len x.fault

unfoldable pub content_of : ℕ → List ℕ → Head → Option Refusal → ChangeRead
content_of end s h f =
    let t = drop h.len s in
    cond (begins_unit t) (formula_change s h (formula_of end t f)) (cond (starts_with (bytes "[") t) (name_change s h (name_of end t f)) (change_with s h content.Electron 1 f))

unfoldable pub change_of : ℕ → ℕ → ℕ → List ℕ → Option Refusal → ChangeRead
change_of bound i end s f = content_of end s (head_of s) (head_fault bound i (head_of s) end (length s) f)

-- how many units and name bytes it stores
abbrev pub units_in : ChangeRead → ℕ
units_in x = content_units x.content

abbrev pub text_in : ChangeRead → ℕ
text_in x = content_bytes x.content
