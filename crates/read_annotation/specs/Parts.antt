-- What stands before the ion, and the adduct: what bytes begin with. Assumes nothing.
use Rattle.std.specs.Prelude.{ℕ, ◌+◌, ◌-◌, min, Bool, cond, List, length, drop, Some, None, Option}
use Rattle.rules.specs.Bytes.{bytes, digit}
use Rattle.rules.specs.Texts.{starts_with, first_in}
use Rattle.rules.specs.Stored.{flag}
use Rattle.rules.specs.Limits.{max_items, max_position, number_mark}
use Rattle.numbers.specs.declared.Number.{Number}
use Rattle.numbers.specs.Leading.{number_of}
use Rattle.faults.specs.declared.Refusal.{Refusal}
use Rattle.faults.specs.Faults.{after}
use Rattle.read_changes.specs.declared.Row.{Row}
use Rattle.read_changes.specs.Rows.{changes_of}
use Rattle.read_annotation.specs.declared.PrefixRead.{PrefixRead}

-- behind `at` bytes, of which there are none or a `&`
abbrev pub prefix_with : List ℕ → Bool → ℕ → Number → Option Refusal → PrefixRead
prefix_with s m at n f = record { marked = m; analyte = Some n.value; len = min (min (at + n.len) (length s) + 1) (length s); fault = f }

abbrev pub prefix_in : ℕ → List ℕ → Bool → Option Refusal → PrefixRead
prefix_in end s m f =
    let at = flag m in
    let t = drop at s in
    cond (first_in digit t)
    (prefix_with s m at (number_of t) (after f (number_mark max_position (number_of t).value (end - length t))))
    (record { marked = m; analyte = None; len = at; fault = f })

-- `&`, then digits and `@`
unfoldable pub prefix_of : ℕ → List ℕ → Option Refusal → PrefixRead
prefix_of end s f = prefix_in end s (starts_with (bytes "&") s) f

-- `[M`, items, `]`
abbrev pub adduct_len : ℕ → ℕ → ℕ
adduct_len items all = min (min (2 + items) all + 1) all

abbrev pub adduct_with : List ℕ → Row → Row
adduct_with s x = record { n = x.n; units = x.units; text = x.text; len = adduct_len x.len (length s); fault = x.fault }

unfoldable pub adduct_of : ℕ → List ℕ → Option Refusal → Row
adduct_of end s f =
    cond (starts_with (bytes "[M") s) (adduct_with s (changes_of max_items end (drop 2 s) f)) (record { n = 0; units = 0; text = 0; len = 0; fault = f })
