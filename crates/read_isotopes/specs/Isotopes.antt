-- The isotope that bytes begin with: sign, count, `i`, and nothing, `A`, or nucleon number and symbol. Assumes nothing.
use Rattle.std.specs.Prelude.{ℕ, ◌+◌, min, cond, List, length, drop, Option}
use Rattle.rules.specs.Bytes.{bytes, digit}
use Rattle.rules.specs.Texts.{starts_with, first_in}
use Rattle.rules.specs.Limits.{max_isotopes}
use Rattle.numbers.specs.Leading.{number_of}
use Rattle.elements.specs.Symbols.{element_of}
use Rattle.faults.specs.declared.Refusal.{Refusal}
use Rattle.read_formula.specs.Units.{numbers_fault}
use Rattle.read_opening.specs.declared.Head.{Head}
use Rattle.read_opening.specs.Heads.{head_of}
use Rattle.read_isotopes.specs.declared.IsotopeKind.{IsotopeKind}
use Rattle.read_isotopes.specs.declared.IsotopeKind.TheVariants.{Plain, Average, Specific}
use Rattle.read_isotopes.specs.declared.IsotopeRead.{IsotopeRead}

-- the limits of isotope number i, whose nucleon number stands `at` bytes behind its sign
abbrev pub isotope_fault : ℕ → Head → ℕ → ℕ → ℕ → ℕ → Option Refusal → Option Refusal
isotope_fault i h nucleons at end left f = numbers_fault f max_isotopes i h.count nucleons at end left

abbrev pub isotope_with : Head → IsotopeKind → ℕ → Option Refusal → IsotopeRead
isotope_with h kind len f = record { sign = h.sign; count = h.count; kind = kind; len = len; fault = f }

-- what stands behind the `i`, `at` bytes behind the sign, as far as the bytes s go
unfoldable pub isotope_in : ℕ → ℕ → List ℕ → Head → ℕ → Option Refusal → IsotopeRead
isotope_in i end s h at f =
    let t = drop at s in
    let a = number_of t in
    let e = element_of (drop a.len t) in
    let l = length s in
    cond (first_in digit t)
    (isotope_with h (Specific a.value e.number) (min (min (at + a.len) l + e.len) l) (isotope_fault i h a.value at end l f))
    (cond (starts_with (bytes "A") t) (isotope_with h Average (min (at + 1) l) (isotope_fault i h 0 at end l f)) (isotope_with h Plain at (isotope_fault i h 0 at end l f)))

unfoldable pub isotope_of : ℕ → ℕ → List ℕ → Option Refusal → IsotopeRead
isotope_of i end s f = isotope_in i end s (head_of s) (min ((head_of s).len + 1) (length s)) f
