-- The charge that bytes begin with: `^` and a number, or nothing. Assumes nothing.
use Rattle.std.specs.Prelude.{ℕ, ◌+◌, ◌-◌, cond, List, length, drop, Option}
use Rattle.rules.specs.Bytes.{bytes}
use Rattle.rules.specs.Texts.{starts_with}
use Rattle.rules.specs.Limits.{max_charge, number_mark}
use Rattle.numbers.specs.declared.Number.{Number}
use Rattle.numbers.specs.Leading.{number_of}
use Rattle.faults.specs.declared.Refusal.{Refusal}
use Rattle.faults.specs.Faults.{after}
use Rattle.read_tail.specs.declared.ChargeRead.{ChargeRead}

-- a number behind its `^`, where `left` of the line's `end` bytes are left
abbrev pub charge_in : ℕ → ℕ → Number → Option Refusal → ChargeRead
charge_in end left n f = record { value = n.value; len = 1 + n.len; fault = after f (number_mark max_charge n.value (end - (left - 1))) }

unfoldable pub charge_of : ℕ → List ℕ → Option Refusal → ChargeRead
charge_of end s f = cond (starts_with (bytes "^") s) (charge_in end (length s) (number_of (drop 1 s)) f) (record { value = 1; len = 0; fault = f })
