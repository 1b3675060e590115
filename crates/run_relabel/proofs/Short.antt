-- There is room for every answer: a refusal is short, and the place of an answer is far enough from the output's end. Assumes nothing.
use Prim.Native.Nat.{ℕ, ◌+◌, ◌-◌, ◌^◌, ◌<◌, ◌≤◌}
use mathlib.Core.Path.{◌≡◌, refl}
use mathlib.Core.Bool.{Bool, true, false, cond}
use mathlib.Core.List.{[], ◌∷◌, ◌++◌}
use native.Mathlib.Omega.{arith}
use lib.Dec.{ltb, leb}
use lib.ListN.{length, length-append}
use borrow.Author.Tests.{ltb-true, leb-true}
use Rattle.rules.specs.Numbers.{digits}
use Rattle.std.specs.Prelude.{Ok, Err}
use Rattle.faults.specs.declared.Why.{Why}
use Rattle.faults.specs.declared.Why.TheVariants.{LineTooLong, StrayByte, Unfinished, PastBound, TooMany, RuleBroken, ConfidencesExceedOne, OutputTooShort, NoTable, FirstEditionTable, SequenceForm, BadMz, BadIntensity, Letters}
use Rattle.faults.specs.Refusals.{number_of}
use Rattle.answers.specs.Delivered.{Answer, number_in}
use Rattle.io_lines.specs.Streams.{room_of}
use Rattle.numbers.proofs.Bounds.{digits_below}
use Rattle.io_answers.specs.Tells.{refused_text}

-- ---- the text of a refusal

-- of numbers of 64 bits
pub refusal_short : (number place : ℕ) → number < 2 ^ 64 → place < 2 ^ 64 → length (refused_text number place) ≤ 42
refusal_short number place h g =
    let n = digits number in
    let p = digits place in
    omega (arith, length-append (n ++ (32 ∷ [])) p, length-append n (32 ∷ []), digits_below 19 number (omega arith), digits_below 19 place (omega arith))

-- the number of an answer
pub number_short : (a : Answer) → number_in a < 2 ^ 64
number_short (Ok n) = omega arith
number_short (Err r) = by r.why
  where
    by : (w : Why) → number_of w < 2 ^ 64
    by LineTooLong = omega arith
    by StrayByte = omega arith
    by Unfinished = omega arith
    by PastBound = omega arith
    by TooMany = omega arith
    by RuleBroken = omega arith
    by ConfidencesExceedOne = omega arith
    by OutputTooShort = omega arith
    by NoTable = omega arith
    by FirstEditionTable = omega arith
    by SequenceForm = omega arith
    by BadMz = omega arith
    by BadIntensity = omega arith
    by Letters = omega arith

-- ---- the place of an answer

pub room_fits : (all waiting need : ℕ) → need ≤ all → room_of all waiting need + need ≤ all
room_fits all waiting need h = by (ltb waiting all) refl (leb need (all - waiting)) refl
  where
    by : (b : Bool) → ltb waiting all ≡ b → (c : Bool) → leb need (all - waiting) ≡ c → cond (cond b c false) waiting 0 + need ≤ all
    by true e true f = omega (arith, ltb-true waiting all e, leb-true need (all - waiting) f)
    by true e false f = omega arith
    by false e c f = omega arith
