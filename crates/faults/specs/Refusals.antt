-- Why a call is refused, by number: document 01, "Numbers of refusal", and the numbers of the later documents. Assumes nothing.
use Rattle.std.specs.Prelude.{ℕ, cond, eqb, Option, Some}
use Rattle.faults.specs.declared.Refusal.{Refusal}
use Rattle.faults.specs.declared.Why.{Why}
use Rattle.faults.specs.declared.Why.TheVariants.{LineTooLong, StrayByte, Unfinished, PastBound, TooMany, RuleBroken, ConfidencesExceedOne, OutputTooShort, NoTable, FirstEditionTable, SequenceForm, BadMz, BadIntensity, Letters}

abbrev pub number_of : Why → ℕ
number_of LineTooLong = 1
number_of StrayByte = 2
number_of Unfinished = 3
number_of PastBound = 4
number_of TooMany = 5
number_of RuleBroken = 6
number_of ConfidencesExceedOne = 7
number_of OutputTooShort = 8
number_of NoTable = 9
number_of FirstEditionTable = 10
number_of SequenceForm = 11
number_of BadMz = 12
number_of BadIntensity = 13
number_of Letters = 20

-- a number of no refusal is taken for that of no table
abbrev pub why_of : ℕ → Why
why_of n =
    cond (eqb n 1) LineTooLong (cond (eqb n 2) StrayByte (cond (eqb n 3) Unfinished (cond (eqb n 4) PastBound (
    cond (eqb n 5) TooMany (cond (eqb n 6) RuleBroken (cond (eqb n 7) ConfidencesExceedOne (cond (eqb n 8) OutputTooShort (
    cond (eqb n 10) FirstEditionTable (cond (eqb n 11) SequenceForm (cond (eqb n 12) BadMz (cond (eqb n 13) BadIntensity (
    cond (eqb n 20) Letters (NoTable)))))))))))))

abbrev pub refusal : Why → ℕ → Refusal
refusal w p = record { why = w; place = p }

-- a number of refusal with its place
abbrev pub refused_by : ℕ → ℕ → Option Refusal
refused_by n p = Some (refusal (why_of n) p)
