-- The numbers of refusal and the reasons are each other's. Assumes nothing.
use mathlib.Core.Path.{◌≡◌, refl, ap}
use Rattle.std.specs.Prelude.{ℕ, false, eqb}
use Rattle.faults.specs.declared.Why.{Why}
use Rattle.faults.specs.declared.Why.TheVariants.{LineTooLong, StrayByte, Unfinished, PastBound, TooMany, RuleBroken, ConfidencesExceedOne, OutputTooShort, NoTable, FirstEditionTable, SequenceForm, BadMz, BadIntensity, Letters}
use Rattle.faults.specs.Refusals.{number_of, why_of}

pub why_of_number : (w : Why) → why_of (number_of w) ≡ w
why_of_number LineTooLong = refl
why_of_number StrayByte = refl
why_of_number Unfinished = refl
why_of_number PastBound = refl
why_of_number TooMany = refl
why_of_number RuleBroken = refl
why_of_number ConfidencesExceedOne = refl
why_of_number OutputTooShort = refl
why_of_number NoTable = refl
why_of_number FirstEditionTable = refl
why_of_number SequenceForm = refl
why_of_number BadMz = refl
why_of_number BadIntensity = refl
why_of_number Letters = refl

-- 0 is the number of none
pub number_some : (w : Why) → eqb (number_of w) 0 ≡ false
number_some LineTooLong = refl
number_some StrayByte = refl
number_some Unfinished = refl
number_some PastBound = refl
number_some TooMany = refl
number_some RuleBroken = refl
number_some ConfidencesExceedOne = refl
number_some OutputTooShort = refl
number_some NoTable = refl
number_some FirstEditionTable = refl
number_some SequenceForm = refl
number_some BadMz = refl
number_some BadIntensity = refl
number_some Letters = refl

-- so a number of refusal is that of its reason
pub number_of_why : (w : Why) (n : ℕ) → n ≡ number_of w → number_of (why_of n) ≡ n
number_of_why w n e = rw e (ap number_of (why_of_number w))
