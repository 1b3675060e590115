-- Worked lines: confidences that begin with the point. Document 02, M-102. Assumes nothing.
use mathlib.Core.Path.{refl}
use mathlib.Core.List.{[], ◌∷◌}
use lib.Dec.{T}
use Rattle.lang.specs.Parts.{silent, written}
use Rattle.rules.specs.Bytes.{bytes}
use Rattle.rules.specs.Numbers.{digits}
use Rattle.rules.specs.Decimals.{whole, last_digits, point_text}
use Rattle.rules.specs.Confidences.{begins_zero_point}
use Rattle.rules.specs.Elements.{symbols}
use Rattle.rules.proofs.worked.Spell.{decimal, b, y, p, ◌with◌, above, mz, off, confidence, from_point}
use Rattle.rules.proofs.worked.Row.{Worked}
use Rattle.rules.proofs.worked.Bounds.{refusal, Limited, Ruled}

-- each has the whole part 0, and a point

pub begins_5_1 : T (begins_zero_point (decimal 5 1))
unfolding whole
begins_5_1 = tt

pub begins_0_1 : T (begins_zero_point (decimal 0 1))
unfolding whole
begins_0_1 = tt

pub begins_1_9 : T (begins_zero_point (decimal 1 9))
unfolding whole
begins_1_9 = tt

pub begins_1234567890_10 : T (begins_zero_point (decimal 1234567890 10))
unfolding whole
begins_1234567890_10 = tt

pub begins_501_3 : T (begins_zero_point (decimal 501 3))
unfolding whole
begins_501_3 = tt

-- ---- the lines

-- 0.5, one decimal, as in full
pub half : Worked "y1*.5"
    (y 1 with from_point (decimal 5 1) begins_5_1 ∷ [])
    66
    (2 ∷ 0 ∷ 66 ∷ 0 ∷ 1 ∷ 0 ∷ 28 ∷ 0 ∷ 0 ∷ 0 ∷ 66 ∷ 0 ∷ 0 ∷ 0 ∷ 66 ∷ 0 ∷ 0 ∷ 0 ∷ 66 ∷ 0 ∷ 0 ∷ 0 ∷ 66 ∷ 0 ∷ 0 ∷ 0 ∷ 66 ∷ 0  -- header
    ∷ 1 ∷ 0 ∷ 0 ∷ 8 ∷ 0 ∷ 0 ∷ 1 ∷ 0 ∷ 0 ∷ 0 ∷ 1 ∷ 0 ∷ 0 ∷ 1 ∷ 1 ∷ 0 ∷ 0 ∷ 0 ∷ 0 ∷ 0 ∷ 0 ∷ 0 ∷ 0 ∷ 0 ∷ 5 ∷ 0 ∷ 0 ∷ 0 ∷ 0 ∷ 0 ∷ 0 ∷ 0 ∷ 0 ∷ 0 ∷ 0 ∷ 0 ∷ 0 ∷ 0  -- annotation
    ∷ [])
    "y1*0.5"
unfolding digits whole last_digits point_text symbols
half = record { text = refl; limits = refl; form = refl; rules = refl; sum = refl; long = refl; stores = refl; writes = refl }

-- zero is a true value
pub nothing : Worked "y1*.0"
    (y 1 with from_point (decimal 0 1) begins_0_1 ∷ [])
    66
    (2 ∷ 0 ∷ 66 ∷ 0 ∷ 1 ∷ 0 ∷ 28 ∷ 0 ∷ 0 ∷ 0 ∷ 66 ∷ 0 ∷ 0 ∷ 0 ∷ 66 ∷ 0 ∷ 0 ∷ 0 ∷ 66 ∷ 0 ∷ 0 ∷ 0 ∷ 66 ∷ 0 ∷ 0 ∷ 0 ∷ 66 ∷ 0  -- header
    ∷ 1 ∷ 0 ∷ 0 ∷ 8 ∷ 0 ∷ 0 ∷ 1 ∷ 0 ∷ 0 ∷ 0 ∷ 1 ∷ 0 ∷ 0 ∷ 1 ∷ 1 ∷ 0 ∷ 0 ∷ 0 ∷ 0 ∷ 0 ∷ 0 ∷ 0 ∷ 0 ∷ 0 ∷ 0 ∷ 0 ∷ 0 ∷ 0 ∷ 0 ∷ 0 ∷ 0 ∷ 0 ∷ 0 ∷ 0 ∷ 0 ∷ 0 ∷ 0 ∷ 0  -- annotation
    ∷ [])
    "y1*0.0"
unfolding digits whole last_digits point_text symbols
nothing = record { text = refl; limits = refl; form = refl; rules = refl; sum = refl; long = refl; stores = refl; writes = refl }

-- nine decimals; a deviation has its digit
pub nine : Worked "p/0.5*.000000001"
    (p with off above (decimal 5 1) mz with from_point (decimal 1 9) begins_1_9 ∷ [])
    66
    (2 ∷ 0 ∷ 66 ∷ 0 ∷ 1 ∷ 0 ∷ 28 ∷ 0 ∷ 0 ∷ 0 ∷ 66 ∷ 0 ∷ 0 ∷ 0 ∷ 66 ∷ 0 ∷ 0 ∷ 0 ∷ 66 ∷ 0 ∷ 0 ∷ 0 ∷ 66 ∷ 0 ∷ 0 ∷ 0 ∷ 66 ∷ 0  -- header
    ∷ 4 ∷ 0 ∷ 0 ∷ 0 ∷ 0 ∷ 0 ∷ 0 ∷ 0 ∷ 0 ∷ 0 ∷ 1 ∷ 1 ∷ 1 ∷ 1 ∷ 9 ∷ 0 ∷ 5 ∷ 0 ∷ 0 ∷ 0 ∷ 0 ∷ 0 ∷ 0 ∷ 0 ∷ 1 ∷ 0 ∷ 0 ∷ 0 ∷ 0 ∷ 0 ∷ 0 ∷ 0 ∷ 0 ∷ 0 ∷ 0 ∷ 0 ∷ 0 ∷ 0  -- annotation
    ∷ [])
    "p/0.5*0.000000001"
unfolding digits whole last_digits point_text symbols
nine = record { text = refl; limits = refl; form = refl; rules = refl; sum = refl; long = refl; stores = refl; writes = refl }

-- both, and their sum is 1
pub halves : Worked "y1*.5,b2*.5"
    (y 1 with from_point (decimal 5 1) begins_5_1 ∷ b 2 with from_point (decimal 5 1) begins_5_1 ∷ [])
    104
    (2 ∷ 0 ∷ 104 ∷ 0 ∷ 2 ∷ 0 ∷ 28 ∷ 0 ∷ 0 ∷ 0 ∷ 104 ∷ 0 ∷ 0 ∷ 0 ∷ 104 ∷ 0 ∷ 0 ∷ 0 ∷ 104 ∷ 0 ∷ 0 ∷ 0 ∷ 104 ∷ 0 ∷ 0 ∷ 0 ∷ 104 ∷ 0  -- header
    ∷ 1 ∷ 0 ∷ 0 ∷ 8 ∷ 0 ∷ 0 ∷ 1 ∷ 0 ∷ 0 ∷ 0 ∷ 1 ∷ 0 ∷ 0 ∷ 1 ∷ 1 ∷ 0 ∷ 0 ∷ 0 ∷ 0 ∷ 0 ∷ 0 ∷ 0 ∷ 0 ∷ 0 ∷ 5 ∷ 0 ∷ 0 ∷ 0 ∷ 0 ∷ 0 ∷ 0 ∷ 0 ∷ 0 ∷ 0 ∷ 0 ∷ 0 ∷ 0 ∷ 0  -- annotation
    ∷ 1 ∷ 0 ∷ 0 ∷ 2 ∷ 0 ∷ 0 ∷ 2 ∷ 0 ∷ 0 ∷ 0 ∷ 1 ∷ 0 ∷ 0 ∷ 1 ∷ 1 ∷ 0 ∷ 0 ∷ 0 ∷ 0 ∷ 0 ∷ 0 ∷ 0 ∷ 0 ∷ 0 ∷ 5 ∷ 0 ∷ 0 ∷ 0 ∷ 0 ∷ 0 ∷ 0 ∷ 0 ∷ 0 ∷ 0 ∷ 0 ∷ 0 ∷ 0 ∷ 0  -- annotation
    ∷ [])
    "y1*0.5,b2*0.5"
unfolding digits whole last_digits point_text symbols
halves = record { text = refl; limits = refl; form = refl; rules = refl; sum = refl; long = refl; stores = refl; writes = refl }

-- ten decimals: the place is the first digit, behind the point
pub ten : Limited (bytes "y1*.1234567890") (y 1 with from_point (decimal 1234567890 10) begins_1234567890_10 ∷ []) (refusal 4 4 ∷ [])
unfolding digits whole last_digits point_text symbols
ten = record { text = refl; limits = refl }

-- the second takes the sum past 1
pub halves_past : Ruled "y1*.5,b2*.501" (y 1 with from_point (decimal 5 1) begins_5_1 ∷ b 2 with from_point (decimal 501 3) begins_501_3 ∷ []) silent (written 6)
unfolding digits whole last_digits point_text symbols
halves_past = record { text = refl; limits = refl; breach = refl; excess = refl }

-- one of each
pub mixed_past : Ruled "y1*0.5,b2*.501" (y 1 with confidence (decimal 5 1) ∷ b 2 with from_point (decimal 501 3) begins_501_3 ∷ []) silent (written 7)
unfolding digits whole last_digits point_text symbols
mixed_past = record { text = refl; limits = refl; breach = refl; excess = refl }
