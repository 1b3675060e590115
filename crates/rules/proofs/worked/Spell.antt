-- Short names to write spellings with: an annotation is an ion `with` what follows it, in the order of the text. They are only
-- shorthand: that a spelling is written down right is seen from its text. Assumes nothing.
use Prim.Native.Nat.{ℕ, zero, suc}
use Prim.Native.Char.{Char, code}
use Prim.Native.String.{String}
use mathlib.Core.Path.{subst⁻¹}
use mathlib.Core.Bool.{Bool, true, false}
use mathlib.Core.List.{List, [], ◌∷◌, ◌++◌}
use lib.Dec.{T, leb, ltb, leb-zero, leb-suc-suc}
use Rattle.lang.specs.Re.{in_c}
use Rattle.lang.specs.Parts.{Opt, silent, written}
use Rattle.rules.specs.Bytes.{bytes, capital}
use Rattle.rules.specs.Numbers.{From, Number}
use Rattle.rules.specs.Decimals.{Decimal}
use Rattle.rules.specs.Texts.{Text, Name, LossName, Modification, is_text, is_name, is_loss_name, is_modification}
use Rattle.rules.specs.Elements.{Symbol, symbols}
use Rattle.rules.specs.Formulas.{Written, FormulaUnit, plain, Formula}
use Rattle.rules.specs.Ions.{SpelledIon, series, internal, immonium, precursor, unknown}
use Rattle.rules.specs.Losses.{Sign, lost_formula, lost_name_lem, Loss}
use Rattle.rules.specs.Isotopes.{Specific, Isotopes, no_isotope, plain_isotope, average_isotope, specific_isotopes}
use Rattle.rules.specs.Adducts.{added_formula, electron, Item}
use Rattle.rules.specs.Confidences.{begins_zero_point, Confidence, in_full, from_point_lem}
use Rattle.rules.specs.Annotations.{SpelledAnnotation, Deviation}

infixl 70 ◌with◌
-- ---- numbers

pub one_least : (n : ℕ) → T (leb 1 (suc n))
one_least n = subst⁻¹ T (leb-suc-suc zero n) (subst⁻¹ T (leb-zero n) tt)

pub two_least : (n : ℕ) → T (leb 2 (suc (suc n)))
two_least n = subst⁻¹ T (leb-suc-suc 1 (suc n)) (one_least n)

-- 1 or more (0 is none, and becomes 1)
abbrev pub num : ℕ → Number
num zero = record { value = 1; least = tt }
num (suc n) = record { value = suc n; least = one_least n }

-- 2 or more (0 and 1 are none, and become 2)
abbrev pub num2 : ℕ → From 2
num2 zero = record { value = 2; least = tt }
num2 (suc zero) = record { value = 2; least = tt }
num2 (suc (suc n)) = record { value = suc (suc n); least = two_least n }

-- a count that is written, 1 included
abbrev pub times : ℕ → Written
times n = written (num n)

-- the count of a loss, 2 or more
abbrev pub several : ℕ → Opt (From 2)
several n = written (num2 n)

-- the number without its point, and how many digits stand after the point
abbrev pub decimal : ℕ → ℕ → Decimal
decimal value places = record { value = value; places = places }

-- ---- texts and names, each with the test that it passes

abbrev pub text : (s : String) → T (is_text (bytes s)) → Text
text s good = record { bytes = bytes s; good = good }

abbrev pub name : (s : String) → T (is_name (bytes s)) → Name
name s good = record { bytes = bytes s; good = good }

abbrev pub loss_name : (s : String) → T (is_loss_name (bytes s)) → LossName
loss_name s good = record { bytes = bytes s; good = good }

abbrev pub modification : (s : String) → T (is_modification (bytes s)) → Modification
modification s good = record { bytes = bytes s; good = good }

-- ---- symbols and formulas

-- by atomic number, less 1
abbrev pub sym : (n : ℕ) → T (ltb n 118) → Symbol
unfolding symbols
sym n known = record { which = n; known = known }

abbrev pub H : Symbol
H = sym 0 tt

abbrev pub C : Symbol
C = sym 5 tt

abbrev pub N : Symbol
N = sym 6 tt

abbrev pub O : Symbol
O = sym 7 tt

abbrev pub Na : Symbol
Na = sym 10 tt

abbrev pub P : Symbol
P = sym 14 tt

abbrev pub S : Symbol
S = sym 15 tt

abbrev pub Og : Symbol
Og = sym 117 tt

abbrev pub formula : FormulaUnit Written → List (FormulaUnit Written) → Formula Written
formula first more = record { first = first; more = more }

-- a symbol alone
abbrev pub atom : Symbol → Formula Written
atom s = formula (plain s silent) []

abbrev pub H2O : Formula Written
H2O = formula (plain H (times 2)) (plain O silent ∷ [])

abbrev pub NH3 : Formula Written
NH3 = formula (plain N silent) (plain H (times 3) ∷ [])

abbrev pub CO : Formula Written
CO = formula (plain C silent) (plain O silent ∷ [])

-- ---- ions

-- marked; analyte; ion; losses; isotopes; adduct; charge; deviation; confidence
abbrev pub annotation :
    Bool → Opt ℕ → SpelledIon → List (Loss Written) → Isotopes Written → List (Item Written) → Opt (From 2) → Opt Deviation → Opt Confidence
    → SpelledAnnotation
annotation m a i l s d c v f =
    record { marked = m; analyte = a; ion = i; losses = l; isotopes = s; adduct = d; charge = c; deviation = v; confidence = f }

abbrev pub ion : SpelledIon → SpelledAnnotation
ion i = annotation false silent i [] no_isotope [] silent silent silent

-- one of the thirteen, by its place in their list less 1; position; text
abbrev pub serial : (s : ℕ) → T (ltb s 13) → ℕ → Opt Text → SpelledAnnotation
serial s known n t = ion (series (record { which = s; known = known }) (num n) t)

abbrev pub b : ℕ → SpelledAnnotation
b n = serial 1 tt n silent

abbrev pub y : ℕ → SpelledAnnotation
y n = serial 7 tt n silent

abbrev pub z : ℕ → SpelledAnnotation
z n = serial 8 tt n silent

abbrev pub inner : ℕ → ℕ → Opt Text → SpelledAnnotation
inner m n t = ion (internal silent (num m) (num n) t)

-- with the letters of a cleavage, counted from 0
abbrev pub cleaved : (which : ℕ) → T (ltb which 9) → ℕ → ℕ → Opt Text → SpelledAnnotation
cleaved which known m n t = ion (internal (written (record { which = which; known = known })) (num m) (num n) t)

abbrev pub imm : (c : Char) → T (in_c capital (code c)) → Opt Modification → SpelledAnnotation
imm c is_in m = ion (immonium (record { val = code c; is_in = is_in }) m)

abbrev pub p : SpelledAnnotation
p = ion precursor

abbrev pub label : ℕ → SpelledAnnotation
label n = ion (unknown (written (num n)))

-- ---- what stands before and after the ion

abbrev pub ◌with◌ : SpelledAnnotation → (SpelledAnnotation → SpelledAnnotation) → SpelledAnnotation
a with f = f a

-- `&`
abbrev pub marked : SpelledAnnotation → SpelledAnnotation
marked a = annotation true a.analyte a.ion a.losses a.isotopes a.adduct a.charge a.deviation a.confidence

abbrev pub analyte : ℕ → SpelledAnnotation → SpelledAnnotation
analyte n a = annotation a.marked (written n) a.ion a.losses a.isotopes a.adduct a.charge a.deviation a.confidence

-- one more loss
abbrev pub lose : Loss Written → SpelledAnnotation → SpelledAnnotation
lose l a =
    annotation a.marked a.analyte a.ion (a.losses ++ (l ∷ [])) a.isotopes a.adduct a.charge a.deviation a.confidence

abbrev pub loss : Sign → Opt (From 2) → Formula Written → SpelledAnnotation → SpelledAnnotation
loss sign count f = lose (record { sign = sign; count = count; what = lost_formula f })

abbrev pub named_loss : Sign → Opt (From 2) → LossName → SpelledAnnotation → SpelledAnnotation
named_loss sign count n = lose (record { sign = sign; count = count; what = lost_name_lem n })

abbrev pub isotopes : Isotopes Written → SpelledAnnotation → SpelledAnnotation
isotopes s a = annotation a.marked a.analyte a.ion a.losses s a.adduct a.charge a.deviation a.confidence

abbrev pub isotope : Sign → Written → SpelledAnnotation → SpelledAnnotation
isotope sign count = isotopes (plain_isotope (record { sign = sign; count = count }))

abbrev pub average : Sign → Written → SpelledAnnotation → SpelledAnnotation
average sign count = isotopes (average_isotope (record { sign = sign; count = count }))

abbrev pub specific : Sign → Written → ℕ → Symbol → Specific Written
specific sign count n s = record { shift = record { sign = sign; count = count }; nucleons = num n; symbol = s }

abbrev pub specifics : Specific Written → List (Specific Written) → SpelledAnnotation → SpelledAnnotation
specifics x xs = isotopes (specific_isotopes (record { first = x; more = xs }))

-- one more adduct item
abbrev pub add : Item Written → SpelledAnnotation → SpelledAnnotation
add x a =
    annotation a.marked a.analyte a.ion a.losses a.isotopes (a.adduct ++ (x ∷ [])) a.charge a.deviation a.confidence

abbrev pub item : Sign → Written → Formula Written → SpelledAnnotation → SpelledAnnotation
item sign count f = add (record { sign = sign; count = count; what = added_formula f })

abbrev pub electrons : Sign → Written → SpelledAnnotation → SpelledAnnotation
electrons sign count = add (record { sign = sign; count = count; what = electron })

abbrev pub charge : ℕ → SpelledAnnotation → SpelledAnnotation
charge n a =
    annotation a.marked a.analyte a.ion a.losses a.isotopes a.adduct (written (num2 n)) a.deviation a.confidence

-- a deviation: with or without `-`; its size; with or without `ppm`
abbrev pub below : Bool
below = true

abbrev pub above : Bool
above = false

abbrev pub ppm : Bool
ppm = true

abbrev pub mz : Bool
mz = false

abbrev pub off : Bool → Decimal → Bool → SpelledAnnotation → SpelledAnnotation
off minus size unit a =
    annotation a.marked a.analyte a.ion a.losses a.isotopes a.adduct a.charge
    (written (record { minus = minus; size = size; ppm = unit })) a.confidence

abbrev pub confidence : Decimal → SpelledAnnotation → SpelledAnnotation
confidence d a =
    annotation a.marked a.analyte a.ion a.losses a.isotopes a.adduct a.charge a.deviation (written (in_full d))

-- without its 0: whole part 0, and a point
abbrev pub from_point : (d : Decimal) → T (begins_zero_point d) → SpelledAnnotation → SpelledAnnotation
from_point d h a =
    annotation a.marked a.analyte a.ion a.losses a.isotopes a.adduct a.charge a.deviation
    (written (from_point_lem (record { decimal = d; begins = h })))
