-- Worked lines: isotopes, adducts, charge, deviation and confidence. Assumes nothing.
use mathlib.Core.Path.{refl}
use mathlib.Core.List.{[], ◌∷◌}
use Rattle.lang.specs.Parts.{silent}
use Rattle.rules.specs.Numbers.{digits}
use Rattle.rules.specs.Decimals.{whole, last_digits, point_text}
use Rattle.rules.specs.Elements.{symbols}
use Rattle.rules.specs.Formulas.{plain}
use Rattle.rules.specs.Ions.{unknown}
use Rattle.rules.specs.Losses.{minus, plus}
use Rattle.rules.proofs.worked.Spell.{times, decimal, H, C, N, Na, S, Og, formula, atom, H2O, ion, b, y, p, ◌with◌, loss}
use Rattle.rules.proofs.worked.Spell.{isotope, average, specific, specifics, item, electrons, charge, below, above, ppm, mz, off}
use Rattle.rules.proofs.worked.Spell.{confidence}
use Rattle.rules.proofs.worked.Row.{Worked}

pub isotope_one : Worked "y2+1i"
    (y 2 with isotope plus (times 1) ∷ [])
    74
    (2 ∷ 0 ∷ 74 ∷ 0 ∷ 1 ∷ 0 ∷ 28 ∷ 0 ∷ 0 ∷ 0 ∷ 66 ∷ 0 ∷ 1 ∷ 0 ∷ 66 ∷ 0 ∷ 0 ∷ 0 ∷ 74 ∷ 0 ∷ 0 ∷ 0 ∷ 74 ∷ 0 ∷ 0 ∷ 0 ∷ 74 ∷ 0  -- header
    ∷ 1 ∷ 0 ∷ 0 ∷ 8 ∷ 0 ∷ 0 ∷ 2 ∷ 0 ∷ 0 ∷ 0 ∷ 1 ∷ 0 ∷ 0 ∷ 0 ∷ 0 ∷ 0 ∷ 0 ∷ 0 ∷ 0 ∷ 0 ∷ 0 ∷ 0 ∷ 0 ∷ 0 ∷ 0 ∷ 0 ∷ 0 ∷ 0 ∷ 0 ∷ 0 ∷ 0 ∷ 0 ∷ 0 ∷ 1 ∷ 0 ∷ 0 ∷ 0 ∷ 0  -- annotation
    ∷ 1 ∷ 0 ∷ 1 ∷ 0 ∷ 0 ∷ 0 ∷ 0 ∷ 0  -- isotope
    ∷ [])
    "y2+i"
unfolding digits whole last_digits point_text symbols
isotope_one = record { text = refl; limits = refl; form = refl; rules = refl; sum = refl; long = refl; stores = refl; writes = refl }

pub isotope_minus : Worked "b3-2i"
    (b 3 with isotope minus (times 2) ∷ [])
    74
    (2 ∷ 0 ∷ 74 ∷ 0 ∷ 1 ∷ 0 ∷ 28 ∷ 0 ∷ 0 ∷ 0 ∷ 66 ∷ 0 ∷ 1 ∷ 0 ∷ 66 ∷ 0 ∷ 0 ∷ 0 ∷ 74 ∷ 0 ∷ 0 ∷ 0 ∷ 74 ∷ 0 ∷ 0 ∷ 0 ∷ 74 ∷ 0  -- header
    ∷ 1 ∷ 0 ∷ 0 ∷ 2 ∷ 0 ∷ 0 ∷ 3 ∷ 0 ∷ 0 ∷ 0 ∷ 1 ∷ 0 ∷ 0 ∷ 0 ∷ 0 ∷ 0 ∷ 0 ∷ 0 ∷ 0 ∷ 0 ∷ 0 ∷ 0 ∷ 0 ∷ 0 ∷ 0 ∷ 0 ∷ 0 ∷ 0 ∷ 0 ∷ 0 ∷ 0 ∷ 0 ∷ 0 ∷ 1 ∷ 0 ∷ 0 ∷ 0 ∷ 0  -- annotation
    ∷ 0 ∷ 0 ∷ 2 ∷ 0 ∷ 0 ∷ 0 ∷ 0 ∷ 0  -- isotope
    ∷ [])
    "b3-2i"
unfolding digits whole last_digits point_text symbols
isotope_minus = record { text = refl; limits = refl; form = refl; rules = refl; sum = refl; long = refl; stores = refl; writes = refl }

pub isotope_average : Worked "y4+2iA"
    (y 4 with average plus (times 2) ∷ [])
    74
    (2 ∷ 0 ∷ 74 ∷ 0 ∷ 1 ∷ 0 ∷ 28 ∷ 0 ∷ 0 ∷ 0 ∷ 66 ∷ 0 ∷ 1 ∷ 0 ∷ 66 ∷ 0 ∷ 0 ∷ 0 ∷ 74 ∷ 0 ∷ 0 ∷ 0 ∷ 74 ∷ 0 ∷ 0 ∷ 0 ∷ 74 ∷ 0  -- header
    ∷ 1 ∷ 0 ∷ 0 ∷ 8 ∷ 0 ∷ 0 ∷ 4 ∷ 0 ∷ 0 ∷ 0 ∷ 1 ∷ 0 ∷ 0 ∷ 0 ∷ 0 ∷ 0 ∷ 0 ∷ 0 ∷ 0 ∷ 0 ∷ 0 ∷ 0 ∷ 0 ∷ 0 ∷ 0 ∷ 0 ∷ 0 ∷ 0 ∷ 0 ∷ 0 ∷ 0 ∷ 0 ∷ 0 ∷ 1 ∷ 0 ∷ 0 ∷ 0 ∷ 0  -- annotation
    ∷ 1 ∷ 1 ∷ 2 ∷ 0 ∷ 0 ∷ 0 ∷ 0 ∷ 0  -- isotope
    ∷ [])
    "y4+2iA"
unfolding digits whole last_digits point_text symbols
isotope_average = record { text = refl; limits = refl; form = refl; rules = refl; sum = refl; long = refl; stores = refl; writes = refl }

-- they keep their order
pub isotopes_specific : Worked "y6+1i13C-2i15N+i34S+999i999Og"
    (y 6 with specifics (specific plus (times 1) 13 C) (specific minus (times 2) 15 N ∷ specific plus silent 34 S ∷ specific plus (times 999) 999 Og ∷ []) ∷ [])
    98
    (2 ∷ 0 ∷ 98 ∷ 0 ∷ 1 ∷ 0 ∷ 28 ∷ 0 ∷ 0 ∷ 0 ∷ 66 ∷ 0 ∷ 4 ∷ 0 ∷ 66 ∷ 0 ∷ 0 ∷ 0 ∷ 98 ∷ 0 ∷ 0 ∷ 0 ∷ 98 ∷ 0 ∷ 0 ∷ 0 ∷ 98 ∷ 0  -- header
    ∷ 1 ∷ 0 ∷ 0 ∷ 8 ∷ 0 ∷ 0 ∷ 6 ∷ 0 ∷ 0 ∷ 0 ∷ 1 ∷ 0 ∷ 0 ∷ 0 ∷ 0 ∷ 0 ∷ 0 ∷ 0 ∷ 0 ∷ 0 ∷ 0 ∷ 0 ∷ 0 ∷ 0 ∷ 0 ∷ 0 ∷ 0 ∷ 0 ∷ 0 ∷ 0 ∷ 0 ∷ 0 ∷ 0 ∷ 4 ∷ 0 ∷ 0 ∷ 0 ∷ 0  -- annotation
    ∷ 1 ∷ 2 ∷ 1 ∷ 0 ∷ 13 ∷ 0 ∷ 6 ∷ 0  -- isotope
    ∷ 0 ∷ 2 ∷ 2 ∷ 0 ∷ 15 ∷ 0 ∷ 7 ∷ 0  -- isotope
    ∷ 1 ∷ 2 ∷ 1 ∷ 0 ∷ 34 ∷ 0 ∷ 16 ∷ 0  -- isotope
    ∷ 1 ∷ 2 ∷ 231 ∷ 3 ∷ 231 ∷ 3 ∷ 118 ∷ 0  -- isotope
    ∷ [])
    "y6+i13C-2i15N+i34S+999i999Og"
unfolding digits whole last_digits point_text symbols
isotopes_specific = record { text = refl; limits = refl; form = refl; rules = refl; sum = refl; long = refl; stores = refl; writes = refl }

pub loss_then_isotope : Worked "y7-H2O+i^2"
    (y 7 with loss minus silent H2O with isotope plus silent with charge 2 ∷ [])
    92
    (2 ∷ 0 ∷ 92 ∷ 0 ∷ 1 ∷ 0 ∷ 28 ∷ 0 ∷ 1 ∷ 0 ∷ 66 ∷ 0 ∷ 1 ∷ 0 ∷ 72 ∷ 0 ∷ 0 ∷ 0 ∷ 80 ∷ 0 ∷ 2 ∷ 0 ∷ 80 ∷ 0 ∷ 0 ∷ 0 ∷ 92 ∷ 0  -- header
    ∷ 1 ∷ 0 ∷ 0 ∷ 8 ∷ 0 ∷ 0 ∷ 7 ∷ 0 ∷ 0 ∷ 0 ∷ 2 ∷ 0 ∷ 0 ∷ 0 ∷ 0 ∷ 0 ∷ 0 ∷ 0 ∷ 0 ∷ 0 ∷ 0 ∷ 0 ∷ 0 ∷ 0 ∷ 0 ∷ 0 ∷ 0 ∷ 0 ∷ 0 ∷ 0 ∷ 0 ∷ 0 ∷ 1 ∷ 1 ∷ 0 ∷ 0 ∷ 0 ∷ 0  -- annotation
    ∷ 0 ∷ 0 ∷ 1 ∷ 0 ∷ 2 ∷ 0  -- loss
    ∷ 1 ∷ 0 ∷ 1 ∷ 0 ∷ 0 ∷ 0 ∷ 0 ∷ 0  -- isotope
    ∷ 0 ∷ 0 ∷ 1 ∷ 0 ∷ 2 ∷ 0  -- unit
    ∷ 0 ∷ 0 ∷ 8 ∷ 0 ∷ 1 ∷ 0  -- unit
    ∷ [])
    "y7-H2O+i^2"
unfolding digits whole last_digits point_text symbols
loss_then_isotope = record { text = refl; limits = refl; form = refl; rules = refl; sum = refl; long = refl; stores = refl; writes = refl }

pub adduct_electron : Worked "p[M+2H-e]^2"
    (p with item plus (times 2) (atom H) with electrons minus silent with charge 2 ∷ [])
    84
    (2 ∷ 0 ∷ 84 ∷ 0 ∷ 1 ∷ 0 ∷ 28 ∷ 0 ∷ 0 ∷ 0 ∷ 66 ∷ 0 ∷ 0 ∷ 0 ∷ 66 ∷ 0 ∷ 2 ∷ 0 ∷ 66 ∷ 0 ∷ 1 ∷ 0 ∷ 78 ∷ 0 ∷ 0 ∷ 0 ∷ 84 ∷ 0  -- header
    ∷ 4 ∷ 0 ∷ 0 ∷ 0 ∷ 0 ∷ 0 ∷ 0 ∷ 0 ∷ 0 ∷ 0 ∷ 2 ∷ 0 ∷ 0 ∷ 0 ∷ 0 ∷ 0 ∷ 0 ∷ 0 ∷ 0 ∷ 0 ∷ 0 ∷ 0 ∷ 0 ∷ 0 ∷ 0 ∷ 0 ∷ 0 ∷ 0 ∷ 0 ∷ 0 ∷ 0 ∷ 0 ∷ 0 ∷ 0 ∷ 2 ∷ 0 ∷ 0 ∷ 0  -- annotation
    ∷ 1 ∷ 0 ∷ 2 ∷ 0 ∷ 1 ∷ 0  -- adduct item
    ∷ 0 ∷ 2 ∷ 1 ∷ 0 ∷ 0 ∷ 0  -- adduct item
    ∷ 0 ∷ 0 ∷ 1 ∷ 0 ∷ 1 ∷ 0  -- unit
    ∷ [])
    "p[M+2H-e]^2"
unfolding digits whole last_digits point_text symbols
adduct_electron = record { text = refl; limits = refl; form = refl; rules = refl; sum = refl; long = refl; stores = refl; writes = refl }

pub adduct_order : Worked "p[M+Na-2H]"
    (p with item plus silent (atom Na) with item minus (times 2) (atom H) ∷ [])
    90
    (2 ∷ 0 ∷ 90 ∷ 0 ∷ 1 ∷ 0 ∷ 28 ∷ 0 ∷ 0 ∷ 0 ∷ 66 ∷ 0 ∷ 0 ∷ 0 ∷ 66 ∷ 0 ∷ 2 ∷ 0 ∷ 66 ∷ 0 ∷ 2 ∷ 0 ∷ 78 ∷ 0 ∷ 0 ∷ 0 ∷ 90 ∷ 0  -- header
    ∷ 4 ∷ 0 ∷ 0 ∷ 0 ∷ 0 ∷ 0 ∷ 0 ∷ 0 ∷ 0 ∷ 0 ∷ 1 ∷ 0 ∷ 0 ∷ 0 ∷ 0 ∷ 0 ∷ 0 ∷ 0 ∷ 0 ∷ 0 ∷ 0 ∷ 0 ∷ 0 ∷ 0 ∷ 0 ∷ 0 ∷ 0 ∷ 0 ∷ 0 ∷ 0 ∷ 0 ∷ 0 ∷ 0 ∷ 0 ∷ 2 ∷ 0 ∷ 0 ∷ 0  -- annotation
    ∷ 0 ∷ 0 ∷ 2 ∷ 0 ∷ 1 ∷ 0  -- adduct item
    ∷ 1 ∷ 0 ∷ 1 ∷ 0 ∷ 1 ∷ 0  -- adduct item
    ∷ 0 ∷ 0 ∷ 1 ∷ 0 ∷ 1 ∷ 0  -- unit
    ∷ 0 ∷ 0 ∷ 11 ∷ 0 ∷ 1 ∷ 0  -- unit
    ∷ [])
    "p[M-2H+Na]"
unfolding digits whole last_digits point_text symbols
adduct_order = record { text = refl; limits = refl; form = refl; rules = refl; sum = refl; long = refl; stores = refl; writes = refl }

pub adduct_ones : Worked "p[M+1H1]"
    (p with item plus (times 1) (formula (plain H (times 1)) []) ∷ [])
    78
    (2 ∷ 0 ∷ 78 ∷ 0 ∷ 1 ∷ 0 ∷ 28 ∷ 0 ∷ 0 ∷ 0 ∷ 66 ∷ 0 ∷ 0 ∷ 0 ∷ 66 ∷ 0 ∷ 1 ∷ 0 ∷ 66 ∷ 0 ∷ 1 ∷ 0 ∷ 72 ∷ 0 ∷ 0 ∷ 0 ∷ 78 ∷ 0  -- header
    ∷ 4 ∷ 0 ∷ 0 ∷ 0 ∷ 0 ∷ 0 ∷ 0 ∷ 0 ∷ 0 ∷ 0 ∷ 1 ∷ 0 ∷ 0 ∷ 0 ∷ 0 ∷ 0 ∷ 0 ∷ 0 ∷ 0 ∷ 0 ∷ 0 ∷ 0 ∷ 0 ∷ 0 ∷ 0 ∷ 0 ∷ 0 ∷ 0 ∷ 0 ∷ 0 ∷ 0 ∷ 0 ∷ 0 ∷ 0 ∷ 1 ∷ 0 ∷ 0 ∷ 0  -- annotation
    ∷ 1 ∷ 0 ∷ 1 ∷ 0 ∷ 1 ∷ 0  -- adduct item
    ∷ 0 ∷ 0 ∷ 1 ∷ 0 ∷ 1 ∷ 0  -- unit
    ∷ [])
    "p[M+H]"
unfolding digits whole last_digits point_text symbols
adduct_ones = record { text = refl; limits = refl; form = refl; rules = refl; sum = refl; long = refl; stores = refl; writes = refl }

pub adduct_four : Worked "p[M+e+H-1e-10H]"
    (p with electrons plus silent with item plus silent (atom H) with electrons minus (times 1) with item minus (times 10) (atom H) ∷ [])
    102
    (2 ∷ 0 ∷ 102 ∷ 0 ∷ 1 ∷ 0 ∷ 28 ∷ 0 ∷ 0 ∷ 0 ∷ 66 ∷ 0 ∷ 0 ∷ 0 ∷ 66 ∷ 0 ∷ 4 ∷ 0 ∷ 66 ∷ 0 ∷ 2 ∷ 0 ∷ 90 ∷ 0 ∷ 0 ∷ 0 ∷ 102 ∷ 0  -- header
    ∷ 4 ∷ 0 ∷ 0 ∷ 0 ∷ 0 ∷ 0 ∷ 0 ∷ 0 ∷ 0 ∷ 0 ∷ 1 ∷ 0 ∷ 0 ∷ 0 ∷ 0 ∷ 0 ∷ 0 ∷ 0 ∷ 0 ∷ 0 ∷ 0 ∷ 0 ∷ 0 ∷ 0 ∷ 0 ∷ 0 ∷ 0 ∷ 0 ∷ 0 ∷ 0 ∷ 0 ∷ 0 ∷ 0 ∷ 0 ∷ 4 ∷ 0 ∷ 0 ∷ 0  -- annotation
    ∷ 0 ∷ 0 ∷ 10 ∷ 0 ∷ 1 ∷ 0  -- adduct item
    ∷ 1 ∷ 0 ∷ 1 ∷ 0 ∷ 1 ∷ 0  -- adduct item
    ∷ 0 ∷ 2 ∷ 1 ∷ 0 ∷ 0 ∷ 0  -- adduct item
    ∷ 1 ∷ 2 ∷ 1 ∷ 0 ∷ 0 ∷ 0  -- adduct item
    ∷ 0 ∷ 0 ∷ 1 ∷ 0 ∷ 1 ∷ 0  -- unit
    ∷ 0 ∷ 0 ∷ 1 ∷ 0 ∷ 1 ∷ 0  -- unit
    ∷ [])
    "p[M-10H+H-e+e]"
unfolding digits whole last_digits point_text symbols
adduct_four = record { text = refl; limits = refl; form = refl; rules = refl; sum = refl; long = refl; stores = refl; writes = refl }

pub everything : Worked "y12-H2O^2/7.4ppm*0.70"
    (y 12 with loss minus silent H2O with charge 2 with off above (decimal 74 1) ppm with confidence (decimal 70 2) ∷ [])
    84
    (2 ∷ 0 ∷ 84 ∷ 0 ∷ 1 ∷ 0 ∷ 28 ∷ 0 ∷ 1 ∷ 0 ∷ 66 ∷ 0 ∷ 0 ∷ 0 ∷ 72 ∷ 0 ∷ 0 ∷ 0 ∷ 72 ∷ 0 ∷ 2 ∷ 0 ∷ 72 ∷ 0 ∷ 0 ∷ 0 ∷ 84 ∷ 0  -- header
    ∷ 1 ∷ 0 ∷ 0 ∷ 8 ∷ 0 ∷ 0 ∷ 12 ∷ 0 ∷ 0 ∷ 0 ∷ 2 ∷ 2 ∷ 1 ∷ 1 ∷ 2 ∷ 0 ∷ 74 ∷ 0 ∷ 0 ∷ 0 ∷ 0 ∷ 0 ∷ 0 ∷ 0 ∷ 70 ∷ 0 ∷ 0 ∷ 0 ∷ 0 ∷ 0 ∷ 0 ∷ 0 ∷ 1 ∷ 0 ∷ 0 ∷ 0 ∷ 0 ∷ 0  -- annotation
    ∷ 0 ∷ 0 ∷ 1 ∷ 0 ∷ 2 ∷ 0  -- loss
    ∷ 0 ∷ 0 ∷ 1 ∷ 0 ∷ 2 ∷ 0  -- unit
    ∷ 0 ∷ 0 ∷ 8 ∷ 0 ∷ 1 ∷ 0  -- unit
    ∷ [])
    "y12-H2O^2/7.4ppm*0.70"
unfolding digits whole last_digits point_text symbols
everything = record { text = refl; limits = refl; form = refl; rules = refl; sum = refl; long = refl; stores = refl; writes = refl }

-- 12 digits, 9 of them decimals, in two's complement
pub largest_deviation : Worked "p/-999.999999999ppm"
    (p with off below (decimal 999999999999 9) ppm ∷ [])
    66
    (2 ∷ 0 ∷ 66 ∷ 0 ∷ 1 ∷ 0 ∷ 28 ∷ 0 ∷ 0 ∷ 0 ∷ 66 ∷ 0 ∷ 0 ∷ 0 ∷ 66 ∷ 0 ∷ 0 ∷ 0 ∷ 66 ∷ 0 ∷ 0 ∷ 0 ∷ 66 ∷ 0 ∷ 0 ∷ 0 ∷ 66 ∷ 0  -- header
    ∷ 4 ∷ 0 ∷ 0 ∷ 0 ∷ 0 ∷ 0 ∷ 0 ∷ 0 ∷ 0 ∷ 0 ∷ 1 ∷ 2 ∷ 9 ∷ 0 ∷ 0 ∷ 0 ∷ 1 ∷ 240 ∷ 90 ∷ 43 ∷ 23 ∷ 255 ∷ 255 ∷ 255 ∷ 0 ∷ 0 ∷ 0 ∷ 0 ∷ 0 ∷ 0 ∷ 0 ∷ 0 ∷ 0 ∷ 0 ∷ 0 ∷ 0 ∷ 0 ∷ 0  -- annotation
    ∷ [])
    "p/-999.999999999ppm"
unfolding digits whole last_digits point_text symbols
largest_deviation = record { text = refl; limits = refl; form = refl; rules = refl; sum = refl; long = refl; stores = refl; writes = refl }

pub whole_deviation : Worked "p/100000000000*1.000000000"
    (p with off above (decimal 100000000000 0) mz with confidence (decimal 1000000000 9) ∷ [])
    66
    (2 ∷ 0 ∷ 66 ∷ 0 ∷ 1 ∷ 0 ∷ 28 ∷ 0 ∷ 0 ∷ 0 ∷ 66 ∷ 0 ∷ 0 ∷ 0 ∷ 66 ∷ 0 ∷ 0 ∷ 0 ∷ 66 ∷ 0 ∷ 0 ∷ 0 ∷ 66 ∷ 0 ∷ 0 ∷ 0 ∷ 66 ∷ 0  -- header
    ∷ 4 ∷ 0 ∷ 0 ∷ 0 ∷ 0 ∷ 0 ∷ 0 ∷ 0 ∷ 0 ∷ 0 ∷ 1 ∷ 1 ∷ 0 ∷ 1 ∷ 9 ∷ 0 ∷ 0 ∷ 232 ∷ 118 ∷ 72 ∷ 23 ∷ 0 ∷ 0 ∷ 0 ∷ 0 ∷ 202 ∷ 154 ∷ 59 ∷ 0 ∷ 0 ∷ 0 ∷ 0 ∷ 0 ∷ 0 ∷ 0 ∷ 0 ∷ 0 ∷ 0  -- annotation
    ∷ [])
    "p/100000000000*1.000000000"
unfolding digits whole last_digits point_text symbols
whole_deviation = record { text = refl; limits = refl; form = refl; rules = refl; sum = refl; long = refl; stores = refl; writes = refl }

-- zero is a true value for a marked deviation or confidence
pub zeros : Worked "?/0ppm*0.00"
    (ion (unknown silent) with off above (decimal 0 0) ppm with confidence (decimal 0 2) ∷ [])
    66
    (2 ∷ 0 ∷ 66 ∷ 0 ∷ 1 ∷ 0 ∷ 28 ∷ 0 ∷ 0 ∷ 0 ∷ 66 ∷ 0 ∷ 0 ∷ 0 ∷ 66 ∷ 0 ∷ 0 ∷ 0 ∷ 66 ∷ 0 ∷ 0 ∷ 0 ∷ 66 ∷ 0 ∷ 0 ∷ 0 ∷ 66 ∷ 0  -- header
    ∷ 9 ∷ 0 ∷ 0 ∷ 0 ∷ 0 ∷ 0 ∷ 0 ∷ 0 ∷ 0 ∷ 0 ∷ 1 ∷ 2 ∷ 0 ∷ 1 ∷ 2 ∷ 0 ∷ 0 ∷ 0 ∷ 0 ∷ 0 ∷ 0 ∷ 0 ∷ 0 ∷ 0 ∷ 0 ∷ 0 ∷ 0 ∷ 0 ∷ 0 ∷ 0 ∷ 0 ∷ 0 ∷ 0 ∷ 0 ∷ 0 ∷ 0 ∷ 0 ∷ 0  -- annotation
    ∷ [])
    "?/0ppm*0.00"
unfolding digits whole last_digits point_text symbols
zeros = record { text = refl; limits = refl; form = refl; rules = refl; sum = refl; long = refl; stores = refl; writes = refl }
