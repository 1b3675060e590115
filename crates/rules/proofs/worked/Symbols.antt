-- A worked line with all 118 symbols, as formulas of up to 12 units: the symbol of each atomic number. Assumes nothing.
use Prim.Native.Nat.{ℕ}
use Prim.Native.String.{String}
use mathlib.Core.Path.{refl}
use mathlib.Core.List.{List, [], ◌∷◌}
use lib.Dec.{T, ltb}
use Rattle.lang.specs.Parts.{silent}
use Rattle.rules.specs.Numbers.{digits}
use Rattle.rules.specs.Decimals.{whole, last_digits, point_text}
use Rattle.rules.specs.Elements.{symbols}
use Rattle.rules.specs.Formulas.{Written, FormulaUnit, plain}
use Rattle.rules.specs.Ions.{composed}
use Rattle.rules.specs.Annotations.{SpelledAnnotation}
use Rattle.rules.proofs.worked.Spell.{sym, formula, ion}
use Rattle.rules.proofs.worked.Row.{Worked}

-- a symbol without a count, by atomic number less 1
abbrev u : (n : ℕ) → T (ltb n 118) → FormulaUnit Written
u n known = plain (sym n known) silent

abbrev of : FormulaUnit Written → List (FormulaUnit Written) → SpelledAnnotation
of first more = ion (composed (formula first more))

abbrev line : String
line = "f{HHeLiBeBCNOFNeNaMg},f{AlSiPSClArKCaScTiVCr},f{MnFeCoNiCuZnGaGeAsSeBrKr},f{RbSrYZrNbMoTcRuRhPdAgCd},f{InSnSbTeIXeCsBaLaCePrNd},f{PmSmEuGdTbDyHoErTmYbLuHf},f{TaWReOsIrPtAuHgTlPbBiPo},f{AtRnFrRaAcThPaUNpPuAmCm},f{BkCfEsFmMdNoLrRfDbSgBhHs},f{MtDsRgCnNhFlMcLvTsOg}"

pub all_symbols : Worked line
    (of (u 0 tt) (u 1 tt ∷ u 2 tt ∷ u 3 tt ∷ u 4 tt ∷ u 5 tt ∷ u 6 tt ∷ u 7 tt ∷ u 8 tt ∷ u 9 tt ∷ u 10 tt ∷ u 11 tt ∷ [])
    ∷ of (u 12 tt) (u 13 tt ∷ u 14 tt ∷ u 15 tt ∷ u 16 tt ∷ u 17 tt ∷ u 18 tt ∷ u 19 tt ∷ u 20 tt ∷ u 21 tt ∷ u 22 tt ∷ u 23 tt ∷ [])
    ∷ of (u 24 tt) (u 25 tt ∷ u 26 tt ∷ u 27 tt ∷ u 28 tt ∷ u 29 tt ∷ u 30 tt ∷ u 31 tt ∷ u 32 tt ∷ u 33 tt ∷ u 34 tt ∷ u 35 tt ∷ [])
    ∷ of (u 36 tt) (u 37 tt ∷ u 38 tt ∷ u 39 tt ∷ u 40 tt ∷ u 41 tt ∷ u 42 tt ∷ u 43 tt ∷ u 44 tt ∷ u 45 tt ∷ u 46 tt ∷ u 47 tt ∷ [])
    ∷ of (u 48 tt) (u 49 tt ∷ u 50 tt ∷ u 51 tt ∷ u 52 tt ∷ u 53 tt ∷ u 54 tt ∷ u 55 tt ∷ u 56 tt ∷ u 57 tt ∷ u 58 tt ∷ u 59 tt ∷ [])
    ∷ of (u 60 tt) (u 61 tt ∷ u 62 tt ∷ u 63 tt ∷ u 64 tt ∷ u 65 tt ∷ u 66 tt ∷ u 67 tt ∷ u 68 tt ∷ u 69 tt ∷ u 70 tt ∷ u 71 tt ∷ [])
    ∷ of (u 72 tt) (u 73 tt ∷ u 74 tt ∷ u 75 tt ∷ u 76 tt ∷ u 77 tt ∷ u 78 tt ∷ u 79 tt ∷ u 80 tt ∷ u 81 tt ∷ u 82 tt ∷ u 83 tt ∷ [])
    ∷ of (u 84 tt) (u 85 tt ∷ u 86 tt ∷ u 87 tt ∷ u 88 tt ∷ u 89 tt ∷ u 90 tt ∷ u 91 tt ∷ u 92 tt ∷ u 93 tt ∷ u 94 tt ∷ u 95 tt ∷ [])
    ∷ of (u 96 tt) (u 97 tt ∷ u 98 tt ∷ u 99 tt ∷ u 100 tt ∷ u 101 tt ∷ u 102 tt ∷ u 103 tt ∷ u 104 tt ∷ u 105 tt ∷ u 106 tt ∷ u 107 tt ∷ [])
    ∷ of (u 108 tt) (u 109 tt ∷ u 110 tt ∷ u 111 tt ∷ u 112 tt ∷ u 113 tt ∷ u 114 tt ∷ u 115 tt ∷ u 116 tt ∷ u 117 tt ∷ [])
    ∷ [])
    1116
    (2 ∷ 0 ∷ 92 ∷ 4 ∷ 10 ∷ 0 ∷ 28 ∷ 0 ∷ 0 ∷ 0 ∷ 152 ∷ 1 ∷ 0 ∷ 0 ∷ 152 ∷ 1 ∷ 0 ∷ 0 ∷ 152 ∷ 1 ∷ 118 ∷ 0 ∷ 152 ∷ 1 ∷ 0 ∷ 0 ∷ 92 ∷ 4  -- header
    ∷ 7 ∷ 0 ∷ 0 ∷ 0 ∷ 0 ∷ 0 ∷ 0 ∷ 0 ∷ 0 ∷ 0 ∷ 1 ∷ 0 ∷ 0 ∷ 0 ∷ 0 ∷ 0 ∷ 0 ∷ 0 ∷ 0 ∷ 0 ∷ 0 ∷ 0 ∷ 0 ∷ 0 ∷ 0 ∷ 0 ∷ 0 ∷ 0 ∷ 0 ∷ 0 ∷ 12 ∷ 0 ∷ 0 ∷ 0 ∷ 0 ∷ 0 ∷ 0 ∷ 0  -- annotation
    ∷ 7 ∷ 0 ∷ 0 ∷ 0 ∷ 0 ∷ 0 ∷ 0 ∷ 0 ∷ 0 ∷ 0 ∷ 1 ∷ 0 ∷ 0 ∷ 0 ∷ 0 ∷ 0 ∷ 0 ∷ 0 ∷ 0 ∷ 0 ∷ 0 ∷ 0 ∷ 0 ∷ 0 ∷ 0 ∷ 0 ∷ 0 ∷ 0 ∷ 0 ∷ 0 ∷ 12 ∷ 0 ∷ 0 ∷ 0 ∷ 0 ∷ 0 ∷ 0 ∷ 0  -- annotation
    ∷ 7 ∷ 0 ∷ 0 ∷ 0 ∷ 0 ∷ 0 ∷ 0 ∷ 0 ∷ 0 ∷ 0 ∷ 1 ∷ 0 ∷ 0 ∷ 0 ∷ 0 ∷ 0 ∷ 0 ∷ 0 ∷ 0 ∷ 0 ∷ 0 ∷ 0 ∷ 0 ∷ 0 ∷ 0 ∷ 0 ∷ 0 ∷ 0 ∷ 0 ∷ 0 ∷ 12 ∷ 0 ∷ 0 ∷ 0 ∷ 0 ∷ 0 ∷ 0 ∷ 0  -- annotation
    ∷ 7 ∷ 0 ∷ 0 ∷ 0 ∷ 0 ∷ 0 ∷ 0 ∷ 0 ∷ 0 ∷ 0 ∷ 1 ∷ 0 ∷ 0 ∷ 0 ∷ 0 ∷ 0 ∷ 0 ∷ 0 ∷ 0 ∷ 0 ∷ 0 ∷ 0 ∷ 0 ∷ 0 ∷ 0 ∷ 0 ∷ 0 ∷ 0 ∷ 0 ∷ 0 ∷ 12 ∷ 0 ∷ 0 ∷ 0 ∷ 0 ∷ 0 ∷ 0 ∷ 0  -- annotation
    ∷ 7 ∷ 0 ∷ 0 ∷ 0 ∷ 0 ∷ 0 ∷ 0 ∷ 0 ∷ 0 ∷ 0 ∷ 1 ∷ 0 ∷ 0 ∷ 0 ∷ 0 ∷ 0 ∷ 0 ∷ 0 ∷ 0 ∷ 0 ∷ 0 ∷ 0 ∷ 0 ∷ 0 ∷ 0 ∷ 0 ∷ 0 ∷ 0 ∷ 0 ∷ 0 ∷ 12 ∷ 0 ∷ 0 ∷ 0 ∷ 0 ∷ 0 ∷ 0 ∷ 0  -- annotation
    ∷ 7 ∷ 0 ∷ 0 ∷ 0 ∷ 0 ∷ 0 ∷ 0 ∷ 0 ∷ 0 ∷ 0 ∷ 1 ∷ 0 ∷ 0 ∷ 0 ∷ 0 ∷ 0 ∷ 0 ∷ 0 ∷ 0 ∷ 0 ∷ 0 ∷ 0 ∷ 0 ∷ 0 ∷ 0 ∷ 0 ∷ 0 ∷ 0 ∷ 0 ∷ 0 ∷ 12 ∷ 0 ∷ 0 ∷ 0 ∷ 0 ∷ 0 ∷ 0 ∷ 0  -- annotation
    ∷ 7 ∷ 0 ∷ 0 ∷ 0 ∷ 0 ∷ 0 ∷ 0 ∷ 0 ∷ 0 ∷ 0 ∷ 1 ∷ 0 ∷ 0 ∷ 0 ∷ 0 ∷ 0 ∷ 0 ∷ 0 ∷ 0 ∷ 0 ∷ 0 ∷ 0 ∷ 0 ∷ 0 ∷ 0 ∷ 0 ∷ 0 ∷ 0 ∷ 0 ∷ 0 ∷ 12 ∷ 0 ∷ 0 ∷ 0 ∷ 0 ∷ 0 ∷ 0 ∷ 0  -- annotation
    ∷ 7 ∷ 0 ∷ 0 ∷ 0 ∷ 0 ∷ 0 ∷ 0 ∷ 0 ∷ 0 ∷ 0 ∷ 1 ∷ 0 ∷ 0 ∷ 0 ∷ 0 ∷ 0 ∷ 0 ∷ 0 ∷ 0 ∷ 0 ∷ 0 ∷ 0 ∷ 0 ∷ 0 ∷ 0 ∷ 0 ∷ 0 ∷ 0 ∷ 0 ∷ 0 ∷ 12 ∷ 0 ∷ 0 ∷ 0 ∷ 0 ∷ 0 ∷ 0 ∷ 0  -- annotation
    ∷ 7 ∷ 0 ∷ 0 ∷ 0 ∷ 0 ∷ 0 ∷ 0 ∷ 0 ∷ 0 ∷ 0 ∷ 1 ∷ 0 ∷ 0 ∷ 0 ∷ 0 ∷ 0 ∷ 0 ∷ 0 ∷ 0 ∷ 0 ∷ 0 ∷ 0 ∷ 0 ∷ 0 ∷ 0 ∷ 0 ∷ 0 ∷ 0 ∷ 0 ∷ 0 ∷ 12 ∷ 0 ∷ 0 ∷ 0 ∷ 0 ∷ 0 ∷ 0 ∷ 0  -- annotation
    ∷ 7 ∷ 0 ∷ 0 ∷ 0 ∷ 0 ∷ 0 ∷ 0 ∷ 0 ∷ 0 ∷ 0 ∷ 1 ∷ 0 ∷ 0 ∷ 0 ∷ 0 ∷ 0 ∷ 0 ∷ 0 ∷ 0 ∷ 0 ∷ 0 ∷ 0 ∷ 0 ∷ 0 ∷ 0 ∷ 0 ∷ 0 ∷ 0 ∷ 0 ∷ 0 ∷ 10 ∷ 0 ∷ 0 ∷ 0 ∷ 0 ∷ 0 ∷ 0 ∷ 0  -- annotation
    ∷ 0 ∷ 0 ∷ 1 ∷ 0 ∷ 1 ∷ 0 ∷ 0 ∷ 0 ∷ 2 ∷ 0 ∷ 1 ∷ 0 ∷ 0 ∷ 0 ∷ 3 ∷ 0 ∷ 1 ∷ 0 ∷ 0 ∷ 0 ∷ 4 ∷ 0 ∷ 1 ∷ 0 ∷ 0 ∷ 0 ∷ 5 ∷ 0 ∷ 1 ∷ 0 ∷ 0 ∷ 0 ∷ 6 ∷ 0 ∷ 1 ∷ 0  -- H He Li Be B C
    ∷ 0 ∷ 0 ∷ 7 ∷ 0 ∷ 1 ∷ 0 ∷ 0 ∷ 0 ∷ 8 ∷ 0 ∷ 1 ∷ 0 ∷ 0 ∷ 0 ∷ 9 ∷ 0 ∷ 1 ∷ 0 ∷ 0 ∷ 0 ∷ 10 ∷ 0 ∷ 1 ∷ 0 ∷ 0 ∷ 0 ∷ 11 ∷ 0 ∷ 1 ∷ 0 ∷ 0 ∷ 0 ∷ 12 ∷ 0 ∷ 1 ∷ 0  -- N O F Ne Na Mg
    ∷ 0 ∷ 0 ∷ 13 ∷ 0 ∷ 1 ∷ 0 ∷ 0 ∷ 0 ∷ 14 ∷ 0 ∷ 1 ∷ 0 ∷ 0 ∷ 0 ∷ 15 ∷ 0 ∷ 1 ∷ 0 ∷ 0 ∷ 0 ∷ 16 ∷ 0 ∷ 1 ∷ 0 ∷ 0 ∷ 0 ∷ 17 ∷ 0 ∷ 1 ∷ 0 ∷ 0 ∷ 0 ∷ 18 ∷ 0 ∷ 1 ∷ 0  -- Al Si P S Cl Ar
    ∷ 0 ∷ 0 ∷ 19 ∷ 0 ∷ 1 ∷ 0 ∷ 0 ∷ 0 ∷ 20 ∷ 0 ∷ 1 ∷ 0 ∷ 0 ∷ 0 ∷ 21 ∷ 0 ∷ 1 ∷ 0 ∷ 0 ∷ 0 ∷ 22 ∷ 0 ∷ 1 ∷ 0 ∷ 0 ∷ 0 ∷ 23 ∷ 0 ∷ 1 ∷ 0 ∷ 0 ∷ 0 ∷ 24 ∷ 0 ∷ 1 ∷ 0  -- K Ca Sc Ti V Cr
    ∷ 0 ∷ 0 ∷ 25 ∷ 0 ∷ 1 ∷ 0 ∷ 0 ∷ 0 ∷ 26 ∷ 0 ∷ 1 ∷ 0 ∷ 0 ∷ 0 ∷ 27 ∷ 0 ∷ 1 ∷ 0 ∷ 0 ∷ 0 ∷ 28 ∷ 0 ∷ 1 ∷ 0 ∷ 0 ∷ 0 ∷ 29 ∷ 0 ∷ 1 ∷ 0 ∷ 0 ∷ 0 ∷ 30 ∷ 0 ∷ 1 ∷ 0  -- Mn Fe Co Ni Cu Zn
    ∷ 0 ∷ 0 ∷ 31 ∷ 0 ∷ 1 ∷ 0 ∷ 0 ∷ 0 ∷ 32 ∷ 0 ∷ 1 ∷ 0 ∷ 0 ∷ 0 ∷ 33 ∷ 0 ∷ 1 ∷ 0 ∷ 0 ∷ 0 ∷ 34 ∷ 0 ∷ 1 ∷ 0 ∷ 0 ∷ 0 ∷ 35 ∷ 0 ∷ 1 ∷ 0 ∷ 0 ∷ 0 ∷ 36 ∷ 0 ∷ 1 ∷ 0  -- Ga Ge As Se Br Kr
    ∷ 0 ∷ 0 ∷ 37 ∷ 0 ∷ 1 ∷ 0 ∷ 0 ∷ 0 ∷ 38 ∷ 0 ∷ 1 ∷ 0 ∷ 0 ∷ 0 ∷ 39 ∷ 0 ∷ 1 ∷ 0 ∷ 0 ∷ 0 ∷ 40 ∷ 0 ∷ 1 ∷ 0 ∷ 0 ∷ 0 ∷ 41 ∷ 0 ∷ 1 ∷ 0 ∷ 0 ∷ 0 ∷ 42 ∷ 0 ∷ 1 ∷ 0  -- Rb Sr Y Zr Nb Mo
    ∷ 0 ∷ 0 ∷ 43 ∷ 0 ∷ 1 ∷ 0 ∷ 0 ∷ 0 ∷ 44 ∷ 0 ∷ 1 ∷ 0 ∷ 0 ∷ 0 ∷ 45 ∷ 0 ∷ 1 ∷ 0 ∷ 0 ∷ 0 ∷ 46 ∷ 0 ∷ 1 ∷ 0 ∷ 0 ∷ 0 ∷ 47 ∷ 0 ∷ 1 ∷ 0 ∷ 0 ∷ 0 ∷ 48 ∷ 0 ∷ 1 ∷ 0  -- Tc Ru Rh Pd Ag Cd
    ∷ 0 ∷ 0 ∷ 49 ∷ 0 ∷ 1 ∷ 0 ∷ 0 ∷ 0 ∷ 50 ∷ 0 ∷ 1 ∷ 0 ∷ 0 ∷ 0 ∷ 51 ∷ 0 ∷ 1 ∷ 0 ∷ 0 ∷ 0 ∷ 52 ∷ 0 ∷ 1 ∷ 0 ∷ 0 ∷ 0 ∷ 53 ∷ 0 ∷ 1 ∷ 0 ∷ 0 ∷ 0 ∷ 54 ∷ 0 ∷ 1 ∷ 0  -- In Sn Sb Te I Xe
    ∷ 0 ∷ 0 ∷ 55 ∷ 0 ∷ 1 ∷ 0 ∷ 0 ∷ 0 ∷ 56 ∷ 0 ∷ 1 ∷ 0 ∷ 0 ∷ 0 ∷ 57 ∷ 0 ∷ 1 ∷ 0 ∷ 0 ∷ 0 ∷ 58 ∷ 0 ∷ 1 ∷ 0 ∷ 0 ∷ 0 ∷ 59 ∷ 0 ∷ 1 ∷ 0 ∷ 0 ∷ 0 ∷ 60 ∷ 0 ∷ 1 ∷ 0  -- Cs Ba La Ce Pr Nd
    ∷ 0 ∷ 0 ∷ 61 ∷ 0 ∷ 1 ∷ 0 ∷ 0 ∷ 0 ∷ 62 ∷ 0 ∷ 1 ∷ 0 ∷ 0 ∷ 0 ∷ 63 ∷ 0 ∷ 1 ∷ 0 ∷ 0 ∷ 0 ∷ 64 ∷ 0 ∷ 1 ∷ 0 ∷ 0 ∷ 0 ∷ 65 ∷ 0 ∷ 1 ∷ 0 ∷ 0 ∷ 0 ∷ 66 ∷ 0 ∷ 1 ∷ 0  -- Pm Sm Eu Gd Tb Dy
    ∷ 0 ∷ 0 ∷ 67 ∷ 0 ∷ 1 ∷ 0 ∷ 0 ∷ 0 ∷ 68 ∷ 0 ∷ 1 ∷ 0 ∷ 0 ∷ 0 ∷ 69 ∷ 0 ∷ 1 ∷ 0 ∷ 0 ∷ 0 ∷ 70 ∷ 0 ∷ 1 ∷ 0 ∷ 0 ∷ 0 ∷ 71 ∷ 0 ∷ 1 ∷ 0 ∷ 0 ∷ 0 ∷ 72 ∷ 0 ∷ 1 ∷ 0  -- Ho Er Tm Yb Lu Hf
    ∷ 0 ∷ 0 ∷ 73 ∷ 0 ∷ 1 ∷ 0 ∷ 0 ∷ 0 ∷ 74 ∷ 0 ∷ 1 ∷ 0 ∷ 0 ∷ 0 ∷ 75 ∷ 0 ∷ 1 ∷ 0 ∷ 0 ∷ 0 ∷ 76 ∷ 0 ∷ 1 ∷ 0 ∷ 0 ∷ 0 ∷ 77 ∷ 0 ∷ 1 ∷ 0 ∷ 0 ∷ 0 ∷ 78 ∷ 0 ∷ 1 ∷ 0  -- Ta W Re Os Ir Pt
    ∷ 0 ∷ 0 ∷ 79 ∷ 0 ∷ 1 ∷ 0 ∷ 0 ∷ 0 ∷ 80 ∷ 0 ∷ 1 ∷ 0 ∷ 0 ∷ 0 ∷ 81 ∷ 0 ∷ 1 ∷ 0 ∷ 0 ∷ 0 ∷ 82 ∷ 0 ∷ 1 ∷ 0 ∷ 0 ∷ 0 ∷ 83 ∷ 0 ∷ 1 ∷ 0 ∷ 0 ∷ 0 ∷ 84 ∷ 0 ∷ 1 ∷ 0  -- Au Hg Tl Pb Bi Po
    ∷ 0 ∷ 0 ∷ 85 ∷ 0 ∷ 1 ∷ 0 ∷ 0 ∷ 0 ∷ 86 ∷ 0 ∷ 1 ∷ 0 ∷ 0 ∷ 0 ∷ 87 ∷ 0 ∷ 1 ∷ 0 ∷ 0 ∷ 0 ∷ 88 ∷ 0 ∷ 1 ∷ 0 ∷ 0 ∷ 0 ∷ 89 ∷ 0 ∷ 1 ∷ 0 ∷ 0 ∷ 0 ∷ 90 ∷ 0 ∷ 1 ∷ 0  -- At Rn Fr Ra Ac Th
    ∷ 0 ∷ 0 ∷ 91 ∷ 0 ∷ 1 ∷ 0 ∷ 0 ∷ 0 ∷ 92 ∷ 0 ∷ 1 ∷ 0 ∷ 0 ∷ 0 ∷ 93 ∷ 0 ∷ 1 ∷ 0 ∷ 0 ∷ 0 ∷ 94 ∷ 0 ∷ 1 ∷ 0 ∷ 0 ∷ 0 ∷ 95 ∷ 0 ∷ 1 ∷ 0 ∷ 0 ∷ 0 ∷ 96 ∷ 0 ∷ 1 ∷ 0  -- Pa U Np Pu Am Cm
    ∷ 0 ∷ 0 ∷ 97 ∷ 0 ∷ 1 ∷ 0 ∷ 0 ∷ 0 ∷ 98 ∷ 0 ∷ 1 ∷ 0 ∷ 0 ∷ 0 ∷ 99 ∷ 0 ∷ 1 ∷ 0 ∷ 0 ∷ 0 ∷ 100 ∷ 0 ∷ 1 ∷ 0 ∷ 0 ∷ 0 ∷ 101 ∷ 0 ∷ 1 ∷ 0 ∷ 0 ∷ 0 ∷ 102 ∷ 0 ∷ 1 ∷ 0  -- Bk Cf Es Fm Md No
    ∷ 0 ∷ 0 ∷ 103 ∷ 0 ∷ 1 ∷ 0 ∷ 0 ∷ 0 ∷ 104 ∷ 0 ∷ 1 ∷ 0 ∷ 0 ∷ 0 ∷ 105 ∷ 0 ∷ 1 ∷ 0 ∷ 0 ∷ 0 ∷ 106 ∷ 0 ∷ 1 ∷ 0 ∷ 0 ∷ 0 ∷ 107 ∷ 0 ∷ 1 ∷ 0 ∷ 0 ∷ 0 ∷ 108 ∷ 0 ∷ 1 ∷ 0  -- Lr Rf Db Sg Bh Hs
    ∷ 0 ∷ 0 ∷ 109 ∷ 0 ∷ 1 ∷ 0 ∷ 0 ∷ 0 ∷ 110 ∷ 0 ∷ 1 ∷ 0 ∷ 0 ∷ 0 ∷ 111 ∷ 0 ∷ 1 ∷ 0 ∷ 0 ∷ 0 ∷ 112 ∷ 0 ∷ 1 ∷ 0 ∷ 0 ∷ 0 ∷ 113 ∷ 0 ∷ 1 ∷ 0 ∷ 0 ∷ 0 ∷ 114 ∷ 0 ∷ 1 ∷ 0  -- Mt Ds Rg Cn Nh Fl
    ∷ 0 ∷ 0 ∷ 115 ∷ 0 ∷ 1 ∷ 0 ∷ 0 ∷ 0 ∷ 116 ∷ 0 ∷ 1 ∷ 0 ∷ 0 ∷ 0 ∷ 117 ∷ 0 ∷ 1 ∷ 0 ∷ 0 ∷ 0 ∷ 118 ∷ 0 ∷ 1 ∷ 0  -- Mc Lv Ts Og
    ∷ [])
    line
unfolding digits whole last_digits point_text symbols
all_symbols = record { text = refl; limits = refl; form = refl; rules = refl; sum = refl; long = refl; stores = refl; writes = refl }
