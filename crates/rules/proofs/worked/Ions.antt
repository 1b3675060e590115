-- Worked lines: the nine kinds of ion, and what may stand before them. Assumes nothing.
use mathlib.Core.Path.{refl}
use mathlib.Core.List.{[], ◌∷◌}
use Rattle.lang.specs.Parts.{silent, written}
use Rattle.rules.specs.Numbers.{digits}
use Rattle.rules.specs.Decimals.{whole, last_digits, point_text}
use Rattle.rules.specs.Elements.{symbols}
use Rattle.rules.specs.Formulas.{plain, labelled}
use Rattle.rules.specs.Ions.{reference, named, composed, smiles, unknown}
use Rattle.rules.specs.Losses.{minus, plus}
use Rattle.rules.specs.Sequences.{read_from}
use Rattle.rules.proofs.worked.Spell.{num, times, decimal, text, name, modification, H, C, O, formula, atom, CO, ion, serial, y}
use Rattle.rules.proofs.worked.Spell.{inner, imm, p, label, ◌with◌, marked, analyte, loss, specific, specifics, item, charge, below}
use Rattle.rules.proofs.worked.Spell.{above, ppm, mz, off, confidence}
use Rattle.rules.proofs.worked.Row.{Worked}

-- no annotations, 28 bytes
pub empty : Worked ""
    []
    28
    (2 ∷ 0 ∷ 28 ∷ 0 ∷ 0 ∷ 0 ∷ 28 ∷ 0 ∷ 0 ∷ 0 ∷ 28 ∷ 0 ∷ 0 ∷ 0 ∷ 28 ∷ 0 ∷ 0 ∷ 0 ∷ 28 ∷ 0 ∷ 0 ∷ 0 ∷ 28 ∷ 0 ∷ 0 ∷ 0 ∷ 28 ∷ 0  -- header
    ∷ [])
    ""
unfolding digits whole last_digits point_text symbols
empty = record { text = refl; limits = refl; form = refl; rules = refl; sum = refl; long = refl; stores = refl; writes = refl }

-- 66 bytes, kind 1, series 8, position 1, charge 1
pub y1 : Worked "y1"
    (y 1 ∷ [])
    66
    (2 ∷ 0 ∷ 66 ∷ 0 ∷ 1 ∷ 0 ∷ 28 ∷ 0 ∷ 0 ∷ 0 ∷ 66 ∷ 0 ∷ 0 ∷ 0 ∷ 66 ∷ 0 ∷ 0 ∷ 0 ∷ 66 ∷ 0 ∷ 0 ∷ 0 ∷ 66 ∷ 0 ∷ 0 ∷ 0 ∷ 66 ∷ 0  -- header
    ∷ 1 ∷ 0 ∷ 0 ∷ 8 ∷ 0 ∷ 0 ∷ 1 ∷ 0 ∷ 0 ∷ 0 ∷ 1 ∷ 0 ∷ 0 ∷ 0 ∷ 0 ∷ 0 ∷ 0 ∷ 0 ∷ 0 ∷ 0 ∷ 0 ∷ 0 ∷ 0 ∷ 0 ∷ 0 ∷ 0 ∷ 0 ∷ 0 ∷ 0 ∷ 0 ∷ 0 ∷ 0 ∷ 0 ∷ 0 ∷ 0 ∷ 0 ∷ 0 ∷ 0  -- annotation
    ∷ [])
    "y1"
unfolding digits whole last_digits point_text symbols
y1 = record { text = refl; limits = refl; form = refl; rules = refl; sum = refl; long = refl; stores = refl; writes = refl }

-- the series in the listed order
pub thirteen : Worked "a1,b2,c3,d4,v5,w6,x7,y8,z9,da10,db11,wa12,wb13"
    (serial 0 tt 1 silent ∷ serial 1 tt 2 silent ∷ serial 2 tt 3 silent ∷ serial 3 tt 4 silent ∷ serial 4 tt 5 silent
    ∷ serial 5 tt 6 silent ∷ serial 6 tt 7 silent ∷ serial 7 tt 8 silent ∷ serial 8 tt 9 silent ∷ serial 9 tt 10 silent
    ∷ serial 10 tt 11 silent ∷ serial 11 tt 12 silent ∷ serial 12 tt 13 silent ∷ [])
    522
    (2 ∷ 0 ∷ 10 ∷ 2 ∷ 13 ∷ 0 ∷ 28 ∷ 0 ∷ 0 ∷ 0 ∷ 10 ∷ 2 ∷ 0 ∷ 0 ∷ 10 ∷ 2 ∷ 0 ∷ 0 ∷ 10 ∷ 2 ∷ 0 ∷ 0 ∷ 10 ∷ 2 ∷ 0 ∷ 0 ∷ 10 ∷ 2  -- header
    ∷ 1 ∷ 0 ∷ 0 ∷ 1 ∷ 0 ∷ 0 ∷ 1 ∷ 0 ∷ 0 ∷ 0 ∷ 1 ∷ 0 ∷ 0 ∷ 0 ∷ 0 ∷ 0 ∷ 0 ∷ 0 ∷ 0 ∷ 0 ∷ 0 ∷ 0 ∷ 0 ∷ 0 ∷ 0 ∷ 0 ∷ 0 ∷ 0 ∷ 0 ∷ 0 ∷ 0 ∷ 0 ∷ 0 ∷ 0 ∷ 0 ∷ 0 ∷ 0 ∷ 0  -- annotation
    ∷ 1 ∷ 0 ∷ 0 ∷ 2 ∷ 0 ∷ 0 ∷ 2 ∷ 0 ∷ 0 ∷ 0 ∷ 1 ∷ 0 ∷ 0 ∷ 0 ∷ 0 ∷ 0 ∷ 0 ∷ 0 ∷ 0 ∷ 0 ∷ 0 ∷ 0 ∷ 0 ∷ 0 ∷ 0 ∷ 0 ∷ 0 ∷ 0 ∷ 0 ∷ 0 ∷ 0 ∷ 0 ∷ 0 ∷ 0 ∷ 0 ∷ 0 ∷ 0 ∷ 0  -- annotation
    ∷ 1 ∷ 0 ∷ 0 ∷ 3 ∷ 0 ∷ 0 ∷ 3 ∷ 0 ∷ 0 ∷ 0 ∷ 1 ∷ 0 ∷ 0 ∷ 0 ∷ 0 ∷ 0 ∷ 0 ∷ 0 ∷ 0 ∷ 0 ∷ 0 ∷ 0 ∷ 0 ∷ 0 ∷ 0 ∷ 0 ∷ 0 ∷ 0 ∷ 0 ∷ 0 ∷ 0 ∷ 0 ∷ 0 ∷ 0 ∷ 0 ∷ 0 ∷ 0 ∷ 0  -- annotation
    ∷ 1 ∷ 0 ∷ 0 ∷ 4 ∷ 0 ∷ 0 ∷ 4 ∷ 0 ∷ 0 ∷ 0 ∷ 1 ∷ 0 ∷ 0 ∷ 0 ∷ 0 ∷ 0 ∷ 0 ∷ 0 ∷ 0 ∷ 0 ∷ 0 ∷ 0 ∷ 0 ∷ 0 ∷ 0 ∷ 0 ∷ 0 ∷ 0 ∷ 0 ∷ 0 ∷ 0 ∷ 0 ∷ 0 ∷ 0 ∷ 0 ∷ 0 ∷ 0 ∷ 0  -- annotation
    ∷ 1 ∷ 0 ∷ 0 ∷ 5 ∷ 0 ∷ 0 ∷ 5 ∷ 0 ∷ 0 ∷ 0 ∷ 1 ∷ 0 ∷ 0 ∷ 0 ∷ 0 ∷ 0 ∷ 0 ∷ 0 ∷ 0 ∷ 0 ∷ 0 ∷ 0 ∷ 0 ∷ 0 ∷ 0 ∷ 0 ∷ 0 ∷ 0 ∷ 0 ∷ 0 ∷ 0 ∷ 0 ∷ 0 ∷ 0 ∷ 0 ∷ 0 ∷ 0 ∷ 0  -- annotation
    ∷ 1 ∷ 0 ∷ 0 ∷ 6 ∷ 0 ∷ 0 ∷ 6 ∷ 0 ∷ 0 ∷ 0 ∷ 1 ∷ 0 ∷ 0 ∷ 0 ∷ 0 ∷ 0 ∷ 0 ∷ 0 ∷ 0 ∷ 0 ∷ 0 ∷ 0 ∷ 0 ∷ 0 ∷ 0 ∷ 0 ∷ 0 ∷ 0 ∷ 0 ∷ 0 ∷ 0 ∷ 0 ∷ 0 ∷ 0 ∷ 0 ∷ 0 ∷ 0 ∷ 0  -- annotation
    ∷ 1 ∷ 0 ∷ 0 ∷ 7 ∷ 0 ∷ 0 ∷ 7 ∷ 0 ∷ 0 ∷ 0 ∷ 1 ∷ 0 ∷ 0 ∷ 0 ∷ 0 ∷ 0 ∷ 0 ∷ 0 ∷ 0 ∷ 0 ∷ 0 ∷ 0 ∷ 0 ∷ 0 ∷ 0 ∷ 0 ∷ 0 ∷ 0 ∷ 0 ∷ 0 ∷ 0 ∷ 0 ∷ 0 ∷ 0 ∷ 0 ∷ 0 ∷ 0 ∷ 0  -- annotation
    ∷ 1 ∷ 0 ∷ 0 ∷ 8 ∷ 0 ∷ 0 ∷ 8 ∷ 0 ∷ 0 ∷ 0 ∷ 1 ∷ 0 ∷ 0 ∷ 0 ∷ 0 ∷ 0 ∷ 0 ∷ 0 ∷ 0 ∷ 0 ∷ 0 ∷ 0 ∷ 0 ∷ 0 ∷ 0 ∷ 0 ∷ 0 ∷ 0 ∷ 0 ∷ 0 ∷ 0 ∷ 0 ∷ 0 ∷ 0 ∷ 0 ∷ 0 ∷ 0 ∷ 0  -- annotation
    ∷ 1 ∷ 0 ∷ 0 ∷ 9 ∷ 0 ∷ 0 ∷ 9 ∷ 0 ∷ 0 ∷ 0 ∷ 1 ∷ 0 ∷ 0 ∷ 0 ∷ 0 ∷ 0 ∷ 0 ∷ 0 ∷ 0 ∷ 0 ∷ 0 ∷ 0 ∷ 0 ∷ 0 ∷ 0 ∷ 0 ∷ 0 ∷ 0 ∷ 0 ∷ 0 ∷ 0 ∷ 0 ∷ 0 ∷ 0 ∷ 0 ∷ 0 ∷ 0 ∷ 0  -- annotation
    ∷ 1 ∷ 0 ∷ 0 ∷ 10 ∷ 0 ∷ 0 ∷ 10 ∷ 0 ∷ 0 ∷ 0 ∷ 1 ∷ 0 ∷ 0 ∷ 0 ∷ 0 ∷ 0 ∷ 0 ∷ 0 ∷ 0 ∷ 0 ∷ 0 ∷ 0 ∷ 0 ∷ 0 ∷ 0 ∷ 0 ∷ 0 ∷ 0 ∷ 0 ∷ 0 ∷ 0 ∷ 0 ∷ 0 ∷ 0 ∷ 0 ∷ 0 ∷ 0 ∷ 0  -- annotation
    ∷ 1 ∷ 0 ∷ 0 ∷ 11 ∷ 0 ∷ 0 ∷ 11 ∷ 0 ∷ 0 ∷ 0 ∷ 1 ∷ 0 ∷ 0 ∷ 0 ∷ 0 ∷ 0 ∷ 0 ∷ 0 ∷ 0 ∷ 0 ∷ 0 ∷ 0 ∷ 0 ∷ 0 ∷ 0 ∷ 0 ∷ 0 ∷ 0 ∷ 0 ∷ 0 ∷ 0 ∷ 0 ∷ 0 ∷ 0 ∷ 0 ∷ 0 ∷ 0 ∷ 0  -- annotation
    ∷ 1 ∷ 0 ∷ 0 ∷ 12 ∷ 0 ∷ 0 ∷ 12 ∷ 0 ∷ 0 ∷ 0 ∷ 1 ∷ 0 ∷ 0 ∷ 0 ∷ 0 ∷ 0 ∷ 0 ∷ 0 ∷ 0 ∷ 0 ∷ 0 ∷ 0 ∷ 0 ∷ 0 ∷ 0 ∷ 0 ∷ 0 ∷ 0 ∷ 0 ∷ 0 ∷ 0 ∷ 0 ∷ 0 ∷ 0 ∷ 0 ∷ 0 ∷ 0 ∷ 0  -- annotation
    ∷ 1 ∷ 0 ∷ 0 ∷ 13 ∷ 0 ∷ 0 ∷ 13 ∷ 0 ∷ 0 ∷ 0 ∷ 1 ∷ 0 ∷ 0 ∷ 0 ∷ 0 ∷ 0 ∷ 0 ∷ 0 ∷ 0 ∷ 0 ∷ 0 ∷ 0 ∷ 0 ∷ 0 ∷ 0 ∷ 0 ∷ 0 ∷ 0 ∷ 0 ∷ 0 ∷ 0 ∷ 0 ∷ 0 ∷ 0 ∷ 0 ∷ 0 ∷ 0 ∷ 0  -- annotation
    ∷ [])
    "a1,b2,c3,d4,v5,w6,x7,y8,z9,da10,db11,wa12,wb13"
unfolding digits whole last_digits point_text symbols
thirteen = record { text = refl; limits = refl; form = refl; rules = refl; sum = refl; long = refl; stores = refl; writes = refl }

-- analyte 0 is present
pub analyte_zero : Worked "0@b2{LC[Carbamidomethyl]}"
    (serial 1 tt 2 (written (text "LC[Carbamidomethyl]" tt)) with analyte 0 ∷ [])
    85
    (2 ∷ 0 ∷ 85 ∷ 0 ∷ 1 ∷ 0 ∷ 28 ∷ 0 ∷ 0 ∷ 0 ∷ 66 ∷ 0 ∷ 0 ∷ 0 ∷ 66 ∷ 0 ∷ 0 ∷ 0 ∷ 66 ∷ 0 ∷ 0 ∷ 0 ∷ 66 ∷ 0 ∷ 19 ∷ 0 ∷ 66 ∷ 0  -- header
    ∷ 1 ∷ 0 ∷ 1 ∷ 2 ∷ 0 ∷ 0 ∷ 2 ∷ 0 ∷ 0 ∷ 0 ∷ 1 ∷ 0 ∷ 0 ∷ 0 ∷ 0 ∷ 0 ∷ 0 ∷ 0 ∷ 0 ∷ 0 ∷ 0 ∷ 0 ∷ 0 ∷ 0 ∷ 0 ∷ 0 ∷ 0 ∷ 0 ∷ 19 ∷ 0 ∷ 0 ∷ 0 ∷ 0 ∷ 0 ∷ 0 ∷ 0 ∷ 2 ∷ 0  -- annotation
    ∷ 76 ∷ 67 ∷ 91 ∷ 67 ∷ 97 ∷ 114 ∷ 98 ∷ 97 ∷ 109 ∷ 105 ∷ 100 ∷ 111 ∷ 109 ∷ 101 ∷ 116 ∷ 104 ∷ 121 ∷ 108 ∷ 93  -- text
    ∷ [])
    "0@b2{LC[Carbamidomethyl]}"
unfolding digits whole last_digits point_text symbols read_from
analyte_zero = record { text = refl; limits = refl; form = refl; rules = refl; sum = refl; long = refl; stores = refl; writes = refl }

pub internal : Worked "m3:6-CO/-0.15"
    (inner 3 6 silent with loss minus silent CO with off below (decimal 15 2) mz ∷ [])
    84
    (2 ∷ 0 ∷ 84 ∷ 0 ∷ 1 ∷ 0 ∷ 28 ∷ 0 ∷ 1 ∷ 0 ∷ 66 ∷ 0 ∷ 0 ∷ 0 ∷ 72 ∷ 0 ∷ 0 ∷ 0 ∷ 72 ∷ 0 ∷ 2 ∷ 0 ∷ 72 ∷ 0 ∷ 0 ∷ 0 ∷ 84 ∷ 0  -- header
    ∷ 2 ∷ 0 ∷ 0 ∷ 0 ∷ 0 ∷ 0 ∷ 3 ∷ 0 ∷ 6 ∷ 0 ∷ 1 ∷ 1 ∷ 2 ∷ 0 ∷ 0 ∷ 0 ∷ 241 ∷ 255 ∷ 255 ∷ 255 ∷ 255 ∷ 255 ∷ 255 ∷ 255 ∷ 0 ∷ 0 ∷ 0 ∷ 0 ∷ 0 ∷ 0 ∷ 0 ∷ 0 ∷ 1 ∷ 0 ∷ 0 ∷ 0 ∷ 0 ∷ 0  -- annotation
    ∷ 0 ∷ 0 ∷ 1 ∷ 0 ∷ 2 ∷ 0  -- loss
    ∷ 0 ∷ 0 ∷ 6 ∷ 0 ∷ 1 ∷ 0  -- unit
    ∷ 0 ∷ 0 ∷ 8 ∷ 0 ∷ 1 ∷ 0  -- unit
    ∷ [])
    "m3:6-CO/-0.15"
unfolding digits whole last_digits point_text symbols
internal = record { text = refl; limits = refl; form = refl; rules = refl; sum = refl; long = refl; stores = refl; writes = refl }

-- commas and slashes in a text; an end at its bound
pub internal_text : Worked "m65535:65535{A[B,C/D*0.5]}"
    (inner 65535 65535 (written (text "A[B,C/D*0.5]" tt)) ∷ [])
    78
    (2 ∷ 0 ∷ 78 ∷ 0 ∷ 1 ∷ 0 ∷ 28 ∷ 0 ∷ 0 ∷ 0 ∷ 66 ∷ 0 ∷ 0 ∷ 0 ∷ 66 ∷ 0 ∷ 0 ∷ 0 ∷ 66 ∷ 0 ∷ 0 ∷ 0 ∷ 66 ∷ 0 ∷ 12 ∷ 0 ∷ 66 ∷ 0  -- header
    ∷ 2 ∷ 0 ∷ 0 ∷ 0 ∷ 0 ∷ 0 ∷ 255 ∷ 255 ∷ 255 ∷ 255 ∷ 1 ∷ 0 ∷ 0 ∷ 0 ∷ 0 ∷ 0 ∷ 0 ∷ 0 ∷ 0 ∷ 0 ∷ 0 ∷ 0 ∷ 0 ∷ 0 ∷ 0 ∷ 0 ∷ 0 ∷ 0 ∷ 12 ∷ 0 ∷ 0 ∷ 0 ∷ 0 ∷ 0 ∷ 0 ∷ 0 ∷ 1 ∷ 0  -- annotation
    ∷ 65 ∷ 91 ∷ 66 ∷ 44 ∷ 67 ∷ 47 ∷ 68 ∷ 42 ∷ 48 ∷ 46 ∷ 53 ∷ 93  -- text
    ∷ [])
    "m65535:65535{A[B,C/D*0.5]}"
unfolding digits whole last_digits point_text symbols read_from
internal_text = record { text = refl; limits = refl; form = refl; rules = refl; sum = refl; long = refl; stores = refl; writes = refl }

-- the bracket is an adduct
pub immonium_adduct : Worked "IC[M+H]"
    (imm "C" tt silent with item plus silent (atom H) ∷ [])
    78
    (2 ∷ 0 ∷ 78 ∷ 0 ∷ 1 ∷ 0 ∷ 28 ∷ 0 ∷ 0 ∷ 0 ∷ 66 ∷ 0 ∷ 0 ∷ 0 ∷ 66 ∷ 0 ∷ 1 ∷ 0 ∷ 66 ∷ 0 ∷ 1 ∷ 0 ∷ 72 ∷ 0 ∷ 0 ∷ 0 ∷ 78 ∷ 0  -- header
    ∷ 3 ∷ 0 ∷ 0 ∷ 67 ∷ 0 ∷ 0 ∷ 0 ∷ 0 ∷ 0 ∷ 0 ∷ 1 ∷ 0 ∷ 0 ∷ 0 ∷ 0 ∷ 0 ∷ 0 ∷ 0 ∷ 0 ∷ 0 ∷ 0 ∷ 0 ∷ 0 ∷ 0 ∷ 0 ∷ 0 ∷ 0 ∷ 0 ∷ 0 ∷ 0 ∷ 0 ∷ 0 ∷ 0 ∷ 0 ∷ 1 ∷ 0 ∷ 0 ∷ 0  -- annotation
    ∷ 1 ∷ 0 ∷ 1 ∷ 0 ∷ 1 ∷ 0  -- adduct item
    ∷ 0 ∷ 0 ∷ 1 ∷ 0 ∷ 1 ∷ 0  -- unit
    ∷ [])
    "IC[M+H]"
unfolding digits whole last_digits point_text symbols
immonium_adduct = record { text = refl; limits = refl; form = refl; rules = refl; sum = refl; long = refl; stores = refl; writes = refl }

-- the bracket is a modification
pub immonium_modified : Worked "IC[M2]"
    (imm "C" tt (written (modification "M2" tt)) ∷ [])
    68
    (2 ∷ 0 ∷ 68 ∷ 0 ∷ 1 ∷ 0 ∷ 28 ∷ 0 ∷ 0 ∷ 0 ∷ 66 ∷ 0 ∷ 0 ∷ 0 ∷ 66 ∷ 0 ∷ 0 ∷ 0 ∷ 66 ∷ 0 ∷ 0 ∷ 0 ∷ 66 ∷ 0 ∷ 2 ∷ 0 ∷ 66 ∷ 0  -- header
    ∷ 3 ∷ 0 ∷ 0 ∷ 67 ∷ 0 ∷ 0 ∷ 0 ∷ 0 ∷ 0 ∷ 0 ∷ 1 ∷ 0 ∷ 0 ∷ 0 ∷ 0 ∷ 0 ∷ 0 ∷ 0 ∷ 0 ∷ 0 ∷ 0 ∷ 0 ∷ 0 ∷ 0 ∷ 0 ∷ 0 ∷ 0 ∷ 0 ∷ 2 ∷ 0 ∷ 0 ∷ 0 ∷ 0 ∷ 0 ∷ 0 ∷ 0 ∷ 0 ∷ 0  -- annotation
    ∷ 77 ∷ 50  -- text
    ∷ [])
    "IC[M2]"
unfolding digits whole last_digits point_text symbols
immonium_modified = record { text = refl; limits = refl; form = refl; rules = refl; sum = refl; long = refl; stores = refl; writes = refl }

pub immonium_both : Worked "IC[M2][M+H]"
    (imm "C" tt (written (modification "M2" tt)) with item plus silent (atom H) ∷ [])
    80
    (2 ∷ 0 ∷ 80 ∷ 0 ∷ 1 ∷ 0 ∷ 28 ∷ 0 ∷ 0 ∷ 0 ∷ 66 ∷ 0 ∷ 0 ∷ 0 ∷ 66 ∷ 0 ∷ 1 ∷ 0 ∷ 66 ∷ 0 ∷ 1 ∷ 0 ∷ 72 ∷ 0 ∷ 2 ∷ 0 ∷ 78 ∷ 0  -- header
    ∷ 3 ∷ 0 ∷ 0 ∷ 67 ∷ 0 ∷ 0 ∷ 0 ∷ 0 ∷ 0 ∷ 0 ∷ 1 ∷ 0 ∷ 0 ∷ 0 ∷ 0 ∷ 0 ∷ 0 ∷ 0 ∷ 0 ∷ 0 ∷ 0 ∷ 0 ∷ 0 ∷ 0 ∷ 0 ∷ 0 ∷ 0 ∷ 0 ∷ 2 ∷ 0 ∷ 0 ∷ 0 ∷ 0 ∷ 0 ∷ 1 ∷ 0 ∷ 0 ∷ 0  -- annotation
    ∷ 1 ∷ 0 ∷ 1 ∷ 0 ∷ 1 ∷ 0  -- adduct item
    ∷ 0 ∷ 0 ∷ 1 ∷ 0 ∷ 1 ∷ 0  -- unit
    ∷ 77 ∷ 50  -- text
    ∷ [])
    "IC[M2][M+H]"
unfolding digits whole last_digits point_text symbols
immonium_both = record { text = refl; limits = refl; form = refl; rules = refl; sum = refl; long = refl; stores = refl; writes = refl }

pub precursor : Worked "65535@p^255"
    (p with analyte 65535 with charge 255 ∷ [])
    66
    (2 ∷ 0 ∷ 66 ∷ 0 ∷ 1 ∷ 0 ∷ 28 ∷ 0 ∷ 0 ∷ 0 ∷ 66 ∷ 0 ∷ 0 ∷ 0 ∷ 66 ∷ 0 ∷ 0 ∷ 0 ∷ 66 ∷ 0 ∷ 0 ∷ 0 ∷ 66 ∷ 0 ∷ 0 ∷ 0 ∷ 66 ∷ 0  -- header
    ∷ 4 ∷ 0 ∷ 1 ∷ 0 ∷ 255 ∷ 255 ∷ 0 ∷ 0 ∷ 0 ∷ 0 ∷ 255 ∷ 0 ∷ 0 ∷ 0 ∷ 0 ∷ 0 ∷ 0 ∷ 0 ∷ 0 ∷ 0 ∷ 0 ∷ 0 ∷ 0 ∷ 0 ∷ 0 ∷ 0 ∷ 0 ∷ 0 ∷ 0 ∷ 0 ∷ 0 ∷ 0 ∷ 0 ∷ 0 ∷ 0 ∷ 0 ∷ 0 ∷ 0  -- annotation
    ∷ [])
    "65535@p^255"
unfolding digits whole last_digits point_text symbols
precursor = record { text = refl; limits = refl; form = refl; rules = refl; sum = refl; long = refl; stores = refl; writes = refl }

pub reference_tag : Worked "&1@r[TMT127N]/0.005*1"
    (ion (reference (name "TMT127N" tt)) with marked with analyte 1 with off above (decimal 5 3) mz with confidence (decimal 1 0) ∷ [])
    73
    (2 ∷ 0 ∷ 73 ∷ 0 ∷ 1 ∷ 0 ∷ 28 ∷ 0 ∷ 0 ∷ 0 ∷ 66 ∷ 0 ∷ 0 ∷ 0 ∷ 66 ∷ 0 ∷ 0 ∷ 0 ∷ 66 ∷ 0 ∷ 0 ∷ 0 ∷ 66 ∷ 0 ∷ 7 ∷ 0 ∷ 66 ∷ 0  -- header
    ∷ 5 ∷ 1 ∷ 1 ∷ 0 ∷ 1 ∷ 0 ∷ 0 ∷ 0 ∷ 0 ∷ 0 ∷ 1 ∷ 1 ∷ 3 ∷ 1 ∷ 0 ∷ 0 ∷ 5 ∷ 0 ∷ 0 ∷ 0 ∷ 0 ∷ 0 ∷ 0 ∷ 0 ∷ 1 ∷ 0 ∷ 0 ∷ 0 ∷ 7 ∷ 0 ∷ 0 ∷ 0 ∷ 0 ∷ 0 ∷ 0 ∷ 0 ∷ 0 ∷ 0  -- annotation
    ∷ 84 ∷ 77 ∷ 84 ∷ 49 ∷ 50 ∷ 55 ∷ 78  -- text
    ∷ [])
    "&1@r[TMT127N]/0.005*1"
unfolding digits whole last_digits point_text symbols
reference_tag = record { text = refl; limits = refl; form = refl; rules = refl; sum = refl; long = refl; stores = refl; writes = refl }

-- a name may look like an adduct, save after an immonium letter
pub reference_like : Worked "r[M+H][M+H]"
    (ion (reference (name "M+H" tt)) with item plus silent (atom H) ∷ [])
    81
    (2 ∷ 0 ∷ 81 ∷ 0 ∷ 1 ∷ 0 ∷ 28 ∷ 0 ∷ 0 ∷ 0 ∷ 66 ∷ 0 ∷ 0 ∷ 0 ∷ 66 ∷ 0 ∷ 1 ∷ 0 ∷ 66 ∷ 0 ∷ 1 ∷ 0 ∷ 72 ∷ 0 ∷ 3 ∷ 0 ∷ 78 ∷ 0  -- header
    ∷ 5 ∷ 0 ∷ 0 ∷ 0 ∷ 0 ∷ 0 ∷ 0 ∷ 0 ∷ 0 ∷ 0 ∷ 1 ∷ 0 ∷ 0 ∷ 0 ∷ 0 ∷ 0 ∷ 0 ∷ 0 ∷ 0 ∷ 0 ∷ 0 ∷ 0 ∷ 0 ∷ 0 ∷ 0 ∷ 0 ∷ 0 ∷ 0 ∷ 3 ∷ 0 ∷ 0 ∷ 0 ∷ 0 ∷ 0 ∷ 1 ∷ 0 ∷ 0 ∷ 0  -- annotation
    ∷ 1 ∷ 0 ∷ 1 ∷ 0 ∷ 1 ∷ 0  -- adduct item
    ∷ 0 ∷ 0 ∷ 1 ∷ 0 ∷ 1 ∷ 0  -- unit
    ∷ 77 ∷ 43 ∷ 72  -- text
    ∷ [])
    "r[M+H][M+H]"
unfolding digits whole last_digits point_text symbols
reference_like = record { text = refl; limits = refl; form = refl; rules = refl; sum = refl; long = refl; stores = refl; writes = refl }

pub named_acid : Worked "_{Urocanic Acid}"
    (ion (named (text "Urocanic Acid" tt)) ∷ [])
    79
    (2 ∷ 0 ∷ 79 ∷ 0 ∷ 1 ∷ 0 ∷ 28 ∷ 0 ∷ 0 ∷ 0 ∷ 66 ∷ 0 ∷ 0 ∷ 0 ∷ 66 ∷ 0 ∷ 0 ∷ 0 ∷ 66 ∷ 0 ∷ 0 ∷ 0 ∷ 66 ∷ 0 ∷ 13 ∷ 0 ∷ 66 ∷ 0  -- header
    ∷ 6 ∷ 0 ∷ 0 ∷ 0 ∷ 0 ∷ 0 ∷ 0 ∷ 0 ∷ 0 ∷ 0 ∷ 1 ∷ 0 ∷ 0 ∷ 0 ∷ 0 ∷ 0 ∷ 0 ∷ 0 ∷ 0 ∷ 0 ∷ 0 ∷ 0 ∷ 0 ∷ 0 ∷ 0 ∷ 0 ∷ 0 ∷ 0 ∷ 13 ∷ 0 ∷ 0 ∷ 0 ∷ 0 ∷ 0 ∷ 0 ∷ 0 ∷ 0 ∷ 0  -- annotation
    ∷ 85 ∷ 114 ∷ 111 ∷ 99 ∷ 97 ∷ 110 ∷ 105 ∷ 99 ∷ 32 ∷ 65 ∷ 99 ∷ 105 ∷ 100  -- text
    ∷ [])
    "_{Urocanic Acid}"
unfolding digits whole last_digits point_text symbols
named_acid = record { text = refl; limits = refl; form = refl; rules = refl; sum = refl; long = refl; stores = refl; writes = refl }

pub composed_isotope : Worked "f{C16H22O}+i13C"
    (ion (composed (formula (plain C (times 16)) (plain H (times 22) ∷ plain O silent ∷ []))) with specifics (specific plus silent 13 C) [] ∷ [])
    92
    (2 ∷ 0 ∷ 92 ∷ 0 ∷ 1 ∷ 0 ∷ 28 ∷ 0 ∷ 0 ∷ 0 ∷ 66 ∷ 0 ∷ 1 ∷ 0 ∷ 66 ∷ 0 ∷ 0 ∷ 0 ∷ 74 ∷ 0 ∷ 3 ∷ 0 ∷ 74 ∷ 0 ∷ 0 ∷ 0 ∷ 92 ∷ 0  -- header
    ∷ 7 ∷ 0 ∷ 0 ∷ 0 ∷ 0 ∷ 0 ∷ 0 ∷ 0 ∷ 0 ∷ 0 ∷ 1 ∷ 0 ∷ 0 ∷ 0 ∷ 0 ∷ 0 ∷ 0 ∷ 0 ∷ 0 ∷ 0 ∷ 0 ∷ 0 ∷ 0 ∷ 0 ∷ 0 ∷ 0 ∷ 0 ∷ 0 ∷ 0 ∷ 0 ∷ 3 ∷ 0 ∷ 0 ∷ 1 ∷ 0 ∷ 0 ∷ 0 ∷ 0  -- annotation
    ∷ 1 ∷ 2 ∷ 1 ∷ 0 ∷ 13 ∷ 0 ∷ 6 ∷ 0  -- isotope
    ∷ 0 ∷ 0 ∷ 6 ∷ 0 ∷ 16 ∷ 0  -- unit
    ∷ 0 ∷ 0 ∷ 1 ∷ 0 ∷ 22 ∷ 0  -- unit
    ∷ 0 ∷ 0 ∷ 8 ∷ 0 ∷ 1 ∷ 0  -- unit
    ∷ [])
    "f{C16H22O}+i13C"
unfolding digits whole last_digits point_text symbols
composed_isotope = record { text = refl; limits = refl; form = refl; rules = refl; sum = refl; long = refl; stores = refl; writes = refl }

-- the 1 of a unit with nucleon number stays
pub composed_ones : Worked "f{C1[13C1]H1}"
    (ion (composed (formula (plain C (times 1)) (labelled (num 13) C (num 1) ∷ plain H (times 1) ∷ []))) ∷ [])
    84
    (2 ∷ 0 ∷ 84 ∷ 0 ∷ 1 ∷ 0 ∷ 28 ∷ 0 ∷ 0 ∷ 0 ∷ 66 ∷ 0 ∷ 0 ∷ 0 ∷ 66 ∷ 0 ∷ 0 ∷ 0 ∷ 66 ∷ 0 ∷ 3 ∷ 0 ∷ 66 ∷ 0 ∷ 0 ∷ 0 ∷ 84 ∷ 0  -- header
    ∷ 7 ∷ 0 ∷ 0 ∷ 0 ∷ 0 ∷ 0 ∷ 0 ∷ 0 ∷ 0 ∷ 0 ∷ 1 ∷ 0 ∷ 0 ∷ 0 ∷ 0 ∷ 0 ∷ 0 ∷ 0 ∷ 0 ∷ 0 ∷ 0 ∷ 0 ∷ 0 ∷ 0 ∷ 0 ∷ 0 ∷ 0 ∷ 0 ∷ 0 ∷ 0 ∷ 3 ∷ 0 ∷ 0 ∷ 0 ∷ 0 ∷ 0 ∷ 0 ∷ 0  -- annotation
    ∷ 0 ∷ 0 ∷ 6 ∷ 0 ∷ 1 ∷ 0  -- unit
    ∷ 13 ∷ 0 ∷ 6 ∷ 0 ∷ 1 ∷ 0  -- unit
    ∷ 0 ∷ 0 ∷ 1 ∷ 0 ∷ 1 ∷ 0  -- unit
    ∷ [])
    "f{C[13C1]H}"
unfolding digits whole last_digits point_text symbols
composed_ones = record { text = refl; limits = refl; form = refl; rules = refl; sum = refl; long = refl; stores = refl; writes = refl }

pub smiles_adduct : Worked "s{CN=C=O}[M+H]/-0.55ppm"
    (ion (smiles (text "CN=C=O" tt)) with item plus silent (atom H) with off below (decimal 55 2) ppm ∷ [])
    84
    (2 ∷ 0 ∷ 84 ∷ 0 ∷ 1 ∷ 0 ∷ 28 ∷ 0 ∷ 0 ∷ 0 ∷ 66 ∷ 0 ∷ 0 ∷ 0 ∷ 66 ∷ 0 ∷ 1 ∷ 0 ∷ 66 ∷ 0 ∷ 1 ∷ 0 ∷ 72 ∷ 0 ∷ 6 ∷ 0 ∷ 78 ∷ 0  -- header
    ∷ 8 ∷ 0 ∷ 0 ∷ 0 ∷ 0 ∷ 0 ∷ 0 ∷ 0 ∷ 0 ∷ 0 ∷ 1 ∷ 2 ∷ 2 ∷ 0 ∷ 0 ∷ 0 ∷ 201 ∷ 255 ∷ 255 ∷ 255 ∷ 255 ∷ 255 ∷ 255 ∷ 255 ∷ 0 ∷ 0 ∷ 0 ∷ 0 ∷ 6 ∷ 0 ∷ 0 ∷ 0 ∷ 0 ∷ 0 ∷ 1 ∷ 0 ∷ 0 ∷ 0  -- annotation
    ∷ 1 ∷ 0 ∷ 1 ∷ 0 ∷ 1 ∷ 0  -- adduct item
    ∷ 0 ∷ 0 ∷ 1 ∷ 0 ∷ 1 ∷ 0  -- unit
    ∷ 67 ∷ 78 ∷ 61 ∷ 67 ∷ 61 ∷ 79  -- text
    ∷ [])
    "s{CN=C=O}[M+H]/-0.55ppm"
unfolding digits whole last_digits point_text symbols
smiles_adduct = record { text = refl; limits = refl; form = refl; rules = refl; sum = refl; long = refl; stores = refl; writes = refl }

pub unlabelled : Worked "?"
    (ion (unknown silent) ∷ [])
    66
    (2 ∷ 0 ∷ 66 ∷ 0 ∷ 1 ∷ 0 ∷ 28 ∷ 0 ∷ 0 ∷ 0 ∷ 66 ∷ 0 ∷ 0 ∷ 0 ∷ 66 ∷ 0 ∷ 0 ∷ 0 ∷ 66 ∷ 0 ∷ 0 ∷ 0 ∷ 66 ∷ 0 ∷ 0 ∷ 0 ∷ 66 ∷ 0  -- header
    ∷ 9 ∷ 0 ∷ 0 ∷ 0 ∷ 0 ∷ 0 ∷ 0 ∷ 0 ∷ 0 ∷ 0 ∷ 1 ∷ 0 ∷ 0 ∷ 0 ∷ 0 ∷ 0 ∷ 0 ∷ 0 ∷ 0 ∷ 0 ∷ 0 ∷ 0 ∷ 0 ∷ 0 ∷ 0 ∷ 0 ∷ 0 ∷ 0 ∷ 0 ∷ 0 ∷ 0 ∷ 0 ∷ 0 ∷ 0 ∷ 0 ∷ 0 ∷ 0 ∷ 0  -- annotation
    ∷ [])
    "?"
unfolding digits whole last_digits point_text symbols
unlabelled = record { text = refl; limits = refl; form = refl; rules = refl; sum = refl; long = refl; stores = refl; writes = refl }

pub labelled17 : Worked "?17"
    (label 17 ∷ [])
    66
    (2 ∷ 0 ∷ 66 ∷ 0 ∷ 1 ∷ 0 ∷ 28 ∷ 0 ∷ 0 ∷ 0 ∷ 66 ∷ 0 ∷ 0 ∷ 0 ∷ 66 ∷ 0 ∷ 0 ∷ 0 ∷ 66 ∷ 0 ∷ 0 ∷ 0 ∷ 66 ∷ 0 ∷ 0 ∷ 0 ∷ 66 ∷ 0  -- header
    ∷ 9 ∷ 0 ∷ 0 ∷ 0 ∷ 0 ∷ 0 ∷ 17 ∷ 0 ∷ 0 ∷ 0 ∷ 1 ∷ 0 ∷ 0 ∷ 0 ∷ 0 ∷ 0 ∷ 0 ∷ 0 ∷ 0 ∷ 0 ∷ 0 ∷ 0 ∷ 0 ∷ 0 ∷ 0 ∷ 0 ∷ 0 ∷ 0 ∷ 0 ∷ 0 ∷ 0 ∷ 0 ∷ 0 ∷ 0 ∷ 0 ∷ 0 ∷ 0 ∷ 0  -- annotation
    ∷ [])
    "?17"
unfolding digits whole last_digits point_text symbols
labelled17 = record { text = refl; limits = refl; form = refl; rules = refl; sum = refl; long = refl; stores = refl; writes = refl }
