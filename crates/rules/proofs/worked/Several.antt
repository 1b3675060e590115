-- Worked lines of several annotations: units and text run per annotation. Assumes nothing.
use mathlib.Core.Path.{refl}
use mathlib.Core.List.{[], ◌∷◌}
use Rattle.lang.specs.Parts.{silent}
use Rattle.rules.specs.Numbers.{digits}
use Rattle.rules.specs.Decimals.{whole, last_digits, point_text}
use Rattle.rules.specs.Elements.{symbols}
use Rattle.rules.specs.Formulas.{plain}
use Rattle.rules.specs.Ions.{named, composed, unknown}
use Rattle.rules.specs.Losses.{minus, plus}
use Rattle.rules.proofs.worked.Spell.{times, several, decimal, text, loss_name, H, C, N, Na, formula, atom, H2O, CO, ion, b, y, z, p}
use Rattle.rules.proofs.worked.Spell.{◌with◌, marked, analyte, loss, named_loss, isotope, item, electrons, confidence}
use Rattle.rules.proofs.worked.Row.{Worked}

pub sum_to_one : Worked "y1*0.7,b2*0.2,z3*0.1"
    (y 1 with confidence (decimal 7 1) ∷ b 2 with confidence (decimal 2 1) ∷ z 3 with confidence (decimal 1 1) ∷ [])
    142
    (2 ∷ 0 ∷ 142 ∷ 0 ∷ 3 ∷ 0 ∷ 28 ∷ 0 ∷ 0 ∷ 0 ∷ 142 ∷ 0 ∷ 0 ∷ 0 ∷ 142 ∷ 0 ∷ 0 ∷ 0 ∷ 142 ∷ 0 ∷ 0 ∷ 0 ∷ 142 ∷ 0 ∷ 0 ∷ 0 ∷ 142 ∷ 0  -- header
    ∷ 1 ∷ 0 ∷ 0 ∷ 8 ∷ 0 ∷ 0 ∷ 1 ∷ 0 ∷ 0 ∷ 0 ∷ 1 ∷ 0 ∷ 0 ∷ 1 ∷ 1 ∷ 0 ∷ 0 ∷ 0 ∷ 0 ∷ 0 ∷ 0 ∷ 0 ∷ 0 ∷ 0 ∷ 7 ∷ 0 ∷ 0 ∷ 0 ∷ 0 ∷ 0 ∷ 0 ∷ 0 ∷ 0 ∷ 0 ∷ 0 ∷ 0 ∷ 0 ∷ 0  -- annotation
    ∷ 1 ∷ 0 ∷ 0 ∷ 2 ∷ 0 ∷ 0 ∷ 2 ∷ 0 ∷ 0 ∷ 0 ∷ 1 ∷ 0 ∷ 0 ∷ 1 ∷ 1 ∷ 0 ∷ 0 ∷ 0 ∷ 0 ∷ 0 ∷ 0 ∷ 0 ∷ 0 ∷ 0 ∷ 2 ∷ 0 ∷ 0 ∷ 0 ∷ 0 ∷ 0 ∷ 0 ∷ 0 ∷ 0 ∷ 0 ∷ 0 ∷ 0 ∷ 0 ∷ 0  -- annotation
    ∷ 1 ∷ 0 ∷ 0 ∷ 9 ∷ 0 ∷ 0 ∷ 3 ∷ 0 ∷ 0 ∷ 0 ∷ 1 ∷ 0 ∷ 0 ∷ 1 ∷ 1 ∷ 0 ∷ 0 ∷ 0 ∷ 0 ∷ 0 ∷ 0 ∷ 0 ∷ 0 ∷ 0 ∷ 1 ∷ 0 ∷ 0 ∷ 0 ∷ 0 ∷ 0 ∷ 0 ∷ 0 ∷ 0 ∷ 0 ∷ 0 ∷ 0 ∷ 0 ∷ 0  -- annotation
    ∷ [])
    "y1*0.7,b2*0.2,z3*0.1"
unfolding digits whole last_digits point_text symbols
sum_to_one = record { text = refl; limits = refl; form = refl; rules = refl; sum = refl; long = refl; stores = refl; writes = refl }

pub sections : Worked "f{CH4}-[Ac]-H2O+2[Phos]+i[M+Na+1H],_{a,b}-CO-[Hex]-2i[M+NH4-e]"
    (ion (composed (formula (plain C silent) (plain H (times 4) ∷ []))) with named_loss minus silent (loss_name "Ac" tt) with loss minus silent H2O
    with named_loss plus (several 2) (loss_name "Phos" tt) with isotope plus silent with item plus silent (atom Na) with item plus (times 1) (atom H)
    ∷ ion (named (text "a,b" tt)) with loss minus silent CO with named_loss minus silent (loss_name "Hex" tt) with isotope minus (times 2)
    with item plus silent (formula (plain N silent) (plain H (times 4) ∷ [])) with electrons minus silent ∷ [])
    246
    (2 ∷ 0 ∷ 246 ∷ 0 ∷ 2 ∷ 0 ∷ 28 ∷ 0 ∷ 5 ∷ 0 ∷ 104 ∷ 0 ∷ 2 ∷ 0 ∷ 134 ∷ 0 ∷ 4 ∷ 0 ∷ 150 ∷ 0 ∷ 10 ∷ 0 ∷ 174 ∷ 0 ∷ 12 ∷ 0 ∷ 234 ∷ 0  -- header
    ∷ 7 ∷ 0 ∷ 0 ∷ 0 ∷ 0 ∷ 0 ∷ 0 ∷ 0 ∷ 0 ∷ 0 ∷ 1 ∷ 0 ∷ 0 ∷ 0 ∷ 0 ∷ 0 ∷ 0 ∷ 0 ∷ 0 ∷ 0 ∷ 0 ∷ 0 ∷ 0 ∷ 0 ∷ 0 ∷ 0 ∷ 0 ∷ 0 ∷ 0 ∷ 0 ∷ 2 ∷ 0 ∷ 3 ∷ 1 ∷ 2 ∷ 0 ∷ 0 ∷ 0  -- annotation
    ∷ 6 ∷ 0 ∷ 0 ∷ 0 ∷ 0 ∷ 0 ∷ 0 ∷ 0 ∷ 0 ∷ 0 ∷ 1 ∷ 0 ∷ 0 ∷ 0 ∷ 0 ∷ 0 ∷ 0 ∷ 0 ∷ 0 ∷ 0 ∷ 0 ∷ 0 ∷ 0 ∷ 0 ∷ 0 ∷ 0 ∷ 0 ∷ 0 ∷ 3 ∷ 0 ∷ 0 ∷ 0 ∷ 2 ∷ 1 ∷ 2 ∷ 0 ∷ 0 ∷ 0  -- annotation
    ∷ 0 ∷ 1 ∷ 1 ∷ 0 ∷ 2 ∷ 0  -- loss
    ∷ 1 ∷ 1 ∷ 2 ∷ 0 ∷ 4 ∷ 0  -- loss
    ∷ 0 ∷ 0 ∷ 1 ∷ 0 ∷ 2 ∷ 0  -- loss
    ∷ 0 ∷ 1 ∷ 1 ∷ 0 ∷ 3 ∷ 0  -- loss
    ∷ 0 ∷ 0 ∷ 1 ∷ 0 ∷ 2 ∷ 0  -- loss
    ∷ 1 ∷ 0 ∷ 1 ∷ 0 ∷ 0 ∷ 0 ∷ 0 ∷ 0  -- isotope
    ∷ 0 ∷ 0 ∷ 2 ∷ 0 ∷ 0 ∷ 0 ∷ 0 ∷ 0  -- isotope
    ∷ 1 ∷ 0 ∷ 1 ∷ 0 ∷ 1 ∷ 0  -- adduct item
    ∷ 1 ∷ 0 ∷ 1 ∷ 0 ∷ 1 ∷ 0  -- adduct item
    ∷ 1 ∷ 0 ∷ 1 ∷ 0 ∷ 2 ∷ 0  -- adduct item
    ∷ 0 ∷ 2 ∷ 1 ∷ 0 ∷ 0 ∷ 0  -- adduct item
    ∷ 0 ∷ 0 ∷ 6 ∷ 0 ∷ 1 ∷ 0  -- unit
    ∷ 0 ∷ 0 ∷ 1 ∷ 0 ∷ 4 ∷ 0  -- unit
    ∷ 0 ∷ 0 ∷ 1 ∷ 0 ∷ 2 ∷ 0  -- unit
    ∷ 0 ∷ 0 ∷ 8 ∷ 0 ∷ 1 ∷ 0  -- unit
    ∷ 0 ∷ 0 ∷ 1 ∷ 0 ∷ 1 ∷ 0  -- unit
    ∷ 0 ∷ 0 ∷ 11 ∷ 0 ∷ 1 ∷ 0  -- unit
    ∷ 0 ∷ 0 ∷ 6 ∷ 0 ∷ 1 ∷ 0  -- unit
    ∷ 0 ∷ 0 ∷ 8 ∷ 0 ∷ 1 ∷ 0  -- unit
    ∷ 0 ∷ 0 ∷ 7 ∷ 0 ∷ 1 ∷ 0  -- unit
    ∷ 0 ∷ 0 ∷ 1 ∷ 0 ∷ 4 ∷ 0  -- unit
    ∷ 65 ∷ 99 ∷ 80 ∷ 104 ∷ 111 ∷ 115 ∷ 97 ∷ 44 ∷ 98 ∷ 72 ∷ 101 ∷ 120  -- text
    ∷ [])
    "f{CH4}-[Ac]+2[Phos]-H2O+i[M+H+Na],_{a,b}-[Hex]-CO-2i[M+NH4-e]"
unfolding digits whole last_digits point_text symbols
sections = record { text = refl; limits = refl; form = refl; rules = refl; sum = refl; long = refl; stores = refl; writes = refl }

pub tiny : Worked "&0@p*0.999999999,?*0.000000001"
    (p with marked with analyte 0 with confidence (decimal 999999999 9) ∷ ion (unknown silent) with confidence (decimal 1 9) ∷ [])
    104
    (2 ∷ 0 ∷ 104 ∷ 0 ∷ 2 ∷ 0 ∷ 28 ∷ 0 ∷ 0 ∷ 0 ∷ 104 ∷ 0 ∷ 0 ∷ 0 ∷ 104 ∷ 0 ∷ 0 ∷ 0 ∷ 104 ∷ 0 ∷ 0 ∷ 0 ∷ 104 ∷ 0 ∷ 0 ∷ 0 ∷ 104 ∷ 0  -- header
    ∷ 4 ∷ 1 ∷ 1 ∷ 0 ∷ 0 ∷ 0 ∷ 0 ∷ 0 ∷ 0 ∷ 0 ∷ 1 ∷ 0 ∷ 0 ∷ 1 ∷ 9 ∷ 0 ∷ 0 ∷ 0 ∷ 0 ∷ 0 ∷ 0 ∷ 0 ∷ 0 ∷ 0 ∷ 255 ∷ 201 ∷ 154 ∷ 59 ∷ 0 ∷ 0 ∷ 0 ∷ 0 ∷ 0 ∷ 0 ∷ 0 ∷ 0 ∷ 0 ∷ 0  -- annotation
    ∷ 9 ∷ 0 ∷ 0 ∷ 0 ∷ 0 ∷ 0 ∷ 0 ∷ 0 ∷ 0 ∷ 0 ∷ 1 ∷ 0 ∷ 0 ∷ 1 ∷ 9 ∷ 0 ∷ 0 ∷ 0 ∷ 0 ∷ 0 ∷ 0 ∷ 0 ∷ 0 ∷ 0 ∷ 1 ∷ 0 ∷ 0 ∷ 0 ∷ 0 ∷ 0 ∷ 0 ∷ 0 ∷ 0 ∷ 0 ∷ 0 ∷ 0 ∷ 0 ∷ 0  -- annotation
    ∷ [])
    "&0@p*0.999999999,?*0.000000001"
unfolding digits whole last_digits point_text symbols
tiny = record { text = refl; limits = refl; form = refl; rules = refl; sum = refl; long = refl; stores = refl; writes = refl }
