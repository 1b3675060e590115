-- Worked lines: losses, and their order. Assumes nothing.
use mathlib.Core.Path.{refl}
use mathlib.Core.List.{[], ◌∷◌}
use Rattle.lang.specs.Parts.{silent}
use Rattle.rules.specs.Numbers.{digits}
use Rattle.rules.specs.Decimals.{whole, last_digits, point_text}
use Rattle.rules.specs.Elements.{symbols}
use Rattle.rules.specs.Formulas.{plain, labelled}
use Rattle.rules.specs.Losses.{minus, plus}
use Rattle.rules.proofs.worked.Spell.{num, times, several, loss_name, H, C, O, Na, P, Og, formula, atom, H2O, NH3, CO, y, z, p}
use Rattle.rules.proofs.worked.Spell.{◌with◌, loss, named_loss, item}
use Rattle.rules.proofs.worked.Row.{Worked}

pub formulas : Worked "y5-NH3-H2O"
    (y 5 with loss minus silent NH3 with loss minus silent H2O ∷ [])
    102
    (2 ∷ 0 ∷ 102 ∷ 0 ∷ 1 ∷ 0 ∷ 28 ∷ 0 ∷ 2 ∷ 0 ∷ 66 ∷ 0 ∷ 0 ∷ 0 ∷ 78 ∷ 0 ∷ 0 ∷ 0 ∷ 78 ∷ 0 ∷ 4 ∷ 0 ∷ 78 ∷ 0 ∷ 0 ∷ 0 ∷ 102 ∷ 0  -- header
    ∷ 1 ∷ 0 ∷ 0 ∷ 8 ∷ 0 ∷ 0 ∷ 5 ∷ 0 ∷ 0 ∷ 0 ∷ 1 ∷ 0 ∷ 0 ∷ 0 ∷ 0 ∷ 0 ∷ 0 ∷ 0 ∷ 0 ∷ 0 ∷ 0 ∷ 0 ∷ 0 ∷ 0 ∷ 0 ∷ 0 ∷ 0 ∷ 0 ∷ 0 ∷ 0 ∷ 0 ∷ 0 ∷ 2 ∷ 0 ∷ 0 ∷ 0 ∷ 0 ∷ 0  -- annotation
    ∷ 0 ∷ 0 ∷ 1 ∷ 0 ∷ 2 ∷ 0  -- loss
    ∷ 0 ∷ 0 ∷ 1 ∷ 0 ∷ 2 ∷ 0  -- loss
    ∷ 0 ∷ 0 ∷ 1 ∷ 0 ∷ 2 ∷ 0  -- unit
    ∷ 0 ∷ 0 ∷ 8 ∷ 0 ∷ 1 ∷ 0  -- unit
    ∷ 0 ∷ 0 ∷ 7 ∷ 0 ∷ 1 ∷ 0  -- unit
    ∷ 0 ∷ 0 ∷ 1 ∷ 0 ∷ 3 ∷ 0  -- unit
    ∷ [])
    "y5-H2O-NH3"
unfolding digits whole last_digits point_text symbols
formulas = record { text = refl; limits = refl; form = refl; rules = refl; sum = refl; long = refl; stores = refl; writes = refl }

-- `[18O1]` goes on with the formula, `[M+Na]` does not
pub bracket_goes_on : Worked "y5-H2[18O1][M+Na]"
    (y 5 with loss minus silent (formula (plain H (times 2)) (labelled (num 18) O (num 1) ∷ [])) with item plus silent (atom Na) ∷ [])
    96
    (2 ∷ 0 ∷ 96 ∷ 0 ∷ 1 ∷ 0 ∷ 28 ∷ 0 ∷ 1 ∷ 0 ∷ 66 ∷ 0 ∷ 0 ∷ 0 ∷ 72 ∷ 0 ∷ 1 ∷ 0 ∷ 72 ∷ 0 ∷ 3 ∷ 0 ∷ 78 ∷ 0 ∷ 0 ∷ 0 ∷ 96 ∷ 0  -- header
    ∷ 1 ∷ 0 ∷ 0 ∷ 8 ∷ 0 ∷ 0 ∷ 5 ∷ 0 ∷ 0 ∷ 0 ∷ 1 ∷ 0 ∷ 0 ∷ 0 ∷ 0 ∷ 0 ∷ 0 ∷ 0 ∷ 0 ∷ 0 ∷ 0 ∷ 0 ∷ 0 ∷ 0 ∷ 0 ∷ 0 ∷ 0 ∷ 0 ∷ 0 ∷ 0 ∷ 0 ∷ 0 ∷ 1 ∷ 0 ∷ 1 ∷ 0 ∷ 0 ∷ 0  -- annotation
    ∷ 0 ∷ 0 ∷ 1 ∷ 0 ∷ 2 ∷ 0  -- loss
    ∷ 1 ∷ 0 ∷ 1 ∷ 0 ∷ 1 ∷ 0  -- adduct item
    ∷ 0 ∷ 0 ∷ 1 ∷ 0 ∷ 2 ∷ 0  -- unit
    ∷ 18 ∷ 0 ∷ 8 ∷ 0 ∷ 1 ∷ 0  -- unit
    ∷ 0 ∷ 0 ∷ 11 ∷ 0 ∷ 1 ∷ 0  -- unit
    ∷ [])
    "y5-H2[18O1][M+Na]"
unfolding digits whole last_digits point_text symbols
bracket_goes_on = record { text = refl; limits = refl; form = refl; rules = refl; sum = refl; long = refl; stores = refl; writes = refl }

-- `N` is below `]`
pub names : Worked "y5-[Hex]-[HexNAc]"
    (y 5 with named_loss minus silent (loss_name "Hex" tt) with named_loss minus silent (loss_name "HexNAc" tt) ∷ [])
    87
    (2 ∷ 0 ∷ 87 ∷ 0 ∷ 1 ∷ 0 ∷ 28 ∷ 0 ∷ 2 ∷ 0 ∷ 66 ∷ 0 ∷ 0 ∷ 0 ∷ 78 ∷ 0 ∷ 0 ∷ 0 ∷ 78 ∷ 0 ∷ 0 ∷ 0 ∷ 78 ∷ 0 ∷ 9 ∷ 0 ∷ 78 ∷ 0  -- header
    ∷ 1 ∷ 0 ∷ 0 ∷ 8 ∷ 0 ∷ 0 ∷ 5 ∷ 0 ∷ 0 ∷ 0 ∷ 1 ∷ 0 ∷ 0 ∷ 0 ∷ 0 ∷ 0 ∷ 0 ∷ 0 ∷ 0 ∷ 0 ∷ 0 ∷ 0 ∷ 0 ∷ 0 ∷ 0 ∷ 0 ∷ 0 ∷ 0 ∷ 0 ∷ 0 ∷ 0 ∷ 0 ∷ 2 ∷ 0 ∷ 0 ∷ 0 ∷ 0 ∷ 0  -- annotation
    ∷ 0 ∷ 1 ∷ 1 ∷ 0 ∷ 6 ∷ 0  -- loss
    ∷ 0 ∷ 1 ∷ 1 ∷ 0 ∷ 3 ∷ 0  -- loss
    ∷ 72 ∷ 101 ∷ 120 ∷ 78 ∷ 65 ∷ 99 ∷ 72 ∷ 101 ∷ 120  -- text
    ∷ [])
    "y5-[HexNAc]-[Hex]"
unfolding digits whole last_digits point_text symbols
names = record { text = refl; limits = refl; form = refl; rules = refl; sum = refl; long = refl; stores = refl; writes = refl }

-- names before formulas, `]` before `o`
pub names_and_formula : Worked "y3-HPO3-[Hexose]+2[Hex]"
    (y 3 with loss minus silent (formula (plain H silent) (plain P silent ∷ plain O (times 3) ∷ [])) with named_loss minus silent (loss_name "Hexose" tt)
    with named_loss plus (several 2) (loss_name "Hex" tt) ∷ [])
    111
    (2 ∷ 0 ∷ 111 ∷ 0 ∷ 1 ∷ 0 ∷ 28 ∷ 0 ∷ 3 ∷ 0 ∷ 66 ∷ 0 ∷ 0 ∷ 0 ∷ 84 ∷ 0 ∷ 0 ∷ 0 ∷ 84 ∷ 0 ∷ 3 ∷ 0 ∷ 84 ∷ 0 ∷ 9 ∷ 0 ∷ 102 ∷ 0  -- header
    ∷ 1 ∷ 0 ∷ 0 ∷ 8 ∷ 0 ∷ 0 ∷ 3 ∷ 0 ∷ 0 ∷ 0 ∷ 1 ∷ 0 ∷ 0 ∷ 0 ∷ 0 ∷ 0 ∷ 0 ∷ 0 ∷ 0 ∷ 0 ∷ 0 ∷ 0 ∷ 0 ∷ 0 ∷ 0 ∷ 0 ∷ 0 ∷ 0 ∷ 0 ∷ 0 ∷ 0 ∷ 0 ∷ 3 ∷ 0 ∷ 0 ∷ 0 ∷ 0 ∷ 0  -- annotation
    ∷ 1 ∷ 1 ∷ 2 ∷ 0 ∷ 3 ∷ 0  -- loss
    ∷ 0 ∷ 1 ∷ 1 ∷ 0 ∷ 6 ∷ 0  -- loss
    ∷ 0 ∷ 0 ∷ 1 ∷ 0 ∷ 3 ∷ 0  -- loss
    ∷ 0 ∷ 0 ∷ 1 ∷ 0 ∷ 1 ∷ 0  -- unit
    ∷ 0 ∷ 0 ∷ 15 ∷ 0 ∷ 1 ∷ 0  -- unit
    ∷ 0 ∷ 0 ∷ 8 ∷ 0 ∷ 3 ∷ 0  -- unit
    ∷ 72 ∷ 101 ∷ 120 ∷ 72 ∷ 101 ∷ 120 ∷ 111 ∷ 115 ∷ 101  -- text
    ∷ [])
    "y3+2[Hex]-[Hexose]-HPO3"
unfolding digits whole last_digits point_text symbols
names_and_formula = record { text = refl; limits = refl; form = refl; rules = refl; sum = refl; long = refl; stores = refl; writes = refl }

-- `-` before `+`, then the smaller count
pub equal_texts : Worked "y9+H2O-2H2O-H2O"
    (y 9 with loss plus silent H2O with loss minus (several 2) H2O with loss minus silent H2O ∷ [])
    120
    (2 ∷ 0 ∷ 120 ∷ 0 ∷ 1 ∷ 0 ∷ 28 ∷ 0 ∷ 3 ∷ 0 ∷ 66 ∷ 0 ∷ 0 ∷ 0 ∷ 84 ∷ 0 ∷ 0 ∷ 0 ∷ 84 ∷ 0 ∷ 6 ∷ 0 ∷ 84 ∷ 0 ∷ 0 ∷ 0 ∷ 120 ∷ 0  -- header
    ∷ 1 ∷ 0 ∷ 0 ∷ 8 ∷ 0 ∷ 0 ∷ 9 ∷ 0 ∷ 0 ∷ 0 ∷ 1 ∷ 0 ∷ 0 ∷ 0 ∷ 0 ∷ 0 ∷ 0 ∷ 0 ∷ 0 ∷ 0 ∷ 0 ∷ 0 ∷ 0 ∷ 0 ∷ 0 ∷ 0 ∷ 0 ∷ 0 ∷ 0 ∷ 0 ∷ 0 ∷ 0 ∷ 3 ∷ 0 ∷ 0 ∷ 0 ∷ 0 ∷ 0  -- annotation
    ∷ 0 ∷ 0 ∷ 1 ∷ 0 ∷ 2 ∷ 0  -- loss
    ∷ 0 ∷ 0 ∷ 2 ∷ 0 ∷ 2 ∷ 0  -- loss
    ∷ 1 ∷ 0 ∷ 1 ∷ 0 ∷ 2 ∷ 0  -- loss
    ∷ 0 ∷ 0 ∷ 1 ∷ 0 ∷ 2 ∷ 0  -- unit
    ∷ 0 ∷ 0 ∷ 8 ∷ 0 ∷ 1 ∷ 0  -- unit
    ∷ 0 ∷ 0 ∷ 1 ∷ 0 ∷ 2 ∷ 0  -- unit
    ∷ 0 ∷ 0 ∷ 8 ∷ 0 ∷ 1 ∷ 0  -- unit
    ∷ 0 ∷ 0 ∷ 1 ∷ 0 ∷ 2 ∷ 0  -- unit
    ∷ 0 ∷ 0 ∷ 8 ∷ 0 ∷ 1 ∷ 0  -- unit
    ∷ [])
    "y9-H2O-2H2O+H2O"
unfolding digits whole last_digits point_text symbols
equal_texts = record { text = refl; limits = refl; form = refl; rules = refl; sum = refl; long = refl; stores = refl; writes = refl }

-- counts as numbers; a written 1 does not matter
pub counts : Worked "p+H-10H-9H1"
    (p with loss plus silent (atom H) with loss minus (several 10) (atom H) with loss minus (several 9) (formula (plain H (times 1)) []) ∷ [])
    102
    (2 ∷ 0 ∷ 102 ∷ 0 ∷ 1 ∷ 0 ∷ 28 ∷ 0 ∷ 3 ∷ 0 ∷ 66 ∷ 0 ∷ 0 ∷ 0 ∷ 84 ∷ 0 ∷ 0 ∷ 0 ∷ 84 ∷ 0 ∷ 3 ∷ 0 ∷ 84 ∷ 0 ∷ 0 ∷ 0 ∷ 102 ∷ 0  -- header
    ∷ 4 ∷ 0 ∷ 0 ∷ 0 ∷ 0 ∷ 0 ∷ 0 ∷ 0 ∷ 0 ∷ 0 ∷ 1 ∷ 0 ∷ 0 ∷ 0 ∷ 0 ∷ 0 ∷ 0 ∷ 0 ∷ 0 ∷ 0 ∷ 0 ∷ 0 ∷ 0 ∷ 0 ∷ 0 ∷ 0 ∷ 0 ∷ 0 ∷ 0 ∷ 0 ∷ 0 ∷ 0 ∷ 3 ∷ 0 ∷ 0 ∷ 0 ∷ 0 ∷ 0  -- annotation
    ∷ 0 ∷ 0 ∷ 9 ∷ 0 ∷ 1 ∷ 0  -- loss
    ∷ 0 ∷ 0 ∷ 10 ∷ 0 ∷ 1 ∷ 0  -- loss
    ∷ 1 ∷ 0 ∷ 1 ∷ 0 ∷ 1 ∷ 0  -- loss
    ∷ 0 ∷ 0 ∷ 1 ∷ 0 ∷ 1 ∷ 0  -- unit
    ∷ 0 ∷ 0 ∷ 1 ∷ 0 ∷ 1 ∷ 0  -- unit
    ∷ 0 ∷ 0 ∷ 1 ∷ 0 ∷ 1 ∷ 0  -- unit
    ∷ [])
    "p-9H-10H+H"
unfolding digits whole last_digits point_text symbols
counts = record { text = refl; limits = refl; form = refl; rules = refl; sum = refl; long = refl; stores = refl; writes = refl }

-- a prefix first, then `[`, then the other bytes
pub brackets_first : Worked "y1-C2-C1[13C1]-CO-C"
    (y 1 with loss minus silent (formula (plain C (times 2)) []) with loss minus silent (formula (plain C (times 1)) (labelled (num 13) C (num 1) ∷ []))
    with loss minus silent CO with loss minus silent (atom C) ∷ [])
    126
    (2 ∷ 0 ∷ 126 ∷ 0 ∷ 1 ∷ 0 ∷ 28 ∷ 0 ∷ 4 ∷ 0 ∷ 66 ∷ 0 ∷ 0 ∷ 0 ∷ 90 ∷ 0 ∷ 0 ∷ 0 ∷ 90 ∷ 0 ∷ 6 ∷ 0 ∷ 90 ∷ 0 ∷ 0 ∷ 0 ∷ 126 ∷ 0  -- header
    ∷ 1 ∷ 0 ∷ 0 ∷ 8 ∷ 0 ∷ 0 ∷ 1 ∷ 0 ∷ 0 ∷ 0 ∷ 1 ∷ 0 ∷ 0 ∷ 0 ∷ 0 ∷ 0 ∷ 0 ∷ 0 ∷ 0 ∷ 0 ∷ 0 ∷ 0 ∷ 0 ∷ 0 ∷ 0 ∷ 0 ∷ 0 ∷ 0 ∷ 0 ∷ 0 ∷ 0 ∷ 0 ∷ 4 ∷ 0 ∷ 0 ∷ 0 ∷ 0 ∷ 0  -- annotation
    ∷ 0 ∷ 0 ∷ 1 ∷ 0 ∷ 1 ∷ 0  -- loss
    ∷ 0 ∷ 0 ∷ 1 ∷ 0 ∷ 2 ∷ 0  -- loss
    ∷ 0 ∷ 0 ∷ 1 ∷ 0 ∷ 1 ∷ 0  -- loss
    ∷ 0 ∷ 0 ∷ 1 ∷ 0 ∷ 2 ∷ 0  -- loss
    ∷ 0 ∷ 0 ∷ 6 ∷ 0 ∷ 1 ∷ 0  -- unit
    ∷ 0 ∷ 0 ∷ 6 ∷ 0 ∷ 1 ∷ 0  -- unit
    ∷ 13 ∷ 0 ∷ 6 ∷ 0 ∷ 1 ∷ 0  -- unit
    ∷ 0 ∷ 0 ∷ 6 ∷ 0 ∷ 2 ∷ 0  -- unit
    ∷ 0 ∷ 0 ∷ 6 ∷ 0 ∷ 1 ∷ 0  -- unit
    ∷ 0 ∷ 0 ∷ 8 ∷ 0 ∷ 1 ∷ 0  -- unit
    ∷ [])
    "y1-C-C[13C1]-C2-CO"
unfolding digits whole last_digits point_text symbols
brackets_first = record { text = refl; limits = refl; form = refl; rules = refl; sum = refl; long = refl; stores = refl; writes = refl }

-- `[2H1]` is a formula; a name begins with a letter
pub labelled_or_named : Worked "y1-[M+H]-[2H1]+[M]"
    (y 1 with named_loss minus silent (loss_name "M+H" tt) with loss minus silent (formula (labelled (num 2) H (num 1)) [])
    with named_loss plus silent (loss_name "M" tt) ∷ [])
    94
    (2 ∷ 0 ∷ 94 ∷ 0 ∷ 1 ∷ 0 ∷ 28 ∷ 0 ∷ 3 ∷ 0 ∷ 66 ∷ 0 ∷ 0 ∷ 0 ∷ 84 ∷ 0 ∷ 0 ∷ 0 ∷ 84 ∷ 0 ∷ 1 ∷ 0 ∷ 84 ∷ 0 ∷ 4 ∷ 0 ∷ 90 ∷ 0  -- header
    ∷ 1 ∷ 0 ∷ 0 ∷ 8 ∷ 0 ∷ 0 ∷ 1 ∷ 0 ∷ 0 ∷ 0 ∷ 1 ∷ 0 ∷ 0 ∷ 0 ∷ 0 ∷ 0 ∷ 0 ∷ 0 ∷ 0 ∷ 0 ∷ 0 ∷ 0 ∷ 0 ∷ 0 ∷ 0 ∷ 0 ∷ 0 ∷ 0 ∷ 0 ∷ 0 ∷ 0 ∷ 0 ∷ 3 ∷ 0 ∷ 0 ∷ 0 ∷ 0 ∷ 0  -- annotation
    ∷ 0 ∷ 0 ∷ 1 ∷ 0 ∷ 1 ∷ 0  -- loss
    ∷ 0 ∷ 1 ∷ 1 ∷ 0 ∷ 3 ∷ 0  -- loss
    ∷ 1 ∷ 1 ∷ 1 ∷ 0 ∷ 1 ∷ 0  -- loss
    ∷ 2 ∷ 0 ∷ 1 ∷ 0 ∷ 1 ∷ 0  -- unit
    ∷ 77 ∷ 43 ∷ 72 ∷ 77  -- text
    ∷ [])
    "y1-[2H1]-[M+H]+[M]"
unfolding digits whole last_digits point_text symbols
labelled_or_named = record { text = refl; limits = refl; form = refl; rules = refl; sum = refl; long = refl; stores = refl; writes = refl }

-- duplicates stay
pub twice : Worked "z4-H2O-H2O"
    (z 4 with loss minus silent H2O with loss minus silent H2O ∷ [])
    102
    (2 ∷ 0 ∷ 102 ∷ 0 ∷ 1 ∷ 0 ∷ 28 ∷ 0 ∷ 2 ∷ 0 ∷ 66 ∷ 0 ∷ 0 ∷ 0 ∷ 78 ∷ 0 ∷ 0 ∷ 0 ∷ 78 ∷ 0 ∷ 4 ∷ 0 ∷ 78 ∷ 0 ∷ 0 ∷ 0 ∷ 102 ∷ 0  -- header
    ∷ 1 ∷ 0 ∷ 0 ∷ 9 ∷ 0 ∷ 0 ∷ 4 ∷ 0 ∷ 0 ∷ 0 ∷ 1 ∷ 0 ∷ 0 ∷ 0 ∷ 0 ∷ 0 ∷ 0 ∷ 0 ∷ 0 ∷ 0 ∷ 0 ∷ 0 ∷ 0 ∷ 0 ∷ 0 ∷ 0 ∷ 0 ∷ 0 ∷ 0 ∷ 0 ∷ 0 ∷ 0 ∷ 2 ∷ 0 ∷ 0 ∷ 0 ∷ 0 ∷ 0  -- annotation
    ∷ 0 ∷ 0 ∷ 1 ∷ 0 ∷ 2 ∷ 0  -- loss
    ∷ 0 ∷ 0 ∷ 1 ∷ 0 ∷ 2 ∷ 0  -- loss
    ∷ 0 ∷ 0 ∷ 1 ∷ 0 ∷ 2 ∷ 0  -- unit
    ∷ 0 ∷ 0 ∷ 8 ∷ 0 ∷ 1 ∷ 0  -- unit
    ∷ 0 ∷ 0 ∷ 1 ∷ 0 ∷ 2 ∷ 0  -- unit
    ∷ 0 ∷ 0 ∷ 8 ∷ 0 ∷ 1 ∷ 0  -- unit
    ∷ [])
    "z4-H2O-H2O"
unfolding digits whole last_digits point_text symbols
twice = record { text = refl; limits = refl; form = refl; rules = refl; sum = refl; long = refl; stores = refl; writes = refl }

pub largest : Worked "p-999[999Og999]"
    (p with loss minus (several 999) (formula (labelled (num 999) Og (num 999)) []) ∷ [])
    78
    (2 ∷ 0 ∷ 78 ∷ 0 ∷ 1 ∷ 0 ∷ 28 ∷ 0 ∷ 1 ∷ 0 ∷ 66 ∷ 0 ∷ 0 ∷ 0 ∷ 72 ∷ 0 ∷ 0 ∷ 0 ∷ 72 ∷ 0 ∷ 1 ∷ 0 ∷ 72 ∷ 0 ∷ 0 ∷ 0 ∷ 78 ∷ 0  -- header
    ∷ 4 ∷ 0 ∷ 0 ∷ 0 ∷ 0 ∷ 0 ∷ 0 ∷ 0 ∷ 0 ∷ 0 ∷ 1 ∷ 0 ∷ 0 ∷ 0 ∷ 0 ∷ 0 ∷ 0 ∷ 0 ∷ 0 ∷ 0 ∷ 0 ∷ 0 ∷ 0 ∷ 0 ∷ 0 ∷ 0 ∷ 0 ∷ 0 ∷ 0 ∷ 0 ∷ 0 ∷ 0 ∷ 1 ∷ 0 ∷ 0 ∷ 0 ∷ 0 ∷ 0  -- annotation
    ∷ 0 ∷ 0 ∷ 231 ∷ 3 ∷ 1 ∷ 0  -- loss
    ∷ 231 ∷ 3 ∷ 118 ∷ 0 ∷ 231 ∷ 3  -- unit
    ∷ [])
    "p-999[999Og999]"
unfolding digits whole last_digits point_text symbols
largest = record { text = refl; limits = refl; form = refl; rules = refl; sum = refl; long = refl; stores = refl; writes = refl }
