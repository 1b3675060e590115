-- Document 01, "Lines and what becomes of them": its starred lines. Assumes nothing.
use Rattle.std.specs.Prelude.{List, [], ◌∷◌}
use Rattle.starred.specs.Becomes.{Row, ◌is◌, refused, read}
use Rattle.starred.specs.Tables.{empty_table, y1_table, losses_table, isotope_table, adduct_table, modification_table, several_table}

abbrev pub rows : List Row
rows =
    "" is read 28 empty_table ""
    ∷ "y1" is read 66 y1_table "y1"
    ∷ "y5-NH3-H2O" is read 102 losses_table "y5-H2O-NH3"
    ∷ "y2+1i" is read 74 isotope_table "y2+i"
    ∷ "y2+1H" is refused 2 4
    ∷ "IC[M+H]" is read 78 adduct_table "IC[M+H]"
    ∷ "IC[M2]" is read 68 modification_table "IC[M2]"
    ∷ "y7-H2O+i^2[M+NH4]" is refused 2 10
    ∷ "y1," is refused 3 3
    ∷ "y1^1" is refused 3 4
    ∷ "y1*0.7,b2*0.2,z3*0.1" is read 142 several_table "y1*0.7,b2*0.2,z3*0.1"
    ∷ "y1*0.7,b2*0.301" is refused 7 7
    ∷ []
