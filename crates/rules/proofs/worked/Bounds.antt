-- Limits and house rules, on lines at their bounds and just past them. Assumes nothing.
use Prim.Native.Nat.{ℕ, zero, suc}
use Prim.Native.String.{String}
use mathlib.Core.Path.{◌≡◌, refl}
use mathlib.Core.Bool.{true}
use mathlib.Core.List.{List, [], ◌∷◌, ◌++◌}
use lib.ListN.{replicate}
use Rattle.lang.specs.Mark.{Mark}
use Rattle.lang.specs.Parts.{Opt, silent, written}
use Rattle.rules.specs.Bytes.{bytes}
use Rattle.rules.specs.Numbers.{digits}
use Rattle.rules.specs.Decimals.{whole, last_digits, point_text}
use Rattle.rules.specs.Elements.{symbols}
use Rattle.rules.specs.Formulas.{plain, labelled}
use Rattle.rules.specs.Ions.{reference, named, composed, smiles, unknown}
use Rattle.rules.specs.Losses.{minus, plus}
use Rattle.rules.specs.Annotations.{SpelledAnnotation}
use Rattle.rules.specs.Lines.{Spelling, line_text}
use Rattle.rules.specs.Limits.{line_marks}
use Rattle.rules.specs.Editions.{current}
use Rattle.rules.specs.House.{first_breach, first_excess}
use Rattle.rules.proofs.worked.Spell.{num, times, several, decimal, text, H, C, N, Na, formula, atom, H2O, ion, serial, b, y, z}
use Rattle.rules.proofs.worked.Spell.{inner, imm, p, label, ◌with◌, marked, analyte, loss, named_loss, isotope, average, specific}
use Rattle.rules.proofs.worked.Spell.{specifics, item, electrons, charge, below, above, ppm, mz, off, confidence}
use Rattle.rules.proofs.worked.Row.{broken}

-- a broken limit: its number and its place
abbrev pub refusal : ℕ → ℕ → Mark
refusal number place = record { place = place; number = number; broken = true }

abbrev again : ℕ → (SpelledAnnotation → SpelledAnnotation) → SpelledAnnotation → SpelledAnnotation
again zero f a = a
again (suc n) f a = again n f (f a)

-- the limits that a line breaks, in the order of its text
pub record Limited (line : List ℕ) (s : Spelling) (marks : List Mark) : Type 0 where
  pub text : line_text s ≡ line
  pub limits : broken (line_marks s) ≡ marks

-- a line within the limits: the first annotation that breaks a rule, and the one that takes the sum past 1
pub record Ruled (line : String) (s : Spelling) (first past : Opt ℕ) : Type 0 where
  pub text : line_text s ≡ bytes line
  pub limits : broken (line_marks s) ≡ []
  pub breach : first_breach current 0 s ≡ first
  pub excess : first_excess 0 0 s ≡ past

-- ---- numbers

pub position : Limited (bytes "y65535") (y 65535 ∷ []) []
unfolding digits whole last_digits point_text symbols
position = record { text = refl; limits = refl }

pub position_past : Limited (bytes "y65536") (y 65536 ∷ []) (refusal 4 1 ∷ [])
unfolding digits whole last_digits point_text symbols
position_past = record { text = refl; limits = refl }

pub series_of_two_past : Limited (bytes "wb65536") (serial 12 tt 65536 silent ∷ []) (refusal 4 2 ∷ [])
unfolding digits whole last_digits point_text symbols
series_of_two_past = record { text = refl; limits = refl }

pub analyte_past : Limited (bytes "&65536@p") (p with marked with analyte 65536 ∷ []) (refusal 4 1 ∷ [])
unfolding digits whole last_digits point_text symbols
analyte_past = record { text = refl; limits = refl }

pub start_past : Limited (bytes "m65536:3") (inner 65536 3 silent ∷ []) (refusal 4 1 ∷ [])
unfolding digits whole last_digits point_text symbols
start_past = record { text = refl; limits = refl }

pub end_past : Limited (bytes "m2:65536") (inner 2 65536 silent ∷ []) (refusal 4 3 ∷ [])
unfolding digits whole last_digits point_text symbols
end_past = record { text = refl; limits = refl }

pub label_past : Limited (bytes "?65536") (label 65536 ∷ []) (refusal 4 1 ∷ [])
unfolding digits whole last_digits point_text symbols
label_past = record { text = refl; limits = refl }

pub loss_count : Limited (bytes "p-999H") (p with loss minus (several 999) (atom H) ∷ []) []
unfolding digits whole last_digits point_text symbols
loss_count = record { text = refl; limits = refl }

pub loss_count_past : Limited (bytes "p-1000H") (p with loss minus (several 1000) (atom H) ∷ []) (refusal 4 2 ∷ [])
unfolding digits whole last_digits point_text symbols
loss_count_past = record { text = refl; limits = refl }

pub unit_count_past : Limited (bytes "p-H1000") (p with loss minus silent (formula (plain H (times 1000)) []) ∷ []) (refusal 4 3 ∷ [])
unfolding digits whole last_digits point_text symbols
unit_count_past = record { text = refl; limits = refl }

pub labelled_past : Limited (bytes "p-[1000C1000]")
    (p with loss minus silent (formula (labelled (num 1000) C (num 1000)) []) ∷ [])
    (refusal 4 3 ∷ refusal 4 8 ∷ [])
unfolding digits whole last_digits point_text symbols
labelled_past = record { text = refl; limits = refl }

pub ion_unit_past : Limited (bytes "f{CH1000}")
    (ion (composed (formula (plain C silent) (plain H (times 1000) ∷ []))) ∷ [])
    (refusal 4 4 ∷ [])
unfolding digits whole last_digits point_text symbols
ion_unit_past = record { text = refl; limits = refl }

pub isotope_past : Limited (bytes "p+1000i") (p with isotope plus (times 1000) ∷ []) (refusal 4 2 ∷ [])
unfolding digits whole last_digits point_text symbols
isotope_past = record { text = refl; limits = refl }

pub average_past : Limited (bytes "p+1000iA") (p with average plus (times 1000) ∷ []) (refusal 4 2 ∷ [])
unfolding digits whole last_digits point_text symbols
average_past = record { text = refl; limits = refl }

pub specific_past : Limited (bytes "p+i13C-1000i1000N")
    (p with specifics (specific plus silent 13 C) (specific minus (times 1000) 1000 N ∷ []) ∷ [])
    (refusal 4 7 ∷ refusal 4 12 ∷ [])
unfolding digits whole last_digits point_text symbols
specific_past = record { text = refl; limits = refl }

pub item_count_past : Limited (bytes "p[M+H-1000Na]")
    (p with item plus silent (atom H) with item minus (times 1000) (atom Na) ∷ [])
    (refusal 4 6 ∷ [])
unfolding digits whole last_digits point_text symbols
item_count_past = record { text = refl; limits = refl }

pub electrons_past : Limited (bytes "p[M-1000e]") (p with electrons minus (times 1000) ∷ []) (refusal 4 4 ∷ [])
unfolding digits whole last_digits point_text symbols
electrons_past = record { text = refl; limits = refl }

pub item_unit_past : Limited (bytes "p[M+H1000]") (p with item plus silent (formula (plain H (times 1000)) []) ∷ []) (refusal 4 5 ∷ [])
unfolding digits whole last_digits point_text symbols
item_unit_past = record { text = refl; limits = refl }

pub charge_most : Limited (bytes "p^255") (p with charge 255 ∷ []) []
unfolding digits whole last_digits point_text symbols
charge_most = record { text = refl; limits = refl }

pub charge_past : Limited (bytes "p^256") (p with charge 256 ∷ []) (refusal 4 2 ∷ [])
unfolding digits whole last_digits point_text symbols
charge_past = record { text = refl; limits = refl }

-- ---- decimals: at most 9 decimals, at most 12 digits in all, a leading 0 included

pub nine_decimals : Limited (bytes "p/-0.123456789") (p with off below (decimal 123456789 9) mz ∷ []) []
unfolding digits whole last_digits point_text symbols
nine_decimals = record { text = refl; limits = refl }

-- after the `-`
pub ten_decimals : Limited (bytes "p/-0.1234567891") (p with off below (decimal 1234567891 10) mz ∷ []) (refusal 4 3 ∷ [])
unfolding digits whole last_digits point_text symbols
ten_decimals = record { text = refl; limits = refl }

-- trailing zeros count
pub ten_zeros : Limited (bytes "p/-0.0000000000") (p with off below (decimal 0 10) mz ∷ []) (refusal 4 3 ∷ [])
unfolding digits whole last_digits point_text symbols
ten_zeros = record { text = refl; limits = refl }

pub twelve_digits : Limited (bytes "p/123456789012") (p with off above (decimal 123456789012 0) mz ∷ []) []
unfolding digits whole last_digits point_text symbols
twelve_digits = record { text = refl; limits = refl }

pub thirteen_digits : Limited (bytes "p/1234567890123ppm") (p with off above (decimal 1234567890123 0) ppm ∷ []) (refusal 4 2 ∷ [])
unfolding digits whole last_digits point_text symbols
thirteen_digits = record { text = refl; limits = refl }

pub thirteen_with_point : Limited (bytes "p/1234.123456789ppm") (p with off above (decimal 1234123456789 9) ppm ∷ []) (refusal 4 2 ∷ [])
unfolding digits whole last_digits point_text symbols
thirteen_with_point = record { text = refl; limits = refl }

pub confidence_past : Limited (bytes "p/1*0.0000000001")
    (p with off above (decimal 1 0) mz with confidence (decimal 1 10) ∷ [])
    (refusal 4 4 ∷ [])
unfolding digits whole last_digits point_text symbols
confidence_past = record { text = refl; limits = refl }

-- ---- how many

pub units_12 : Limited (bytes "f{HHHHHHHHHHHH}") (ion (composed (formula (plain H silent) (replicate 11 (plain H silent)))) ∷ []) []
unfolding digits whole last_digits point_text symbols
units_12 = record { text = refl; limits = refl }

-- the 13th unit
pub units_13 : Limited (bytes "f{HHHHHHHHHHHHH}")
    (ion (composed (formula (plain H silent) (replicate 12 (plain H silent)))) ∷ [])
    (refusal 5 14 ∷ [])
unfolding digits whole last_digits point_text symbols
units_13 = record { text = refl; limits = refl }

pub loss_units_13 : Limited (bytes "p-H2H2H2H2H2H2H2H2H2H2H2H2[2H1]")
    (p with loss minus silent (formula (plain H (times 2)) (replicate 11 (plain H (times 2)) ++ (labelled (num 2) H (num 1) ∷ [])))
    ∷ [])
    (refusal 5 26 ∷ [])
unfolding digits whole last_digits point_text symbols
loss_units_13 = record { text = refl; limits = refl }

-- one mark for each too many
pub item_units_14 : Limited (bytes "p[M+HHHHHHHHHHHHHH]")
    (p with item plus silent (formula (plain H silent) (replicate 13 (plain H silent))) ∷ [])
    (refusal 5 16 ∷ refusal 5 17 ∷ [])
unfolding digits whole last_digits point_text symbols
item_units_14 = record { text = refl; limits = refl }

pub losses_8 : Limited (bytes "p-H-H-H-H-H-H-H-H") (again 8 (loss minus silent (atom H)) p ∷ []) []
unfolding digits whole last_digits point_text symbols
losses_8 = record { text = refl; limits = refl }

-- the sign of the 9th
pub losses_9 : Limited (bytes "p-H-H-H-H-H-H-H-H-H") (again 9 (loss minus silent (atom H)) p ∷ []) (refusal 5 17 ∷ [])
unfolding digits whole last_digits point_text symbols
losses_9 = record { text = refl; limits = refl }

pub isotopes_4 : Limited (bytes "p+i13C+i13C+i13C+i13C")
    (p with specifics (specific plus silent 13 C) (replicate 3 (specific plus silent 13 C)) ∷ [])
    []
unfolding digits whole last_digits point_text symbols
isotopes_4 = record { text = refl; limits = refl }

pub isotopes_5 : Limited (bytes "p+i13C+i13C+i13C+i13C+i13C")
    (p with specifics (specific plus silent 13 C) (replicate 4 (specific plus silent 13 C)) ∷ [])
    (refusal 5 21 ∷ [])
unfolding digits whole last_digits point_text symbols
isotopes_5 = record { text = refl; limits = refl }

pub items_4 : Limited (bytes "p[M+H+H+H+H]") (again 4 (item plus silent (atom H)) p ∷ []) []
unfolding digits whole last_digits point_text symbols
items_4 = record { text = refl; limits = refl }

pub items_5 : Limited (bytes "p[M+H+H+H+H+H]") (again 5 (item plus silent (atom H)) p ∷ []) (refusal 5 11 ∷ [])
unfolding digits whole last_digits point_text symbols
items_5 = record { text = refl; limits = refl }

pub annotations_16 : Limited (bytes "?,?,?,?,?,?,?,?,?,?,?,?,?,?,?,?") (replicate 16 (ion (unknown silent))) []
unfolding digits whole last_digits point_text symbols
annotations_16 = record { text = refl; limits = refl }

-- the byte after its comma
pub annotations_17 : Limited (bytes "?,?,?,?,?,?,?,?,?,?,?,?,?,?,?,?,?") (replicate 17 (ion (unknown silent))) (refusal 5 32 ∷ [])
unfolding digits whole last_digits point_text symbols
annotations_17 = record { text = refl; limits = refl }

-- 5 wins the tie
pub annotations_tie : Limited (bytes "?,?,?,?,?,?,?,?,?,?,?,?,?,?,?,?,65536@?")
    (replicate 16 (ion (unknown silent)) ++ (ion (unknown silent) with analyte 65536 ∷ []))
    (refusal 5 32 ∷ refusal 4 32 ∷ [])
unfolding digits whole last_digits point_text symbols
annotations_tie = record { text = refl; limits = refl }

pub annotations_marked : Limited (bytes "?,?,?,?,?,?,?,?,?,?,?,?,?,?,?,?,&65536@?")
    (replicate 16 (ion (unknown silent)) ++ (ion (unknown silent) with marked with analyte 65536 ∷ []))
    (refusal 5 32 ∷ refusal 4 33 ∷ [])
unfolding digits whole last_digits point_text symbols
annotations_marked = record { text = refl; limits = refl }

pub text_255 : Limited (bytes "_{" ++ (replicate 255 97 ++ bytes "}"))
    (ion (named (record { bytes = replicate 255 97; good = tt })) ∷ [])
    []
unfolding digits whole last_digits point_text symbols
text_255 = record { text = refl; limits = refl }

-- its 256th byte
pub text_256 : Limited (bytes "_{" ++ (replicate 256 97 ++ bytes "}"))
    (ion (named (record { bytes = replicate 256 97; good = tt })) ∷ [])
    (refusal 5 257 ∷ [])
unfolding digits whole last_digits point_text symbols
text_256 = record { text = refl; limits = refl }

pub series_text_256 : Limited (bytes "b2{" ++ (replicate 256 97 ++ bytes "}"))
    (serial 1 tt 2 (written (record { bytes = replicate 256 97; good = tt })) ∷ [])
    (refusal 5 258 ∷ [])
unfolding digits whole last_digits point_text symbols
series_text_256 = record { text = refl; limits = refl }

pub internal_text_256 : Limited (bytes "m2:3{" ++ (replicate 256 97 ++ bytes "}"))
    (inner 2 3 (written (record { bytes = replicate 256 97; good = tt })) ∷ [])
    (refusal 5 260 ∷ [])
unfolding digits whole last_digits point_text symbols
internal_text_256 = record { text = refl; limits = refl }

pub reference_256 : Limited (bytes "r[" ++ (replicate 256 97 ++ bytes "]"))
    (ion (reference (record { bytes = replicate 256 97; good = tt })) ∷ [])
    (refusal 5 257 ∷ [])
unfolding digits whole last_digits point_text symbols
reference_256 = record { text = refl; limits = refl }

pub modification_256 : Limited (bytes "IC[" ++ (replicate 256 97 ++ bytes "]"))
    (imm "C" tt (written (record { bytes = replicate 256 97; good = tt })) ∷ [])
    (refusal 5 258 ∷ [])
unfolding digits whole last_digits point_text symbols
modification_256 = record { text = refl; limits = refl }

-- the limit comes before the rule
pub smiles_256 : Limited (bytes "s{" ++ (replicate 256 97 ++ bytes "}"))
    (ion (smiles (record { bytes = replicate 256 97; good = tt })) ∷ [])
    (refusal 5 257 ∷ [])
unfolding digits whole last_digits point_text symbols
smiles_256 = record { text = refl; limits = refl }

pub loss_name_256 : Limited (bytes "p-2[" ++ (replicate 256 97 ++ bytes "]"))
    (p with named_loss minus (several 2) (record { bytes = replicate 256 97; good = tt }) ∷ [])
    (refusal 5 259 ∷ [])
unfolding digits whole last_digits point_text symbols
loss_name_256 = record { text = refl; limits = refl }

-- several limits, each at its place
pub second_annotation : Limited (bytes "y1-H2O,&1@y65536-1000H2O[M+1000Na]^256/-0.1234567890ppm*1234567890123")
    (y 1 with loss minus silent H2O
    ∷ y 65536 with marked with analyte 1 with loss minus (several 1000) H2O with item plus (times 1000) (atom Na) with charge 256
    with off below (decimal 1234567890 10) ppm with confidence (decimal 1234567890123 0) ∷ [])
    (refusal 4 11 ∷ refusal 4 17 ∷ refusal 4 27 ∷ refusal 4 35 ∷ refusal 4 40 ∷ refusal 4 56 ∷ [])
unfolding digits whole last_digits point_text symbols
second_annotation = record { text = refl; limits = refl }

-- ---- rules for one annotation: the place of a breach, then that of an excess

pub starts_at_1 : Ruled "m1:3" (inner 1 3 silent ∷ []) (written 0) silent
unfolding digits whole last_digits point_text symbols
starts_at_1 = record { text = refl; limits = refl; breach = refl; excess = refl }

pub past_its_end : Ruled "m3:2" (inner 3 2 silent ∷ []) (written 0) silent
unfolding digits whole last_digits point_text symbols
past_its_end = record { text = refl; limits = refl; breach = refl; excess = refl }

pub one_long : Ruled "m2:2" (inner 2 2 silent ∷ []) silent silent
unfolding digits whole last_digits point_text symbols
one_long = record { text = refl; limits = refl; breach = refl; excess = refl }

pub smiles_alone : Ruled "s{CN=C=O}" (ion (smiles (text "CN=C=O" tt)) ∷ []) (written 0) silent
unfolding digits whole last_digits point_text symbols
smiles_alone = record { text = refl; limits = refl; breach = refl; excess = refl }

pub smiles_with_adduct : Ruled "s{CN=C=O}[M+H]" (ion (smiles (text "CN=C=O" tt)) with item plus silent (atom H) ∷ []) silent silent
unfolding digits whole last_digits point_text symbols
smiles_with_adduct = record { text = refl; limits = refl; breach = refl; excess = refl }

pub minus_zero : Ruled "y1/-0.0" (y 1 with off below (decimal 0 1) mz ∷ []) (written 0) silent
unfolding digits whole last_digits point_text symbols
minus_zero = record { text = refl; limits = refl; breach = refl; excess = refl }

pub minus_zero_ppm : Ruled "y1/-0ppm" (y 1 with off below (decimal 0 0) ppm ∷ []) (written 0) silent
unfolding digits whole last_digits point_text symbols
minus_zero_ppm = record { text = refl; limits = refl; breach = refl; excess = refl }

pub plus_zero : Ruled "y1/0.0" (y 1 with off above (decimal 0 1) mz ∷ []) silent silent
unfolding digits whole last_digits point_text symbols
plus_zero = record { text = refl; limits = refl; breach = refl; excess = refl }

pub nearly_zero : Ruled "y1/-0.000000001" (y 1 with off below (decimal 1 9) mz ∷ []) silent silent
unfolding digits whole last_digits point_text symbols
nearly_zero = record { text = refl; limits = refl; breach = refl; excess = refl }

pub sure : Ruled "y1*1.000000000" (y 1 with confidence (decimal 1000000000 9) ∷ []) silent silent
unfolding digits whole last_digits point_text symbols
sure = record { text = refl; limits = refl; breach = refl; excess = refl }

-- 6 comes before 7
pub surer : Ruled "y1*1.000000001" (y 1 with confidence (decimal 1000000001 9) ∷ []) (written 0) (written 0)
unfolding digits whole last_digits point_text symbols
surer = record { text = refl; limits = refl; breach = refl; excess = refl }

-- digits alone bound a decimal
pub surest : Ruled "y1*100000000000" (y 1 with confidence (decimal 100000000000 0) ∷ []) (written 0) (written 0)
unfolding digits whole last_digits point_text symbols
surest = record { text = refl; limits = refl; breach = refl; excess = refl }

-- the first that breaks a rule
pub second_breach : Ruled "y1-H2O,m1:3,s{C}"
    (y 1 with loss minus silent H2O ∷ inner 1 3 silent ∷ ion (smiles (text "C" tt)) ∷ [])
    (written 7) silent
unfolding digits whole last_digits point_text symbols
second_breach = record { text = refl; limits = refl; breach = refl; excess = refl }

pub marked_breach : Ruled "y1,&0@m1:3" (y 1 ∷ inner 1 3 silent with marked with analyte 0 ∷ []) (written 3) silent
unfolding digits whole last_digits point_text symbols
marked_breach = record { text = refl; limits = refl; breach = refl; excess = refl }

-- ---- over the line

pub sum_of_1 : Ruled "y1*0.7,b2*0.2,z3*0.1"
    (y 1 with confidence (decimal 7 1) ∷ b 2 with confidence (decimal 2 1) ∷ z 3 with confidence (decimal 1 1) ∷ [])
    silent silent
unfolding digits whole last_digits point_text symbols
sum_of_1 = record { text = refl; limits = refl; breach = refl; excess = refl }

pub sum_past : Ruled "y1*0.7,b2*0.301" (y 1 with confidence (decimal 7 1) ∷ b 2 with confidence (decimal 301 3) ∷ []) silent (written 7)
unfolding digits whole last_digits point_text symbols
sum_past = record { text = refl; limits = refl; breach = refl; excess = refl }

pub sum_past_by_little : Ruled "y1*0.5,b2,z3*0.500000001,y4*1"
    (y 1 with confidence (decimal 5 1) ∷ b 2 ∷ z 3 with confidence (decimal 500000001 9) ∷ y 4 with confidence (decimal 1 0) ∷ [])
    silent (written 10)
unfolding digits whole last_digits point_text symbols
sum_past_by_little = record { text = refl; limits = refl; breach = refl; excess = refl }

pub sum_with_zeros : Ruled "y1*1,b2*0,z3*0.00"
    (y 1 with confidence (decimal 1 0) ∷ b 2 with confidence (decimal 0 0) ∷ z 3 with confidence (decimal 0 2) ∷ [])
    silent silent
unfolding digits whole last_digits point_text symbols
sum_with_zeros = record { text = refl; limits = refl; breach = refl; excess = refl }

-- 6 comes before 7 over the whole line
pub rule_before_sum : Ruled "y1*0.7,b2*0.7,m1:3"
    (y 1 with confidence (decimal 7 1) ∷ b 2 with confidence (decimal 7 1) ∷ inner 1 3 silent ∷ [])
    (written 14) (written 7)
unfolding digits whole last_digits point_text symbols
rule_before_sum = record { text = refl; limits = refl; breach = refl; excess = refl }
