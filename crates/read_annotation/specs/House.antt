-- The rules for one annotation, of what was read. Assumes nothing.
use Rattle.std.specs.Prelude.{ℕ, ◌+◌, ◌-◌, Bool, true, cond, not, ◌&&◌, ◌||◌, eqb, leb}
use Rattle.rules.specs.Editions.{Edition, ed1, ed2}
use Rattle.rules.specs.House.{one}
use Rattle.numbers.specs.Shares.{billionths_of}
use Rattle.read_ion.specs.Stored.{kind_number}
use Rattle.read_ion.specs.declared.IonRead.{IonRead}
use Rattle.read_tail.specs.declared.DecimalPart.{DecimalPart}
use Rattle.read_annotation.specs.Sequences.{has_sequence}

-- an internal ion doesn't start at 1 and its start isn't past its end; SMILES has an adduct
unfoldable pub ion_rule_of : IonRead → ℕ → Bool
ion_rule_of x items = cond (eqb (kind_number x.kind) 2) (leb 2 x.position && leb x.position x.last) (cond (eqb (kind_number x.kind) 8) (leb 1 items) true)

-- `-` doesn't stand before a zero deviation
unfoldable pub deviation_rule_of : DecimalPart → Bool
deviation_rule_of d = not d.minus || leb 1 d.size.value

-- how many residues the position asks for; of an internal ion those from start to end
unfoldable pub covered_of : IonRead → ℕ
covered_of x = cond (eqb (kind_number x.kind) 2) (x.last + 1 - x.position) x.position

-- a sequence has no fewer
unfoldable pub long_enough_of : IonRead → ℕ → Bool
long_enough_of x residues = not (has_sequence x) || leb (covered_of x) residues

-- edition 1 does not ask it of a sequence
abbrev pub if_asked : Edition → Bool → Bool
if_asked ed1 kept = true
if_asked ed2 kept = kept

unfoldable pub rules_of : Edition → IonRead → ℕ → ℕ → DecimalPart → ℕ → Bool
rules_of e x residues items d share = (ion_rule_of x items && (deviation_rule_of d && leb share one)) && if_asked e (long_enough_of x residues)

-- a confidence in billionths
unfoldable pub share_of : DecimalPart → ℕ
share_of c = billionths_of c.size
