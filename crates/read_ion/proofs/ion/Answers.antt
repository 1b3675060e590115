-- `read_ion::ion` meets its contract: each first byte by its arm, and a series for any other. Assumes nothing.
use Rattle.read_ion.specs.Ions.{ion_by}
use Rattle.read_ion.proofs.Found.{first_is, first_other}
use mathlib.Core.Path.{◌∙◌}
use Rattle.read_ion.proofs.ion.Goals as goal

pub returns-in-109 : goal.returns-in-109
unfolding ion_by
returns-in-109 c = c.internal.ensures ∙ first_is c.args.s.now c.args.end c.args.f c.byte_of.ensures 109 c.in-109.is

pub returns-in-73 : goal.returns-in-73
unfolding ion_by
returns-in-73 c = c.immonium.ensures ∙ first_is c.args.s.now c.args.end c.args.f c.byte_of.ensures 73 c.in-73.is

pub returns-in-112 : goal.returns-in-112
unfolding ion_by
returns-in-112 c = c.precursor.ensures ∙ first_is c.args.s.now c.args.end c.args.f c.byte_of.ensures 112 c.in-112.is

pub returns-in-114 : goal.returns-in-114
unfolding ion_by
returns-in-114 c = c.reference.ensures ∙ first_is c.args.s.now c.args.end c.args.f c.byte_of.ensures 114 c.in-114.is

pub returns-in-95 : goal.returns-in-95
unfolding ion_by
returns-in-95 c = c.braced.ensures ∙ first_is c.args.s.now c.args.end c.args.f c.byte_of.ensures 95 c.in-95.is

pub returns-in-102 : goal.returns-in-102
unfolding ion_by
returns-in-102 c = c.composed.ensures ∙ first_is c.args.s.now c.args.end c.args.f c.byte_of.ensures 102 c.in-102.is

pub returns-in-115 : goal.returns-in-115
unfolding ion_by
returns-in-115 c = c.braced-in-115.ensures ∙ first_is c.args.s.now c.args.end c.args.f c.byte_of.ensures 115 c.in-115.is

pub returns-in-63 : goal.returns-in-63
unfolding ion_by
returns-in-63 c = c.unknown.ensures ∙ first_is c.args.s.now c.args.end c.args.f c.byte_of.ensures 63 c.in-63.is

pub returns-in_default : goal.returns-in_default
returns-in_default c = c.series.ensures ∙ first_other c.args.s.now c.args.end c.args.f c.byte_of.ensures c.in_default.in_default-own.rest
