-- `read_isotopes::isotope` meets its contract: specific, average or plain, by the byte behind `i`. Assumes nothing.
use mathlib.Core.Path.{sym, ◌∙◌}
use Rattle.read_isotopes.proofs.Parts.{specific_is, average_is, plain_is}
use Rattle.read_isotopes.proofs.isotope.Goals as goal

pub returns-then-begins_in : goal.returns-then-begins_in
returns-then-begins_in c =
    specific_is c.args.i c.args.end c.args.s.now c.args.f c.read_head-h.ensures
    c.advance-at.ensures c.rest-t.ensures (sym c.begins_in.ensures ∙ c.if-begins_in.true)
    c.read_number-a.ensures c.rest.ensures c.read_element-e.ensures c.advance.ensures
    c.advance-then-begins_in.ensures c.numbers_fault.ensures

pub returns-then-begins_with : goal.returns-then-begins_with
returns-then-begins_with c =
    average_is c.args.i c.args.end c.args.s.now c.args.f c.read_head-h.ensures
    c.advance-at.ensures c.rest-t.ensures (sym c.begins_in.ensures ∙ c.if-begins_in.false)
    (sym c.begins_with.ensures ∙ c.if-begins_with.true) c.advance-then-begins_with.ensures c.numbers_fault-fault.ensures

pub returns : goal.returns
returns c =
    plain_is c.args.i c.args.end c.args.s.now c.args.f c.read_head-h.ensures
    c.advance-at.ensures c.rest-t.ensures (sym c.begins_in.ensures ∙ c.if-begins_in.false)
    (sym c.begins_with.ensures ∙ c.if-begins_with.false) c.numbers_fault-fault.ensures
