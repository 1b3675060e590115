-- `read_annotation::read_middle` meets its contract: without sign or bracket nothing is there; else part by part. Assumes nothing.
use Rattle.read_annotation.proofs.Groups.{middle_is}
use Rattle.read_annotation.proofs.Nones.{middle_none}
use mathlib.Core.Path.{sym, ◌∙◌}
use borrow.Author.Tests.{not-true}
use Rattle.read_annotation.proofs.read_middle.Goals as goal

pub returns-then-not-begins_middle : goal.returns-then-not-begins_middle
returns-then-not-begins_middle c = middle_none c.args.end c.args.s.now c.args.f (sym c.begins_middle.ensures ∙ not-true _ c.if-not-begins_middle.true-raw) c.none.ensures

pub returns : goal.returns
returns c = middle_is c.args.end c.args.s.now c.args.f c.read_changes-l.ensures c.rest-t.ensures c.isotopes-y.ensures c.rest-u.ensures c.read_adduct-a.ensures c.sum.ensures c.rest.ensures c.minus_or_zero.ensures
