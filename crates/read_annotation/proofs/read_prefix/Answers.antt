-- `read_annotation::read_prefix` meets its contract: rewritten by the calls, with an analyte or without. Assumes nothing.
use Rattle.read_annotation.specs.Parts.{prefix_of}
use Rattle.read_annotation.proofs.Prefixes.{flag_number}
use mathlib.Core.Path.{sym, ◌∙◌}
use Rattle.read_annotation.proofs.read_prefix.Goals as goal

pub returns-then-not-begins_in : goal.returns-then-not-begins_in
unfolding prefix_of
returns-then-not-begins_in c =
    rw (← c.begins_with-marked.ensures, ← flag_number c.begins_with-marked.result, ← c.from-at.ensures, ← c.rest-t.ensures, sym c.begins_in.ensures ∙ c.if-not-begins_in.true)

pub returns : goal.returns
unfolding prefix_of
returns c =
    rw (
      ← c.begins_with-marked.ensures,
      ← flag_number c.begins_with-marked.result,
      ← c.from-at.ensures,
      ← c.rest-t.ensures,
      sym c.begins_in.ensures ∙ c.if-not-begins_in.false,
      ← c.read_number-n.ensures,
      c.advance-2.ensures,
      c.advance.ensures,
      c.check_number-fault.ensures,
      c.minus_or_zero.ensures,
    )
