-- `put_formula::kept` meets its contract: without nucleons, a count of at most 1 is left out. Assumes nothing.
use Rattle.put_formula.proofs.TextParts.{kept_labelled, kept_one, kept_more}
use native.Mathlib.Omega.{arith}
use Rattle.put_formula.proofs.kept.Goals.{else-span-eq0-via-then-span-eq0+else-span-le1, else-span-eq0-via-else-span-eq0}
use Rattle.put_formula.proofs.kept.Goals as goal

pub returns-then-span-le1 : goal.returns-then-span-le1
returns-then-span-le1 c = kept_one c.args.span c.if-span-eq0.true (omega (arith, c.if-span-le1.true))

pub returns-else-span-eq0 : goal.returns-else-span-eq0
returns-else-span-eq0 c =
    let u = c.args.span in
    elim c.else-span-eq0.branch [
      | else-span-eq0-via-then-span-eq0+else-span-le1 w ↦ kept_more u w.if-span-eq0.true (omega (arith, w.if-span-le1.false))
      | else-span-eq0-via-else-span-eq0 w ↦ kept_labelled u w.if-span-eq0.false
    ]
