-- `scan_line::scan_by` meets its contract: a scan of the whole line in one part. Assumes nothing.
use Rattle.scan_line.specs.Steps.{taken_by, verdict_by, scanned_by}
use Rattle.scan_line.specs.declared.Progress.{Progress}
use mathlib.Core.Path.{ap, ◌∙◌}
use Rattle.scan_line.proofs.scan_by.Goals as goal

pub returns : goal.returns
unfolding scanned_by
returns c =
    let m = c.args.machine.now in
    let line = c.args.line.now in
    c.verdict.ensures ∙ ap (verdict_by m) (c.over.ensures ∙ ap (λ (s : Progress). taken_by m s line) c.begin.ensures)
