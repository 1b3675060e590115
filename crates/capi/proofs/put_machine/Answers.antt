-- `capi::put_machine` meets its contract: the machine is put over zeros, where it fits. Assumes nothing.
use native.Mathlib.Omega.{arith}
use lib.ListN.{length}
use Rattle.scan_line.specs.Lines.{lines_in}
use Rattle.capi.proofs.Preparing.{too_short, enough}
use Rattle.capi.proofs.put_machine.Goals as goal

pub returns-then-machine-lt18688 : goal.returns-then-machine-lt18688
returns-then-machine-lt18688 c =
    let n = length c.args.machine.now in
    too_short (lines_in c.args.lines) n (omega (arith, c.if-machine-lt18688.true, c.clear.auto.out)) c.clear.ensures

pub returns : goal.returns
returns c =
    let n = length c.args.machine.now in
    enough (lines_in c.args.lines) n (omega (arith, c.if-machine-lt18688.false, c.clear.auto.out)) c.clear.ensures c.machine-made.ensures c.put_run.ensures
