-- `capi::mzpaf_prepare` meets its contract: by the number of the edition. Assumes nothing.
use lib.ListN.{length}
use Rattle.capi.proofs.Preparing.{first_prepared, second_prepared, none_prepared}
use Rattle.capi.proofs.mzpaf_prepare.Goals as goal

pub returns-then-lines-eq1 : goal.returns-then-lines-eq1
returns-then-lines-eq1 c = first_prepared (length c.args.machine.now) c.args.lines c.if-lines-eq1.true c.put_machine.ensures

pub returns-then-lines-eq2 : goal.returns-then-lines-eq2
returns-then-lines-eq2 c = second_prepared (length c.args.machine.now) c.args.lines c.if-lines-eq2.true c.put_machine-then-lines-eq2.ensures

pub returns : goal.returns
returns c = none_prepared (length c.args.machine.now) c.args.lines c.if-lines-eq1.false c.if-lines-eq2.false c.clear.ensures
