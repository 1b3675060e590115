-- `scan_line::second_machine` meets its contract: the constant is the machine's words, and they fill the bytes. Assumes nothing.
use Rattle.scan_line.proofs.Cells.{made}
use Rattle.scan_line.specs.Steps.{second_bytes}
use Rattle.shape.specs.Tables.{packed}
use Rattle.scan_line.proofs.second_machine.Goals as goal

pub returns : goal.returns
unfolding second_bytes packed
returns c = made c.put_words.ensures
