-- `measure_line::add_next` meets its contract: the calls in turn, behind the comma. Assumes nothing.
use Rattle.measure_line.proofs.AnnotationLoops.{next_added}
use Rattle.layout.specs.Editions.{edition_of}
use Rattle.measure_line.proofs.add_next.Goals as goal

pub returns : goal.returns
returns c = next_added (edition_of c.args.edition) c.args.line.now c.args.t c.advance-from.ensures c.rest.ensures c.read_parts-p.ensures c.add.ensures
