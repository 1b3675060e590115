-- `io_lines::next_line` meets its contract: with each turn of the search a byte more came. Assumes nothing.
use Rattle.io_lines.specs.Found.{Search}
use Rattle.io_lines.proofs.next_line.Given as goal

abbrev pub invariant-loop-turn : goal.invariant-loop-turn
invariant-loop-turn l = Search l._turn l.fn.buf l.fn.s l.buf l.t
