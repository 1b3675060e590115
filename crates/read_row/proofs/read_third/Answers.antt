-- `read_row::read_third` meets its contract. Assumes nothing.
use mathlib.Core.Path.{refl, ◌∙◌}
use Rattle.read_row.proofs.Moved.{ended_is}
use Rattle.read_row.specs.Readings.{head_bytes, third_of}
use Rattle.read_row.proofs.read_third.Goals as goal

pub returns : goal.returns
unfolding third_of
returns c = c.end_row.ensures ∙ ended_is (head_bytes c.args.mz c.args.intensity) c.args.at refl c.read_behind-line.ensures
