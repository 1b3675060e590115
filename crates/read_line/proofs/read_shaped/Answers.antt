-- `read_line::read_shaped` meets its contract: the output is cleared first. Assumes nothing.
use mathlib.Core.Path.{ap, ◌∙◌}
use mathlib.Core.List.{List}
use Prim.Native.Nat.{ℕ}
use Rattle.layout.specs.Editions.{edition_of}
use Rattle.read_line.specs.Readings.{spelled_over}
use Rattle.read_line.proofs.read_shaped.Goals as goal

pub returns : goal.returns
returns c =
    let a = c.args in
    c.read_spelled.ensures.is ∙ ap (λ (d : List ℕ). spelled_over (edition_of a.edition) d a.line.now) c.clear.ensures
