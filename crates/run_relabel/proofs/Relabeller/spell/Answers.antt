-- `run_relabel::Relabeller::spell` meets its contract. Assumes nothing.
use Rattle.run_relabel.proofs.Spelling.{spelled_there}
use native.Mathlib.Omega.{arith}
use mathlib.Core.Path.{refl}
use Rattle.run_relabel.proofs.Relabeller.spell.Goals as goal

pub returns : goal.returns
returns c =
    spelled_there _ _ _ _ _ _ _ _ c.args.self.now.made (λ i h. (c.type_inv.line i).fits) (omega arith) c.requires c.advance-n.ensures
    c.relabel_as.ensures refl
