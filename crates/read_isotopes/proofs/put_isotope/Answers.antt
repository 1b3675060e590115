-- `read_isotopes::put_isotope` meets its contract: five puts in a row; sign and kind are bytes. Assumes nothing.
use mathlib.Core.Path.{sym, ap, ◌∙◌}
use mathlib.Core.List.{append-nil}
use native.Mathlib.Omega.{arith}
use Rattle.rules.specs.Stored.{little}
use Rattle.put_bytes.proofs.Putting.{put_then, put_as}
use Rattle.read_isotopes.proofs.Parts.{byte_kept}
use Rattle.read_isotopes.specs.Kinds.{kind_element}
use Rattle.read_isotopes.proofs.put_isotope.Goals as goal

pub returns : goal.returns
returns c =
    put_then (put_as c.put8-a.ensures (byte_kept _ (omega arith) ∙ ap (little 1) c.from.ensures))
    (put_then (put_as c.put8-b.ensures (byte_kept _ (omega arith) ∙ ap (little 1) c.number.ensures))
    (put_then c.put_le-c.ensures
    (put_then (put_as c.put_le-d.ensures (ap (little 2) c.nucleons.ensures))
    (put_as c.put_le.ensures (ap (little 2) c.element.ensures ∙ sym (append-nil (little 2 (kind_element c.args.x.kind))))))))
