-- `store_annotation::put_front` meets its contract: one field after the other. Assumes nothing.
use mathlib.Core.Path.{◌≡◌, ap, ◌∙◌}
use Rattle.std.specs.Option.{is_some}
use Rattle.rules.specs.Stored.{little, flag}
use Rattle.put_bytes.proofs.Putting.{put_then, put_as}
use Rattle.read_annotation.proofs.Prefixes.{flag_number}
use Rattle.store_annotation.specs.Records.{front_bytes}
use Rattle.store_annotation.proofs.put_front.Goals as goal

pub returns : goal.returns
unfolding front_bytes
returns c =
    let marked : c.from-2.result ≡ flag c.args.a.marked = c.from-2.ensures ∙ flag_number c.args.a.marked in
    let there : c.from-3.result ≡ flag (is_some c.args.a.analyte) = c.from-3.ensures ∙ flag_number c.is_some.result ∙ ap flag c.is_some.ensures in
    put_then (put_as c.put_le-p.ensures (ap (little 1) c.from.ensures))
    (put_then (put_as c.put_le-q.ensures (ap (little 1) marked))
    (put_then (put_as c.put_le-r.ensures (ap (little 1) there))
    (put_then c.put_le-s.ensures (put_then (put_as c.put_le-t.ensures (ap (little 2) c.unwrap_or.ensures)) (put_then c.put_le-u.ensures c.put_le.ensures)))))
