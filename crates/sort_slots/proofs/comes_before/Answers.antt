-- `sort_slots::comes_before` meets its contract: by the texts, and by sign and count where they are equal. Assumes nothing.
use mathlib.Core.Path.{◌≡◌}
use Rattle.std.specs.Ordering.{ordering_then, is_le, nat_cmp}
use Rattle.std.proofs.Common.{rules}
use Rattle.changes.specs.Signs.{sign_number}
use Rattle.sort_slots.proofs.Compare.{slots_told}
use Rattle.sort_slots.proofs.comes_before.Goals as goal

pub returns : goal.returns
returns c =
    let x = c.args.x in
    let y = c.args.y in
    let signs : c.cmp.result ≡ nat_cmp (sign_number x.sign) (sign_number y.sign) = search rules in
    let same : c.is_le-same.result ≡ is_le (ordering_then (nat_cmp (sign_number x.sign) (sign_number y.sign)) (nat_cmp x.count y.count)) =
    cc (c.is_le-same.ensures, c.then.ensures, signs, c.cmp-2.ensures)
    in
    slots_told c.args.keys.now x y c.part-a.ensures c.part-b.ensures same c.texts_before.ensures
