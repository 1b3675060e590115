-- `sort_slots::Slots::insert` meets its contract: the new slot is put behind those that are held, and moved to its place. Assumes nothing.
use mathlib.Core.Path.{sym, ap}
use native.Mathlib.Omega.{arith}
use Rattle.std.proofs.Common.{rules, tests}
use Rattle.std.proofs.lemmas.Iterator.{YieldsList-from_slice}
use Rattle.std.proofs.lemmas.Iterator.Search.{position_from_yields_List}
use lib.ListN.{length, length-take}
use Rattle.sort_slots.specs.Slots.{slot_le}
use Rattle.sort_slots.proofs.Inserted.{with_full, one_more, still_blank}
use Rattle.sort_slots.proofs.Slots.insert.Goals as goal

pub invariant_of-self : goal.invariant_of-self
invariant_of-self c = still_blank _ c.args.x c.self.invariant c.if-self-lt-MAX_LOSSES.true (search rules) c.last_first.ensures.len

pub returns-then-self-lt-MAX_LOSSES : goal.returns-then-self-lt-MAX_LOSSES
returns-then-self-lt-MAX_LOSSES c =
    let keys = c.args.keys.now in
    let x = c.args.x in
    one_more keys x c.self.inside.at c.self.view_is (omega arith) (omega arith)
    (position_from_yields_List (slot_le keys x) _ _ c.position.result c.position.ensures.ran (YieldsList-from_slice c.args.self.now cc) (λ y b q k. search (rules, tests)))
    c.unwrap_or-to.ensures c.last_first.ensures.after

pub returns-else-self-lt-MAX_LOSSES : goal.returns-else-self-lt-MAX_LOSSES
returns-else-self-lt-MAX_LOSSES c =
    let s = c.self.inside in
    sym (with_full c.args.keys.now c.args.self.now c.args.x (omega (arith, ap length c.self.view_is, length-take s.n s.at)))
