-- `io_hex::put_unhexed` meets its contract: the pairs that are left make the whole. Assumes nothing.
use mathlib.Core.Path.{ap, ◌∙◌}
use native.Mathlib.Omega.{arith}
use Rattle.std.specs.declared.slice.ChunksExact.{ChunksExact}
use Prim.Native.Nat.{ℕ}
use Rattle.io_hex.specs.Hexes.{unhexed}
use Rattle.io_hex.proofs.Pairs.{pair_more, pair_none}
use Rattle.put_bytes.proofs.PutLoop.{begin, more, ends}
use Rattle.io_hex.proofs.put_unhexed.Goals as goal

pub loop-pair-init : goal.loop-pair-init
loop-pair-init c =
    let same = c.into_iter-pair-iterator.ensures.into_iter_gives in
    let pairs = c.chunks_exact-pair-items.ensures in (
      ap (λ (p : ChunksExact ℕ). p.size) same ∙ pairs.size,
      begin (omega arith) (omega arith) (ap (λ (p : ChunksExact ℕ). unhexed p.rest.now) same ∙ ap unhexed pairs.rest),
    )

pub loop-pair-preserved : goal.loop-pair-preserved
loop-pair-preserved c =
    let step = c.in-Some.ensures.steps in
    let size = c.loop-pair.invariant.0 in
    (step.0 ∙ size, more c.loop-pair.invariant.1 c.put8-to.ensures (pair_more _ _ step.1.0 (step.1.1 ∙ size) c.byte_of.ensures))

pub returns : goal.returns
returns c =
    let size = c.loop-pair.invariant.0 in
    ends c.loop-pair.invariant.1 (pair_none _ (omega (arith, c.in-None.ensures.steps.1.0)))
