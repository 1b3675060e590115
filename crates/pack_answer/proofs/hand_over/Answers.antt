-- `pack_answer::hand_over` meets its contract: by the length of the answer's buffer. Assumes nothing.
use mathlib.Core.Path.{ap, ◌∙◌}
use Prim.Native.Nat.{ℕ}
use lib.ListN.{length}
use Rattle.answers.specs.Delivered.{answered}
use Rattle.pack_answer.specs.Handed.{short}
use Rattle.pack_answer.proofs.Packs.{few_handed, all_handed}
use Rattle.pack_answer.proofs.hand_over.Goals as goal

pub returns-then-packed-lt-PACKED_SIZE : goal.returns-then-packed-lt-PACKED_SIZE
returns-then-packed-lt-PACKED_SIZE c = few_handed (answered c.args.a c.args.out.now) _ _ c.if-packed-lt-PACKED_SIZE.true c.clear.ensures c.clear-then-packed-lt-PACKED_SIZE.ensures

pub returns : goal.returns
returns c =
    all_handed (answered c.args.a c.args.out.now) (length c.args.out.now) c.if-packed-lt-PACKED_SIZE.false (c.short-number.ensures ∙ ap (λ (t : ℕ × ℕ × ℕ). short t.0) c.numbers-number.ensures)
    (c.short.ensures ∙ ap (λ (t : ℕ × ℕ × ℕ). short t.1) c.numbers-number.ensures) (c.short-2.ensures ∙ ap (λ (t : ℕ × ℕ × ℕ). short t.2) c.numbers-number.ensures) c.pack-end.ensures c.clear_from.ensures
