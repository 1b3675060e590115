-- `io_parts::line_end` meets its contract: the first line feed, or the end. Assumes nothing.
use Prim.Native.Nat.{ℕ}
use mathlib.Core.Path.{◌≡◌, refl, sym, ◌∙◌}
use native.Mathlib.Omega.{arith}
use borrow.Author.Rules.{rules}
use borrow.Author.Tests.{tests}
use Rattle.std.proofs.lemmas.Iterator.{YieldsList-from_slice, IsFirst-from_position, index_from_first}
use Rattle.io_parts.specs.Feeds.{before_feed}
use Rattle.io_parts.proofs.ToLineFeed.{found, goes, inside}
use Rattle.io_parts.proofs.line_end.Goals as goal

pub returns : goal.returns
unfolding before_feed
returns c =
    let No : ℕ → Type 0 = λ b. b ≡ 10 → ⊥ in
    let Yes : ℕ → Type 0 = λ b. b ≡ 10 in
    let s = c.args.bytes.now in
    let first = IsFirst-from_position _ _ _ Yes No c.position.ensures.ran (YieldsList-from_slice s cc) (λ x q k. search (rules, tests)) (λ x q k. search (rules, tests)) in
    let is = c.unwrap_or.ensures ∙ sym (index_from_first before_feed Yes No refl found goes s c.position.result first) in
    record { is = is; inside = omega (arith, is, inside s) }
