-- `io_hex::is_hex` meets its contract: an even number of bytes, of which each is a digit. Assumes nothing.
use Prim.Native.Nat.{ℕ}
use mathlib.Core.Path.{◌≡◌}
use mathlib.Core.Bool.{true, false}
use borrow.Author.Rules.{rules}
use borrow.Author.Tests.{tests}
use Rattle.std.specs.Prelude.{is_some}
use Rattle.std.proofs.lemmas.Iterator.{YieldsList-from_slice, cases_from_all}
use Rattle.io_hex.specs.Hexes.{hex_value}
use Rattle.io_hex.proofs.Pairs.{all_or_one, even_digits}
use Rattle.io_hex.proofs.is_hex.Goals as goal

pub returns-then-s-eq0 : goal.returns-then-s-eq0
returns-then-s-eq0 c =
    let s = c.args.s.now in
    let all = all_or_one s
    (cases_from_all _ _ _ (λ (b : ℕ). is_some (hex_value b) ≡ true) (λ (b : ℕ). is_some (hex_value b) ≡ false) c.all.ensures.ran
    (YieldsList-from_slice s cc) (λ x q k. search (rules, tests)) (λ x q k. search (rules, tests))) in
    even_digits s c.if-s-eq0.true all
