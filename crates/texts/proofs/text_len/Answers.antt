-- `texts::text_len` meets its contract: the first byte that is of no text, or the end. Assumes nothing.
use Prim.Native.Nat.{ℕ}
use mathlib.Core.Path.{◌≡◌, refl, sym, ◌∙◌}
use mathlib.Core.Bool.{true, false}
use borrow.Author.Rules.{rules}
use borrow.Author.Tests.{tests}
use Rattle.std.proofs.lemmas.Iterator.{YieldsList-from_slice, IsFirst-from_position, index_from_first}
use Rattle.lang.specs.Re.{in_c}
use Rattle.rules.specs.Bytes.{text_byte}
use Rattle.texts.specs.Leading.{leading_in}
use Rattle.texts.proofs.LeadingLoop.{stops, goes}
use Rattle.texts.proofs.text_len.Goals as goal

pub returns : goal.returns
unfolding leading_in
returns c =
    let No : ℕ → Type 0 = λ b. in_c text_byte b ≡ true in
    let Yes : ℕ → Type 0 = λ b. in_c text_byte b ≡ false in
    let s = c.args.s.now in
    let first = IsFirst-from_position _ _ _ Yes No c.position.ensures.ran (YieldsList-from_slice s cc) (λ x q k. search (rules, tests)) (λ x q k. search (rules, tests)) in
    c.unwrap_or.ensures ∙ sym (index_from_first (leading_in text_byte) Yes No refl (stops text_byte) (goes text_byte) s c.position.result first)
