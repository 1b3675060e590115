-- `print_ion::put_series` meets its contract: each of the 13 names by its arm, and nothing for any other. Assumes nothing.
use Rattle.print_ion.proofs.TextParts.{arm_is, series_none}
use Rattle.print_ion.specs.Texts.{series_printed}
use Rattle.std.proofs.Common.{Bor}
use Prim.Native.Nat.{ℕ}
use mathlib.Core.List.{List}
use mathlib.Core.Path.{ap, ◌∙◌}
use native.Mathlib.Omega.{arith}
use Rattle.put_bytes.proofs.Putting.{put_as}
use Rattle.print_ion.proofs.put_series.Goals.{in-1, in-2, in-3, in-4, in-5, in-6, in-7, in-8, in-9, in-10, in-11, in-12, in-13, in_default}
use Rattle.print_ion.proofs.put_series.Goals as goal

pub returns : goal.returns
unfolding series_printed
returns c =
    let text : Bor (List ℕ) → List ℕ = λ x. x.now in
    put_as c.put_run.ensures (elim c.match-letter.branch [
      | in-1 w ↦ ap text w.name-is ∙ arm_is series_printed 1 w.in-1.is
      | in-2 w ↦ ap text w.name-is ∙ arm_is series_printed 2 w.in-2.is
      | in-3 w ↦ ap text w.name-is ∙ arm_is series_printed 3 w.in-3.is
      | in-4 w ↦ ap text w.name-is ∙ arm_is series_printed 4 w.in-4.is
      | in-5 w ↦ ap text w.name-is ∙ arm_is series_printed 5 w.in-5.is
      | in-6 w ↦ ap text w.name-is ∙ arm_is series_printed 6 w.in-6.is
      | in-7 w ↦ ap text w.name-is ∙ arm_is series_printed 7 w.in-7.is
      | in-8 w ↦ ap text w.name-is ∙ arm_is series_printed 8 w.in-8.is
      | in-9 w ↦ ap text w.name-is ∙ arm_is series_printed 9 w.in-9.is
      | in-10 w ↦ ap text w.name-is ∙ arm_is series_printed 10 w.in-10.is
      | in-11 w ↦ ap text w.name-is ∙ arm_is series_printed 11 w.in-11.is
      | in-12 w ↦ ap text w.name-is ∙ arm_is series_printed 12 w.in-12.is
      | in-13 w ↦ ap text w.name-is ∙ arm_is series_printed 13 w.in-13.is
      | in_default w ↦ ap text w.name-is ∙ series_none _ (λ a b. omega (arith, a, b, w.in_default))
    ])
