-- `read_tail::read_deviation` meets its contract: no `/`, in ppm, or without it; each length fits. Assumes nothing.
use Prim.Native.Nat.{◌+◌}
use borrow.Author.Tests.{not-true, not-false}
use Rattle.rules.specs.Texts.{starts_with}
use Rattle.rules.specs.Bytes.{bytes}
use mathlib.Core.Path.{sym, ap, ◌∙◌}
use native.Mathlib.Omega.{arith}
use Rattle.numbers.specs.declared.FirstByte.TheVariants.{Digit}
use Rattle.read_tail.proofs.Devs.{in_ppm, in_units}
use Rattle.read_tail.proofs.Measures.{decimal_fits, size_small, ppm_fits}
use Rattle.read_tail.specs.Decimals.{deviation_of}
use Rattle.read_tail.proofs.read_deviation.Goals as goal

pub returns-then-not-begins_with : goal.returns-then-not-begins_with
unfolding deviation_of
returns-then-not-begins_with c = rw (sym c.begins_with.ensures ∙ not-true _ c.if-not-begins_with.true-raw) c.no_part.ensures

pub overflow_add-len : goal.overflow_add-len
overflow_add-len c =
    omega (
      arith,
      decimal_fits c.args.s.now c.digit_at-at.result c.rest-2.ensures Digit
          c.read_decimal-d.ensures,
      c.digit_at-at.ensures,
      size_small c.begins_with-minus.result,
    )

pub overflow_add-len-then-begins_ppm : goal.overflow_add-len-then-begins_ppm
overflow_add-len-then-begins_ppm c =
    omega (
      arith,
      ppm_fits c.args.s.now (c.digit_at-at.result + c.read_decimal-d.result.len)
          c.rest-3.ensures (sym c.begins_ppm.ensures ∙ c.if-begins_ppm.true),
    )

pub returns-then-begins_ppm : goal.returns-then-begins_ppm
returns-then-begins_ppm c =
    in_ppm c.args.s.now c.args.end c.args.f
    (sym c.begins_with.ensures ∙ not-false _ c.if-not-begins_with.false-raw)
    (c.begins_with-minus.ensures ∙ ap (starts_with (bytes "-")) c.rest.ensures) c.digit_at-at.ensures
    c.rest-2.ensures c.read_decimal-d.ensures c.rest-3.ensures c.minus_or_zero.ensures
    c.minus_or_zero-place.ensures (sym c.begins_ppm.ensures ∙ c.if-begins_ppm.true) c.made_part.ensures

pub returns : goal.returns
returns c =
    in_units c.args.s.now c.args.end c.args.f
    (sym c.begins_with.ensures ∙ not-false _ c.if-not-begins_with.false-raw)
    (c.begins_with-minus.ensures ∙ ap (starts_with (bytes "-")) c.rest.ensures) c.digit_at-at.ensures
    c.rest-2.ensures c.read_decimal-d.ensures c.rest-3.ensures c.minus_or_zero.ensures
    c.minus_or_zero-place.ensures (sym c.begins_ppm.ensures ∙ c.if-begins_ppm.false) c.made_part-2.ensures
