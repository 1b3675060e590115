-- `read_ion::read_cut` meets its contract: no letters, or two; a place is one of three, so nothing is past a byte. Assumes nothing.
use mathlib.Core.Path.{sym, ap, ◌∙◌}
use native.Mathlib.Omega.{arith}
use Rattle.std.specs.Option.{unwrap_or}
use Rattle.read_ion.proofs.Cuts.{place_small, place_few, cut_nothing, cut_letters}
use Rattle.read_ion.proofs.read_cut.Goals as goal

pub overflow_sub-a : goal.overflow_sub-a
overflow_sub-a c = (place_small c.byte_of-2.result 120 _ (sym c.place_in-2.ensures ∙ c.in-Some.is)).0

pub overflow_mul-a : goal.overflow_mul-a
overflow_mul-a c = omega (arith, (place_small c.byte_of-2.result 120 _ (sym c.place_in-2.ensures ∙ c.in-Some.is)).1)

pub overflow_add-a : goal.overflow_add-a
overflow_add-a c =
    omega (
      arith,
      (place_small c.byte_of-2.result 120 _ (sym c.place_in-2.ensures ∙ c.in-Some.is)).1,
      c.unwrap_or-b.ensures ∙ ap (λ o. unwrap_or o 0) c.place_in.ensures,
      place_few c.byte_of.result 97,
    )

pub returns-in-Some : goal.returns-in-Some
returns-in-Some c = cut_letters c.args.s.now c.byte_of-2.ensures c.place_in-2.ensures c.byte_of.ensures c.place_in.ensures c.unwrap_or-b.ensures c.in-Some.is c.held_of.ensures

pub returns-in-None : goal.returns-in-None
returns-in-None c = cut_nothing c.args.s.now c.byte_of-2.ensures c.place_in-2.ensures c.in-None.is
