-- `numbers::decimal_from` meets its contract: whole part and fraction walked; then with places or without. Assumes nothing.
use native.Mathlib.Omega.{arith}
use Rattle.numbers.proofs.Points.{walked, found_whole, found_point, room, inside, capped_by}
use borrow.Author.Rules.{rules}
use Rattle.numbers.proofs.decimal_from.Goals as goal

pub slice_bounds-fraction_from-count : goal.slice_bounds-fraction_from-count
slice_bounds-fraction_from-count c = inside _ _ _ c.digits_from-whole.ensures

pub slice_bounds-fraction_from-start : goal.slice_bounds-fraction_from-start
slice_bounds-fraction_from-start c = inside _ _ _ c.digits_from-whole.ensures

pub fraction_from-all-requires : goal.fraction_from-all-requires
fraction_from-all-requires c = let h = capped_by _ _ _ c.digits_from-whole.ensures in omega arith

pub returns-then-places-eq0 : goal.returns-then-places-eq0
returns-then-places-eq0 c =
    let w = walked c.digits_from-whole.ensures c.fraction_from-all.ensures in
    found_whole w c.places_of.ensures c.new-made.ensures c.if-places-eq0.true

pub overflow_add-len : goal.overflow_add-len
overflow_add-len c =
    let w = walked c.digits_from-whole.ensures c.fraction_from-all.ensures in
    let r = room w c.if-places-eq0.false in search rules

pub overflow_add-len-else-places-eq0 : goal.overflow_add-len-else-places-eq0
overflow_add-len-else-places-eq0 c =
    let w = walked c.digits_from-whole.ensures c.fraction_from-all.ensures in
    let r = room w c.if-places-eq0.false in search rules

pub returns-else-places-eq0 : goal.returns-else-places-eq0
returns-else-places-eq0 c =
    let w = walked c.digits_from-whole.ensures c.fraction_from-all.ensures in
    found_point w c.places_of.ensures c.new-made.ensures c.if-places-eq0.false
