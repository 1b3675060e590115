-- `print_table::print_annotation` meets its contract: the puts in a row, and each cursor behind its part. Assumes nothing.
use Rattle.print_table.proofs.Cursors.{few_units}
use Rattle.print_table.proofs.Steps.{annotation_printed_lem}
use native.Mathlib.Omega.{arith}
use Rattle.put_bytes.proofs.Putting.{put_then, put_length}
use Rattle.print_table.proofs.print_annotation.Goals as goal

pub overflow_mul-ion_units : goal.overflow_mul-ion_units
overflow_mul-ion_units c = omega (arith, c.ion_units.ensures, few_units c.rest-s.result.now)

pub overflow_mul-losses : goal.overflow_mul-losses
overflow_mul-losses c = omega (arith, c.row_of-losses.ensures)

pub overflow_mul-isotopes : goal.overflow_mul-isotopes
overflow_mul-isotopes c = omega (arith, c.row_of-isotopes.ensures)

pub overflow_mul-items : goal.overflow_mul-items
overflow_mul-items c = omega (arith, c.row_of-items.ensures)

pub shape_of-out : goal.shape_of-out
shape_of-out c =
    put_length (put_then c.print_front-a.ensures (put_then c.print_changes-l.ensures.put
    (put_then c.print_isotopes-b.ensures (put_then c.print_adduct-x.ensures.put c.print_tail-end.ensures))))

pub returns : goal.returns
returns c =
    annotation_printed_lem _ c.args.table.now c.args.c
    c.rest-s.ensures c.row_of-losses.ensures c.row_of-isotopes.ensures c.row_of-items.ensures
    c.rest.ensures c.rest-2.ensures c.print_front-a.ensures
    c.ion_units.ensures c.advance-u.ensures c.ion_bytes.ensures c.advance-t.ensures
    c.rest-3.ensures c.rest-4.ensures c.rest-5.ensures c.print_changes-l.ensures
    c.advance-v.ensures c.advance-w.ensures
    c.rest-6.ensures c.print_isotopes-b.ensures
    c.rest-7.ensures c.rest-8.ensures c.rest-9.ensures c.print_adduct-x.ensures
    c.print_tail-end.ensures
    c.annotation_size-size.ensures c.advance.ensures c.advance-2.ensures c.advance-3.ensures c.advance-4.ensures
    c.advance-5.ensures c.advance-6.ensures
