-- `print_table::print_table` meets its contract: in its loop the annotations left to print make the whole, by the edition that was read
-- before it. Assumes nothing.
use Rattle.print_table.specs.Tables.{annotations_printed, printed_in, printed_table}
use Rattle.print_table.specs.Parts.{stored_parts_at}
use Rattle.rules.specs.Limits.{max_annotations}
use Rattle.rules.specs.Layout.{annotation_pair_at}
use Rattle.layout.specs.declared.Edition.{Edition}
use Rattle.layout.specs.Editions.{edition_of}
use Rattle.print_parts.specs.Numbers.{number_at}
use Rattle.store_sections.specs.declared.Cursors.{Cursors}
use Rattle.store_sections.specs.Headers.{starts_of}
use Rattle.print_table.proofs.Steps.{line_begins, line_turn, line_ends}
use Prim.Native.Nat.{ℕ}
use mathlib.Core.Path.{ap, ap₂, ◌∙◌}
use native.Mathlib.Omega.{arith}
use Rattle.put_bytes.proofs.Putting.{put_as}
use Rattle.print_table.proofs.print_table.Goals as goal

pub loop-i-init : goal.loop-i-init
loop-i-init c = line_begins _ _ _ (omega arith) (omega arith)

pub loop-i-preserved : goal.loop-i-preserved
loop-i-preserved c =
    line_turn _ _ c.args.table.now c.loop-i.invariant c.loop-i-test.true c.put_comma-begin.ensures
    c.print_annotation-p.ensures

-- the edition, the number and the cursors that were read are those of the model
pub returns : goal.returns
unfolding printed_table
returns c =
    let table = c.args.table.now in
    let edition = edition_of c.edition_at-edition.result in
    put_as (line_ends _ _ _ _ c.loop-i.invariant c.loop-i-test.false)
    (ap₂ (λ (n : ℕ) (k : Cursors). annotations_printed edition 0 n (stored_parts_at table k))
    c.number_at-n.ensures (c.starts-c.ensures ∙ ap (starts_of edition) c.counts_at.ensures)
    ∙ ap (λ (e : Edition). printed_in (edition_of e) (number_at table annotation_pair_at max_annotations) table) c.edition_at-edition.ensures)
