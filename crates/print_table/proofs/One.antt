-- Two answers that meet a contract of this crate are equal. Assumes nothing.
use Prim.Native.Nat.{ℕ}
use mathlib.Core.Path.{◌≡◌, sym, ◌∙◌}
use mathlib.Core.List.{List}
use Rattle.rules.specs.Editions.{Edition}
use Rattle.put_bytes.proofs.One.{put_one}
use Rattle.store_sections.specs.declared.Cursors.{Cursors}
use Rattle.print_parts.specs.declared.PrintedTo.{PrintedTo}
use Rattle.print_parts.proofs.One.{run_one}
use Rattle.print_table.specs.declared.Printed.{Printed}
use Rattle.print_table.specs.Annotations.{PrintsAdduct, PrintsAnnotation}

pub prints_adduct_one : {n : ℕ} {x u t d e f : List ℕ} {to : ℕ} {r q : PrintedTo} → PrintsAdduct n x u t d to e r → PrintsAdduct n x u t d to f q → (e ≡ f) × (r ≡ q)
prints_adduct_one a b = run_one a.put a.units a.text b.put b.units b.text

pub prints_annotation_one : {edition : Edition} {table d e f : List ℕ} {c : Cursors} {to : ℕ} {r q : Printed}
    → PrintsAnnotation edition table c d to e r → PrintsAnnotation edition table c d to f q → (e ≡ f) × (r ≡ q)
prints_annotation_one a b =
    let e = put_one a.put b.put in
    let cursors = a.cursors ∙ sym b.cursors in
    (e.0, λ i. record { to = e.1 i; cursors = cursors i })
