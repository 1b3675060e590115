-- Two answers that meet a contract of this crate are equal. Assumes nothing.
use mathlib.Core.Path.{◌≡◌}
use mathlib.Core.List.{List}
use Prim.Native.Nat.{ℕ}
use Rattle.print_count.specs.declared.Respelled.{Respelled}
use Rattle.print_count.proofs.One.{respelled_one}
use Rattle.read_annotation.specs.declared.Parts.{Parts}
use Rattle.respell_annotation.specs.Annotations.{SpellsAnnotation}

pub spells_annotation_one : {s d e f : List ℕ} {p : Parts} {to : ℕ} {r q : Respelled}
    → SpellsAnnotation s p d to e r → SpellsAnnotation s p d to f q → (e ≡ f) × (r ≡ q)
spells_annotation_one a b = respelled_one a.len a.put b.len b.put
