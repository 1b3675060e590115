-- Two answers that meet a contract of this crate are equal. Assumes nothing.
use mathlib.Core.Path.{◌≡◌, sym, ◌∙◌}
use mathlib.Core.List.{List}
use Prim.Native.Nat.{ℕ}
use Rattle.rules.specs.Editions.{Edition}
use Rattle.store_sections.specs.declared.Cursors.{Cursors}
use Rattle.store_sections.proofs.One.{ran_one}
use Rattle.read_annotation.specs.declared.Parts.{Parts}
use Rattle.store_annotation.specs.declared.Added.{Added}
use Rattle.store_annotation.specs.declared.Stored.{Stored}
use Rattle.store_annotation.specs.Events.{StoresAdduct, StoresAnnotation}

pub stores_adduct_one : {s d e f : List ℕ} {c : Cursors} {r q : Added} → StoresAdduct s d c e r → StoresAdduct s d c f q → (e ≡ f) × (r ≡ q)
stores_adduct_one a b =
    let e = ran_one a.ran b.ran in
    let n = a.n ∙ sym b.n in
    (e.0, λ i. record { n = n i; cursors = e.1 i })

pub stores_annotation_one : {edition : Edition} {s d e f : List ℕ} {p : Parts} {c : Cursors} {r q : Stored}
    → StoresAnnotation edition s p d c e r → StoresAnnotation edition s p d c f q → (e ≡ f) × (r ≡ q)
stores_annotation_one a b =
    let e = ran_one a.ran b.ran in
    let len = a.len ∙ sym b.len in
    (e.0, λ i. record { len = len i; cursors = e.1 i })
