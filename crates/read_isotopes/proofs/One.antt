-- Two answers that meet a contract of this crate are equal. Assumes nothing.
use Prim.Native.Nat.{ℕ}
use mathlib.Core.Path.{◌≡◌, sym, ◌∙◌}
use mathlib.Core.List.{List}
use Rattle.put_bytes.proofs.One.{put_one}
use Rattle.print_count.specs.declared.Respelled.{Respelled}
use Rattle.print_count.proofs.One.{respelled_one}
use Rattle.read_isotopes.specs.declared.IsotopesStored.{IsotopesStored}
use Rattle.read_isotopes.specs.Records.{StoresIsotopes}
use Rattle.read_isotopes.specs.Spelled.{SpellsIsotopes}

pub stores_isotopes_one : {s d e f : List ℕ} {to : ℕ} {r q : IsotopesStored} → StoresIsotopes s d to e r → StoresIsotopes s d to f q → (e ≡ f) × (r ≡ q)
stores_isotopes_one a b =
    let e = put_one a.put b.put in
    let n = a.n ∙ sym b.n in
    let len = a.len ∙ sym b.len in
    (e.0, λ i. record { n = n i; len = len i; next = e.1 i })

pub spells_isotopes_one : {s d e f : List ℕ} {to : ℕ} {r q : Respelled} → SpellsIsotopes s d to e r → SpellsIsotopes s d to f q → (e ≡ f) × (r ≡ q)
spells_isotopes_one a b = respelled_one a.len a.put b.len b.put
