-- The bytes that a spelled loss or adduct item gives to each section. Assumes nothing.
use Prim.Native.Nat.{ℕ, ◌<◌}
use mathlib.Core.Path.{◌≡◌, refl, ap, ◌∙◌}
use mathlib.Core.Bool.{Bool, false, cond}
use mathlib.Core.List.{List, [], ◌++◌, map, append-nil}
use native.Mathlib.Omega.{arith}
use lib.Dec.{eqb}
use borrow.Author.Tests.{eq-eqb, ne_eqb}
use Rattle.lang.specs.Parts.{items, flat}
use Rattle.rules.specs.Formulas.{unit_map}
use Rattle.rules.specs.Fields.{filled}
use Rattle.rules.specs.Stored.{stores, unit_record}
use Rattle.rules.specs.Layout.{unit_section, text_section}
use Rattle.read_changes.proofs.Spelled.{What, a_formula, a_name, an_electron, Spelled}
use Rattle.store_sections.specs.Pages.{bytes_of}
use Rattle.sort_changes.proofs.SlotHolds.{what_units, change_record, what_events, spelled_events}

abbrev pub what_name : What → List ℕ
what_name (a_formula x) = []
what_name (a_name n) = n.bytes
what_name an_electron = []

-- ---- of its units or its name

what_none : (i : ℕ) → eqb i unit_section ≡ false → eqb i text_section ≡ false → (w : What) → bytes_of i (what_events w) ≡ []
what_none i p q (a_formula x) = rw p
what_none i p q (a_name n) = rw q
what_none i p q an_electron = refl

what_units_lem : (w : What) → bytes_of unit_section (what_events w) ≡ flat (λ u. stores (unit_record u)) (map (unit_map filled) (what_units w))
what_units_lem (a_formula x) = append-nil (flat (λ u. stores (unit_record u)) (map (unit_map filled) (items x)))
what_units_lem (a_name n) = refl
what_units_lem an_electron = refl

what_name_lem : (w : What) → bytes_of text_section (what_events w) ≡ what_name w
what_name_lem (a_formula x) = refl
what_name_lem (a_name n) = append-nil n.bytes
what_name_lem an_electron = refl

-- ---- of the whole, whose record goes to section j

module _ {m : ℕ} (j : ℕ) (h : j < unit_section) (x : Spelled m) where
  -- a section that does not get the record
  apart : (i : ℕ) → eqb i j ≡ false → bytes_of i (spelled_events j x) ≡ bytes_of i (what_events x.what)
  apart i e = ap (λ (t : Bool). cond t (stores (change_record x)) [] ++ bytes_of i (what_events x.what)) e

  pub bytes_record : bytes_of j (spelled_events j x) ≡ stores (change_record x)
  bytes_record =
      let n = what_none j (ne_eqb j unit_section (λ z. omega arith)) (ne_eqb j text_section (λ z. omega arith)) x.what in
      ap (λ (t : Bool). cond t (stores (change_record x)) [] ++ bytes_of j (what_events x.what)) (eq-eqb j j refl)
      ∙ ap (λ (l : List ℕ). stores (change_record x) ++ l) n ∙ append-nil (stores (change_record x))

  pub bytes_units : bytes_of unit_section (spelled_events j x) ≡ flat (λ u. stores (unit_record u)) (map (unit_map filled) (what_units x.what))
  bytes_units = apart unit_section (ne_eqb unit_section j (λ z. omega arith)) ∙ what_units_lem x.what

  pub bytes_name : bytes_of text_section (spelled_events j x) ≡ what_name x.what
  bytes_name = apart text_section (ne_eqb text_section j (λ z. omega arith)) ∙ what_name_lem x.what

  pub bytes_other : (i : ℕ) → eqb i j ≡ false → eqb i unit_section ≡ false → eqb i text_section ≡ false → bytes_of i (spelled_events j x) ≡ []
  bytes_other i e p q = apart i e ∙ what_none i p q x.what
