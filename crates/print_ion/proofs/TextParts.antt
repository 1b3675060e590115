-- The changes of an ion's text. Assumes nothing.
use Prim.Native.Nat.{ℕ, zero, suc, ◌<◌, ◌≤◌}
use mathlib.Core.Path.{◌≡◌, refl, sym, ap, ap₂, ◌∙◌}
use mathlib.Core.Bool.{Bool, true, false, cond}
use mathlib.Core.List.{List, [], ◌∷◌, ◌++◌, map}
use native.Mathlib.Omega.{arith}
use native.Mathlib.Decide.{dec_le}
use lib.Dec.{eqb}
use lib.ListN.{length, get_or, take, drop, get_or-eq_default}
use borrow.Author.Tests.{eq-eqb, ne_eqb, eqb-false}
use Rattle.rules.specs.Bytes.{bytes}
use Rattle.rules.specs.Numbers.{digits}
use Rattle.rules.specs.Ions.{series_names, cleavage_names}
use Rattle.rules.specs.Layout.{marked_at, analyte_present_at, analyte_at, position_at, kind_at}
use Rattle.slices.specs.Numbers.{u16_at}
use Rattle.print_ion.specs.Texts.{series_printed, letters_printed, enclosed_printed, ion_bytes}
use Rattle.print_ion.specs.Ions.{label_printed, kind_printed, ion_printed}
use Rattle.print_ion.specs.Fronts.{flag_printed, analyte_printed}

-- ---- series

-- what an arm puts, by its number
pub arm_is : (printed : ℕ → List ℕ) {n : ℕ} (k : ℕ) → n ≡ k → printed k ≡ printed n
arm_is printed k e = ap printed (sym e)

-- names are numbered from 1
none_named : (names : List (List ℕ)) (n : ℕ) → (1 ≤ n → n ≤ length names → ⊥) → [] ≡ get_or ([] ∷ names) n []
none_named names zero h = refl
none_named names (suc n) h = by (dec_le (suc n) (length names))
  where
    by : Dec (suc n ≤ length names) → [] ≡ get_or ([] ∷ names) (suc n) []
    by (yes g) = absurd (h (omega arith) g)
    by (no g) = sym (get_or-eq_default ([] ∷ names) [] {n = suc n} (omega arith))

pub series_none : (n : ℕ) → (1 ≤ n → n ≤ 13 → ⊥) → [] ≡ series_printed n
unfolding series_printed
series_none n h = none_named (map bytes series_names) n h

-- the name of yb, which is 5, is left out
pub letters_none : (n : ℕ) → (1 ≤ n → n ≤ 9 → n ≡ 5) → [] ≡ letters_printed n
unfolding letters_printed
letters_none n h = by (eqb n 5) refl
  where
    by : (t : Bool) → eqb n 5 ≡ t → [] ≡ cond t [] (get_or ([] ∷ map bytes cleavage_names) n [])
    by true e = refl
    by false e = none_named (map bytes cleavage_names) n (λ a b. eqb-false n 5 e (h a b))

-- ---- texts and names

module _ (first last : ℕ) where
  pub enclosed_none : (w : List ℕ) → length w < 1 → [] ≡ enclosed_printed first w last
  enclosed_none [] h = refl
  enclosed_none (b ∷ w) h = absurd (omega arith)

  pub enclosed_some : (w : List ℕ) → 1 ≤ length w → first ∷ (w ++ (last ∷ [])) ≡ enclosed_printed first w last
  enclosed_some [] h = absurd (omega arith)
  enclosed_some (b ∷ w) h = refl

-- ---- labels, flags, analytes

module _ (s : List ℕ) {n : ℕ} where
  pub label_none : n ≡ u16_at (drop position_at s) → n ≡ 0 → bytes "?" ≡ label_printed s
  unfolding label_printed
  label_none e z = rw (← e, eq-eqb n 0 z)

  pub label_some : n ≡ u16_at (drop position_at s) → (n ≡ 0 → ⊥) → bytes "?" ++ digits n ≡ label_printed s
  unfolding label_printed
  label_some e z = rw (← e, ne_eqb n 0 z)

  pub flag_none : n ≡ get_or s marked_at 0 → n ≡ 0 → [] ≡ flag_printed s
  unfolding flag_printed
  flag_none e z = rw (← e, eq-eqb n 0 z)

  pub flag_some : n ≡ get_or s marked_at 0 → (n ≡ 0 → ⊥) → bytes "&" ≡ flag_printed s
  unfolding flag_printed
  flag_some e z = rw (← e, ne_eqb n 0 z)

  pub analyte_none : n ≡ get_or s analyte_present_at 0 → n ≡ 0 → [] ≡ analyte_printed s
  unfolding analyte_printed
  analyte_none e z = rw (← e, eq-eqb n 0 z)

  pub analyte_some : n ≡ get_or s analyte_present_at 0 → (n ≡ 0 → ⊥) → {m : ℕ} → m ≡ u16_at (drop analyte_at s) → digits m ++ bytes "@" ≡ analyte_printed s
  unfolding analyte_printed
  analyte_some e z q = rw (← e, ne_eqb n 0 z, ← q)

-- ---- ions, by the kind k, with the text w

other : (k n : ℕ) → (1 ≤ k → k ≤ 9 → ⊥) → 1 ≤ n → n ≤ 9 → eqb k n ≡ false
other k n h a b = ne_eqb k n (λ e. h (omega arith) (omega arith))

no_kind : (s u w : List ℕ) (k : ℕ) → (1 ≤ k → k ≤ 9 → ⊥) → [] ≡ kind_printed k s u w
unfolding kind_printed
no_kind s u w k h =
    rw (
      other k 1 h (omega arith) (omega arith),
      other k 2 h (omega arith) (omega arith),
      other k 3 h (omega arith) (omega arith),
      other k 4 h (omega arith) (omega arith),
      other k 5 h (omega arith) (omega arith),
      other k 6 h (omega arith) (omega arith),
      other k 7 h (omega arith) (omega arith),
      other k 8 h (omega arith) (omega arith),
      other k 9 h (omega arith) (omega arith),
    )

module _ (s u t : List ℕ) {k : ℕ} {w : List ℕ} (is : k ≡ get_or s kind_at 0) (text : w ≡ take (ion_bytes s) t) where
  pub kind_is : (n : ℕ) → k ≡ n → kind_printed n s u w ≡ ion_printed s u t
  kind_is n e = ap₂ (λ (j : ℕ) (v : List ℕ). kind_printed j s u v) (sym e ∙ is) text

  pub kind_none : (1 ≤ k → k ≤ 9 → ⊥) → [] ≡ ion_printed s u t
  kind_none h = no_kind s u w k h ∙ kind_is k refl
