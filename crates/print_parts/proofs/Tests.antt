-- What is printed, as the tests of the code tell them apart. Assumes nothing.
use Prim.Native.Nat.{ℕ, suc, ◌-◌, ◌<◌, ◌≤◌}
use mathlib.Core.Path.{◌≡◌, refl, sym, ap, ap₂, ◌∙◌}
use mathlib.Core.Bool.{Bool, true, false, cond, not}
use mathlib.Core.List.{List, [], ◌++◌, append_assoc, append-nil}
use native.Mathlib.Omega.{arith}
use lib.ListN.{get_or, drop, take}
use borrow.Author.Tests.{eq-eqb, ne_eqb, le-leb, lt-leb, le-ltb, not-true, not-false, eqb-true}
use lib.Dec.{eqb, ltb}
use lib.IntN.{ℤ, pos, negsuc}
use mir.Val.{sel}
use Rattle.std.specs.Int.{w64, cast_signed, cast_unsigned}
use Rattle.std.proofs.lemmas.Int.{of_z-to_z}
use Rattle.std.specs.Int.RustNames.{unsigned_abs, int_lt}
use Rattle.lang.proofs.Tests.{not_t}
use Rattle.rules.specs.Bytes.{bytes}
use Rattle.rules.specs.Numbers.{digits}
use Rattle.rules.specs.Texts.{in_brackets}
use Rattle.rules.specs.Limits.{max_units, max_text}
use Rattle.rules.specs.Decimals.{decimal_text}
use Rattle.rules.specs.Layout.{charge_at, deviation_kind_at, deviation_places_at, confidence_present_at, confidence_places_at, deviation_at, confidence_at, sign_at, content_kind_at, count_at, content_size_at, isotope_kind_at, isotope_nucleons_at, isotope_element_at}
use Rattle.slices.specs.Numbers.{u16_at}
use Rattle.put_formula.specs.Preferred.{symbol_text, printed_units}
use Rattle.changes.specs.declared.Sign.{Sign}
use Rattle.changes.specs.declared.Content.{Content}
use Rattle.changes.specs.declared.Content.TheVariants.{Formula, Name, Electron}
use Rattle.changes.specs.Contents.{content_units, content_bytes}
use Rattle.changes.specs.Signs.{sign_of_byte}
use Rattle.print_count.specs.Heads.{sign_bytes, count_text, head_text}
use Rattle.slices.specs.Numbers.{u32_at, u64_at}
use Rattle.print_parts.specs.Numbers.{number_at}
use Rattle.print_parts.specs.Changes.{content_at, change_units, change_name, content_printed, change_printed}
use Rattle.print_parts.specs.Isotopes.{which_printed, isotope_printed}
use Rattle.print_parts.specs.Tails.{charge_printed, signed_size, signed_printed, deviation_printed, confidence_printed}

-- ---- losses and adduct items

module _ (l : List ℕ) {kind : ℕ} (is : kind ≡ get_or l content_kind_at 0) where
  pub content_formula : {n : ℕ} → kind ≡ 0 → n ≡ number_at l content_size_at max_units → Formula n ≡ content_at l
  unfolding content_at
  content_formula h q = rw (eq-eqb (get_or l content_kind_at 0) 0 (sym is ∙ h)) (ap Formula q)

  pub content_name : {n : ℕ} → kind ≡ 1 → n ≡ number_at l content_size_at max_text → Name n ≡ content_at l
  unfolding content_at
  content_name h q =
      let g : (get_or l content_kind_at 0 ≡ 0 → ⊥) = λ z. omega (arith, z, is, h) in
      rw (ne_eqb (get_or l content_kind_at 0) 0 g, eq-eqb (get_or l content_kind_at 0) 1 (sym is ∙ h)) (ap Name q)

  pub content_electron : (kind ≡ 0 → ⊥) → (kind ≡ 1 → ⊥) → Electron ≡ content_at l
  unfolding content_at
  content_electron g h = rw (ne_eqb (get_or l content_kind_at 0) 0 (λ z. g (is ∙ z)), ne_eqb (get_or l content_kind_at 0) 1 (λ z. h (is ∙ z)))

-- what is put of a content
abbrev pub text_of : Content → List ℕ → List ℕ → List ℕ
text_of (Formula n) u t = printed_units n u
text_of (Name n) u t = in_brackets (take n t)
text_of Electron u t = bytes "e"

module _ (l : List ℕ) where
  pub units_told : content_units (content_at l) ≡ change_units l
  unfolding content_at change_units
  units_told = by (eqb (get_or l content_kind_at 0) 0) (eqb (get_or l content_kind_at 0) 1) (number_at l content_size_at max_units) (number_at l content_size_at max_text)
    where
      by : (b c : Bool) (m n : ℕ) → content_units (cond {A = Content} b (Formula m) (cond {A = Content} c (Name n) Electron)) ≡ cond b m 0
      by true c m n = refl
      by false true m n = refl
      by false false m n = refl

  -- the kind of a name is no other
  name_alone : eqb (get_or l content_kind_at 0) 0 ≡ true → eqb (get_or l content_kind_at 0) 1 ≡ false
  name_alone e = let z = eqb-true (get_or l content_kind_at 0) 0 e in ne_eqb (get_or l content_kind_at 0) 1 (λ h. omega (arith, z, h))

  pub name_told : content_bytes (content_at l) ≡ change_name l
  unfolding content_at change_name
  name_told = by (eqb (get_or l content_kind_at 0) 0) (eqb (get_or l content_kind_at 0) 1) (number_at l content_size_at max_units) (number_at l content_size_at max_text) name_alone
    where
      by : (b c : Bool) (m n : ℕ) → (b ≡ true → c ≡ false) → content_bytes (cond {A = Content} b (Formula m) (cond {A = Content} c (Name n) Electron)) ≡ cond c n 0
      by true true m n h = absurd (not_t (h refl) tt)
      by true false m n h = refl
      by false true m n h = refl
      by false false m n h = refl

  text_told : (u t : List ℕ) → text_of (content_at l) u t ≡ content_printed l u t
  unfolding content_at content_printed change_units change_name
  text_told u t = by (eqb (get_or l content_kind_at 0) 0) (eqb (get_or l content_kind_at 0) 1) (number_at l content_size_at max_units) (number_at l content_size_at max_text)
    where
      by : (b c : Bool) (m n : ℕ) → text_of (cond {A = Content} b (Formula m) (cond {A = Content} c (Name n) Electron)) u t
          ≡ cond b (printed_units (cond b m 0) u) (cond c (in_brackets (take (cond c n 0) t)) (bytes "e"))
      by true c m n = refl
      by false true m n = refl
      by false false m n = refl

  pub content_told : {k x : Content} (u t : List ℕ) → k ≡ content_at l → k ≡ x → text_of x u t ≡ content_printed l u t
  content_told u t e q = ap (λ (z : Content). text_of z u t) (sym q ∙ e) ∙ text_told u t

-- sign and count, of a loss, an item or an isotope
module _ (s : List ℕ) {t : List ℕ} {byte count : ℕ} {sign : Sign} (a : byte ≡ get_or s sign_at 0) (g : sign ≡ sign_of_byte byte) (e : t ≡ drop count_at s) (b : count ≡ u16_at t) where
  opening : (w : List ℕ) → head_text sign count ++ w ≡ sign_bytes (sign_of_byte (get_or s sign_at 0)) ++ (count_text (u16_at (drop count_at s)) ++ w)
  opening w = append_assoc (sign_bytes sign) (count_text count) w ∙ ap₂ (λ (x : Sign) (y : ℕ). sign_bytes x ++ (count_text y ++ w)) (g ∙ ap sign_of_byte a) (b ∙ ap u16_at e)

  pub change_made : (u t : List ℕ) → head_text sign count ++ content_printed s u t ≡ change_printed s u t
  unfolding change_printed
  change_made u t = opening (content_printed s u t)

  pub isotope_made : head_text sign count ++ (bytes "i" ++ which_printed s) ≡ isotope_printed s
  unfolding isotope_printed
  isotope_made = opening (bytes "i" ++ which_printed s)

-- ---- isotopes

module _ (s : List ℕ) {kind : ℕ} (is : kind ≡ get_or s isotope_kind_at 0) where
  pub which_plain : kind ≡ 0 → [] ≡ which_printed s
  unfolding which_printed
  which_plain h = rw (eq-eqb (get_or s isotope_kind_at 0) 0 (sym is ∙ h))

  pub which_average : (kind ≡ 0 → ⊥) → kind ≡ 1 → bytes "A" ≡ which_printed s
  unfolding which_printed
  which_average g h = rw (ne_eqb (get_or s isotope_kind_at 0) 0 (λ z. g (is ∙ z)), eq-eqb (get_or s isotope_kind_at 0) 1 (sym is ∙ h))

  pub which_specific : {t r : List ℕ} {a b : ℕ} → (kind ≡ 0 → ⊥) → (kind ≡ 1 → ⊥) → t ≡ drop isotope_nucleons_at s → a ≡ u16_at t → r ≡ drop isotope_element_at s → b ≡ u16_at r
      → digits a ++ symbol_text b ≡ which_printed s
  unfolding which_printed
  which_specific g h e p f q =
      rw (ne_eqb (get_or s isotope_kind_at 0) 0 (λ z. g (is ∙ z)), ne_eqb (get_or s isotope_kind_at 0) 1 (λ z. h (is ∙ z)))
      (ap₂ (λ (m n : ℕ). digits m ++ symbol_text n) (p ∙ ap u16_at e) (q ∙ ap u16_at f))

-- ---- charge, deviation, confidence

module _ (s : List ℕ) where
  pub charge_one : {n : ℕ} → n ≡ get_or s charge_at 0 → n ≤ 1 → [] ≡ charge_printed s
  unfolding charge_printed
  charge_one e h = rw (le-leb (get_or s charge_at 0) 1 (omega arith))

  pub charge_more : {n : ℕ} → n ≡ get_or s charge_at 0 → 1 < n → bytes "^" ++ digits n ≡ charge_printed s
  unfolding charge_printed
  charge_more e h = rw (lt-leb (get_or s charge_at 0) 1 (omega arith)) (ap (λ (m : ℕ). bytes "^" ++ digits m) e)

-- a number in two's complement, as its highest bit tells: its size and its sign
size_told : (v : ℕ) → v ≤ 18446744073709551615 → unsigned_abs (cast_signed w64 v) ≡ signed_size v
size_told v h = by (ltb v 9223372036854775808)
  where
    by : (b : Bool) → unsigned_abs (sel b (pos v) (negsuc (18446744073709551616 - suc v))) ≡ cond b v (18446744073709551616 - v)
    by true = refl
    by false = omega arith

minus_told : (v : ℕ) → int_lt (cast_signed w64 v) (pos 0) ≡ not (ltb v 9223372036854775808)
minus_told v = by (ltb v 9223372036854775808)
  where
    by : (b : Bool) → int_lt (sel b (pos v) (negsuc (18446744073709551616 - suc v))) (pos 0) ≡ not b
    by true = le-ltb v 0 (omega arith)
    by false = refl

-- z is the number, size its size
module _ (v places : ℕ) (small : v ≤ 18446744073709551615) {z : ℤ} {size : ℕ} (e : z ≡ cast_signed w64 v)
    (is : size ≡ unsigned_abs (cast_signed w64 (cast_unsigned w64 z))) where
  again : cast_signed w64 (cast_unsigned w64 z) ≡ cast_signed w64 v
  again = ap (λ (y : ℤ). cast_signed w64 (cast_unsigned w64 y)) e ∙ ap (cast_signed w64) (of_z-to_z w64 v (omega arith))

  sized : size ≡ signed_size v
  sized = is ∙ ap unsigned_abs again ∙ size_told v small

  below : {t : Bool} → int_lt (cast_signed w64 (cast_unsigned w64 z)) (pos 0) ≡ t → not (ltb v 9223372036854775808) ≡ t
  below h = sym (minus_told v) ∙ ap (λ (y : ℤ). int_lt y (pos 0)) (sym again) ∙ h

  text : Bool → ℕ → List ℕ
  text b n = cond b [] (bytes "-") ++ decimal_text (record { value = n; places = places })

  pub signed_plus : int_lt (cast_signed w64 (cast_unsigned w64 z)) (pos 0) ≡ false → decimal_text (record { value = size; places = places }) ≡ signed_printed v places
  unfolding signed_printed text
  signed_plus h = ap₂ text (sym (not-false _ (below h))) sized

  pub signed_minus : int_lt (cast_signed w64 (cast_unsigned w64 z)) (pos 0) ≡ true → bytes "-" ++ decimal_text (record { value = size; places = places }) ≡ signed_printed v places
  unfolding signed_printed text
  signed_minus h = ap₂ text (sym (not-true _ (below h))) sized

module _ (s : List ℕ) {kind : ℕ} (is : kind ≡ get_or s deviation_kind_at 0) where
  pub deviation_none : kind ≡ 0 → [] ≡ deviation_printed s
  unfolding deviation_printed
  deviation_none h = rw (eq-eqb (get_or s deviation_kind_at 0) 0 (sym is ∙ h))

  pub deviation_plain : {t : List ℕ} {v p : ℕ} → (kind ≡ 0 → ⊥) → kind ≡ 1 → t ≡ drop deviation_at s → v ≡ u64_at t → p ≡ get_or s deviation_places_at 0
      → bytes "/" ++ signed_printed v p ≡ deviation_printed s
  unfolding deviation_printed
  deviation_plain {t} {v} {p} g h e q f =
      rw (ne_eqb (get_or s deviation_kind_at 0) 0 (λ z. g (is ∙ z)), eq-eqb (get_or s deviation_kind_at 0) 1 (sym is ∙ h))
      (ap₂ (λ (m n : ℕ). bytes "/" ++ signed_printed m n) (q ∙ ap u64_at e) f
      ∙ ap (λ (w : List ℕ). bytes "/" ++ w) (sym (append-nil (signed_printed (u64_at (drop deviation_at s)) (get_or s deviation_places_at 0)))))

  pub deviation_ppm : {t : List ℕ} {v p : ℕ} → (kind ≡ 0 → ⊥) → (kind ≡ 1 → ⊥) → t ≡ drop deviation_at s → v ≡ u64_at t → p ≡ get_or s deviation_places_at 0
      → bytes "/" ++ (signed_printed v p ++ bytes "ppm") ≡ deviation_printed s
  unfolding deviation_printed
  deviation_ppm g h e q f =
      rw (ne_eqb (get_or s deviation_kind_at 0) 0 (λ z. g (is ∙ z)), ne_eqb (get_or s deviation_kind_at 0) 1 (λ z. h (is ∙ z)))
      (ap₂ (λ (m n : ℕ). bytes "/" ++ (signed_printed m n ++ bytes "ppm")) (q ∙ ap u64_at e) f)

module _ (s : List ℕ) {kind : ℕ} (is : kind ≡ get_or s confidence_present_at 0) where
  pub confidence_none : kind ≡ 0 → [] ≡ confidence_printed s
  unfolding confidence_printed
  confidence_none h = rw (eq-eqb (get_or s confidence_present_at 0) 0 (sym is ∙ h))

  pub confidence_some : {t : List ℕ} {v p : ℕ} → (kind ≡ 0 → ⊥) → t ≡ drop confidence_at s → v ≡ u32_at t → p ≡ get_or s confidence_places_at 0
      → bytes "*" ++ decimal_text (record { value = v; places = p }) ≡ confidence_printed s
  unfolding confidence_printed
  confidence_some g e q f =
      rw (ne_eqb (get_or s confidence_present_at 0) 0 (λ z. g (is ∙ z)))
      (ap₂ (λ (m n : ℕ). bytes "*" ++ decimal_text (record { value = m; places = n })) (q ∙ ap u32_at e) f)
