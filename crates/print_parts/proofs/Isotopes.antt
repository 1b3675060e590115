-- What is printed of isotopes that are stored. Assumes nothing.
use Prim.Native.Nat.{ℕ, ◌≤◌}
use mathlib.Core.Path.{◌≡◌, refl, sym, ap, ap₂, ◌∙◌}
use mathlib.Core.List.{List, [], ◌++◌, append_assoc, append-nil, map}
use native.Mathlib.Omega.{arith}
use lib.ListN.{length, drop, length-map}
use Rattle.lang.specs.Parts.{items, flat, word_of}
use Rattle.lang.specs.Mark.{In}
use Rattle.rules.specs.Bytes.{bytes}
use Rattle.rules.specs.Numbers.{digits, Number}
use Rattle.rules.specs.Formulas.{written_text}
use Rattle.rules.specs.Elements.{atomic_number}
use Rattle.rules.specs.Losses.{sign_text}
use Rattle.rules.specs.Isotopes.{Shift, shift_text, shift_map, Specific, specific_text, specific_map, Isotopes, no_isotope, plain_isotope, average_isotope, specific_isotopes, isotopes_map}
use Rattle.rules.specs.Isotopes as rules
use Rattle.rules.specs.Preferred.{shortened}
use Rattle.rules.specs.Stored.{Field, stores, isotope_record, specific_record, isotope_records}
use Rattle.rules.specs.Layout.{isotope_width, isotope_nucleons_at, isotope_element_at}
use Rattle.elements.proofs.SymbolsAgree.{which_below}
use Rattle.put_formula.specs.Preferred.{symbol_text}
use Rattle.put_formula.specs.Chains.{chain}
use Rattle.put_formula.proofs.Chains.{chain_spelled, flat_map}
use Rattle.put_formula.proofs.PutUnits.{symbol_text_lem}
use Rattle.print_count.specs.Heads.{count_text}
use Rattle.print_count.proofs.SpelledCount.{number_text_lem}
use Rattle.print_parts.specs.Isotopes.{which_printed, isotope_printed, isotopes_printed}
use Rattle.slices.proofs.StoredNumbers.{word_stored}
use Rattle.print_parts.proofs.Rows.{all_in, sign_told}

-- numbers fit the fields of the record
abbrev pub SpecificOk : Specific Number → Type 0
SpecificOk x = (x.shift.count.value ≤ 65535) × (x.nucleons.value ≤ 65535)

abbrev pub IsotopesOk : Isotopes Number → Type 0
IsotopesOk no_isotope = Unit {0}
IsotopesOk (plain_isotope x) = x.count.value ≤ 65535
IsotopesOk (average_isotope x) = x.count.value ≤ 65535
IsotopesOk (specific_isotopes xs) = (x : Specific Number) → In x (items xs) → SpecificOk x

-- ---- one

-- sign and n, then what tells which isotope
isotope_told : (x : Shift Number) (kind nucleons element : ℕ) (k w : List ℕ) → x.count.value ≤ 65535
    → which_printed (stores (isotope_record x kind nucleons element) ++ k) ≡ w
    → isotope_printed (stores (isotope_record x kind nucleons element) ++ k) ≡ shift_text (shift_map shortened x) ++ w
unfolding isotope_printed
isotope_told x kind nucleons element k w h e =
    let s = stores (isotope_record x kind nucleons element) ++ k in
    let n = written_text (shortened x.count) in
    ap₂ (λ (a b : List ℕ). a ++ b) (sign_told x.sign)
    (ap₂ (λ (a b : List ℕ). a ++ (bytes "i" ++ b)) (ap count_text (word_stored x.count.value (drop isotope_nucleons_at s) h) ∙ number_text_lem x.count) e)
    ∙ ap (λ (a : List ℕ). sign_text x.sign ++ a) (sym (append_assoc n (bytes "i") w))
    ∙ sym (append_assoc (sign_text x.sign) (n ++ bytes "i") w)

plain_told : (x : Shift Number) (k : List ℕ) → which_printed (stores (isotope_record x 0 0 0) ++ k) ≡ []
unfolding which_printed
plain_told x k = refl

average_told : (x : Shift Number) (k : List ℕ) → which_printed (stores (isotope_record x 1 0 0) ++ k) ≡ bytes "A"
unfolding which_printed
average_told x k = refl

which_told : (x : Specific Number) (k : List ℕ) → x.nucleons.value ≤ 65535
    → which_printed (stores (specific_record x) ++ k) ≡ digits x.nucleons.value ++ word_of x.symbol
unfolding which_printed
which_told x k h =
    let s = stores (specific_record x) ++ k in
    let z : atomic_number x.symbol ≤ 65535 = omega (arith, which_below x.symbol) in
    ap₂ (λ (a b : List ℕ). a ++ b) (ap digits (word_stored x.nucleons.value (drop isotope_element_at s) h))
    (ap symbol_text (word_stored (atomic_number x.symbol) (drop isotope_width s) z) ∙ symbol_text_lem x.symbol)

specific_told : (x : Specific Number) (k : List ℕ) → SpecificOk x → isotope_printed (stores (specific_record x) ++ k) ≡ specific_text (specific_map shortened x)
specific_told x k ok =
    isotope_told x.shift 2 x.nucleons.value (atomic_number x.symbol) k (digits x.nucleons.value ++ word_of x.symbol) ok.0 (which_told x k ok.1)

-- ---- in a row

-- a single one
one_told : (fs : List Field) (k w : List ℕ) → isotope_printed (stores fs ++ k) ≡ w → isotopes_printed 1 ((stores fs ++ []) ++ k) ≡ w
unfolding chain
one_told fs k w e =
    ap (λ (s : List ℕ). isotope_printed (s ++ k) ++ []) (append-nil (stores fs)) ∙ append-nil (isotope_printed (stores fs ++ k)) ∙ e

specifics_told : (xs : List (Specific Number)) (k : List ℕ) → ((x : Specific Number) → In x xs → SpecificOk x)
    → isotopes_printed (length (map specific_record xs)) (flat (λ fs. stores fs) (map specific_record xs) ++ k)
    ≡ flat specific_text (map (specific_map shortened) xs)
specifics_told xs k ok =
    ap₂ (λ (n : ℕ) (s : List ℕ). isotopes_printed n (s ++ k)) (length-map xs specific_record) (sym (flat_map (λ (fs : List Field). stores fs) specific_record xs))
    ∙ chain_spelled isotope_printed (λ r. isotope_width) (λ x. stores (specific_record x)) (λ x. specific_text (specific_map shortened x)) SpecificOk (λ k. Unit {0})
    (λ x ys j h e. specific_told x (flat (λ y. stores (specific_record y)) ys ++ j) h) (λ x ys j h e. refl) xs k (all_in xs ok) tt
    ∙ flat_map specific_text (specific_map shortened) xs

pub isotopes_printed_lem : (x : Isotopes Number) (k : List ℕ) → IsotopesOk x
    → isotopes_printed (length (isotope_records x)) (flat (λ fs. stores fs) (isotope_records x) ++ k) ≡ rules.isotopes_text (isotopes_map shortened x)
unfolding chain
isotopes_printed_lem no_isotope k ok = refl
isotopes_printed_lem (plain_isotope x) k ok =
    let w = shift_text (shift_map shortened x) in
    one_told (isotope_record x 0 0 0) k w (isotope_told x 0 0 0 k [] ok (plain_told x k) ∙ append-nil w)
isotopes_printed_lem (average_isotope x) k ok =
    one_told (isotope_record x 1 0 0) k (shift_text (shift_map shortened x) ++ bytes "A") (isotope_told x 1 0 0 k (bytes "A") ok (average_told x k))
isotopes_printed_lem (specific_isotopes xs) k ok = specifics_told (items xs) k ok
