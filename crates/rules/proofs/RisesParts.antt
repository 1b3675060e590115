-- The broken limits of a formula, an ion, a loss, isotopes and an adduct lie within its own text, in its order. Assumes nothing.
use Prim.Native.Nat.{ℕ, ◌+◌, ◌<◌, ◌≤◌}
use mathlib.Core.Path.{◌≡◌, refl}
use mathlib.Core.List.{List, [], ◌∷◌, ◌++◌}
use native.Mathlib.Omega.{arith}
use native.Mathlib.Nat.{le_refl}
use lib.ListN.{length, length-append}
use Rattle.lang.specs.Parts.{Opt, opt_text, items, word_of}
use Rattle.lang.specs.Mark.{marks_of}
use Rattle.lang.proofs.Rising.{room, none, also, rise_none}
use Rattle.lang.proofs.Words.{word_some}
use Rattle.rules.specs.Bytes.{bytes}
use Rattle.rules.specs.Numbers.{From}
use Rattle.rules.specs.Elements.{symbols, Symbol}
use Rattle.rules.specs.Texts.{braced_text, bracket_text}
use Rattle.rules.specs.Formulas.{Written, written_text, FormulaUnit, plain, labelled, unit_text, Formula}
use Rattle.rules.specs.Ions.{Series, SpelledIon, series, internal, immonium, precursor, reference, named, composed, smiles, unknown, ion_text}
use Rattle.rules.specs.Losses.{Sign, minus, plus, sign_text, Lost, lost_formula, lost_name_lem, lost_text, Loss, loss_text}
use Rattle.rules.specs.Isotopes.{Shift, shift_text, Specific, specific_text}
use Rattle.rules.specs.Isotopes.{Isotopes, no_isotope, plain_isotope, average_isotope, specific_isotopes, isotopes_text}
use Rattle.rules.specs.Adducts.{Added, added_formula, electron, added_text, Item, item_text, adduct_text}
use Rattle.rules.specs.Limits.{max_position, max_count, part, opt_part, number_part, closed_part, unit_marks, formula_part, ion_parts}
use Rattle.rules.specs.Limits.{lost_part, loss_marks, shift_marks, specific_marks, isotopes_marks, added_part, item_marks, adduct_marks}
use Rattle.rules.proofs.Rising.{Rises, Fits, AllFit, bare_fits, number_fits, braced_fits, bracket_fits, opt_fits, opt_length}
use Rattle.rules.proofs.Rising.{parts_within, many_first, row_rises, row_fits}

-- ---- formulas: a unit's number stands behind its symbol or bracket

symbol_some : (s : Symbol) → 0 < length (word_of s)
unfolding symbols
symbol_some s = word_some symbols tt s

count_fits : {m : ℕ} (c : Opt (From m)) → Fits (opt_part (number_part max_count) c)
count_fits c = opt_fits (number_part max_count) (number_fits max_count) c

unit_rises : (i : ℕ) (u : FormulaUnit Written) (at : ℕ) → Rises at (at + length (unit_text u)) (unit_marks i u at)
unit_rises i (plain s c) at =
    let n = length (unit_text (plain s c)) in
    let l = length-append (word_of s) (written_text c) in
    many_first _ i at n (omega (arith, symbol_some s))
    (parts_within (also (bare_fits (word_of s)) (also (count_fits c) none)) at n (omega (arith, opt_length (number_part max_count) c)))
unit_rises i (labelled a s c) at =
    let n = length (unit_text (labelled a s c)) in
    many_first _ i at n (omega arith)
    (parts_within
    (also (bare_fits (bytes "[")) (also (number_fits max_count a) (also (bare_fits (word_of s)) (also (number_fits max_count c) none))))
    at n (simp length-append (omega arith)))

formula_fits : (f : Formula Written) → Fits (formula_part f)
formula_fits f = record { rises = row_rises unit_text unit_marks unit_rises 0 (items f) }

-- ---- ions

series_some : (s : Series) → 0 < length (word_of s)
series_some s = word_some _ tt s

position_fits : {m : ℕ} (n : From m) → Fits (number_part max_position n)
position_fits n = number_fits max_position n

ion_parts_lem : (x : SpelledIon) → AllFit (ion_parts x)
ion_parts_lem (series s n t) = also (bare_fits (word_of s)) (also (position_fits n) (also (opt_fits (closed_part braced_text) braced_fits t) none))
ion_parts_lem (internal c m n t) =
    also (bare_fits (bytes "m")) (also (bare_fits (opt_text word_of c)) (also (position_fits m) (also (bare_fits (bytes ":"))
    (also (position_fits n) (also (opt_fits (closed_part braced_text) braced_fits t) none)))))
ion_parts_lem (immonium a m) =
    also (bare_fits (bytes "I")) (also (bare_fits (a.val ∷ [])) (also (opt_fits (closed_part bracket_text) bracket_fits m) none))
ion_parts_lem precursor = none
ion_parts_lem (reference n) = also (bare_fits (bytes "r")) (also (bracket_fits n) none)
ion_parts_lem (named t) = also (bare_fits (bytes "_")) (also (braced_fits t) none)
ion_parts_lem (composed f) = also (bare_fits (bytes "f{")) (also (formula_fits f) none)
ion_parts_lem (smiles t) = also (bare_fits (bytes "s")) (also (braced_fits t) none)
ion_parts_lem (unknown n) = also (bare_fits (bytes "?")) (also (opt_fits (number_part max_position) position_fits n) none)

ion_room : (x : SpelledIon) → room (ion_parts x) ≤ length (ion_text x)
ion_room (series s n t) = simp length-append (omega (arith, opt_length (closed_part braced_text) t))
ion_room (internal c m n t) = simp length-append (omega (arith, opt_length (closed_part braced_text) t))
ion_room (immonium a m) = omega (arith, opt_length (closed_part bracket_text) m)
ion_room precursor = omega arith
ion_room (reference n) = omega arith
ion_room (named t) = omega arith
ion_room (composed f) = simp length-append (omega arith)
ion_room (smiles t) = omega arith
ion_room (unknown n) = omega (arith, opt_length (number_part max_position) n)

pub ion_rises : (x : SpelledIon) (at : ℕ) → Rises at (at + length (ion_text x)) (marks_of at (ion_parts x))
ion_rises x at = parts_within (ion_parts_lem x) at (length (ion_text x)) (ion_room x)

pub ion_some : (x : SpelledIon) → 0 < length (ion_text x)
ion_some (series s n t) = simp length-append (omega (arith, series_some s))
ion_some (internal c m n t) = omega arith
ion_some (immonium a m) = omega arith
ion_some precursor = omega arith
ion_some (reference n) = omega arith
ion_some (named t) = omega arith
ion_some (composed f) = omega arith
ion_some (smiles t) = omega arith
ion_some (unknown n) = omega arith

-- ---- losses, isotopes, adducts: each begins with its sign

sign_some : (s : Sign) → 0 < length (sign_text s)
sign_some minus = omega arith
sign_some plus = omega arith

lost_fits : (x : Lost Written) → Fits (lost_part x)
lost_fits (lost_formula f) = formula_fits f
lost_fits (lost_name_lem n) = bracket_fits n

lost_length : (x : Lost Written) → length (lost_part x).text ≡ length (lost_text x)
lost_length (lost_formula f) = refl
lost_length (lost_name_lem n) = refl

pub loss_rises : (i : ℕ) (l : Loss Written) (at : ℕ) → Rises at (at + length (loss_text l)) (loss_marks i l at)
loss_rises i l at =
    let n = length (loss_text l) in
    many_first _ i at n (simp length-append (omega (arith, sign_some l.sign)))
    (parts_within (also (bare_fits (sign_text l.sign)) (also (count_fits l.count) (also (lost_fits l.what) none))) at n
    (simp length-append (omega (arith, opt_length (number_part max_count) l.count, lost_length l.what))))

shift_rises : (x : Shift Written) (at n : ℕ) → length (shift_text x) ≤ n → Rises at (at + n) (shift_marks x at)
shift_rises x at n h =
    let l = length-append (sign_text x.sign) (written_text x.count ++ bytes "i") in
    let k = length-append (written_text x.count) (bytes "i") in
    parts_within (also (bare_fits (sign_text x.sign)) (also (count_fits x.count) none)) at n
    (omega (arith, opt_length (number_part max_count) x.count))

shift_fits : (x : Shift Written) → Fits (part (shift_text x) (shift_marks x))
shift_fits x = record { rises = λ at. shift_rises x at (length (shift_text x)) (le_refl _) }

specific_rises : (i : ℕ) (x : Specific Written) (at : ℕ) → Rises at (at + length (specific_text x)) (specific_marks i x at)
specific_rises i x at =
    let n = length (specific_text x) in
    many_first _ i at n (simp length-append (omega (arith, sign_some x.shift.sign)))
    (parts_within (also (shift_fits x.shift) (also (number_fits max_count x.nucleons) none)) at n
    (simp length-append (omega arith)))

pub isotopes_rise : (x : Isotopes Written) (at : ℕ) → Rises at (at + length (isotopes_text x)) (isotopes_marks x at)
isotopes_rise no_isotope at = rise_none
isotopes_rise (plain_isotope x) at = shift_rises x at _ (le_refl _)
isotopes_rise (average_isotope x) at = shift_rises x at (length (isotopes_text (average_isotope x))) (simp length-append (omega arith))
isotopes_rise (specific_isotopes xs) at = row_rises specific_text specific_marks specific_rises 0 (items xs) at

added_fits : (x : Added Written) → Fits (added_part x)
added_fits (added_formula f) = formula_fits f
added_fits electron = bare_fits (added_text electron)

added_length : (x : Added Written) → length (added_part x).text ≡ length (added_text x)
added_length (added_formula f) = refl
added_length electron = refl

item_rises : (i : ℕ) (x : Item Written) (at : ℕ) → Rises at (at + length (item_text x)) (item_marks i x at)
item_rises i x at =
    let n = length (item_text x) in
    many_first _ i at n (simp length-append (omega (arith, sign_some x.sign)))
    (parts_within (also (bare_fits (sign_text x.sign)) (also (count_fits x.count) (also (added_fits x.what) none))) at n
    (simp length-append (omega (arith, opt_length (number_part max_count) x.count, added_length x.what))))

pub adduct_rises : (xs : List (Item Written)) (at : ℕ) → Rises at (at + length (adduct_text xs)) (adduct_marks xs at)
adduct_rises [] at = rise_none
adduct_rises (x ∷ xs) at =
    let n = length (adduct_text (x ∷ xs)) in
    parts_within (also (bare_fits (bytes "[M")) (also (row_fits item_text item_marks item_rises (x ∷ xs)) none)) at n
    (simp length-append (omega arith))
