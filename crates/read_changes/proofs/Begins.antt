-- What a spelled loss or adduct item begins with, and what its formula, name or `e` begins with. Assumes nothing.
use Prim.Native.Nat.{ℕ, ◌<◌}
use mathlib.Core.Path.{◌≡◌, refl, sym, ap, ◌∙◌}
use mathlib.Core.Bool.{Bool, true, false, ◌&&◌}
use mathlib.Core.List.{List, [], ◌∷◌, ◌++◌, append_assoc}
use native.Mathlib.Omega.{arith}
use lib.Dec.{eqb, ltb}
use borrow.Author.Tests.{eqb-true, lt-leb, ltb-true, ltb-false}
use Rattle.lang.specs.Re.{Rng, in_c}
use Rattle.lang.specs.Parts.{opt_text}
use Rattle.lang.proofs.Deriv.{and_1}
use Rattle.lang.proofs.Tests.{is_t, t_is, not_t}
use Rattle.lang.proofs.Ranges.{range_in, range_above}
use Rattle.rules.specs.Bytes.{bytes, ◌to◌, digit, letter}
use Rattle.rules.specs.Numbers.{number_text}
use Rattle.rules.specs.Texts.{first_in, starts_with, is_name, LossName, bracket_text}
use Rattle.rules.specs.Losses.{Sign, minus, plus, sign_text}
use Rattle.read_formula.specs.Units.{begins_unit}
use Rattle.read_formula.proofs.Formulas.{formula_no_digit, formula_no_small}
use Rattle.read_formula.proofs.Ends.{EndsFormula, goes_on, ends_apart}
use Rattle.read_opening.specs.Heads.{begins_change}
use Rattle.read_opening.proofs.SpelledOpenings.{change_begins}
use Rattle.read_changes.proofs.Spelled.{What, a_formula, a_name, an_electron, content_text, Spelled, change_text}

-- ---- behind sign and count

pub what_no_digit : (w : What) (k : List ℕ) → first_in digit (content_text w ++ k) ≡ false
what_no_digit (a_formula x) k = formula_no_digit x k
what_no_digit (a_name n) k = refl
what_no_digit an_electron k = refl

no_letter : (s : List ℕ) → first_in ("a" to "z" ∷ []) s ≡ false → starts_with (bytes "i") s ≡ false
no_letter [] e = refl
no_letter (b ∷ s) e = by (eqb 105 b) refl
  where
    by : (t : Bool) → eqb 105 b ≡ t → t && true ≡ false
    by true p = let q = eqb-true 105 b p in absurd (not_t (sym (range_in 97 122 b (omega arith) (omega arith)) ∙ e) tt)
    by false p = refl

-- no isotope
what_no_letter : (w : What) (k : List ℕ) → starts_with (bytes "i") (content_text w ++ k) ≡ false
what_no_letter (a_formula x) k = no_letter (content_text (a_formula x) ++ k) (formula_no_small x k)
what_no_letter (a_name n) k = refl
what_no_letter an_electron k = refl

letter_low : (b : ℕ) → b < 65 → false ≡ in_c letter b
letter_low b h = rw (lt-leb 65 b h, lt-leb 97 b (omega arith))

-- the name of a loss begins with a letter, and so no unit begins with its bracket
name_no_digit : (w k : List ℕ) → first_in letter w ≡ true → first_in digit (w ++ k) ≡ false
name_no_digit [] k e = absurd (is_t {x = false} e)
name_no_digit (b ∷ w) k e = by (ltb b 65) refl
  where
    by : (t : Bool) → ltb b 65 ≡ t → in_c digit b ≡ false
    by true p = absurd (is_t {x = false} (letter_low b (ltb-true b 65 p) ∙ e))
    by false p = range_above 48 57 b (omega (arith, ltb-false b 65 p))

pub name_no_unit : (n : LossName) (k : List ℕ) → begins_unit (bracket_text n ++ k) ≡ false
unfolding begins_unit
name_no_unit n k =
    let l = t_is (first_in letter n.bytes) (and_1 (is_name n.bytes) (first_in letter n.bytes) n.good) in
    rw (append_assoc n.bytes (93 ∷ []) k) (name_no_digit n.bytes (93 ∷ k) l)

pub electron_no_unit : (k : List ℕ) → begins_unit (bytes "e" ++ k) ≡ false
unfolding begins_unit
electron_no_unit k = refl

-- ---- the whole

-- the text from left to right
pub change_text_lem : {m : ℕ} (x : Spelled m) (k : List ℕ) → change_text x ++ k ≡ sign_text x.sign ++ (opt_text number_text x.count ++ (content_text x.what ++ k))
change_text_lem x k =
    append_assoc (sign_text x.sign) (opt_text number_text x.count ++ content_text x.what) k
    ∙ ap (λ (s : List ℕ). sign_text x.sign ++ s) (append_assoc (opt_text number_text x.count) (content_text x.what) k)

pub begins_change_lem : {m : ℕ} (x : Spelled m) (k : List ℕ) → begins_change (change_text x ++ k) ≡ true
begins_change_lem x k =
    ap begins_change (change_text_lem x k) ∙ (change_begins x.sign x.count (content_text x.what ++ k) (what_no_digit x.what k) (what_no_letter x.what k)).0

-- it begins with its sign
pub change_first : {m : ℕ} (x : Spelled m) (k : List ℕ) (c : List Rng) → in_c c 43 ≡ false → in_c c 45 ≡ false → first_in c (change_text x ++ k) ≡ false
change_first x k c p q = by x.sign
  where
    by : (g : Sign) → first_in c ((sign_text g ++ (opt_text number_text x.count ++ content_text x.what)) ++ k) ≡ false
    by minus = q
    by plus = p

-- which does not go on with a formula
pub change_ends : {m : ℕ} (x : Spelled m) (k : List ℕ) → EndsFormula (change_text x ++ k)
change_ends x k = ends_apart (change_text x ++ k) (change_first x k goes_on refl refl)
