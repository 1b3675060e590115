-- Isotopes that are spelled, spelled anew as they are preferred. Assumes nothing.
use Prim.Native.Nat.{ℕ, ◌+◌, ◌-◌}
use mathlib.Core.Path.{◌≡◌, refl, sym, ap, ap₂, ◌∙◌}
use mathlib.Core.List.{List, [], ◌∷◌, ◌++◌, append_assoc, append-nil, map}
use native.Mathlib.Omega.{arith}
use lib.ListN.{length, take, drop, length-append}
use lib.Seq.{take-append_seam}
use Rattle.std.specs.Prelude.{Option, None}
use Rattle.lang.specs.Parts.{items, flat, word_of}
use Rattle.lang.specs.Mark.{In, here, later}
use Rattle.lang.specs.Walk.{walked, folded}
use Rattle.rules.specs.Bytes.{bytes}
use Rattle.rules.specs.Numbers.{number_text}
use Rattle.rules.specs.Formulas.{Written, written_text}
use Rattle.rules.specs.Losses.{sign_text}
use Rattle.rules.specs.Isotopes.{Shift, shift_text, shift_map, Specific, specific_text, specific_map, Isotopes, no_isotope, plain_isotope, average_isotope, specific_isotopes, isotopes_text, isotopes_map}
use Rattle.rules.specs.Fields.{filled}
use Rattle.rules.specs.Preferred.{shortened}
use Rattle.changes.proofs.Signs.{sign_read}
use Rattle.faults.specs.declared.Refusal.{Refusal}
use Rattle.print_count.specs.Heads.{count_text, head_text}
use Rattle.print_count.proofs.SpelledCount.{number_text_lem, head_text_lem}
use Rattle.read_opening.specs.declared.Head.{Head}
use Rattle.read_opening.specs.Heads.{head_of}
use Rattle.read_opening.proofs.SpelledOpenings.{count_told}
use Rattle.read_isotopes.specs.declared.IsotopeKind.{IsotopeKind}
use Rattle.read_isotopes.specs.Isotopes.{isotope_with}
use Rattle.read_isotopes.specs.Spelled.{isotope_spelled, spell_isotope, spelled_isotopes}
use Rattle.read_isotopes.proofs.Ends.{EndsIsotopes, ends_digit, ends_average}
use Rattle.read_isotopes.proofs.Spelled.{head_read, shift_long, shift_text_lem, shift_head, behind_count, plain_read, average_read}
use Rattle.read_isotopes.proofs.Rows.{specific_front, specific_here, walk_none, walk_plain, walk_average, walk_row}
use Rattle.read_isotopes.proofs.Stores.{ShiftTold, SpecificTold, Told, count_filled}

-- ---- one isotope: a shift, and the bytes w behind its `i`

-- as it is spelled anew, of what was read
abbrev read_text : Shift Written → List ℕ → List ℕ
read_text x w = head_text (sign_read x.sign) (count_told x.count) ++ (105 ∷ w)

-- all that stands behind the count is taken, and nothing of what follows the isotope
shift_spelled : (x : Shift Written) (w k s : List ℕ) (kind : IsotopeKind) (len : ℕ) (f : Option Refusal)
    → s ≡ shift_text x ++ (w ++ k) → len ≡ length (shift_text x) + length w
    → isotope_spelled s (isotope_with (head_read x) kind len f) ≡ read_text x w
unfolding isotope_spelled
shift_spelled x w k s kind len f p l =
    let n = 1 + length (written_text x.count) in
    let m : len - n ≡ length (105 ∷ w) = omega (arith, shift_long x) in
    ap (λ (t : List ℕ). head_text (sign_read x.sign) (count_told x.count) ++ t)
    (ap (λ (h : Head). take (len - h.len) (drop h.len s)) (ap head_of p ∙ shift_head x (w ++ k))
    ∙ ap₂ (λ (a : ℕ) (t : List ℕ). take a t) m (ap (drop n) p ∙ behind_count x (w ++ k))
    ∙ take-append_seam (105 ∷ w) k)

-- which is as it is preferred
shift_preferred : (x : Shift Written) (w : List ℕ) → ShiftTold x → read_text x w ≡ shift_text (shift_map shortened (shift_map filled x)) ++ w
shift_preferred x w h =
    let y = shift_map shortened (shift_map filled x) in
    let c = ap count_text (count_filled x.count h) ∙ number_text_lem (filled x.count) in
    ap (λ (t : List ℕ). t ++ (105 ∷ w)) (head_text_lem x.sign (count_told x.count) c)
    ∙ append_assoc (sign_text x.sign) (written_text y.count) (105 ∷ w) ∙ sym (shift_text_lem y w)

-- ---- specific isotopes

abbrev behind_i : Specific Written → List ℕ
behind_i x = number_text x.nucleons ++ word_of x.symbol

abbrev read_specific : Specific Written → List ℕ
read_specific x = read_text x.shift (behind_i x)

abbrev spell_specific : List ℕ → Specific Written → ℕ → List ℕ
spell_specific a x left = a ++ read_specific x

specific_spelled : (a : List ℕ) (x : Specific Written) (xs : List (Specific Written)) (k : List ℕ) → EndsIsotopes k
    → spell_isotope a (specific_text x ++ (flat specific_text xs ++ k)) ≡ spell_specific a x (length (flat specific_text xs) + length k)
unfolding spell_isotope
specific_spelled a x xs k e =
    let t = flat specific_text xs ++ k in
    let s = specific_text x ++ t in
    ap (λ (w : List ℕ). a ++ w)
    (ap (isotope_spelled s) (specific_here 0 0 None x xs k e)
    ∙ shift_spelled x.shift (behind_i x) t s _ _ _ (specific_front x t) (length-append (shift_text x.shift) (behind_i x)))

row_spelled : (xs : List (Specific Written)) (a : List ℕ) (left : ℕ) → folded specific_text spell_specific a xs left ≡ a ++ flat read_specific xs
row_spelled [] a left = sym (append-nil a)
row_spelled (x ∷ xs) a left = row_spelled xs (a ++ read_specific x) left ∙ append_assoc a (read_specific x) (flat read_specific xs)

row_preferred : (xs : List (Specific Written)) → ((x : Specific Written) → In x xs → SpecificTold x)
    → flat read_specific xs ≡ flat specific_text (map (specific_map shortened) (map (specific_map filled) xs))
row_preferred [] h = refl
row_preferred (x ∷ xs) h = ap₂ (λ (a b : List ℕ). a ++ b) (shift_preferred x.shift (behind_i x) (h x here).0) (row_preferred xs (λ y i. h y (later i)))

-- ---- all

pub isotopes_spelled : (x : Isotopes Written) (k : List ℕ) → EndsIsotopes k → Told x
    → spelled_isotopes (isotopes_text x ++ k) ≡ walked k (isotopes_text (isotopes_map shortened (isotopes_map filled x)))
unfolding spelled_isotopes spell_isotope
isotopes_spelled no_isotope k e h = walk_none spell_isotope k [] e
isotopes_spelled (plain_isotope x) k e h =
    let s = shift_text x ++ k in
    walk_plain spell_isotope x k [] e
    ∙ ap (walked k)
    (ap (isotope_spelled s) (plain_read 0 0 x k None (ends_digit k e) (ends_average k e))
    ∙ shift_spelled x [] k s _ _ _ refl (omega arith)
    ∙ shift_preferred x [] h ∙ append-nil (shift_text (shift_map shortened (shift_map filled x))))
isotopes_spelled (average_isotope x) k e h =
    let s = (shift_text x ++ bytes "A") ++ k in
    walk_average spell_isotope x k [] e
    ∙ ap (walked k)
    (ap (isotope_spelled s) (average_read 0 0 x k None)
    ∙ shift_spelled x (bytes "A") k s _ _ _ (append_assoc (shift_text x) (bytes "A") k) (length-append (shift_text x) (bytes "A"))
    ∙ shift_preferred x (bytes "A") h)
isotopes_spelled (specific_isotopes xs) k e h =
    let ys = items xs in
    walk_row spell_isotope spell_specific specific_spelled ys k [] e ∙ ap (walked k) (row_spelled ys [] (length k) ∙ row_preferred ys h)
