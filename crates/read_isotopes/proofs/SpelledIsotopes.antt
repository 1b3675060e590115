-- What is read of isotopes that are spelled. Assumes nothing.
use Prim.Native.Nat.{ℕ, ◌+◌, ◌-◌, ◌≤◌}
use mathlib.Core.Path.{◌≡◌, ap, ap₂, ◌∙◌}
use mathlib.Core.Bool.{false}
use mathlib.Core.List.{List, ◌++◌, append_assoc, map}
use native.Mathlib.Omega.{arith}
use lib.ListN.{length, length-append, length-map}
use Rattle.std.specs.Prelude.{Option}
use Rattle.lang.specs.Re.{Rng, in_c}
use Rattle.lang.specs.Parts.{items, flat, word_of}
use Rattle.lang.specs.Walk.{Walked, walked}
use Rattle.rules.specs.Bytes.{bytes}
use Rattle.rules.specs.Texts.{first_in}
use Rattle.rules.specs.Numbers.{number_text}
use Rattle.rules.specs.Formulas.{Written}
use Rattle.rules.specs.Isotopes.{shift_text, Specific, specific_text, specific_map, Isotopes, no_isotope, plain_isotope, average_isotope, specific_isotopes, isotopes_text, isotopes_map}
use Rattle.rules.specs.Fields.{filled}
use Rattle.rules.specs.Stored.{specific_record, isotope_records}
use Rattle.rules.specs.Limits.{specific_marks, isotopes_marks}
use Rattle.faults.specs.declared.Refusal.{Refusal}
use Rattle.faults.specs.Faults.{after}
use Rattle.read_formula.specs.Formulas.{Counted, counted}
use Rattle.read_formula.proofs.Rows.{turn_of, row_fold}
use Rattle.read_formula.proofs.Spelled.{capped}
use Rattle.read_opening.specs.Heads.{begins_change}
use Rattle.read_isotopes.specs.declared.IsotopeRead.{IsotopeRead}
use Rattle.read_isotopes.specs.Rows.{count_isotope, isotopes_from, isotopes_of}
use Rattle.read_isotopes.proofs.Ends.{EndsIsotopes, ends_digit, ends_average}
use Rattle.read_isotopes.proofs.Spelled.{shift_fault, shift_begins, plain_read, average_read}
use Rattle.read_isotopes.proofs.Limits.{shift_told, specific_told}
use Rattle.read_isotopes.proofs.Rows.{shift_first, row_first, specific_front, specific_here, walk_none, walk_plain, walk_average, walk_row}

-- ---- what is read

-- the fault after a specific isotope, by how many bytes are left where it begins
abbrev tell_specific : ℕ → Option Refusal → Specific Written → ℕ → ℕ → Option Refusal
tell_specific end f x i left = shift_fault i x.shift (capped x.nucleons.value) end left f

specific_counted : (end : ℕ) (a : Counted) (x : Specific Written) (xs : List (Specific Written)) (k : List ℕ) → EndsIsotopes k
    → count_isotope end a (specific_text x ++ (flat specific_text xs ++ k)) ≡ turn_of specific_text (tell_specific end) a x (length (flat specific_text xs) + length k)
unfolding count_isotope
specific_counted end a x xs k e =
    ap (λ (r : IsotopeRead). counted (a.units + 1) r.fault) (specific_here a.units end a.fault x xs k e)
    ∙ ap (λ (l : ℕ). counted (a.units + 1) (tell_specific end a.fault x a.units l))
    (length-append (specific_text x) (flat specific_text xs ++ k) ∙ ap (λ (l : ℕ). length (specific_text x) + l) (length-append (flat specific_text xs) k))

-- how many there are
pub records_length : (xs : List (Specific Written)) → length (map specific_record (map (specific_map filled) xs)) ≡ length xs
records_length xs = simp length-map

counted_read : (x : Isotopes Written) (k : List ℕ) (end : ℕ) (f : Option Refusal) → EndsIsotopes k → length (isotopes_text x ++ k) ≤ end
    → isotopes_from end (isotopes_text x ++ k) (counted 0 f)
    ≡ walked k (counted (length (isotope_records (isotopes_map filled x))) (after f (isotopes_marks x (end - length (isotopes_text x ++ k)))))
unfolding count_isotope
counted_read no_isotope k end f e h = walk_none (count_isotope end) k (counted 0 f) e
counted_read (plain_isotope x) k end f e h =
    walk_plain (count_isotope end) x k (counted 0 f) e
    ∙ ap (λ (r : IsotopeRead). walked k (counted 1 r.fault)) (plain_read 0 end x k f (ends_digit k e) (ends_average k e))
    ∙ ap (λ (g : Option Refusal). walked k (counted 1 g)) (shift_told end f x (length (shift_text x ++ k)) (omega (arith, length-append (shift_text x) k)) h)
counted_read (average_isotope x) k end f e h =
    let w = shift_text x ++ bytes "A" in
    walk_average (count_isotope end) x k (counted 0 f) e
    ∙ ap (λ (r : IsotopeRead). walked k (counted 1 r.fault)) (average_read 0 end x k f)
    ∙ ap (λ (g : Option Refusal). walked k (counted 1 g)) (shift_told end f x (length (w ++ k)) (omega (arith, length-append w k, length-append (shift_text x) (bytes "A"))) h)
counted_read (specific_isotopes xs) k end f e h =
    let ys = items xs in
    let l = length-append (flat specific_text ys) k in
    let p : end - (length (flat specific_text ys) + length k) ≡ end - length (flat specific_text ys ++ k) = omega arith in
    let n : 0 + length ys ≡ length (map specific_record (map (specific_map filled) ys)) = omega (arith, records_length ys) in
    walk_row (count_isotope end) (turn_of specific_text (tell_specific end)) (specific_counted end) ys k (counted 0 f) e
    ∙ ap (walked k)
    (row_fold specific_text specific_marks (tell_specific end) end (specific_told end) ys (length k) 0 f (omega arith)
    ∙ ap₂ (λ (n p : ℕ). counted n (after f (isotopes_marks (specific_isotopes xs) p))) n p)

pub isotopes_read : (x : Isotopes Written) (k : List ℕ) (end : ℕ) (f : Option Refusal) → EndsIsotopes k → length (isotopes_text x ++ k) ≤ end
    → isotopes_of end (isotopes_text x ++ k) f
    ≡ record { n = length (isotope_records (isotopes_map filled x)); len = length (isotopes_text x); fault = after f (isotopes_marks x (end - length (isotopes_text x ++ k))) }
unfolding isotopes_of
isotopes_read x k end f e h =
    let s = isotopes_text x ++ k in
    let l : length s - length k ≡ length (isotopes_text x) = omega (arith, length-append (isotopes_text x) k) in
    ap (λ (w : Walked Counted). record { n = w.known.units; len = length s - length w.rest; fault = w.known.fault }) (counted_read x k end f e h)
    ∙ ap (λ (m : ℕ). record { n = length (isotope_records (isotopes_map filled x)); len = m; fault = after f (isotopes_marks x (end - length s)) }) l

-- ---- what isotopes begin with

-- an isotope is no loss
pub isotopes_begin : (x : Isotopes Written) (k : List ℕ) → begins_change k ≡ false → begins_change (isotopes_text x ++ k) ≡ false
isotopes_begin no_isotope k e = e
isotopes_begin (plain_isotope x) k e = (shift_begins x k).1
isotopes_begin (average_isotope x) k e = ap begins_change (append_assoc (shift_text x) (bytes "A") k) ∙ (shift_begins x (bytes "A" ++ k)).1
isotopes_begin (specific_isotopes xs) k e =
    let y = xs.first in
    let t = flat specific_text xs.more ++ k in
    ap begins_change (append_assoc (specific_text y) (flat specific_text xs.more) k ∙ specific_front y t)
    ∙ (shift_begins y.shift ((number_text y.nucleons ++ word_of y.symbol) ++ t)).1

pub isotopes_first : (c : List Rng) (x : Isotopes Written) (k : List ℕ) → in_c c 43 ≡ false → in_c c 45 ≡ false → first_in c k ≡ false → first_in c (isotopes_text x ++ k) ≡ false
isotopes_first c no_isotope k p m e = e
isotopes_first c (plain_isotope x) k p m e = shift_first c x k p m
isotopes_first c (average_isotope x) k p m e = ap (first_in c) (append_assoc (shift_text x) (bytes "A") k) ∙ shift_first c x (bytes "A" ++ k) p m
isotopes_first c (specific_isotopes xs) k p m e = row_first c (items xs) k p m e
