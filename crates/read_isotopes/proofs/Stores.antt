-- What is stored of isotopes that are spelled. Assumes nothing.
use Prim.Native.Nat.{ℕ, ◌+◌, ◌≤◌}
use mathlib.Core.Path.{◌≡◌, refl, sym, ap, ap₂, ◌∙◌}
use mathlib.Core.List.{List, [], ◌∷◌, ◌++◌, append_assoc, append-nil, map}
use native.Mathlib.Omega.{arith}
use lib.ListN.{length}
use Rattle.std.specs.Prelude.{None}
use Rattle.lang.specs.Parts.{silent, written, items, flat}
use Rattle.lang.specs.Mark.{In, here, later, Kept}
use Rattle.lang.specs.Walk.{walked, folded}
use Rattle.rules.specs.Elements.{atomic_number}
use Rattle.rules.specs.Formulas.{Written}
use Rattle.rules.specs.Losses.{sign_text}
use Rattle.rules.specs.Isotopes.{Shift, shift_text, shift_map, Specific, specific_text, specific_map, Isotopes, no_isotope, plain_isotope, average_isotope, specific_isotopes, isotopes_text, isotopes_map}
use Rattle.rules.specs.Fields.{filled}
use Rattle.changes.specs.Signs.{sign_number}
use Rattle.changes.proofs.Signs.{sign_read, sign_ranked}
use Rattle.rules.specs.Stored.{u8, u16, stores, isotope_record, specific_record, isotope_records}
use Rattle.rules.specs.Limits.{max_count, bare, part, opt_part, number_part, shift_marks, specific_marks, isotopes_marks}
use Rattle.rules.proofs.Keeps.{kept_tail, kept_part, row_each}
use Rattle.rules.proofs.FitParts.{number_within}
use Rattle.read_formula.proofs.Spelled.{capped}
use Rattle.read_opening.proofs.SpelledOpenings.{count_told}
use Rattle.read_isotopes.specs.declared.IsotopeRead.{IsotopeRead}
use Rattle.read_isotopes.specs.Records.{record_of, Filed, file_isotope, filed_isotopes}
use Rattle.read_isotopes.proofs.IsotopeLoops.{filed}
use Rattle.read_isotopes.proofs.Ends.{EndsIsotopes, ends_digit, ends_average}
use Rattle.read_isotopes.proofs.Spelled.{plain_read, average_read}
use Rattle.read_isotopes.proofs.Rows.{specific_here, walk_none, walk_plain, walk_average, walk_row}
use Rattle.read_isotopes.proofs.SpelledIsotopes.{records_length}

-- ---- numbers that are read as they are

abbrev pub ShiftTold : Shift Written → Type 0
ShiftTold x = (filled x.count).value ≤ 1000000

abbrev pub SpecificTold : Specific Written → Type 0
SpecificTold x = ShiftTold x.shift × (x.nucleons.value ≤ 1000000)

abbrev pub Told : Isotopes Written → Type 0
Told no_isotope = Unit {0}
Told (plain_isotope x) = ShiftTold x
Told (average_isotope x) = ShiftTold x
Told (specific_isotopes xs) = (x : Specific Written) → In x (items xs) → SpecificTold x

-- the limits see to that
shift_kept : (x : Shift Written) (at : ℕ) → Kept (shift_marks x at) → ShiftTold x
shift_kept x at k =
    let count = opt_part (number_part max_count) x.count in
    let p = kept_part at (bare (sign_text x.sign) ∷ count ∷ []) k count (later here) in
    by x.count p.0 p.1
  where
    by : (c : Written) (at : ℕ) → Kept ((opt_part (number_part max_count) c).marks at) → (filled c).value ≤ 1000000
    by silent at k = omega arith
    by (written n) at k = omega (arith, number_within max_count n at k)

specific_kept : (i : ℕ) (x : Specific Written) (at : ℕ) → Kept (specific_marks i x at) → SpecificTold x
specific_kept i x at k =
    let shift = part (shift_text x.shift) (shift_marks x.shift) in
    let nucleons = number_part max_count x.nucleons in
    let p = kept_part at (shift ∷ nucleons ∷ []) (kept_tail k) shift here in
    let q = kept_part at (shift ∷ nucleons ∷ []) (kept_tail k) nucleons (later here) in
    (shift_kept x.shift p.0 p.1, omega (arith, number_within max_count x.nucleons q.0 q.1))

pub kept_told : (x : Isotopes Written) (at : ℕ) → Kept (isotopes_marks x at) → Told x
kept_told no_isotope at k = tt
kept_told (plain_isotope x) at k = shift_kept x at k
kept_told (average_isotope x) at k = shift_kept x at k
kept_told (specific_isotopes xs) at k = λ x i. let r = row_each specific_text specific_marks 0 (items xs) at k x i in specific_kept r.0 x r.1 r.2

-- ---- records

pub count_filled : (c : Written) → (filled c).value ≤ 1000000 → count_told c ≡ (filled c).value
count_filled silent h = refl
count_filled (written n) h = omega arith

-- of a shift as it is read
abbrev read_record : Shift Written → ℕ → ℕ → ℕ → List ℕ
read_record x kind nucleons element = stores (u8 (sign_number (sign_read x.sign)) ∷ u8 kind ∷ u16 (count_told x.count) ∷ u16 nucleons ∷ u16 element ∷ [])

shift_record : (x : Shift Written) (kind nucleons element : ℕ) → ShiftTold x → read_record x kind nucleons element ≡ stores (isotope_record (shift_map filled x) kind nucleons element)
shift_record x kind nucleons element h =
    λ i. stores (u8 (sign_ranked x.sign i) ∷ u8 kind ∷ u16 (count_filled x.count h i) ∷ u16 nucleons ∷ u16 element ∷ [])

abbrev read_specific : Specific Written → List ℕ
read_specific x = read_record x.shift 2 (capped x.nucleons.value) (atomic_number x.symbol)

specific_record_lem : (x : Specific Written) → SpecificTold x → read_specific x ≡ stores (specific_record (specific_map filled x))
specific_record_lem x h =
    let e : capped x.nucleons.value ≡ x.nucleons.value = omega (arith, h.1) in
    ap (λ (n : ℕ). read_record x.shift 2 n (atomic_number x.symbol)) e ∙ shift_record x.shift 2 x.nucleons.value (atomic_number x.symbol) h.0

records_told : (xs : List (Specific Written)) → ((x : Specific Written) → In x xs → SpecificTold x)
    → flat read_specific xs ≡ flat (λ r. stores r) (map specific_record (map (specific_map filled) xs))
records_told [] h = refl
records_told (x ∷ xs) h = ap₂ (λ (a b : List ℕ). a ++ b) (specific_record_lem x (h x here)) (records_told xs (λ y i. h y (later i)))

-- ---- one after the other

abbrev file_specific : Filed → Specific Written → ℕ → Filed
file_specific a x left = filed (a.n + 1) (a.bytes ++ read_specific x)

specific_filed : (a : Filed) (x : Specific Written) (xs : List (Specific Written)) (k : List ℕ) → EndsIsotopes k
    → file_isotope a (specific_text x ++ (flat specific_text xs ++ k)) ≡ file_specific a x (length (flat specific_text xs) + length k)
unfolding file_isotope
specific_filed a x xs k e = ap (λ (r : IsotopeRead). filed (a.n + 1) (a.bytes ++ record_of r)) (specific_here 0 0 None x xs k e)

row_filed : (xs : List (Specific Written)) (n : ℕ) (b : List ℕ) (left : ℕ) → folded specific_text file_specific (filed n b) xs left ≡ filed (n + length xs) (b ++ flat read_specific xs)
row_filed [] n b left = ap₂ filed (omega arith) (sym (append-nil b))
row_filed (x ∷ xs) n b left =
    row_filed xs (n + 1) (b ++ read_specific x) left
    ∙ ap₂ filed (omega arith) (append_assoc b (read_specific x) (flat read_specific xs))

pub isotopes_stored : (x : Isotopes Written) (k : List ℕ) → EndsIsotopes k → Told x
    → filed_isotopes (isotopes_text x ++ k)
    ≡ walked k (record { n = length (isotope_records (isotopes_map filled x)); bytes = flat (λ r. stores r) (isotope_records (isotopes_map filled x)) })
unfolding filed_isotopes file_isotope
isotopes_stored no_isotope k e h = walk_none file_isotope k (filed 0 []) e
isotopes_stored (plain_isotope x) k e h =
    walk_plain file_isotope x k (filed 0 []) e
    ∙ ap (λ (r : IsotopeRead). walked k (filed 1 (record_of r))) (plain_read 0 0 x k None (ends_digit k e) (ends_average k e))
    ∙ ap (λ (b : List ℕ). walked k (filed 1 b)) (shift_record x 0 0 0 h ∙ sym (append-nil (stores (isotope_record (shift_map filled x) 0 0 0))))
isotopes_stored (average_isotope x) k e h =
    walk_average file_isotope x k (filed 0 []) e
    ∙ ap (λ (r : IsotopeRead). walked k (filed 1 (record_of r))) (average_read 0 0 x k None)
    ∙ ap (λ (b : List ℕ). walked k (filed 1 b)) (shift_record x 1 0 0 h ∙ sym (append-nil (stores (isotope_record (shift_map filled x) 1 0 0))))
isotopes_stored (specific_isotopes xs) k e h =
    let ys = items xs in
    walk_row file_isotope file_specific specific_filed ys k (filed 0 []) e
    ∙ ap (walked k) (row_filed ys 0 [] (length k) ∙ ap₂ filed (omega (arith, records_length ys)) (records_told ys h))
