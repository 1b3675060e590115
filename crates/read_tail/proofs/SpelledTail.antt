-- What is read of a charge, a confidence and a deviation that are spelled. Assumes nothing.
use Prim.Native.Nat.{ℕ, zero, suc, ◌+◌, ◌-◌, ◌≤◌, ◌<◌}
use mathlib.Core.Path.{◌≡◌, refl, sym, ap, ap₂, ◌∙◌}
use mathlib.Core.Bool.{Bool, true, false, cond, not, ◌&&◌}
use mathlib.Core.List.{List, [], ◌∷◌, ◌++◌, append_assoc}
use native.Mathlib.Omega.{arith}
use lib.Dec.{eqb}
use lib.ListN.{length, drop, length-append}
use lib.Seq.{drop-append_seam, drop-append-add}
use borrow.Author.Tests.{ne_eqb}
use Rattle.lang.specs.Parts.{Opt, silent, written, opt_text}
use Rattle.lang.proofs.Tests.{not_t}
use Rattle.lang.proofs.Ranges.{in_range}
use Rattle.rules.specs.Bytes.{bytes, digit}
use Rattle.rules.specs.Texts.{first_in, starts_with}
use Rattle.rules.specs.Numbers.{From}
use Rattle.rules.specs.Decimals.{Decimal, point_text, decimal_text}
use Rattle.rules.specs.Confidences.{Confidence, in_full, from_point_lem, confidence_text, meant_decimal}
use Rattle.rules.specs.Annotations.{Deviation, flag_text, charge_text, deviation_text}
use Rattle.rules.specs.Limits.{max_charge, fits, decimal_mark, opt_part, charge_part, deviation_part, confidence_part}
use Rattle.rules.proofs.Confidences.{leaves_zero, places_some, point_length}
use Rattle.numbers.specs.declared.Decimal as numbers
use Rattle.numbers.specs.declared.FirstByte.TheVariants.{Digit, DigitOrPoint}
use Rattle.std.specs.Prelude.{Some, None, Option}
use Rattle.numbers.specs.Making.{zero_decimal, made_of}
use Rattle.numbers.specs.Points.{point}
use Rattle.numbers.proofs.SpelledNumbers.{number_read, decimal_begins, decimal_read, point_read}
use Rattle.faults.specs.declared.Refusal.{Refusal}
use Rattle.faults.specs.Faults.{join, after}
use Rattle.read_formula.proofs.Spelled.{capped}
use Rattle.read_formula.proofs.Limits.{mark_told}
use Rattle.read_tail.specs.declared.PartKind.{PartKind}
use Rattle.read_tail.specs.declared.PartKind.TheVariants.{Plain, Ppm}
use Rattle.read_tail.specs.declared.DecimalPart.{DecimalPart}
use Rattle.read_tail.specs.Charges.{charge_of}
use Rattle.read_tail.specs.Decimals.{no_part, part_of, digit_at, confidence_of, deviation_of}
use Rattle.read_tail.proofs.Devs.{in_ppm, in_units}

-- ---- charges

abbrev pub charge_read : Opt (From 2) → ℕ
charge_read silent = 1
charge_read (written n) = capped n.value

pub charge_read_lem : (c : Opt (From 2)) (k : List ℕ) (end : ℕ) (f : Option Refusal) → first_in digit k ≡ false → starts_with (bytes "^") k ≡ false
    → length (opt_text charge_text c ++ k) ≤ end
    → charge_of end (opt_text charge_text c ++ k) f
    ≡ record { value = charge_read c; len = length (opt_text charge_text c); fault = after f ((opt_part charge_part c).marks (end - length (opt_text charge_text c ++ k))) }
unfolding charge_of
charge_read_lem silent k end f d e h = rw e
charge_read_lem (written n) k end f d e h =
    rw (number_read n.value k d)
    (ap₂ (λ (l : ℕ) (g : Option Refusal). record { value = capped n.value; len = l; fault = g }) (omega arith)
    (mark_told f max_charge n.value (end - (length (charge_text n ++ k) - 1)) (end - length (charge_text n ++ k) + 1) (omega arith) (omega arith)))

-- ---- decimals

-- a decimal as it is capped: past its bounds it is 0
abbrev pub size_read : Decimal → Bool → numbers.Decimal
size_read d fitting = cond fitting (record { value = d.value; places = d.places }) zero_decimal

abbrev pub part_read : PartKind → Bool → Bool → Decimal → ℕ → Option Refusal → DecimalPart
part_read kind minus bare d len g = record { kind = kind; minus = minus; bare = bare; size = size_read d (fits d); len = len; fault = g }

pub part_made : (d : Decimal) (kind : PartKind) (minus bare : Bool) (len place : ℕ) (f : Option Refusal)
    → part_of (made_of d.value d.places) kind minus bare len place f ≡ part_read kind minus bare d len (after f (decimal_mark d place))
unfolding made_of part_of
part_made d kind minus bare len place f = by (fits d)
  where
    by : (t : Bool) → part_of (cond t (Some (record { value = d.value; places = d.places })) None) kind minus bare len place f
        ≡ record { kind = kind; minus = minus; bare = bare; size = size_read d t; len = len; fault = join f (record { place = place; number = 4; broken = not t }) }
    by true = refl
    by false = refl

-- ---- confidences

-- a byte that is no digit, before a digit
digit_not : (b : ℕ) → b < 48 → (s : List ℕ) → first_in digit s ≡ true → starts_with (b ∷ []) s ≡ false
digit_not b h [] e = refl
digit_not b h (a ∷ s) e = let r = in_range 48 57 a e in rw (ne_eqb b a (λ q. omega arith))

point_begins : (n v : ℕ) (k : List ℕ) → 1 ≤ n → starts_with (bytes ".") (point_text n v ++ k) ≡ true
unfolding point_text
point_begins zero v k h = absurd (omega arith)
point_begins (suc n) v k h = refl

abbrev pub confidence_read : Opt Confidence → Option Refusal → DecimalPart
confidence_read silent g = no_part g
confidence_read (written c) g = part_read Plain false (leaves_zero c) (meant_decimal c) (length (confidence_text c)) g

pub confidence_read_lem : (c : Opt Confidence) (k : List ℕ) (end : ℕ) (f : Option Refusal) → first_in digit k ≡ false → first_in point k ≡ false → starts_with (bytes "*") k ≡ false
    → length (opt_text confidence_text c ++ k) ≤ end
    → confidence_of end (opt_text confidence_text c ++ k) f ≡ confidence_read c (after f ((opt_part confidence_part c).marks (end - length (opt_text confidence_text c ++ k))))
unfolding confidence_of
confidence_read_lem silent k end f d p e h = rw e
confidence_read_lem (written (in_full x)) k end f d p e h =
    rw (digit_not 46 (omega arith) (decimal_text x ++ k) (decimal_begins x k), decimal_read DigitOrPoint x k d p)
    (part_made x Plain false false (1 + length (decimal_text x)) (end - (length (confidence_text (in_full x) ++ k) - 1)) f
    ∙ ap₂ (λ (l n : ℕ). part_read Plain false false x l (after f (decimal_mark x n))) (omega arith) (omega arith))
confidence_read_lem (written (from_point_lem z)) k end f d p e h =
    let x = z.decimal in
    let t = point_text x.places x.value in
    let some : 1 ≤ length t = omega (arith, point_length x.places x.value (places_some z)) in
    rw (point_begins x.places x.value k (places_some z), point_read z k d p)
    (part_made x Plain false true (1 + length t) (end - (length (confidence_text (from_point_lem z) ++ k) - 2)) f
    ∙ ap₂ (λ (l n : ℕ). part_read Plain false true x l (after f (decimal_mark x n))) (omega arith) (omega (arith, length-append t k)))

-- ---- deviations

no_ppm : (k : List ℕ) → starts_with (bytes "p") k ≡ false → starts_with (bytes "ppm") k ≡ false
no_ppm [] e = refl
no_ppm (b ∷ k) e = by (eqb 112 b) (starts_with (bytes "pm") k) e
  where
    by : (x y : Bool) → x && true ≡ false → x && y ≡ false
    by true y e = absurd (not_t {x = true} e tt)
    by false y e = refl

-- the text from left to right
abbrev spelled : Bool → Decimal → List ℕ → List ℕ
spelled m d k = 47 ∷ (flag_text (bytes "-") m ++ (decimal_text d ++ k))

minus_read : (m : Bool) (d : Decimal) (k : List ℕ) → m ≡ starts_with (bytes "-") (drop 1 (spelled m d k))
minus_read true d k = refl
minus_read false d k = sym (digit_not 45 (omega arith) (decimal_text d ++ k) (decimal_begins d k))

size_read_lem : (m : Bool) (d : Decimal) (k : List ℕ) → decimal_text d ++ k ≡ drop (digit_at m) (spelled m d k)
size_read_lem true d k = refl
size_read_lem false d k = refl

rest_read : (m : Bool) (d : Decimal) (k : List ℕ) → k ≡ drop (digit_at m + length (decimal_text d)) (spelled m d k)
rest_read true d k = sym (drop-append-add (47 ∷ 45 ∷ []) (decimal_text d ++ k) (length (decimal_text d)) ∙ drop-append_seam (decimal_text d) k)
rest_read false d k = sym (drop-append-add (47 ∷ []) (decimal_text d ++ k) (length (decimal_text d)) ∙ drop-append_seam (decimal_text d) k)

size_flag : (m : Bool) → digit_at m ≡ 1 + length (flag_text (bytes "-") m)
size_flag true = refl
size_flag false = refl

abbrev pub kind_read : Bool → PartKind
kind_read true = Ppm
kind_read false = Plain

text_is : (x : Deviation) (k : List ℕ) → deviation_text x ++ k ≡ spelled x.minus x.size (flag_text (bytes "ppm") x.ppm ++ k)
text_is x k = simp append_assoc

parts_read_lem : (m p : Bool) (d : Decimal) (k : List ℕ) (end : ℕ) (f : Option Refusal) → first_in digit k ≡ false → first_in point k ≡ false → starts_with (bytes "p") k ≡ false
    → let s = spelled m d (flag_text (bytes "ppm") p ++ k) in
    part_of (made_of d.value d.places) (kind_read p) m false (digit_at m + length (decimal_text d) + length (flag_text (bytes "ppm") p)) (end - (length s - digit_at m)) f ≡ deviation_of end s f
parts_read_lem m true d k end f e o n =
    let j = bytes "ppm" ++ k in
    in_ppm (spelled m d j) end f refl (minus_read m d j) refl (size_read_lem m d j) (sym (decimal_read Digit d j refl refl)) (rest_read m d j) refl refl refl refl
parts_read_lem m false d k end f e o n =
    ap (λ (l : ℕ). part_of (made_of d.value d.places) Plain m false l (end - (length (spelled m d k) - digit_at m)) f) (omega arith)
    ∙ in_units (spelled m d k) end f refl (minus_read m d k) refl (size_read_lem m d k) (sym (decimal_read Digit d k e o)) (rest_read m d k) refl refl (no_ppm k n) refl

abbrev pub deviation_read : Opt Deviation → Option Refusal → DecimalPart
deviation_read silent g = no_part g
deviation_read (written x) g = part_read (kind_read x.ppm) x.minus false x.size (length (deviation_text x)) g

pub deviation_read_lem : (c : Opt Deviation) (k : List ℕ) (end : ℕ) (f : Option Refusal) → first_in digit k ≡ false → first_in point k ≡ false → starts_with (bytes "p") k ≡ false → starts_with (bytes "/") k ≡ false
    → length (opt_text deviation_text c ++ k) ≤ end
    → deviation_of end (opt_text deviation_text c ++ k) f ≡ deviation_read c (after f ((opt_part deviation_part c).marks (end - length (opt_text deviation_text c ++ k))))
unfolding deviation_of
deviation_read_lem silent k end f d p n e h = rw e
deviation_read_lem (written x) k end f d p n e h =
    let m = x.minus in
    let s = spelled m x.size (flag_text (bytes "ppm") x.ppm ++ k) in
    let t = text_is x k in
    let u : length (deviation_text x ++ k) ≡ length s = ap length t in
    let z = size_flag m in
    let v : digit_at m + length (decimal_text x.size) + length (flag_text (bytes "ppm") x.ppm) ≡ length (deviation_text x) = simp length-append (omega arith) in
    let w : length (deviation_text x ++ k) ≡ length (deviation_text x) + length k = length-append (deviation_text x) k in
    ap (λ (q : List ℕ). deviation_of end q f) t ∙ sym (parts_read_lem m x.ppm x.size k end f d p n)
    ∙ part_made x.size (kind_read x.ppm) m false (digit_at m + length (decimal_text x.size) + length (flag_text (bytes "ppm") x.ppm)) (end - (length s - digit_at m)) f
    ∙ ap₂ (λ (l n : ℕ). part_read (kind_read x.ppm) m false x.size l (after f (decimal_mark x.size n))) v (omega arith)
