-- What is printed of charge, deviation and confidence that are stored: from the fields alone, and then from the bytes in which every
-- edition has those fields, whatever follows them. Assumes nothing.
use Prim.Native.Nat.{ℕ, ◌+◌, ◌-◌, ◌%◌, ◌^◌, ◌<◌, ◌≤◌}
use mathlib.Core.Path.{◌≡◌, refl, ap, ap₂, ◌∙◌}
use mathlib.Core.Bool.{Bool, true, false, not, ◌||◌, cond}
use mathlib.Core.List.{List, [], ◌++◌, append_assoc}
use native.Mathlib.Omega.{arith}
use lib.Dec.{T, leb, ltb, eqb, leb→le}
use lib.ListN.{get_or, drop}
use borrow.Author.Tests.{lt-leb, lt-ltb, le-ltb}
use Rattle.lang.specs.Parts.{Opt, silent, written, opt_text, opt_map}
use Rattle.rules.specs.Bytes.{bytes}
use Rattle.rules.specs.Numbers.{From}
use Rattle.rules.specs.Decimals.{Decimal, decimal_text}
use Rattle.rules.specs.Confidences.{in_full, confidence_text}
use Rattle.rules.specs.Annotations.{TableAnnotation, Deviation, flag_text}
use Rattle.rules.specs.Annotations as rules
use Rattle.rules.specs.House.{deviation_rule}
use Rattle.rules.specs.Preferred.{count_or1}
use Rattle.rules.specs.Stored.{stores, flag, present, value_or0, deviation_kind, signed, common_fields}
use Rattle.rules.specs.Limits.{max_charge, max_places, max_digits}
use Rattle.rules.specs.Layout.{charge_at, deviation_kind_at, deviation_places_at, confidence_present_at, confidence_places_at, deviation_at, confidence_at, text_length_at}
use Rattle.slices.specs.Numbers.{u32_at, u64_at}
use Rattle.print_parts.specs.Tails.{charge_printed, signed_size, signed_printed, deviation_printed, confidence_printed, tail_printed}
use Rattle.slices.proofs.StoredNumbers.{quad_stored, oct_stored}

-- numbers fit the fields of the record, and no `-` stands before 0
pub record TailOk (a : TableAnnotation) : Type 0 where
  pub charge : count_or1 a.charge ≤ max_charge
  pub size : value_or0 (λ d. d.size.value) a.deviation < 10 ^ max_digits
  pub places : value_or0 (λ d. d.size.places) a.deviation ≤ max_places
  pub sign : T (deviation_rule a.deviation)
  pub share : value_or0 (λ d. d.value) a.confidence < 2 ^ 32
  pub decimals : value_or0 (λ d. d.places) a.confidence ≤ max_places

-- ---- from the fields alone

charge_told : (s : List ℕ) (c : Opt (From 2)) → get_or s charge_at 0 ≡ count_or1 c → charge_printed s ≡ opt_text rules.charge_text c
unfolding charge_printed
charge_told s silent e = rw e
charge_told s (written n) e = let h : 1 < n.value = omega (arith, leb→le 2 n.value n.least) in rw (e, lt-leb n.value 1 h)

signed_told : (m : Bool) (v places : ℕ) → v < 10 ^ max_digits → T (not m || leb 1 v)
    → signed_printed (signed m v) places ≡ flag_text (bytes "-") m ++ decimal_text (record { value = v; places = places })
unfolding signed_printed
signed_told true v places h g =
    let some = leb→le 1 v g in
    let n = 18446744073709551616 - v in
    let t : ltb n 9223372036854775808 ≡ false = le-ltb n 9223372036854775808 (omega arith) in
    let e : signed_size n ≡ v = ap (λ (b : Bool). cond b n (18446744073709551616 - n)) t ∙ omega arith in
    ap₂ (λ (b : Bool) (z : ℕ). cond b [] (bytes "-") ++ decimal_text (record { value = z; places = places })) t e
signed_told false v places h g =
    let t : ltb v 9223372036854775808 ≡ true = lt-ltb v 9223372036854775808 (omega arith) in
    let e : signed_size v ≡ v = ap (λ (b : Bool). cond b v (18446744073709551616 - v)) t in
    ap₂ (λ (b : Bool) (z : ℕ). cond b [] (bytes "-") ++ decimal_text (record { value = z; places = places })) t e

kind_told : (ppm : Bool) (w : List ℕ) → cond (eqb (1 + flag ppm) 0) [] (bytes "/" ++ (w ++ cond (eqb (1 + flag ppm) 1) [] (bytes "ppm"))) ≡ bytes "/" ++ (w ++ flag_text (bytes "ppm") ppm)
kind_told true w = refl
kind_told false w = refl

deviation_told : (s : List ℕ) (x : Opt Deviation) → get_or s deviation_kind_at 0 ≡ deviation_kind x → get_or s deviation_places_at 0 ≡ value_or0 (λ d. d.size.places) x
    → u64_at (drop deviation_at s) ≡ value_or0 (λ d. signed d.minus d.size.value) x → value_or0 (λ d. d.size.value) x < 10 ^ max_digits → T (deviation_rule x)
    → deviation_printed s ≡ opt_text rules.deviation_text x
unfolding deviation_printed
deviation_told s silent k p v h g = rw k
deviation_told s (written d) k p v h g =
    let minus = flag_text (bytes "-") d.minus in
    let size = decimal_text d.size in
    rw (k, p, v)
    (kind_told d.ppm (signed_printed (signed d.minus d.size.value) d.size.places)
    ∙ ap (λ (w : List ℕ). bytes "/" ++ (w ++ flag_text (bytes "ppm") d.ppm)) (signed_told d.minus d.size.value d.size.places h g)
    ∙ ap (λ (w : List ℕ). bytes "/" ++ w) (append_assoc minus size (flag_text (bytes "ppm") d.ppm)))

confidence_told : (s : List ℕ) (x : Opt Decimal) → get_or s confidence_present_at 0 ≡ present x → get_or s confidence_places_at 0 ≡ value_or0 (λ d. d.places) x
    → u32_at (drop confidence_at s) ≡ value_or0 (λ d. d.value) x → confidence_printed s ≡ opt_text confidence_text (opt_map in_full x)
unfolding confidence_printed
confidence_told s silent k p v = rw k
confidence_told s (written d) k p v = rw (k, p, v)

-- ---- from the record

kind_kept : (x : Opt Deviation) → deviation_kind x % 256 ≡ deviation_kind x
kind_kept silent = refl
kind_kept (written d) = by d.ppm
  where
    by : (b : Bool) → (1 + flag b) % 256 ≡ 1 + flag b
    by true = refl
    by false = refl

present_kept : {A : Type 0} (x : Opt A) → present x % 256 ≡ present x
present_kept silent = refl
present_kept (written x) = refl

signed_kept : (x : Opt Deviation) → value_or0 (λ d. d.size.value) x < 10 ^ max_digits → T (deviation_rule x) → value_or0 (λ d. signed d.minus d.size.value) x < 2 ^ 64
signed_kept silent h g = omega arith
signed_kept (written d) h g = by d.minus d.size.value h g
  where
    by : (m : Bool) (v : ℕ) → v < 10 ^ max_digits → T (not m || leb 1 v) → signed m v < 2 ^ 64
    by true v h g = let some = leb→le 1 v g in omega arith
    by false v h g = omega arith

pub byte_kept : (n : ℕ) → n ≤ 255 → n % 256 ≡ n
byte_kept n h = omega arith

pub tail_printed_lem : (a : TableAnnotation) (k : List ℕ) → TailOk a
    → tail_printed (stores (common_fields a) ++ k)
    ≡ opt_text rules.charge_text a.charge ++ (opt_text rules.deviation_text a.deviation ++ opt_text confidence_text (opt_map in_full a.confidence))
tail_printed_lem a k ok =
    let s = stores (common_fields a) ++ k in
    let d = a.deviation in
    let c = a.confidence in
    ap₂ (λ (x y : List ℕ). x ++ y) (charge_told s a.charge (byte_kept (count_or1 a.charge) ok.charge))
    (ap₂ (λ (x y : List ℕ). x ++ y)
    (deviation_told s d (kind_kept d) (byte_kept (value_or0 (λ d. d.size.places) d) (omega (arith, ok.places)))
    (oct_stored (value_or0 (λ d. signed d.minus d.size.value) d) (drop confidence_at s) (signed_kept d ok.size ok.sign)) ok.size ok.sign)
    (confidence_told s c (present_kept c) (byte_kept (value_or0 (λ d. d.places) c) (omega (arith, ok.decimals)))
    (quad_stored (value_or0 (λ d. d.value) c) (drop text_length_at s) ok.share)))
