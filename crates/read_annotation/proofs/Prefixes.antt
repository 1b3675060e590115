-- What is read of `&` and analyte that are spelled. Assumes nothing.
use Prim.Native.Nat.{ℕ, ◌+◌, ◌-◌, ◌≤◌, min}
use mathlib.Core.Path.{◌≡◌, refl, ap, ap₂, ◌∙◌}
use mathlib.Core.Bool.{Bool, true, false}
use Rattle.std.specs.Prelude.{Option, Some, None}
use Rattle.std.specs.Int.{from_bool}
use mathlib.Core.List.{List, [], ◌∷◌, ◌++◌, append_assoc}
use native.Mathlib.Omega.{arith}
use lib.ListN.{length, drop, length-append}
use borrow.Author.Tests.{ne_eqb}
use Rattle.lang.specs.Parts.{Opt, silent, written, opt_text}
use Rattle.lang.proofs.Ranges.{in_range}
use Rattle.rules.specs.Bytes.{bytes, digit}
use Rattle.rules.specs.Texts.{first_in, starts_with}
use Rattle.rules.specs.Numbers.{digits}
use Rattle.rules.specs.Annotations.{flag_text, analyte_text}
use Rattle.rules.specs.Limits.{max_position, number_mark, opt_part, analyte_part}
use Rattle.rules.specs.Stored.{flag}
use Rattle.numbers.specs.declared.Number.{Number}
use Rattle.numbers.specs.Leading.{number_of}
use Rattle.numbers.proofs.SpelledNumbers.{number_begins, number_read}
use Rattle.faults.specs.declared.Refusal.{Refusal}
use Rattle.faults.specs.Faults.{after}
use Rattle.read_formula.proofs.Spelled.{capped}
use Rattle.read_formula.proofs.Limits.{mark_told}
use Rattle.read_annotation.specs.declared.PrefixRead.{PrefixRead}
use Rattle.read_annotation.specs.Parts.{prefix_with, prefix_in, prefix_of}

-- a flag as the library makes a number of it
pub flag_number : (b : Bool) → from_bool b ≡ flag b
flag_number true = refl
flag_number false = refl

-- how many bytes stand before the ion
abbrev pub prefix_length : Bool → Opt ℕ → ℕ
prefix_length m n = length (flag_text (bytes "&") m) + length (opt_text analyte_text n)

abbrev pub analyte_number : Opt ℕ → Option ℕ
analyte_number silent = None
analyte_number (written n) = Some (capped n)

abbrev pub prefix_read : Bool → Opt ℕ → Option Refusal → PrefixRead
prefix_read m n g = record { marked = m; analyte = analyte_number n; len = prefix_length m n; fault = g }

-- a digit is no `&`
digit_no_mark : (s : List ℕ) → first_in digit s ≡ true → starts_with (bytes "&") s ≡ false
digit_no_mark [] e = refl
digit_no_mark (b ∷ s) e = let r = in_range 48 57 b e in rw (ne_eqb 38 b (λ q. omega arith))

analyte_text_lem : (n : ℕ) (k : List ℕ) → analyte_text n ++ k ≡ digits n ++ (64 ∷ k)
analyte_text_lem n k = append_assoc (digits n) (bytes "@") k

analyte_begins : (n : ℕ) (k : List ℕ) → first_in digit (analyte_text n ++ k) ≡ true
analyte_begins n k = rw (analyte_text_lem n k) (number_begins n (64 ∷ k))

module _ (k : List ℕ) (mark : starts_with (bytes "&") k ≡ false) (no_digit : first_in digit k ≡ false) where
  analyte_no_mark : (n : Opt ℕ) → starts_with (bytes "&") (opt_text analyte_text n ++ k) ≡ false
  analyte_no_mark silent = mark
  analyte_no_mark (written n) = digit_no_mark (analyte_text n ++ k) (analyte_begins n k)

  flag_read : (m : Bool) (n : Opt ℕ) → starts_with (bytes "&") (flag_text (bytes "&") m ++ (opt_text analyte_text n ++ k)) ≡ m
  flag_read true n = refl
  flag_read false n = analyte_no_mark n

  behind_flag_lem : (m : Bool) (s : List ℕ) → drop (flag m) (flag_text (bytes "&") m ++ s) ≡ s
  behind_flag_lem true s = refl
  behind_flag_lem false s = refl

  flag_long : (m : Bool) → length (flag_text (bytes "&") m) ≡ flag m
  flag_long true = refl
  flag_long false = refl

  -- behind `&`: `at` bytes of s stand before t
  analyte_read : (n : Opt ℕ) (m : Bool) (end : ℕ) (f : Option Refusal) (s : List ℕ) → drop (flag m) s ≡ opt_text analyte_text n ++ k → length s ≡ flag m + length (opt_text analyte_text n ++ k)
      → length (opt_text analyte_text n ++ k) ≤ end
      → prefix_in end s m f ≡ prefix_read m n (after f ((opt_part analyte_part n).marks (end - length (opt_text analyte_text n ++ k))))
  analyte_read silent m end f s d l h =
      let z : flag m ≡ prefix_length m silent = omega (arith, flag_long m) in
      rw (d, no_digit) (ap (λ (x : ℕ). record { marked = m; analyte = None; len = x; fault = f }) z)
  analyte_read (written n) m end f s d l h =
      let t = analyte_text n ++ k in
      let r : number_of t ≡ record { value = capped n; len = length (digits n) } = ap number_of (analyte_text_lem n k) ∙ number_read n (64 ∷ k) refl in
      let u = length-append (analyte_text n) k in
      let v = length-append (digits n) (bytes "@") in
      let w : min (min (flag m + length (digits n)) (length s) + 1) (length s) ≡ prefix_length m (written n) = omega (arith, flag_long m) in
      rw (d, analyte_begins n k)
      (ap (λ (x : Number). prefix_with s m (flag m) x (after f (number_mark max_position x.value (end - length t)))) r
      ∙ ap₂ (λ (x : ℕ) (g : Option Refusal). record { marked = m; analyte = Some (capped n); len = x; fault = g }) w
      (mark_told f max_position n (end - length t) (end - length t) (omega arith) refl))

  pub prefix_read_lem : (m : Bool) (n : Opt ℕ) (end : ℕ) (f : Option Refusal) → length (flag_text (bytes "&") m ++ (opt_text analyte_text n ++ k)) ≤ end
      → prefix_of end (flag_text (bytes "&") m ++ (opt_text analyte_text n ++ k)) f ≡ prefix_read m n (after f ((opt_part analyte_part n).marks (end - length (opt_text analyte_text n ++ k))))
  unfolding prefix_of
  prefix_read_lem m n end f h =
      let t = opt_text analyte_text n ++ k in
      let s = flag_text (bytes "&") m ++ t in
      let l = length-append (flag_text (bytes "&") m) t in
      let fl = flag_long m in
      ap (λ (t : Bool). prefix_in end s t f) (flag_read m n) ∙ analyte_read n m end f s (behind_flag_lem m t) (omega arith) (omega arith)
