-- What is read of an isotope that is spelled. Assumes nothing.
use Prim.Native.Nat.{ℕ, ◌+◌, min}
use mathlib.Core.Path.{◌≡◌, refl, sym, ap, ap₂, ◌∙◌}
use mathlib.Core.Bool.{true, false}
use mathlib.Core.List.{List, ◌∷◌, ◌++◌, append_assoc}
use native.Mathlib.Omega.{arith}
use lib.ListN.{length, drop, length-append}
use lib.Seq.{drop-append_seam}
use Rattle.std.specs.Prelude.{Option}
use Rattle.lang.specs.Parts.{word_of}
use Rattle.lang.proofs.Ranges.{first_below}
use Rattle.rules.specs.Bytes.{bytes, digit}
use Rattle.rules.specs.Texts.{first_in, starts_with}
use Rattle.rules.specs.Numbers.{number_text}
use Rattle.rules.specs.Elements.{atomic_number}
use Rattle.rules.specs.Formulas.{Written, written_text}
use Rattle.rules.specs.Losses.{sign_text}
use Rattle.rules.specs.Isotopes.{Shift, shift_text, Specific, specific_text}
use Rattle.changes.proofs.Signs.{sign_read}
use Rattle.numbers.proofs.SpelledNumbers.{number_begins, number_read}
use Rattle.elements.specs.Symbols.{small}
use Rattle.elements.proofs.Begins.{element_read, symbol_begins}
use Rattle.faults.specs.declared.Refusal.{Refusal}
use Rattle.read_formula.proofs.Spelled.{capped}
use Rattle.read_opening.specs.declared.Head.{Head}
use Rattle.read_opening.specs.Heads.{head_of, begins_isotope, begins_change}
use Rattle.read_opening.proofs.SpelledOpenings.{count_told, drop_read, head_read_lem, isotope_begins, sign_long}
use Rattle.read_isotopes.specs.declared.IsotopeKind.TheVariants as kind
use Rattle.read_isotopes.specs.declared.IsotopeRead.{IsotopeRead}
use Rattle.read_isotopes.specs.Isotopes.{isotope_fault, isotope_with, isotope_in, isotope_of}
use Rattle.read_isotopes.proofs.Parts.{in_specific, in_average, in_plain}

-- ---- sign, count and `i`

abbrev pub head_read : Shift Written → Head
head_read x = record { sign = sign_read x.sign; count = count_told x.count; len = 1 + length (written_text x.count) }

pub shift_long : (x : Shift Written) → length (shift_text x) ≡ 1 + length (written_text x.count) + 1
shift_long x = simp length-append (omega (arith, sign_long x.sign))

module _ (x : Shift Written) (t : List ℕ) where
  pub shift_text_lem : shift_text x ++ t ≡ sign_text x.sign ++ (written_text x.count ++ (105 ∷ t))
  shift_text_lem = simp append_assoc

  pub shift_begins : (begins_isotope (shift_text x ++ t) ≡ true) × (begins_change (shift_text x ++ t) ≡ false)
  shift_begins =
      let b = isotope_begins x.sign x.count (105 ∷ t) refl refl in
      (ap begins_isotope shift_text_lem ∙ b.0, ap begins_change shift_text_lem ∙ b.1)

  pub shift_head : head_of (shift_text x ++ t) ≡ head_read x
  shift_head = ap head_of shift_text_lem ∙ head_read_lem x.sign x.count (105 ∷ t) refl

  shift_read : (i end : ℕ) (f : Option Refusal) → isotope_of i end (shift_text x ++ t) f ≡ isotope_in i end (shift_text x ++ t) (head_read x) (length (shift_text x)) f
  unfolding isotope_of
  shift_read i end f =
      let s = shift_text x ++ t in
      let l : min (1 + length (written_text x.count) + 1) (length s) ≡ length (shift_text x) = omega (arith, shift_long x, length-append (shift_text x) t) in
      ap (λ (h : Head). isotope_in i end s h (min (h.len + 1) (length s)) f) shift_head
      ∙ ap (λ (n : ℕ). isotope_in i end s (head_read x) n f) l

  -- what stands behind the count
  pub behind_count : drop (1 + length (written_text x.count)) (shift_text x ++ t) ≡ 105 ∷ t
  behind_count = ap (drop (1 + length (written_text x.count))) shift_text_lem ∙ drop_read x.sign x.count (105 ∷ t)

  -- what stands behind the `i`
  behind_shift : drop (length (shift_text x)) (shift_text x ++ t) ≡ t
  behind_shift = drop-append_seam (shift_text x) t

-- ---- plain and average isotopes

-- the limits, where `left` bytes are left of a line of `end` bytes
abbrev pub shift_fault : ℕ → Shift Written → ℕ → ℕ → ℕ → Option Refusal → Option Refusal
shift_fault i x nucleons end left f = isotope_fault i (head_read x) nucleons (length (shift_text x)) end left f

pub plain_read : (i end : ℕ) (x : Shift Written) (k : List ℕ) (f : Option Refusal) → first_in digit k ≡ false → starts_with (bytes "A") k ≡ false
    → isotope_of i end (shift_text x ++ k) f ≡ isotope_with (head_read x) kind.Plain (length (shift_text x)) (shift_fault i x 0 end (length (shift_text x ++ k)) f)
plain_read i end x k f d a =
    shift_read x k i end f
    ∙ in_plain i end (shift_text x ++ k) (head_read x) (length (shift_text x)) f (ap (first_in digit) (behind_shift x k) ∙ d) (ap (starts_with (bytes "A")) (behind_shift x k) ∙ a)

pub average_read : (i end : ℕ) (x : Shift Written) (k : List ℕ) (f : Option Refusal)
    → isotope_of i end ((shift_text x ++ bytes "A") ++ k) f
    ≡ isotope_with (head_read x) kind.Average (length (shift_text x ++ bytes "A")) (shift_fault i x 0 end (length ((shift_text x ++ bytes "A") ++ k)) f)
average_read i end x k f =
    let t : List ℕ = 65 ∷ k in
    let p : (shift_text x ++ bytes "A") ++ k ≡ shift_text x ++ t = append_assoc (shift_text x) (bytes "A") k in
    let l : min (length (shift_text x) + 1) (length (shift_text x ++ t)) ≡ length (shift_text x ++ bytes "A") = omega (arith, length-append (shift_text x) t, length-append (shift_text x) (bytes "A")) in
    ap (λ (s : List ℕ). isotope_of i end s f) p ∙ shift_read x t i end f
    ∙ in_average i end (shift_text x ++ t) (head_read x) (length (shift_text x)) f (ap (first_in digit) (behind_shift x t)) (ap (starts_with (bytes "A")) (behind_shift x t))
    ∙ ap₂ (λ (n : ℕ) (s : List ℕ). isotope_with (head_read x) kind.Average n (shift_fault i x 0 end (length s) f)) l (sym p)

-- ---- specific isotopes

abbrev pub specific_read : ℕ → ℕ → Specific Written → ℕ → Option Refusal → IsotopeRead
specific_read i end x left f =
    isotope_with (head_read x.shift) (kind.Specific (capped x.nucleons.value) (atomic_number x.symbol)) (length (specific_text x))
    (shift_fault i x.shift (capped x.nucleons.value) end left f)

module _ (x : Specific Written) (k : List ℕ) where
  abbrev behind_i : List ℕ
  behind_i = number_text x.nucleons ++ (word_of x.symbol ++ k)

  specific_text_lem : specific_text x ++ k ≡ shift_text x.shift ++ behind_i
  specific_text_lem = simp append_assoc

  specific_long : min (min (length (shift_text x.shift) + length (number_text x.nucleons)) (length (shift_text x.shift ++ behind_i)) + length (word_of x.symbol))
      (length (shift_text x.shift ++ behind_i)) ≡ length (specific_text x)
  specific_long =
      omega (
        arith,
        length-append (shift_text x.shift) behind_i,
        length-append (number_text x.nucleons) (word_of x.symbol ++ k),
        length-append (word_of x.symbol) k,
        length-append (shift_text x.shift) (number_text x.nucleons ++ word_of x.symbol),
        length-append (number_text x.nucleons) (word_of x.symbol),
      )

  pub specific_read_lem : (i end : ℕ) (f : Option Refusal) → first_in small k ≡ false → isotope_of i end (specific_text x ++ k) f ≡ specific_read i end x (length (specific_text x ++ k)) f
  specific_read_lem i end f e =
      let g = x.shift in
      let s = shift_text g ++ behind_i in
      let at = length (shift_text g) in
      let d = ap (first_in digit) (behind_shift g behind_i) ∙ number_begins x.nucleons.value (word_of x.symbol ++ k) in
      let no_digit = first_below 65 90 48 57 (omega arith) (word_of x.symbol ++ k) (symbol_begins x.symbol k) in
      ap (λ (s : List ℕ). isotope_of i end s f) specific_text_lem ∙ shift_read g behind_i i end f ∙ in_specific i end s (head_read g) at f d
      ∙ rw (
        behind_shift g behind_i,
        number_read x.nucleons.value (word_of x.symbol ++ k) no_digit,
        drop-append_seam (number_text x.nucleons) (word_of x.symbol ++ k),
        element_read x.symbol k e,
      )
      (ap₂ (λ (n : ℕ) (s : List ℕ). isotope_with (head_read g) (kind.Specific (capped x.nucleons.value) (atomic_number x.symbol)) n (shift_fault i g (capped x.nucleons.value) end (length s) f)) specific_long (sym specific_text_lem))
