-- What is read of a unit that is spelled. Assumes nothing.
use Prim.Native.Nat.{ℕ, ◌+◌, min}
use mathlib.Core.Path.{◌≡◌, refl, sym, ap, ◌∙◌}
use mathlib.Core.Bool.{Bool, true, false, ◌&&◌}
use mathlib.Core.List.{List, [], ◌∷◌, ◌++◌, append_assoc, append-nil}
use native.Mathlib.Omega.{arith}
use lib.Dec.{eqb}
use lib.ListN.{length, drop, length-append}
use lib.Seq.{drop-append_seam, drop-append-add, drop-drop}
use borrow.Author.Tests.{ne_eqb, eqb-true}
use Rattle.lang.specs.Re.{in_c, either}
use Rattle.lang.specs.Parts.{silent, written, word_of}
use Rattle.lang.proofs.Tests.{case}
use Rattle.lang.proofs.Ranges.{in_range, range_below, range_above, first_above, first_below}
use Rattle.rules.specs.Bytes.{bytes, capital, digit}
use Rattle.rules.specs.Texts.{first_in, starts_with}
use Rattle.rules.specs.Numbers.{Number, number_text}
use Rattle.rules.specs.Elements.{Symbol, atomic_number}
use Rattle.rules.specs.Formulas.{Written, written_text, FormulaUnit, plain, labelled, unit_text}
use Rattle.numbers.specs.Leading.{number_of}
use Rattle.numbers.proofs.SpelledNumbers.{number_begins, number_read, number_silent}
use Rattle.numbers.proofs.Bounds.{some_digits}
use Rattle.elements.specs.Symbols.{small, element_of}
use Rattle.elements.proofs.Begins.{element_read, symbol_begins}
use Rattle.read_formula.specs.declared.UnitRead.{UnitRead}
use Rattle.read_formula.specs.declared.UnitSpan.{UnitSpan}
use Rattle.read_formula.specs.Units.{begins_unit, or_one, plain_span, labelled_span, span_of, unit_with, unit_of}

-- a number as it is read: no bound is a million or more
abbrev pub capped : ℕ → ℕ
capped n = min n 1000000

abbrev pub count_read : Written → ℕ
count_read silent = 1
count_read (written n) = capped n.value

abbrev pub unit_span : FormulaUnit Written → UnitSpan
unit_span (plain s c) =
    record { nucleons = 0; symbol_at = 0; count = count_read c; count_at = length (word_of s); len = length (unit_text (plain s c)) }
unit_span (labelled a s c) =
    record {
      nucleons = capped a.value;
      symbol_at = 1 + length (number_text a);
      count = capped c.value;
      count_at = 1 + length (number_text a) + length (word_of s);
      len = length (unit_text (labelled a s c));
    }

abbrev pub symbol_in : FormulaUnit Written → Symbol
symbol_in (plain s c) = s
symbol_in (labelled a s c) = s

abbrev pub unit_read : FormulaUnit Written → UnitRead
unit_read u = unit_with (unit_span u) (atomic_number (symbol_in u))

-- ---- what a unit begins with

-- the text of a unit in brackets, from left to right
labelled_text_lem : (a : Number) (s : Symbol) (c : Number) (k : List ℕ) → unit_text (labelled a s c) ++ k ≡ 91 ∷ (number_text a ++ (word_of s ++ (number_text c ++ (93 ∷ k))))
labelled_text_lem a s c k = simp append_assoc

pub begins_unit_lem : (u : FormulaUnit Written) (k : List ℕ) → begins_unit (unit_text u ++ k) ≡ true
unfolding begins_unit
begins_unit_lem (plain s c) k = rw (append_assoc (word_of s) (written_text c) k, symbol_begins s (written_text c ++ k))
begins_unit_lem (labelled a s c) k = rw (labelled_text_lem a s c k, number_begins a.value (word_of s ++ (number_text c ++ (93 ∷ k))))

-- a capital or a bracket
starts_apart : (s : List ℕ) → begins_unit s ≡ true → (first_in digit s ≡ false) × (first_in small s ≡ false)
unfolding begins_unit
starts_apart [] e = (refl, refl)
starts_apart (b ∷ s) e = either (λ p. (first_below 65 90 48 57 (omega arith) (b ∷ s) p, first_above 65 90 97 122 (omega arith) (b ∷ s) p)) other (case (in_c capital b))
  where
    bracket : (t u : Bool) → (t && true) && u ≡ true → t ≡ true
    bracket true u e = refl
    bracket false u e = e

    other : in_c capital b ≡ false → (in_c digit b ≡ false) × (in_c small b ≡ false)
    other p =
        let q = eqb-true 91 b (bracket (eqb 91 b) (first_in digit s) (rw p at e)) in
        (range_above 48 57 b (omega arith), range_below 97 122 b (omega arith))

pub unit_no_digit : (u : FormulaUnit Written) (k : List ℕ) → first_in digit (unit_text u ++ k) ≡ false
unit_no_digit u k = (starts_apart (unit_text u ++ k) (begins_unit_lem u k)).0

pub unit_no_small : (u : FormulaUnit Written) (k : List ℕ) → first_in small (unit_text u ++ k) ≡ false
unit_no_small u k = (starts_apart (unit_text u ++ k) (begins_unit_lem u k)).1

-- ---- what is read of it

number_no_small : (n : Number) (k : List ℕ) → first_in small (number_text n ++ k) ≡ false
number_no_small n k = first_above 48 57 97 122 (omega arith) (number_text n ++ k) (number_begins n.value k)

symbol_no_digit : (s : Symbol) (k : List ℕ) → first_in digit (word_of s ++ k) ≡ false
symbol_no_digit s k = first_below 65 90 48 57 (omega arith) (word_of s ++ k) (symbol_begins s k)

capital_no_bracket : (s : List ℕ) → first_in capital s ≡ true → starts_with (bytes "[") s ≡ false
capital_no_bracket [] e = refl
capital_no_bracket (b ∷ s) e = let r = in_range 65 90 b e in rw (ne_eqb 91 b (λ q. omega arith))

-- a symbol, and what is read behind it
plain_read : (s : Symbol) (m : List ℕ) → first_in small m ≡ false
    → span_of (word_of s ++ m) ≡ record { nucleons = 0; symbol_at = 0; count = or_one (number_of m); count_at = length (word_of s); len = length (word_of s) + (number_of m).len }
unfolding span_of plain_span
plain_read s m h = rw (capital_no_bracket (word_of s ++ m) (symbol_begins s m), element_read s m h, drop-append_seam (word_of s) m)

-- a unit in brackets: what is left behind its nucleon number, and behind its symbol
module _ (a : Number) (s : Symbol) (c : Number) (k : List ℕ) where
  abbrev after_a : List ℕ
  after_a = word_of s ++ (number_text c ++ (93 ∷ k))

  drop_a : drop (1 + length (number_text a)) (91 ∷ (number_text a ++ after_a)) ≡ after_a
  drop_a = drop-append-add (91 ∷ []) (number_text a ++ after_a) (length (number_text a)) ∙ drop-append_seam (number_text a) after_a

  drop_s : drop (1 + length (number_text a) + length (word_of s)) (91 ∷ (number_text a ++ after_a)) ≡ number_text c ++ (93 ∷ k)
  drop_s =
      sym (drop-drop (length (word_of s)) (1 + length (number_text a)) (91 ∷ (number_text a ++ after_a)))
      ∙ ap (drop (length (word_of s))) drop_a ∙ drop-append_seam (word_of s) (number_text c ++ (93 ∷ k))

  labelled_long : min (1 + length (number_text a) + length (word_of s) + length (number_text c) + 1) (length (91 ∷ (number_text a ++ after_a))) ≡ length (unit_text (labelled a s c))
  labelled_long = simp length-append (omega arith)

  labelled_read : span_of (unit_text (labelled a s c) ++ k) ≡ unit_span (labelled a s c)
  unfolding span_of labelled_span
  labelled_read =
      ap span_of (labelled_text_lem a s c k)
      ∙ rw (
        number_read a.value after_a (symbol_no_digit s (number_text c ++ (93 ∷ k))),
        drop_a,
        element_read s (number_text c ++ (93 ∷ k)) (number_no_small c (93 ∷ k)),
        drop_s,
        number_read c.value (93 ∷ k) refl,
      )
      (ap (λ (l : ℕ).
      record { nucleons = capped a.value; symbol_at = 1 + length (number_text a); count = capped c.value; count_at = 1 + length (number_text a) + length (word_of s); len = l }) labelled_long)

pub span_read : (u : FormulaUnit Written) (k : List ℕ) → first_in digit k ≡ false → first_in small k ≡ false → span_of (unit_text u ++ k) ≡ unit_span u
span_read (plain s silent) k d e =
    ap (λ (z : List ℕ). span_of (z ++ k)) (append-nil (word_of s)) ∙ plain_read s k e ∙ rw (number_silent k d)
    (ap (λ (l : ℕ). record { nucleons = 0; symbol_at = 0; count = 1; count_at = length (word_of s); len = l }) (simp length-append (omega arith)))
span_read (plain s (written c)) k d e =
    let n : (length (number_text c) ≡ 0 → ⊥) = λ z. omega (arith, some_digits c.value) in
    ap span_of (append_assoc (word_of s) (number_text c) k) ∙ plain_read s (number_text c ++ k) (number_no_small c k) ∙ rw (number_read c.value k d, ne_eqb (length (number_text c)) 0 n)
    (ap (λ (l : ℕ). record { nucleons = 0; symbol_at = 0; count = capped c.value; count_at = length (word_of s); len = l }) (sym (length-append (word_of s) (number_text c))))
span_read (labelled a s c) k d e = labelled_read a s c k

count_no_small : (c : Written) (k : List ℕ) → first_in small k ≡ false → first_in small (written_text c ++ k) ≡ false
count_no_small silent k e = e
count_no_small (written n) k e = number_no_small n k

-- the element of a unit, read where its symbol stands
symbol_read : (u : FormulaUnit Written) (k : List ℕ) → first_in small k ≡ false → (element_of (drop (unit_span u).symbol_at (unit_text u ++ k))).number ≡ atomic_number (symbol_in u)
symbol_read (plain s c) k e = rw (append_assoc (word_of s) (written_text c) k, element_read s (written_text c ++ k) (count_no_small c k e))
symbol_read (labelled a s c) k e = rw (labelled_text_lem a s c k, drop_a a s c k, element_read s (number_text c ++ (93 ∷ k)) (number_no_small c (93 ∷ k)))

pub unit_read_lem : (u : FormulaUnit Written) (k : List ℕ) → first_in digit k ≡ false → first_in small k ≡ false → unit_of (unit_text u ++ k) ≡ unit_read u
unfolding unit_of
unit_read_lem u k d e = rw (span_read u k d e, symbol_read u k e)
