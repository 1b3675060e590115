-- What is put of units that are spelled, or stored. Assumes nothing.
use Prim.Native.Nat.{ℕ, ◌+◌, ◌*◌, ◌/◌, ◌%◌, ◌≤◌}
use mathlib.Core.Path.{◌≡◌, refl, sym, ap, ap₂, ◌∙◌}
use mathlib.Core.Bool.{Bool, true, false, cond}
use mathlib.Core.List.{List, [], ◌∷◌, ◌++◌, append_assoc, append-nil, map}
use native.Mathlib.Omega.{arith}
use lib.Dec.{leb, leb→le}
use lib.ListN.{length, take}
use lib.Seq.{take-append_seam}
use borrow.Author.Tests.{ne_eqb}
use Rattle.lang.specs.Parts.{silent, written, flat, word_of}
use Rattle.rules.specs.Bytes.{digit}
use Rattle.rules.specs.Numbers.{digits, Number, number_text}
use Rattle.rules.specs.Elements.{Symbol, atomic_number}
use Rattle.rules.specs.Formulas.{Written, written_text, FormulaUnit, plain, labelled, unit_text, unit_map}
use Rattle.rules.specs.Texts.{first_in, in_brackets}
use Rattle.rules.specs.Preferred.{shortened}
use Rattle.rules.specs.Fields.{filled}
use Rattle.rules.specs.Stored.{u16, stores, unit_record}
use Rattle.rules.specs.Layout.{unit_width}
use Rattle.elements.specs.Numbers.{spelled}
use Rattle.elements.specs.Symbols.{small}
use Rattle.elements.proofs.SymbolsAgree.{which_below, letters_symbol, word_symbol, spelt_symbol}
use Rattle.read_formula.specs.declared.UnitRead.{UnitRead}
use Rattle.read_formula.specs.declared.UnitSpan.{UnitSpan}
use Rattle.read_formula.specs.Units.{unit_of}
use Rattle.read_formula.specs.Formulas.{unit_size}
use Rattle.read_formula.proofs.Spelled.{capped, count_read, unit_span, unit_read, unit_no_digit, unit_no_small, span_read, unit_read_lem}
use Rattle.put_formula.specs.Records.{record_of, records_of, stored_unit}
use Rattle.slices.specs.Numbers.{u16_at}
use Rattle.put_formula.specs.Preferred.{symbol_text, plain_text, labelled_text, preferred_unit, kept_of, kept_unit, preferred_units, printed_units}
use Rattle.put_formula.proofs.Chains.{AllOf, chain_spelled, flat_map}

pub symbol_text_lem : (x : Symbol) → symbol_text (atomic_number x) ≡ word_of x
unfolding symbol_text
symbol_text_lem x =
    let a = (spelled (word_of x)).first in
    let n : (a ≡ 0 → ⊥) = λ z. omega (arith, (spelt_symbol x).not-below-A) in
    rw (letters_symbol x, ne_eqb a 0 n) (word_symbol x)

-- the numbers of a unit are at most m
abbrev pub UnitUpTo : ℕ → FormulaUnit Number → Type 0
UnitUpTo m (plain s c) = c.value ≤ m
UnitUpTo m (labelled a s c) = (a.value ≤ m) × (c.value ≤ m)

-- ---- one unit

told_all : (n : ℕ) → n ≤ 1000000 → capped n ≡ n
told_all n h = omega arith

count_filled : (c : Written) → (filled c).value ≤ 1000000 → count_read c ≡ (filled c).value
count_filled silent h = refl
count_filled (written n) h = told_all n.value h

count_text_lem : (n : Number) → cond (leb n.value 1) [] (digits n.value) ≡ written_text (shortened n)
count_text_lem n = by (leb n.value 1)
  where
    by : (t : Bool) → cond t [] (digits n.value) ≡ written_text (elim t [ true ↦ silent | false ↦ written n ])
    by true = refl
    by false = refl

-- by its fields alone
module _ (u : UnitRead) (s : Symbol) (is : u.element ≡ atomic_number s) where
  plain_fields : (c : Number) → u.nucleons ≡ 0 → u.count ≡ c.value → preferred_unit u ≡ unit_text (plain s (shortened c))
  unfolding preferred_unit plain_text
  plain_fields c n e = rw (n, is, e) (ap₂ (λ (a b : List ℕ). a ++ b) (symbol_text_lem s) (count_text_lem c))

  labelled_fields : (a c : Number) → u.nucleons ≡ a.value → u.count ≡ c.value → preferred_unit u ≡ unit_text (labelled a s c)
  unfolding preferred_unit labelled_text
  labelled_fields a c n e =
      let z : (a.value ≡ 0 → ⊥) = λ z. omega (arith, leb→le 1 a.value a.least) in
      rw (n, is, e, ne_eqb a.value 0 z) (ap (λ (w : List ℕ). in_brackets (digits a.value ++ (w ++ digits c.value))) (symbol_text_lem s))

pub unit_record_lem : (u : FormulaUnit Written) → UnitUpTo 1000000 (unit_map filled u) → record_of (unit_read u) ≡ stores (unit_record (unit_map filled u))
unit_record_lem (plain s c) h = ap (λ (n : ℕ). stores (u16 0 ∷ u16 (atomic_number s) ∷ u16 n ∷ [])) (count_filled c h)
unit_record_lem (labelled a s c) h =
    ap₂ (λ (m n : ℕ). stores (u16 m ∷ u16 (atomic_number s) ∷ u16 n ∷ [])) (told_all a.value h.0) (told_all c.value h.1)

-- ---- what is kept of one unit, as it is spelled

-- the first of three texts
take_first : (w d k : List ℕ) → take (length w) ((w ++ d) ++ k) ≡ w ++ []
take_first w d k = ap (take (length w)) (append_assoc w d k) ∙ take-append_seam w (d ++ k) ∙ sym (append-nil w)

-- a symbol, and a count that is kept where it is more than 1
count_kept : (w : List ℕ) (n : Number) (k : List ℕ)
    → take (cond (leb n.value 1) (length w) (length (w ++ number_text n))) ((w ++ number_text n) ++ k) ≡ w ++ written_text (shortened n)
count_kept w n k = by (leb n.value 1)
  where
    by : (t : Bool)
        → take (cond t (length w) (length (w ++ number_text n))) ((w ++ number_text n) ++ k) ≡ w ++ written_text (elim t [ true ↦ silent | false ↦ written n ])
    by true = take_first w (number_text n) k
    by false = take-append_seam (w ++ number_text n) k

span_kept : (u : FormulaUnit Written) (k : List ℕ) → UnitUpTo 1000000 (unit_map filled u)
    → take (kept_of (unit_span u)) (unit_text u ++ k) ≡ unit_text (unit_map shortened (unit_map filled u))
unfolding kept_of
span_kept (plain s silent) k h = take_first (word_of s) [] k
span_kept (plain s (written n)) k h = rw (told_all n.value h) (count_kept (word_of s) n k)
span_kept (labelled a s c) k h =
    let z : (a.value ≡ 0 → ⊥) = λ z. omega (arith, leb→le 1 a.value a.least) in
    rw (told_all a.value h.0, ne_eqb a.value 0 z) (take-append_seam (unit_text (labelled a s c)) k)

-- ---- units in a row, as they are spelled

-- what follows units does not go on with the last
pub record EndsUnits (k : List ℕ) : Type 0 where
  pub no_digit : first_in digit k ≡ false
  pub no_small : first_in small k ≡ false

-- the numbers of each unit are read as they are
abbrev pub UnitTold : FormulaUnit Written → Type 0
UnitTold u = UnitUpTo 1000000 (unit_map filled u)

units_end : (us : List (FormulaUnit Written)) (k : List ℕ) → EndsUnits k → EndsUnits (flat unit_text us ++ k)
units_end [] k e = e
units_end (u ∷ us) k e =
    rw (append_assoc (unit_text u) (flat unit_text us) k) (record { no_digit = unit_no_digit u (flat unit_text us ++ k); no_small = unit_no_small u (flat unit_text us ++ k) })

unit_here : (u : FormulaUnit Written) (us : List (FormulaUnit Written)) (k : List ℕ) → EndsUnits k → unit_of (unit_text u ++ (flat unit_text us ++ k)) ≡ unit_read u
unit_here u us k e = let r = units_end us k e in unit_read_lem u (flat unit_text us ++ k) r.no_digit r.no_small

unit_long : (u : FormulaUnit Written) → (unit_read u).len ≡ length (unit_text u)
unit_long (plain s c) = refl
unit_long (labelled a s c) = refl

unit_size_lem : (u : FormulaUnit Written) (us : List (FormulaUnit Written)) (k : List ℕ) → EndsUnits k → unit_size (unit_text u ++ (flat unit_text us ++ k)) ≡ length (unit_text u)
unit_size_lem u us k e = ap (λ (r : UnitRead). r.len) (unit_here u us k e) ∙ unit_long u

unit_kept : (u : FormulaUnit Written) (us : List (FormulaUnit Written)) (k : List ℕ) → UnitTold u → EndsUnits k
    → kept_unit (unit_text u ++ (flat unit_text us ++ k)) ≡ unit_text (unit_map shortened (unit_map filled u))
unfolding kept_unit
unit_kept u us k h e =
    let m = flat unit_text us ++ k in
    let r = units_end us k e in
    ap (λ (p : UnitSpan). take (kept_of p) (unit_text u ++ m)) (span_read u m r.no_digit r.no_small) ∙ span_kept u m h

pub preferred_read : (us : List (FormulaUnit Written)) (k : List ℕ) → AllOf UnitTold us → EndsUnits k
    → preferred_units (length us) (flat unit_text us ++ k) ≡ flat unit_text (map (λ u. unit_map shortened (unit_map filled u)) us)
preferred_read us k a e =
    chain_spelled kept_unit unit_size unit_text (λ u. unit_text (unit_map shortened (unit_map filled u))) UnitTold EndsUnits unit_kept
    (λ u us k h e. unit_size_lem u us k e) us k a e
    ∙ flat_map unit_text (λ (u : FormulaUnit Written). unit_map shortened (unit_map filled u)) us

pub records_read : (us : List (FormulaUnit Written)) (k : List ℕ) → AllOf UnitTold us → EndsUnits k
    → records_of (length us) (flat unit_text us ++ k) ≡ flat (λ u. stores (unit_record u)) (map (unit_map filled) us)
records_read us k a e =
    chain_spelled (λ r. record_of (unit_of r)) unit_size unit_text (λ u. stores (unit_record (unit_map filled u))) UnitTold EndsUnits
    (λ u us k h e. ap record_of (unit_here u us k e) ∙ unit_record_lem u h)
    (λ u us k h e. unit_size_lem u us k e) us k a e
    ∙ flat_map (λ (u : FormulaUnit Number). stores (unit_record u)) (unit_map filled) us

-- ---- units in a row, as they are stored

-- two bytes keep a number that they have room for
word_kept : (n : ℕ) → n ≤ 65535 → n % 256 + 256 * (n / 256 % 256) ≡ n
word_kept n h = omega arith

symbol_kept : (s : Symbol) → atomic_number s ≤ 65535
symbol_kept s = omega (arith, which_below s)

unit_stored : (u : FormulaUnit Number) (k : List ℕ) → UnitUpTo 65535 u → preferred_unit (stored_unit (stores (unit_record u) ++ k)) ≡ unit_text (unit_map shortened u)
unfolding stored_unit u16_at
unit_stored (plain s c) k h =
    plain_fields (stored_unit (stores (unit_record (plain s c)) ++ k)) s (word_kept (atomic_number s) (symbol_kept s)) c refl (word_kept c.value h)
unit_stored (labelled a s c) k h =
    labelled_fields (stored_unit (stores (unit_record (labelled a s c)) ++ k)) s (word_kept (atomic_number s) (symbol_kept s)) a c (word_kept a.value h.0) (word_kept c.value h.1)

record_long : (u : FormulaUnit Number) → unit_width ≡ length (stores (unit_record u))
record_long (plain s c) = refl
record_long (labelled a s c) = refl

pub printed_read : (us : List (FormulaUnit Number)) (k : List ℕ) → AllOf (UnitUpTo 65535) us
    → printed_units (length us) (flat (λ u. stores (unit_record u)) us ++ k) ≡ flat unit_text (map (unit_map shortened) us)
printed_read us k a =
    chain_spelled (λ r. preferred_unit (stored_unit r)) (λ r. unit_width) (λ u. stores (unit_record u)) (λ u. unit_text (unit_map shortened u)) (UnitUpTo 65535) (λ k. Unit {0})
    (λ u us k h e. unit_stored u (flat (λ u. stores (unit_record u)) us ++ k) h)
    (λ u us k h e. record_long u) us k a tt
    ∙ flat_map unit_text (unit_map shortened) us
