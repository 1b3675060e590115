-- Document 01, "Numbers that bound it": the limits of a spelling, each with the place at which a breach is reported
-- ("Numbers of refusal", 4 and 5). Assumes nothing.
use Rattle.std.specs.Prelude.{ℕ, ◌+◌, Bool, not, ◌&&◌, List, [], ◌∷◌, ◌++◌, leb, ltb, length}
use Rattle.lang.specs.Parts.{Opt, silent, written, opt_text, items, flat, Such, word_of}
use Rattle.lang.specs.Mark.{Mark, Part, marks_of}
use Rattle.rules.specs.Bytes.{bytes}
use Rattle.rules.specs.Numbers.{From, number_text}
use Rattle.rules.specs.Decimals.{Decimal, decimal_text, digit_count}
use Rattle.rules.specs.Texts.{braced_text, bracket_text}
use Rattle.rules.specs.Formulas.{Written, FormulaUnit, plain, labelled, unit_text, Formula, formula_text}
use Rattle.rules.specs.Ions.{SpelledIon, series, internal, immonium, precursor, reference, named, composed, smiles, unknown, ion_text}
use Rattle.rules.specs.Losses.{sign_text, Lost, lost_formula, lost_name_lem, Loss, loss_text}
use Rattle.rules.specs.Isotopes.{Shift, shift_text, Specific, specific_text, Isotopes, no_isotope, plain_isotope, average_isotope, specific_isotopes, isotopes_text}
use Rattle.rules.specs.Adducts.{Added, added_formula, electron, added_text, Item, item_text, adduct_text}
use Rattle.rules.specs.Confidences.{Confidence, in_full, from_point_lem, confidence_text}
use Rattle.rules.specs.Annotations.{SpelledAnnotation, Deviation, flag_text, analyte_text, charge_text, deviation_text, annotation_text}
use Rattle.rules.specs.Lines.{Spelling, next_text}

-- ---- the bounds

abbrev pub max_line : ℕ
max_line = 4096

abbrev pub max_annotations : ℕ
max_annotations = 16

abbrev pub max_losses : ℕ
max_losses = 8

abbrev pub max_isotopes : ℕ
max_isotopes = 4

abbrev pub max_items : ℕ
max_items = 4

abbrev pub max_units : ℕ
max_units = 12

abbrev pub max_text : ℕ
max_text = 255

-- analyte, position, internal ends and unknown label
abbrev pub max_position : ℕ
max_position = 65535

-- counts and nucleon numbers
abbrev pub max_count : ℕ
max_count = 999

abbrev pub max_charge : ℕ
max_charge = 255

abbrev pub max_places : ℕ
max_places = 9

abbrev pub max_digits : ℕ
max_digits = 12

-- ---- marks

-- 4: a number past its bound, at its first digit
abbrev pub number_mark : ℕ → ℕ → ℕ → List Mark
number_mark bound n at = record { place = at; number = 4; broken = ltb bound n } ∷ []

-- 5: the first byte of the first one too many of a row; i are before it
abbrev pub many_mark : ℕ → ℕ → ℕ → Mark
many_mark bound i at = record { place = at; number = 5; broken = leb bound i }

-- 5: the first byte too many of a text
abbrev pub length_mark : List ℕ → ℕ → List Mark
length_mark w at = record { place = at + max_text; number = 5; broken = ltb max_text (length w) } ∷ []

abbrev pub fits : Decimal → Bool
fits d = leb d.places max_places && leb (digit_count d) max_digits

abbrev pub decimal_mark : Decimal → ℕ → List Mark
decimal_mark d at = record { place = at; number = 4; broken = not (fits d) } ∷ []

-- ---- parts of a text with their marks

abbrev pub bare : List ℕ → Part
bare w = record { text = w; marks = λ at. [] }

abbrev pub part : List ℕ → (ℕ → List Mark) → Part
part w f = record { text = w; marks = f }

abbrev pub opt_part : {A : Type 0} → (A → Part) → Opt A → Part
opt_part f silent = bare []
opt_part f (written x) = f x

abbrev pub number_part : {m : ℕ} → ℕ → From m → Part
number_part bound n = part (number_text n) (number_mark bound n.value)

abbrev pub decimal_part : Decimal → Part
decimal_part d = part (decimal_text d) (decimal_mark d)

-- things in a row, of which i stand before the first of these
abbrev pub row_marks : {A : Type 0} → (A → List ℕ) → (ℕ → A → ℕ → List Mark) → ℕ → List A → ℕ → List Mark
row_marks text marks i [] at = []
row_marks text marks i (x ∷ xs) at = marks i x at ++ row_marks text marks (i + 1) xs (at + length (text x))

abbrev pub row_part : {A : Type 0} → (A → List ℕ) → (ℕ → A → ℕ → List Mark) → List A → Part
row_part text marks xs = part (flat text xs) (row_marks text marks 0 xs)

-- a text or name between its braces or brackets
abbrev pub closed_part : {f : List ℕ → Bool} → (Such f → List ℕ) → Such f → Part
closed_part text t = part (text t) (λ at. length_mark t.bytes (at + 1))

-- ---- document 01's parts

abbrev pub unit_marks : ℕ → FormulaUnit Written → ℕ → List Mark
unit_marks i (plain s c) at = many_mark max_units i at ∷ marks_of at (bare (word_of s) ∷ opt_part (number_part max_count) c ∷ [])
unit_marks i (labelled a s c) at =
    many_mark max_units i at ∷ marks_of at (bare (bytes "[") ∷ number_part max_count a ∷ bare (word_of s) ∷ number_part max_count c ∷ [])

abbrev pub formula_part : Formula Written → Part
formula_part f = part (formula_text f) (row_marks unit_text unit_marks 0 (items f))

abbrev pub ion_parts : SpelledIon → List Part
ion_parts (series s n t) = bare (word_of s) ∷ number_part max_position n ∷ opt_part (closed_part braced_text) t ∷ []
ion_parts (internal c m n t) =
    bare (bytes "m") ∷ bare (opt_text word_of c) ∷ number_part max_position m ∷ bare (bytes ":") ∷ number_part max_position n ∷ opt_part (closed_part braced_text) t ∷ []
ion_parts (immonium a m) = bare (bytes "I") ∷ bare (a.val ∷ []) ∷ opt_part (closed_part bracket_text) m ∷ []
ion_parts precursor = []
ion_parts (reference n) = bare (bytes "r") ∷ closed_part bracket_text n ∷ []
ion_parts (named t) = bare (bytes "_") ∷ closed_part braced_text t ∷ []
ion_parts (composed f) = bare (bytes "f{") ∷ formula_part f ∷ []
ion_parts (smiles t) = bare (bytes "s") ∷ closed_part braced_text t ∷ []
ion_parts (unknown n) = bare (bytes "?") ∷ opt_part (number_part max_position) n ∷ []

abbrev pub lost_part : Lost Written → Part
lost_part (lost_formula f) = formula_part f
lost_part (lost_name_lem n) = closed_part bracket_text n

abbrev pub loss_parts : Loss Written → List Part
loss_parts l = bare (sign_text l.sign) ∷ opt_part (number_part max_count) l.count ∷ lost_part l.what ∷ []

abbrev pub loss_marks : ℕ → Loss Written → ℕ → List Mark
loss_marks i l at = many_mark max_losses i at ∷ marks_of at (loss_parts l)

abbrev pub shift_marks : Shift Written → ℕ → List Mark
shift_marks x at = marks_of at (bare (sign_text x.sign) ∷ opt_part (number_part max_count) x.count ∷ [])

abbrev pub specific_marks : ℕ → Specific Written → ℕ → List Mark
specific_marks i x at =
    many_mark max_isotopes i at ∷ marks_of at (part (shift_text x.shift) (shift_marks x.shift) ∷ number_part max_count x.nucleons ∷ [])

abbrev pub isotopes_marks : Isotopes Written → ℕ → List Mark
isotopes_marks no_isotope at = []
isotopes_marks (plain_isotope x) at = shift_marks x at
isotopes_marks (average_isotope x) at = shift_marks x at
isotopes_marks (specific_isotopes xs) at = row_marks specific_text specific_marks 0 (items xs) at

abbrev pub added_part : Added Written → Part
added_part (added_formula f) = formula_part f
added_part electron = bare (added_text electron)

abbrev pub item_parts : Item Written → List Part
item_parts x = bare (sign_text x.sign) ∷ opt_part (number_part max_count) x.count ∷ added_part x.what ∷ []

abbrev pub item_marks : ℕ → Item Written → ℕ → List Mark
item_marks i x at = many_mark max_items i at ∷ marks_of at (item_parts x)

abbrev pub adduct_marks : List (Item Written) → ℕ → List Mark
adduct_marks xs at = marks_of at (bare (bytes "[M") ∷ row_part item_text item_marks xs ∷ [])

abbrev pub analyte_part : ℕ → Part
analyte_part n = part (analyte_text n) (number_mark max_position n)

abbrev pub charge_part : From 2 → Part
charge_part n = part (charge_text n) (λ at. number_mark max_charge n.value (at + 1))

abbrev pub deviation_part : Deviation → Part
deviation_part d = part (deviation_text d) (λ at. marks_of at (bare (bytes "/") ∷ bare (flag_text (bytes "-") d.minus) ∷ decimal_part d.size ∷ []))

-- the first digit stands behind `*`, or behind `*.`
abbrev pub confidence_mark : Confidence → ℕ → List Mark
confidence_mark (in_full d) at = decimal_mark d (at + 1)
confidence_mark (from_point_lem z) at = decimal_mark z.decimal (at + 2)

abbrev pub confidence_part : Confidence → Part
confidence_part c = part (confidence_text c) (confidence_mark c)

abbrev pub annotation_parts : SpelledAnnotation → List Part
annotation_parts a =
    bare (flag_text (bytes "&") a.marked) ∷ opt_part analyte_part a.analyte ∷ part (ion_text a.ion) (λ at. marks_of at (ion_parts a.ion))
    ∷ row_part loss_text loss_marks a.losses ∷ part (isotopes_text a.isotopes) (isotopes_marks a.isotopes)
    ∷ part (adduct_text a.adduct) (adduct_marks a.adduct) ∷ opt_part charge_part a.charge ∷ opt_part deviation_part a.deviation
    ∷ opt_part confidence_part a.confidence ∷ []

abbrev pub annotation_marks : ℕ → SpelledAnnotation → ℕ → List Mark
annotation_marks i a at = many_mark max_annotations i at ∷ marks_of at (annotation_parts a)

-- an annotation after the first stands behind its comma
abbrev pub next_marks : ℕ → SpelledAnnotation → ℕ → List Mark
next_marks i a at = annotation_marks i a (at + 1)

abbrev pub line_marks : Spelling → List Mark
line_marks [] = []
line_marks (a ∷ more) = annotation_marks 0 a 0 ++ row_marks next_text next_marks 1 more (length (annotation_text a))
