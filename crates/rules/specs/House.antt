-- Document 01, "House rules after shape" ("Numbers of refusal", 6 and 7); document 02, M-105 (11, and a count too small). Assumes nothing.
use Rattle.std.specs.Prelude.{ℕ, ◌+◌, ◌-◌, ◌*◌, ◌^◌, Bool, true, false, not, ◌&&◌, ◌||◌, List, [], ◌∷◌, leb, length}
use Rattle.lang.specs.Parts.{Opt, silent, written, opt_map}
use Rattle.rules.specs.Decimals.{Decimal}
use Rattle.rules.specs.Texts.{Text}
use Rattle.rules.specs.Sequences.{is_sequence, residues}
use Rattle.rules.specs.Editions.{Edition, ed1, ed2}
use Rattle.rules.specs.Ions.{Ion, series, internal, immonium, precursor, reference, named, composed, smiles, unknown}
use Rattle.rules.specs.Confidences.{meant_decimal}
use Rattle.rules.specs.Annotations.{Deviation, SpelledAnnotation, annotation_text}
use Rattle.rules.specs.Lines.{Spelling}
use Rattle.rules.specs.Limits.{max_places}

-- ---- in one annotation

abbrev pub is_empty : {A : Type 0} → List A → Bool
is_empty [] = true
is_empty (x ∷ xs) = false

-- an internal ion doesn't start at 1 and its start isn't past its end; SMILES has an adduct
abbrev pub ion_rule : {Free Cut : Type 0} → Ion Free Cut → Bool → Bool
ion_rule (series s n t) adduct = true
ion_rule (internal c m n t) adduct = leb 2 m.value && leb m.value n.value
ion_rule (immonium a m) adduct = true
ion_rule precursor adduct = true
ion_rule (reference n) adduct = true
ion_rule (named t) adduct = true
ion_rule (composed f) adduct = true
ion_rule (smiles t) adduct = adduct
ion_rule (unknown n) adduct = true

-- the sequence of an ion: the text in the braces of a series or an internal ion
abbrev pub sequence_in : {Free Cut : Type 0} → Ion Free Cut → Opt Text
sequence_in (series s n t) = t
sequence_in (internal c m n t) = t
sequence_in (immonium a m) = silent
sequence_in precursor = silent
sequence_in (reference n) = silent
sequence_in (named t) = silent
sequence_in (composed f) = silent
sequence_in (smiles t) = silent
sequence_in (unknown n) = silent

-- how many residues its position asks for; of an internal ion those from start to end
abbrev pub covered : {Free Cut : Type 0} → Ion Free Cut → ℕ
covered (series s n t) = n.value
covered (internal c m n t) = n.value + 1 - m.value
covered (immonium a m) = 0
covered precursor = 0
covered (reference n) = 0
covered (named t) = 0
covered (composed f) = 0
covered (smiles t) = 0
covered (unknown n) = 0

abbrev pub if_there : (List ℕ → Bool) → Opt Text → Bool
if_there f silent = true
if_there f (written t) = f t.bytes

-- 11: a sequence is of the plain form; edition 1 does not ask
abbrev pub formed : {Free Cut : Type 0} → Edition → Ion Free Cut → Bool
formed ed1 x = true
formed ed2 x = if_there is_sequence (sequence_in x)

-- 6: a sequence has no fewer residues than the position; edition 1 does not ask
abbrev pub long_enough : {Free Cut : Type 0} → Edition → Ion Free Cut → Bool
long_enough ed1 x = true
long_enough ed2 x = if_there (λ w. leb (covered x) (residues w)) (sequence_in x)

-- `-` doesn't stand before a zero deviation
abbrev pub deviation_rule : Opt Deviation → Bool
deviation_rule silent = true
deviation_rule (written d) = not d.minus || leb 1 d.size.value

-- in billionths: exact, as a decimal within its bounds has at most 9 decimals
abbrev pub billionths : Decimal → ℕ
billionths d = d.value * 10 ^ (max_places - d.places)

abbrev pub confidence_of : Opt Decimal → ℕ
confidence_of silent = 0
confidence_of (written d) = billionths d

abbrev pub one : ℕ
one = 10 ^ max_places

-- that of a spelled annotation
abbrev pub share : SpelledAnnotation → ℕ
share a = confidence_of (opt_map meant_decimal a.confidence)

-- document 01's: with these, confidence is at most 1
abbrev pub common_rules : SpelledAnnotation → Bool
common_rules a =
    ion_rule a.ion (not (is_empty a.adduct)) && (deviation_rule a.deviation && leb (share a) one)

abbrev pub annotation_rules : Edition → SpelledAnnotation → Bool
annotation_rules e a = common_rules a && long_enough e a.ion

-- ---- over the line; places are those of first bytes

-- of annotations, the first of which begins at a place, the first that fails a test
abbrev pub first_failing : (SpelledAnnotation → Bool) → ℕ → Spelling → Opt ℕ
first_failing test at [] = silent
first_failing test at (a ∷ more) = elim (test a) [ true ↦ first_failing test (at + length (annotation_text a) + 1) more | false ↦ written at ]

-- 11: the first whose sequence is outside the form
abbrev pub first_foreign : Edition → ℕ → Spelling → Opt ℕ
first_foreign e at s = first_failing (λ a. formed e a.ion) at s

-- 6: the first that breaks a rule
abbrev pub first_breach : Edition → ℕ → Spelling → Opt ℕ
first_breach e at s = first_failing (annotation_rules e) at s

-- the same, with the sum of the confidences before: the confidences present sum to at most 1, exactly
abbrev pub first_excess : ℕ → ℕ → Spelling → Opt ℕ
first_excess sum at [] = silent
first_excess sum at (a ∷ more) =
    elim (leb (sum + share a) one) [ true ↦ first_excess (sum + share a) (at + length (annotation_text a) + 1) more | false ↦ written at ]
