-- Document 01, "The stored table": every byte. Little-endian; unused fields zero. Assumes nothing.
use Rattle.std.specs.Prelude.{ℕ, zero, suc, ◌+◌, ◌-◌, ◌/◌, ◌%◌, ◌^◌, Bool, true, false, eqb, List, [], ◌∷◌, ◌++◌, map, length}
use Rattle.lang.specs.Parts.{Opt, silent, written, items, flat, Such}
use Rattle.rules.specs.Numbers.{From, Number}
use Rattle.rules.specs.Elements.{atomic_number}
use Rattle.rules.specs.Formulas.{FormulaUnit, plain, labelled}
use Rattle.rules.specs.Ions.{Cleavage, Ion, TableIon, series, internal, immonium, precursor, reference, named, composed, smiles, unknown}
use Rattle.rules.specs.Losses.{Lost, lost_formula, lost_name_lem, Loss}
use Rattle.rules.specs.Isotopes.{Shift, Specific, Isotopes, no_isotope, plain_isotope, average_isotope, specific_isotopes}
use Rattle.rules.specs.Adducts.{Added, added_formula, electron, Item}
use Rattle.rules.specs.Annotations.{TableAnnotation, Deviation}
use Rattle.rules.specs.Editions.{Edition, ed1, ed2, edition_number}
use Rattle.rules.specs.Sequences.{residues}
use Rattle.rules.specs.House.{sequence_in}
use Rattle.rules.specs.Preferred.{sign_rank, count_or1}

-- n bytes of v, little-endian
abbrev pub little : ℕ → ℕ → List ℕ
little zero v = []
little (suc n) v = v % 256 ∷ little n (v / 256)

-- a field: how many bytes, and its value
pub record Field : Type 0 where
  pub width : ℕ
  pub value : ℕ

abbrev pub u8 : ℕ → Field
u8 v = record { width = 1; value = v }

abbrev pub u16 : ℕ → Field
u16 v = record { width = 2; value = v }

abbrev pub u32 : ℕ → Field
u32 v = record { width = 4; value = v }

abbrev pub u64 : ℕ → Field
u64 v = record { width = 8; value = v }

abbrev pub stores : List Field → List ℕ
stores fs = flat (λ f. little f.width f.value) fs

-- ---- values: what is missing is 0

abbrev pub flag : Bool → ℕ
flag true = 1
flag false = 0

abbrev pub present : {A : Type 0} → Opt A → ℕ
present silent = 0
present (written x) = 1

abbrev pub value_or0 : {A : Type 0} → (A → ℕ) → Opt A → ℕ
value_or0 f silent = 0
value_or0 f (written x) = f x

abbrev pub number : {m : ℕ} → From m → ℕ
number n = n.value

abbrev pub bytes_of : {f : List ℕ → Bool} → Opt (Such f) → List ℕ
bytes_of silent = []
bytes_of (written t) = t.bytes

-- ---- ions

abbrev pub kind : TableIon → ℕ
kind (series s n t) = 1
kind (internal c m n t) = 2
kind (immonium a m) = 3
kind precursor = 4
kind (reference n) = 5
kind (named t) = 6
kind (composed f) = 7
kind (smiles t) = 8
kind (unknown n) = 9

-- yb is held as 0, the others as 1 to 9 in the listed order (document 02, M-113)
abbrev pub held_cut : Cleavage → ℕ
held_cut c = elim (eqb c.which 4) [ true ↦ 0 | false ↦ c.which + 1 ]

-- series 1 to 13 in the listed order, cleavage, or immonium letter; position, start or label; end; text; units
pub record IonFields : Type 0 where
  pub letter : ℕ
  pub position : ℕ
  pub end : ℕ
  pub text : List ℕ
  pub units : List (FormulaUnit Number)

abbrev pub ion_fields : TableIon → IonFields
ion_fields (series s n t) = record { letter = s.which + 1; position = n.value; end = 0; text = bytes_of t; units = [] }
ion_fields (internal c m n t) = record { letter = held_cut c; position = m.value; end = n.value; text = bytes_of t; units = [] }
ion_fields (immonium a m) = record { letter = a.val; position = 0; end = 0; text = bytes_of m; units = [] }
ion_fields precursor = record { letter = 0; position = 0; end = 0; text = []; units = [] }
ion_fields (reference n) = record { letter = 0; position = 0; end = 0; text = n.bytes; units = [] }
ion_fields (named t) = record { letter = 0; position = 0; end = 0; text = t.bytes; units = [] }
ion_fields (composed f) = record { letter = 0; position = 0; end = 0; text = []; units = items f }
ion_fields (smiles t) = record { letter = 0; position = 0; end = 0; text = t.bytes; units = [] }
ion_fields (unknown n) = record { letter = 0; position = value_or0 number n; end = 0; text = []; units = [] }

-- ---- records

-- nucleons (0 without), atomic number, count
abbrev pub unit_record : FormulaUnit Number → List Field
unit_record (plain s c) = u16 0 ∷ u16 (atomic_number s) ∷ u16 c.value ∷ []
unit_record (labelled a s c) = u16 a.value ∷ u16 (atomic_number s) ∷ u16 c.value ∷ []

abbrev pub lost_kind : Lost Number → ℕ
lost_kind (lost_formula f) = 0
lost_kind (lost_name_lem n) = 1

abbrev pub lost_units : Lost Number → List (FormulaUnit Number)
lost_units (lost_formula f) = items f
lost_units (lost_name_lem n) = []

abbrev pub lost_name : Lost Number → List ℕ
lost_name (lost_formula f) = []
lost_name (lost_name_lem n) = n.bytes

-- units or name bytes: one of the two has none
abbrev pub loss_record : Loss Number → List Field
loss_record l =
    u8 (sign_rank l.sign) ∷ u8 (lost_kind l.what) ∷ u16 (count_or1 l.count)
    ∷ u16 (length (lost_units l.what) + length (lost_name l.what)) ∷ []

-- sign; 0 plain, 1 average or 2 specific; n; nucleons; atomic number
abbrev pub isotope_record : Shift Number → ℕ → ℕ → ℕ → List Field
isotope_record x kind nucleons element = u8 (sign_rank x.sign) ∷ u8 kind ∷ u16 x.count.value ∷ u16 nucleons ∷ u16 element ∷ []

abbrev pub specific_record : Specific Number → List Field
specific_record x = isotope_record x.shift 2 x.nucleons.value (atomic_number x.symbol)

abbrev pub isotope_records : Isotopes Number → List (List Field)
isotope_records no_isotope = []
isotope_records (plain_isotope x) = isotope_record x 0 0 0 ∷ []
isotope_records (average_isotope x) = isotope_record x 1 0 0 ∷ []
isotope_records (specific_isotopes xs) = map specific_record (items xs)

-- 0 formula or 2 electron
abbrev pub added_kind : Added Number → ℕ
added_kind (added_formula f) = 0
added_kind electron = 2

abbrev pub added_units : Added Number → List (FormulaUnit Number)
added_units (added_formula f) = items f
added_units electron = []

abbrev pub item_record : Item Number → List Field
item_record x = u8 (sign_rank x.sign) ∷ u8 (added_kind x.what) ∷ u16 x.count.value ∷ u16 (length (added_units x.what)) ∷ []

-- 0 none, 1 m/z, 2 ppm
abbrev pub deviation_kind : Opt Deviation → ℕ
deviation_kind silent = 0
deviation_kind (written d) = 1 + flag d.ppm

-- an i64 in two's complement
abbrev pub signed : Bool → ℕ → ℕ
signed true n = 2 ^ 64 - n
signed false n = n

-- the fields that an annotation has in every edition
abbrev pub common_fields : TableAnnotation → List Field
common_fields a =
    u8 (kind a.ion) ∷ u8 (flag a.marked) ∷ u8 (present a.analyte) ∷ u8 (ion_fields a.ion).letter
    ∷ u16 (value_or0 (λ n. n) a.analyte) ∷ u16 (ion_fields a.ion).position ∷ u16 (ion_fields a.ion).end
    ∷ u8 (count_or1 a.charge) ∷ u8 (deviation_kind a.deviation) ∷ u8 (value_or0 (λ d. d.size.places) a.deviation)
    ∷ u8 (present a.confidence) ∷ u8 (value_or0 (λ d. d.places) a.confidence) ∷ u8 0
    ∷ u64 (value_or0 (λ d. signed d.minus d.size.value) a.deviation) ∷ u32 (value_or0 (λ d. d.value) a.confidence)
    ∷ u16 (length (ion_fields a.ion).text) ∷ u16 (length (ion_fields a.ion).units)
    ∷ u8 (length a.losses) ∷ u8 (length (isotope_records a.isotopes)) ∷ u8 (length a.adduct) ∷ u8 0 ∷ []

-- how many residues its sequence has, 0 without one (document 02, M-105)
abbrev pub residue_count : {Free Cut : Type 0} → Ion Free Cut → ℕ
residue_count x = value_or0 (λ t. residues t.bytes) (sequence_in x)

-- those that an edition adds behind them
abbrev pub added_fields : Edition → TableAnnotation → List Field
added_fields ed1 a = []
added_fields ed2 a = u16 (residue_count a.ion) ∷ []

abbrev pub annotation_record : Edition → TableAnnotation → List Field
annotation_record e a = common_fields a ++ added_fields e a

-- ---- sections

-- the ion's, then each loss's, then each adduct item's
abbrev pub annotation_units : TableAnnotation → List (FormulaUnit Number)
annotation_units a = (ion_fields a.ion).units ++ (flat (λ l. lost_units l.what) a.losses ++ flat (λ x. added_units x.what) a.adduct)

abbrev pub annotation_texts : TableAnnotation → List ℕ
annotation_texts a = (ion_fields a.ion).text ++ flat (λ l. lost_name l.what) a.losses

-- a section: how many, and their bytes
pub record Section : Type 0 where
  pub count : ℕ
  pub bytes : List ℕ

abbrev pub section : {A : Type 0} → (A → List Field) → List A → Section
section f xs = record { count = length xs; bytes = flat (λ x. stores (f x)) xs }

abbrev pub sections : Edition → List TableAnnotation → List Section
sections e t =
    section (annotation_record e) t ∷ section loss_record (flat (λ a. a.losses) t) ∷ section (λ x. x) (flat (λ a. isotope_records a.isotopes) t)
    ∷ section item_record (flat (λ a. a.adduct) t) ∷ section unit_record (flat annotation_units t)
    ∷ record { count = length (flat annotation_texts t); bytes = flat annotation_texts t } ∷ []

-- ---- the whole

abbrev pub header_size : ℕ
header_size = 28

-- (count, offset) pairs, from an offset on
abbrev pub counts : ℕ → List Section → List Field
counts at [] = []
counts at (s ∷ ss) = u16 s.count ∷ u16 at ∷ counts (at + length s.bytes) ss

abbrev pub body : Edition → List TableAnnotation → List ℕ
body e t = flat (λ s. s.bytes) (sections e t)

abbrev pub header : Edition → List TableAnnotation → List Field
header e t = u16 (edition_number e) ∷ u16 (header_size + length (body e t)) ∷ counts header_size (sections e t)

abbrev pub stored : Edition → List TableAnnotation → List ℕ
stored e t = stores (header e t) ++ body e t
