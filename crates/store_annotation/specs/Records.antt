-- The record of an annotation, from what was read. Document 01, "The stored table". Assumes nothing.
use Rattle.std.specs.Prelude.{ℕ, ◌-◌, ◌^◌, Bool, cond, ◌&&◌, not, List, [], ◌∷◌, ◌++◌, eqb}
use Rattle.std.specs.Option.{is_some, unwrap_or}
use Rattle.rules.specs.Editions.{Edition, ed1, ed2}
use Rattle.rules.specs.Stored.{Field, flag, u8, u16, u32, u64, stores}
use Rattle.counts.specs.declared.Counts.{Counts}
use Rattle.read_ion.specs.Stored.{kind_number}
use Rattle.read_tail.specs.declared.DecimalPart.{DecimalPart}
use Rattle.read_tail.specs.Kinds.{part_number}
use Rattle.read_annotation.specs.declared.Front.{Front}
use Rattle.read_annotation.specs.declared.Tail.{Tail}

-- an i64 in two's complement
unfoldable pub signed_of : Bool → ℕ → ℕ
signed_of minus n = cond (minus && not (eqb n 0)) (2 ^ 64 - n) n

-- bytes 0 to 9: kind, `&`, analyte present, series or letter, analyte, position, end
abbrev pub front_fields : Front → List Field
front_fields a =
    u8 (kind_number a.ion.kind) ∷ u8 (flag a.marked) ∷ u8 (flag (is_some a.analyte)) ∷ u8 a.ion.letter ∷ u16 (unwrap_or a.analyte 0) ∷ u16 a.ion.position ∷ u16 a.ion.last ∷ []

unfoldable pub front_bytes : Front → List ℕ
front_bytes a = stores (front_fields a)

-- a deviation's kind or a confidence's presence, and its decimals
abbrev pub kind_fields : DecimalPart → List Field
kind_fields p = u8 (part_number p.kind) ∷ u8 p.size.places ∷ []

abbrev pub kind_bytes : DecimalPart → List ℕ
kind_bytes p = stores (kind_fields p)

-- bytes 10 to 27: charge, deviation's kind and decimals, confidence's presence and decimals, 0, deviation, confidence
abbrev pub tail_fields : Tail → List Field
tail_fields b =
    u8 b.charge ∷ kind_fields b.deviation
    ++ (kind_fields b.confidence ++ (u8 0 ∷ u64 (signed_of b.deviation.minus b.deviation.size.value) ∷ u32 b.confidence.size.value ∷ []))

unfoldable pub tail_bytes : Tail → List ℕ
tail_bytes b = stores (tail_fields b)

-- bytes 28 to 35: the ion's text length and units, losses, isotopes, adduct items, 0
abbrev pub count_fields : Counts → List Field
count_fields n = u16 n.text ∷ u16 n.units ∷ u8 n.losses ∷ u8 n.isotopes ∷ u8 n.items ∷ u8 0 ∷ []

unfoldable pub count_bytes : Counts → List ℕ
count_bytes n = stores (count_fields n)

abbrev pub record_bytes : Front → Tail → Counts → List ℕ
record_bytes a b n = front_bytes a ++ (tail_bytes b ++ count_bytes n)

-- what an edition adds behind them: of the second how many residues the ion's sequence has
abbrev pub added_bytes : Edition → Front → List ℕ
added_bytes ed1 a = []
added_bytes ed2 a = stores (u16 a.residues ∷ [])

-- the whole record
abbrev pub record_in : Edition → Front → Tail → Counts → List ℕ
record_in e a b n = record_bytes a b n ++ added_bytes e a
