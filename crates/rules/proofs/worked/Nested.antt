-- Worked names and lines: names with brackets inside. Document 02, M-100. Assumes nothing.
use Prim.Native.Nat.{ℕ, zero, suc}
use mathlib.Core.Path.{◌≡◌, refl}
use mathlib.Core.Bool.{true, false}
use mathlib.Core.List.{List, [], ◌∷◌, ◌++◌, map}
use Rattle.lang.specs.Parts.{silent, written}
use Rattle.rules.specs.Bytes.{bytes}
use Rattle.rules.specs.Numbers.{digits}
use Rattle.rules.specs.Decimals.{whole, last_digits, point_text}
use Rattle.rules.specs.Elements.{symbols}
use Rattle.rules.specs.Ions.{reference}
use Rattle.rules.specs.Losses.{minus, plus}
use Rattle.rules.specs.Texts.{is_name, is_loss_name, is_modification}
use Rattle.rules.proofs.worked.Spell.{name, loss_name, modification, H, atom, ion, y, imm, ◌with◌, named_loss, item}
use Rattle.rules.proofs.worked.Row.{Worked}
use Rattle.rules.proofs.worked.Bounds.{refusal, Limited}

-- ---- which bytes are a name

pub pairing : map is_name (map bytes ("[]" ∷ "[a]" ∷ "Hex[a[b]]c" ∷ "a[][b]" ∷ "[[[]]]" ∷ "[,/{]" ∷ []))
    ≡ true ∷ true ∷ true ∷ true ∷ true ∷ true ∷ []
pairing = refl

-- one too many that opens, one too many that closes, one that closes before any opens, a byte that no name has
pub not_pairing : map is_name (map bytes ("[" ∷ "a[b" ∷ "[[]" ∷ "]" ∷ "a]" ∷ "[]]" ∷ "][" ∷ "a][b" ∷ "[\t]" ∷ []))
    ≡ false ∷ false ∷ false ∷ false ∷ false ∷ false ∷ false ∷ false ∷ false ∷ []
not_pairing = refl

-- the first byte decides, and a bracket is no letter
pub loss_names_lem : map is_loss_name (map bytes ("a[b]" ∷ "Hex[x]" ∷ "H[2H1]" ∷ "[a]" ∷ "2[a]" ∷ "a[b" ∷ []))
    ≡ true ∷ true ∷ true ∷ false ∷ false ∷ false ∷ []
loss_names_lem = refl

-- `M+` and `M-` are shut out at the front alone
pub modifications : map is_modification (map bytes ("[M+]" ∷ "M[+]" ∷ "M[+H]" ∷ "M2[M-]" ∷ "M+[x]" ∷ "M-[]" ∷ "M[" ∷ []))
    ≡ true ∷ true ∷ true ∷ true ∷ false ∷ false ∷ false ∷ []
modifications = refl

-- ---- the lines

pub glycan : Worked "r[Hex[a[b]]c]"
    (ion (reference (name "Hex[a[b]]c" tt)) ∷ [])
    76
    (2 ∷ 0 ∷ 76 ∷ 0 ∷ 1 ∷ 0 ∷ 28 ∷ 0 ∷ 0 ∷ 0 ∷ 66 ∷ 0 ∷ 0 ∷ 0 ∷ 66 ∷ 0 ∷ 0 ∷ 0 ∷ 66 ∷ 0 ∷ 0 ∷ 0 ∷ 66 ∷ 0 ∷ 10 ∷ 0 ∷ 66 ∷ 0  -- header
    ∷ 5 ∷ 0 ∷ 0 ∷ 0 ∷ 0 ∷ 0 ∷ 0 ∷ 0 ∷ 0 ∷ 0 ∷ 1 ∷ 0 ∷ 0 ∷ 0 ∷ 0 ∷ 0 ∷ 0 ∷ 0 ∷ 0 ∷ 0 ∷ 0 ∷ 0 ∷ 0 ∷ 0 ∷ 0 ∷ 0 ∷ 0 ∷ 0 ∷ 10 ∷ 0 ∷ 0 ∷ 0 ∷ 0 ∷ 0 ∷ 0 ∷ 0 ∷ 0 ∷ 0  -- annotation
    ∷ 72 ∷ 101 ∷ 120 ∷ 91 ∷ 97 ∷ 91 ∷ 98 ∷ 93 ∷ 93 ∷ 99  -- text
    ∷ [])
    "r[Hex[a[b]]c]"
unfolding digits whole last_digits point_text symbols
glycan = record { text = refl; limits = refl; form = refl; rules = refl; sum = refl; long = refl; stores = refl; writes = refl }

-- a pair with nothing inside
pub empty_pair : Worked "r[[]]"
    (ion (reference (name "[]" tt)) ∷ [])
    68
    (2 ∷ 0 ∷ 68 ∷ 0 ∷ 1 ∷ 0 ∷ 28 ∷ 0 ∷ 0 ∷ 0 ∷ 66 ∷ 0 ∷ 0 ∷ 0 ∷ 66 ∷ 0 ∷ 0 ∷ 0 ∷ 66 ∷ 0 ∷ 0 ∷ 0 ∷ 66 ∷ 0 ∷ 2 ∷ 0 ∷ 66 ∷ 0  -- header
    ∷ 5 ∷ 0 ∷ 0 ∷ 0 ∷ 0 ∷ 0 ∷ 0 ∷ 0 ∷ 0 ∷ 0 ∷ 1 ∷ 0 ∷ 0 ∷ 0 ∷ 0 ∷ 0 ∷ 0 ∷ 0 ∷ 0 ∷ 0 ∷ 0 ∷ 0 ∷ 0 ∷ 0 ∷ 0 ∷ 0 ∷ 0 ∷ 0 ∷ 2 ∷ 0 ∷ 0 ∷ 0 ∷ 0 ∷ 0 ∷ 0 ∷ 0 ∷ 0 ∷ 0  -- annotation
    ∷ 91 ∷ 93  -- text
    ∷ [])
    "r[[]]"
unfolding digits whole last_digits point_text symbols
empty_pair = record { text = refl; limits = refl; form = refl; rules = refl; sum = refl; long = refl; stores = refl; writes = refl }

-- a modification, and an adduct behind it
pub modified_adduct : Worked "IC[M[+]][M+H]"
    (imm "C" tt (written (modification "M[+]" tt)) with item plus silent (atom H) ∷ [])
    82
    (2 ∷ 0 ∷ 82 ∷ 0 ∷ 1 ∷ 0 ∷ 28 ∷ 0 ∷ 0 ∷ 0 ∷ 66 ∷ 0 ∷ 0 ∷ 0 ∷ 66 ∷ 0 ∷ 1 ∷ 0 ∷ 66 ∷ 0 ∷ 1 ∷ 0 ∷ 72 ∷ 0 ∷ 4 ∷ 0 ∷ 78 ∷ 0  -- header
    ∷ 3 ∷ 0 ∷ 0 ∷ 67 ∷ 0 ∷ 0 ∷ 0 ∷ 0 ∷ 0 ∷ 0 ∷ 1 ∷ 0 ∷ 0 ∷ 0 ∷ 0 ∷ 0 ∷ 0 ∷ 0 ∷ 0 ∷ 0 ∷ 0 ∷ 0 ∷ 0 ∷ 0 ∷ 0 ∷ 0 ∷ 0 ∷ 0 ∷ 4 ∷ 0 ∷ 0 ∷ 0 ∷ 0 ∷ 0 ∷ 1 ∷ 0 ∷ 0 ∷ 0  -- annotation
    ∷ 1 ∷ 0 ∷ 1 ∷ 0 ∷ 1 ∷ 0  -- adduct item
    ∷ 0 ∷ 0 ∷ 1 ∷ 0 ∷ 1 ∷ 0  -- unit
    ∷ 77 ∷ 91 ∷ 43 ∷ 93  -- text
    ∷ [])
    "IC[M[+]][M+H]"
unfolding digits whole last_digits point_text symbols
modified_adduct = record { text = refl; limits = refl; form = refl; rules = refl; sum = refl; long = refl; stores = refl; writes = refl }

-- `[` comes before every other byte inside a name too
pub bracket_first : Worked "y1-[Hexa]-[Hex[x]]"
    (y 1 with named_loss minus silent (loss_name "Hexa" tt) with named_loss minus silent (loss_name "Hex[x]" tt) ∷ [])
    88
    (2 ∷ 0 ∷ 88 ∷ 0 ∷ 1 ∷ 0 ∷ 28 ∷ 0 ∷ 2 ∷ 0 ∷ 66 ∷ 0 ∷ 0 ∷ 0 ∷ 78 ∷ 0 ∷ 0 ∷ 0 ∷ 78 ∷ 0 ∷ 0 ∷ 0 ∷ 78 ∷ 0 ∷ 10 ∷ 0 ∷ 78 ∷ 0  -- header
    ∷ 1 ∷ 0 ∷ 0 ∷ 8 ∷ 0 ∷ 0 ∷ 1 ∷ 0 ∷ 0 ∷ 0 ∷ 1 ∷ 0 ∷ 0 ∷ 0 ∷ 0 ∷ 0 ∷ 0 ∷ 0 ∷ 0 ∷ 0 ∷ 0 ∷ 0 ∷ 0 ∷ 0 ∷ 0 ∷ 0 ∷ 0 ∷ 0 ∷ 0 ∷ 0 ∷ 0 ∷ 0 ∷ 2 ∷ 0 ∷ 0 ∷ 0 ∷ 0 ∷ 0  -- annotation
    ∷ 0 ∷ 1 ∷ 1 ∷ 0 ∷ 6 ∷ 0  -- loss
    ∷ 0 ∷ 1 ∷ 1 ∷ 0 ∷ 4 ∷ 0  -- loss
    ∷ 72 ∷ 101 ∷ 120 ∷ 91 ∷ 120 ∷ 93 ∷ 72 ∷ 101 ∷ 120 ∷ 97  -- text
    ∷ [])
    "y1-[Hex[x]]-[Hexa]"
unfolding digits whole last_digits point_text symbols
bracket_first = record { text = refl; limits = refl; form = refl; rules = refl; sum = refl; long = refl; stores = refl; writes = refl }

-- ---- 255 bytes, brackets counted

abbrev pairs : ℕ → List ℕ
pairs zero = []
pairs (suc n) = 91 ∷ 93 ∷ pairs n

pub full : Limited (bytes "r[a" ++ (pairs 127 ++ bytes "]")) (ion (reference (record { bytes = 97 ∷ pairs 127; good = tt })) ∷ []) []
unfolding digits whole last_digits point_text symbols
full = record { text = refl; limits = refl }

pub over_full : Limited (bytes "r[" ++ (pairs 128 ++ bytes "]")) (ion (reference (record { bytes = pairs 128; good = tt })) ∷ []) (refusal 5 257 ∷ [])
unfolding digits whole last_digits point_text symbols
over_full = record { text = refl; limits = refl }
