-- Document 01, "One table, several spellings": the preferred spelling. It leaves out each 1 that may be left out, and the letters yb
-- (document 02, M-113), writes the 0 before the point of a confidence (M-102), and puts losses,
-- and adduct items, in order of their text, so shortened, after sign and count. Assumes nothing.
use Rattle.std.specs.Prelude.{ℕ, ◌+◌, Bool, true, false, List, [], ◌∷◌, ◌++◌, map, leb, eqb}
use Rattle.lang.specs.Parts.{Opt, silent, written}
use Rattle.lang.specs.Order.{lex_le}
use Rattle.rules.specs.Numbers.{From, Number}
use Rattle.rules.specs.Formulas.{Written}
use Rattle.rules.specs.Ions.{Letters, Cleavage}
use Rattle.rules.specs.Losses.{Sign, minus, plus, Loss, lost_text, lost_map}
use Rattle.rules.specs.Adducts.{Item, added_text, added_map}
use Rattle.rules.specs.Confidences.{in_full}
use Rattle.rules.specs.Annotations.{TableAnnotation, SpelledAnnotation, annotation_map}
use Rattle.rules.specs.Lines.{Spelling, line_text}

-- a 1 is left out
abbrev pub shortened : Number → Written
shortened n = elim (leb n.value 1) [ true ↦ silent | false ↦ written n ]

-- yb is left out
abbrev pub shortened_cut : Cleavage → Letters
shortened_cut c = elim (eqb c.which 4) [ true ↦ silent | false ↦ written c ]

-- ---- the order

-- `[`, which ranks below all other bytes
abbrev pub lowest_byte : ℕ
lowest_byte = 91

-- the end of a text (0) ranks below every byte: a prefix before the longer
abbrev pub rank : ℕ → ℕ
rank b = elim (eqb b lowest_byte) [ true ↦ 1 | false ↦ b + 2 ]

-- `-` before `+`
abbrev pub sign_rank : Sign → ℕ
sign_rank minus = 0
sign_rank plus = 1

-- what is compared, number by number: the text, its end, the sign, the count
abbrev pub key : List ℕ → Sign → ℕ → List ℕ
key text sign count = map rank text ++ (0 ∷ sign_rank sign ∷ count ∷ [])

-- a loss without a written count has the count 1
abbrev pub count_or1 : Opt (From 2) → ℕ
count_or1 silent = 1
count_or1 (written n) = n.value

abbrev pub loss_key : Loss Number → List ℕ
loss_key l = key (lost_text (lost_map shortened l.what)) l.sign (count_or1 l.count)

abbrev pub item_key : Item Number → List ℕ
item_key x = key (added_text (added_map shortened x.what)) x.sign x.count.value

abbrev pub loss_le : Loss Number → Loss Number → Bool
loss_le x y = lex_le (loss_key x) (loss_key y)

abbrev pub item_le : Item Number → Item Number → Bool
item_le x y = lex_le (item_key x) (item_key y)

-- ---- the spelling of a table, whose losses and adduct items stand in order

-- an annotation of a table, each 1 and each yb left out, and its confidence in full
abbrev pub shortened_annotation : TableAnnotation → SpelledAnnotation
shortened_annotation a = annotation_map shortened shortened_cut in_full a

abbrev pub preferred_spelling : List TableAnnotation → Spelling
preferred_spelling t = map shortened_annotation t

abbrev pub preferred : List TableAnnotation → List ℕ
preferred t = line_text (preferred_spelling t)
