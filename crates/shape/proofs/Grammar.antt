-- The grammar of a line, as data: document 01's "Shape of a line" once more, for the machine. Nothing rests on its being right:
-- that its texts are the texts of the spellings is proved (the files Means..), and so are the machine's tables. Assumes nothing.
use Prim.Native.Nat.{ℕ}
use mathlib.Core.List.{List, [], ◌∷◌, map}
use Rattle.lang.specs.Re.{Rng, Re, eps, cls, seq, alt, star}
use Rattle.lang.proofs.Lits.{lit_re, lits_re}
use Rattle.lang.proofs.Means.{opt_re}
use Rattle.lang.proofs.Names.{head_re}
use Rattle.lang.proofs.NestedNames.{paired_re, nested_re}
use Rattle.rules.specs.Bytes.{bytes, ◌to◌, digit, capital, letter, text_byte, name_byte}
use Rattle.rules.specs.Elements.{symbols}
use Rattle.rules.specs.Ions.{series_names, cleavage_names}
use Rattle.rules.specs.Texts.{name_brackets}

abbrev pub word : List ℕ → Re
word w = lit_re w

abbrev pub some_re : Re → Re
some_re r = seq r (star r)

-- ---- numbers

abbrev pub number_re : Re
number_re = head_re digit ("1" to "9" ∷ [])

-- of 2 or more: one digit of 2 to 9, or two digits or more
abbrev pub two_re : Re
two_re = alt (head_re digit ("2" to "9" ∷ [])) (seq (word (bytes "1")) (head_re digit digit))

abbrev pub nat_re : Re
nat_re = alt (word (bytes "0")) number_re

-- a point and one or more digits
abbrev pub point_re : Re
point_re = seq (word (bytes ".")) (head_re digit digit)

abbrev pub decimal_re : Re
decimal_re = seq nat_re (opt_re point_re)

-- ---- texts and names

abbrev pub closed_re : List ℕ → Re → List ℕ → Re
closed_re opening r closing = seq (word opening) (seq r (word closing))

abbrev pub braces_re : Re → Re
braces_re r = closed_re (bytes "{") r (bytes "}")

abbrev pub brackets_re : Re → Re
brackets_re r = closed_re (bytes "[") r (bytes "]")

abbrev pub text_re : Re
text_re = head_re text_byte text_byte

abbrev pub name_re : Re
name_re = nested_re name_brackets name_byte

abbrev pub loss_name_re : Re
loss_name_re = seq (cls letter) (paired_re name_brackets)

-- the bytes that stand for themselves in a name, but M; but + and -
abbrev pub not_m : List Rng
not_m = " " to "L" ∷ "N" to "Z" ∷ "\\" to "\\" ∷ "^" to "~" ∷ []

abbrev pub not_sign : List Rng
not_sign = " " to "*" ∷ "," to "," ∷ "." to "Z" ∷ "\\" to "\\" ∷ "^" to "~" ∷ []

-- a name that begins with no M, or with an M that + and - do not follow
abbrev pub modification_re : Re
modification_re = alt (nested_re name_brackets not_m) (seq (word (bytes "M")) (opt_re (nested_re name_brackets not_sign)))

-- ---- formulas

unfoldable pub symbol_re : Re
symbol_re = lits_re symbols

abbrev pub unit_re : Re
unit_re = alt (seq symbol_re (opt_re number_re)) (brackets_re (seq number_re (seq symbol_re number_re)))

abbrev pub formula_re : Re
formula_re = some_re unit_re

-- ---- the parts of an annotation

-- the letters of an internal ion, which may be left out; the first edition of lines has `eps` in their place
abbrev pub letters_re : Re
letters_re = opt_re (lits_re (map bytes cleavage_names))

abbrev pub ion_re : Re → Re
ion_re letters =
    alt (seq (lits_re (map bytes series_names)) (seq number_re (opt_re (braces_re text_re))))
    (alt (seq (word (bytes "m")) (seq letters (seq number_re (seq (word (bytes ":")) (seq number_re (opt_re (braces_re text_re)))))))
    (alt (seq (word (bytes "I")) (seq (cls capital) (opt_re (brackets_re modification_re))))
    (alt (word (bytes "p"))
    (alt (seq (word (bytes "r")) (brackets_re name_re))
    (alt (seq (word (bytes "_")) (braces_re text_re))
    (alt (seq (word (bytes "f")) (braces_re formula_re))
    (alt (seq (word (bytes "s")) (braces_re text_re))
    (seq (word (bytes "?")) (opt_re number_re)))))))))

abbrev pub sign_re : Re
sign_re = alt (word (bytes "-")) (word (bytes "+"))

abbrev pub loss_re : Re
loss_re = seq sign_re (seq (opt_re two_re) (alt formula_re (brackets_re loss_name_re)))

abbrev pub shift_re : Re
shift_re = seq sign_re (seq (opt_re number_re) (word (bytes "i")))

abbrev pub specific_re : Re
specific_re = seq shift_re (seq number_re symbol_re)

abbrev pub isotopes_re : Re
isotopes_re = alt eps (alt shift_re (alt (seq shift_re (word (bytes "A"))) (some_re specific_re)))

abbrev pub item_re : Re
item_re = seq sign_re (seq (opt_re number_re) (alt formula_re (word (bytes "e"))))

abbrev pub adduct_re : Re
adduct_re = alt eps (closed_re (bytes "[M") (some_re item_re) (bytes "]"))

abbrev pub analyte_re : Re
analyte_re = seq nat_re (word (bytes "@"))

abbrev pub charge_re : Re
charge_re = seq (word (bytes "^")) two_re

abbrev pub deviation_re : Re
deviation_re = seq (word (bytes "/")) (seq (opt_re (word (bytes "-"))) (seq decimal_re (opt_re (word (bytes "ppm")))))

abbrev pub confidence_re : Re
confidence_re = seq (word (bytes "*")) (alt decimal_re point_re)

abbrev pub annotation_re : Re → Re
annotation_re letters =
    seq (opt_re (word (bytes "&"))) (seq (opt_re analyte_re) (seq (ion_re letters) (seq (star loss_re) (seq isotopes_re (seq adduct_re
    (seq (opt_re charge_re) (seq (opt_re deviation_re) (opt_re confidence_re))))))))

-- ---- lines

abbrev pub next_re : Re → Re
next_re letters = seq (word (bytes ",")) (annotation_re letters)

abbrev pub line_re : Re → Re
line_re letters = alt eps (seq (annotation_re letters) (star (next_re letters)))
