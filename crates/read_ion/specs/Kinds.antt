-- The kinds of ion, each read behind its first byte. A part goes as far as the bytes s do. Assumes nothing.
use Rattle.std.specs.Prelude.{ℕ, ◌+◌, ◌-◌, min, Bool, cond, not, ◌&&◌, ◌||◌, List, length, drop, get_or, Option}
use Rattle.std.specs.Option.{unwrap_or}
use Rattle.rules.specs.Bytes.{bytes}
use Rattle.rules.specs.Texts.{starts_with}
use Rattle.rules.specs.Limits.{max_position, number_mark}
use Rattle.numbers.specs.Leading.{number_of}
use Rattle.faults.specs.declared.Refusal.{Refusal}
use Rattle.faults.specs.Faults.{after}
use Rattle.read_formula.specs.Formulas.{formula_of}
use Rattle.read_opening.specs.declared.Enclosed.{Enclosed}
use Rattle.read_opening.specs.Enclosed.{text_of, name_of}
use Rattle.read_ion.specs.declared.IonKind.{IonKind}
use Rattle.read_ion.specs.declared.IonKind.TheVariants as kinds
use Rattle.read_ion.specs.declared.IonRead.{IonRead}
use Rattle.read_ion.specs.Letters.{letters_of}
use Rattle.read_ion.specs.Cuts.{cut_of}

abbrev pub with_text : IonKind → ℕ → ℕ → ℕ → ℕ → Enclosed → ℕ → IonRead
with_text kind letter position last at x all =
    record { kind = kind; letter = letter; position = position; last = last; start = at; units = 0; text = x.size; len = min (at + x.len) all; fault = x.fault }

abbrev pub without_text : IonKind → ℕ → ℕ → ℕ → ℕ → Option Refusal → IonRead
without_text kind letter position at len f =
    record { kind = kind; letter = letter; position = position; last = 0; start = at; units = 0; text = 0; len = len; fault = f }

-- series, position, optional text
unfoldable pub series_of : ℕ → List ℕ → Option Refusal → IonRead
series_of end s f =
    let l = letters_of s in
    let n = number_of (drop l.len s) in
    let g = after f (number_mark max_position n.value (end - (length s - l.len))) in
    let at = min (l.len + n.len) (length s) in
    with_text kinds.Series (unwrap_or l.letter 0) n.value 0 at (text_of end (drop at s) g) (length s)

-- `m`, letters, number, `:`, number, optional text
unfoldable pub internal_of : ℕ → List ℕ → Option Refusal → IonRead
internal_of end s f =
    let c = cut_of (drop 1 s) in
    let from = min (1 + c.len) (length s) in
    let a = number_of (drop from s) in
    let g = after f (number_mark max_position a.value (end - (length s - from))) in
    let p = min (min (from + a.len) (length s) + 1) (length s) in
    let b = number_of (drop p s) in
    let h = after g (number_mark max_position b.value (end - (length s - p))) in
    let at = min (p + b.len) (length s) in
    with_text kinds.Internal c.held a.value b.value at (text_of end (drop at s) h) (length s)

-- a name in brackets that cannot be taken for an adduct
unfoldable pub opens_modification : List ℕ → Bool
opens_modification s = starts_with (bytes "[") s && not (starts_with (bytes "[M+") s || starts_with (bytes "[M-") s)

-- `I`, a letter, optional modification
unfoldable pub immonium_of : ℕ → List ℕ → Option Refusal → IonRead
immonium_of end s f =
    let at = min (2 + 0) (length s) in
    cond (opens_modification (drop at s)) (with_text kinds.Immonium (get_or s 1 0) 0 0 at (name_of end (drop at s) f) (length s)) (without_text kinds.Immonium (get_or s 1 0) 0 at at f)

-- a letter, and a text in braces
unfoldable pub braced_of : IonKind → ℕ → List ℕ → Option Refusal → IonRead
braced_of kind end s f = with_text kind 0 0 0 1 (text_of end (drop 1 s) f) (length s)

-- `r` and a name in brackets
unfoldable pub reference_of : ℕ → List ℕ → Option Refusal → IonRead
reference_of end s f = with_text kinds.Reference 0 0 0 1 (name_of end (drop 1 s) f) (length s)

-- a formula between `f{` and `}`
unfoldable pub composed_of : ℕ → List ℕ → Option Refusal → IonRead
composed_of end s f =
    let x = formula_of end (drop 2 s) f in
    let len = min (min (2 + x.len) (length s) + 1) (length s) in
    record { kind = kinds.Composed; letter = 0; position = 0; last = 0; start = 2; units = x.units; text = 0; len = len; fault = x.fault }

-- `?`, optional label
unfoldable pub unknown_of : ℕ → List ℕ → Option Refusal → IonRead
unknown_of end s f =
    let n = number_of (drop 1 s) in
    without_text kinds.Unknown 0 n.value 1 (min (1 + n.len) (length s)) (after f (number_mark max_position n.value (end - (length s - 1))))

-- `p`
unfoldable pub precursor_of : ℕ → Option Refusal → IonRead
precursor_of all f = without_text kinds.Precursor 0 0 1 (min (1 + 0) all) f
