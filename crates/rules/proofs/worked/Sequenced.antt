-- Worked lines with sequences in braces. Document 02, M-105. Assumes nothing.
use Prim.Native.Nat.{ℕ}
use Prim.Native.String.{String}
use mathlib.Core.Path.{◌≡◌, refl}
use mathlib.Core.List.{[], ◌∷◌}
use Rattle.lang.specs.Parts.{Opt, silent, written}
use Rattle.rules.specs.Bytes.{bytes}
use Rattle.rules.specs.Numbers.{digits}
use Rattle.rules.specs.Decimals.{whole, last_digits, point_text}
use Rattle.rules.specs.Elements.{symbols}
use Rattle.rules.specs.Ions.{named, smiles}
use Rattle.rules.specs.Losses.{minus, plus}
use Rattle.rules.specs.Sequences.{read_from}
use Rattle.rules.specs.Lines.{Spelling, line_text}
use Rattle.rules.specs.Limits.{line_marks}
use Rattle.rules.specs.House.{first_foreign}
use Rattle.rules.specs.Editions.{current}
use Rattle.rules.proofs.worked.Spell.{text, H, atom, H2O, ion, serial, b, inner, p, ◌with◌, marked, loss, item}
use Rattle.rules.proofs.worked.Row.{broken, Worked}
use Rattle.rules.proofs.worked.Bounds.{Ruled}

-- a line within the limits: the first annotation whose sequence is outside the plain form
pub record Foreign (line : String) (s : Spelling) (first : Opt ℕ) : Type 0 where
  pub text : line_text s ≡ bytes line
  pub limits : broken (line_marks s) ≡ []
  pub foreign : first_foreign current 0 s ≡ first

-- ---- the lines

-- 69 bytes, 3 at 36
pub three : Worked "y3{PEP}"
    (serial 7 tt 3 (written (text "PEP" tt)) ∷ [])
    69
    (2 ∷ 0 ∷ 69 ∷ 0 ∷ 1 ∷ 0 ∷ 28 ∷ 0 ∷ 0 ∷ 0 ∷ 66 ∷ 0 ∷ 0 ∷ 0 ∷ 66 ∷ 0 ∷ 0 ∷ 0 ∷ 66 ∷ 0 ∷ 0 ∷ 0 ∷ 66 ∷ 0 ∷ 3 ∷ 0 ∷ 66 ∷ 0  -- header
    ∷ 1 ∷ 0 ∷ 0 ∷ 8 ∷ 0 ∷ 0 ∷ 3 ∷ 0 ∷ 0 ∷ 0 ∷ 1 ∷ 0 ∷ 0 ∷ 0 ∷ 0 ∷ 0 ∷ 0 ∷ 0 ∷ 0 ∷ 0 ∷ 0 ∷ 0 ∷ 0 ∷ 0 ∷ 0 ∷ 0 ∷ 0 ∷ 0 ∷ 3 ∷ 0 ∷ 0 ∷ 0 ∷ 0 ∷ 0 ∷ 0 ∷ 0 ∷ 3 ∷ 0  -- annotation
    ∷ 80 ∷ 69 ∷ 80  -- text
    ∷ [])
    "y3{PEP}"
unfolding digits whole last_digits point_text symbols read_from
three = record { text = refl; limits = refl; form = refl; rules = refl; sum = refl; long = refl; stores = refl; writes = refl }

-- names at both ends and behind residues, with brackets inside: 2 at 36
pub names : Worked "y2{[Ac]-M[[X]]K-[am]}"
    (serial 7 tt 2 (written (text "[Ac]-M[[X]]K-[am]" tt)) ∷ [])
    83
    (2 ∷ 0 ∷ 83 ∷ 0 ∷ 1 ∷ 0 ∷ 28 ∷ 0 ∷ 0 ∷ 0 ∷ 66 ∷ 0 ∷ 0 ∷ 0 ∷ 66 ∷ 0 ∷ 0 ∷ 0 ∷ 66 ∷ 0 ∷ 0 ∷ 0 ∷ 66 ∷ 0 ∷ 17 ∷ 0 ∷ 66 ∷ 0  -- header
    ∷ 1 ∷ 0 ∷ 0 ∷ 8 ∷ 0 ∷ 0 ∷ 2 ∷ 0 ∷ 0 ∷ 0 ∷ 1 ∷ 0 ∷ 0 ∷ 0 ∷ 0 ∷ 0 ∷ 0 ∷ 0 ∷ 0 ∷ 0 ∷ 0 ∷ 0 ∷ 0 ∷ 0 ∷ 0 ∷ 0 ∷ 0 ∷ 0 ∷ 17 ∷ 0 ∷ 0 ∷ 0 ∷ 0 ∷ 0 ∷ 0 ∷ 0 ∷ 2 ∷ 0  -- annotation
    ∷ 91 ∷ 65 ∷ 99 ∷ 93 ∷ 45 ∷ 77 ∷ 91 ∷ 91 ∷ 88 ∷ 93 ∷ 93 ∷ 75 ∷ 45 ∷ 91 ∷ 97 ∷ 109 ∷ 93  -- text
    ∷ [])
    "y2{[Ac]-M[[X]]K-[am]}"
unfolding digits whole last_digits point_text symbols read_from
names = record { text = refl; limits = refl; form = refl; rules = refl; sum = refl; long = refl; stores = refl; writes = refl }

-- an internal ion has end minus start plus 1 of them
pub from_to : Worked "m3:5{PEP}"
    (inner 3 5 (written (text "PEP" tt)) ∷ [])
    69
    (2 ∷ 0 ∷ 69 ∷ 0 ∷ 1 ∷ 0 ∷ 28 ∷ 0 ∷ 0 ∷ 0 ∷ 66 ∷ 0 ∷ 0 ∷ 0 ∷ 66 ∷ 0 ∷ 0 ∷ 0 ∷ 66 ∷ 0 ∷ 0 ∷ 0 ∷ 66 ∷ 0 ∷ 3 ∷ 0 ∷ 66 ∷ 0  -- header
    ∷ 2 ∷ 0 ∷ 0 ∷ 0 ∷ 0 ∷ 0 ∷ 3 ∷ 0 ∷ 5 ∷ 0 ∷ 1 ∷ 0 ∷ 0 ∷ 0 ∷ 0 ∷ 0 ∷ 0 ∷ 0 ∷ 0 ∷ 0 ∷ 0 ∷ 0 ∷ 0 ∷ 0 ∷ 0 ∷ 0 ∷ 0 ∷ 0 ∷ 3 ∷ 0 ∷ 0 ∷ 0 ∷ 0 ∷ 0 ∷ 0 ∷ 0 ∷ 3 ∷ 0  -- annotation
    ∷ 80 ∷ 69 ∷ 80  -- text
    ∷ [])
    "m3:5{PEP}"
unfolding digits whole last_digits point_text symbols read_from
from_to = record { text = refl; limits = refl; form = refl; rules = refl; sum = refl; long = refl; stores = refl; writes = refl }

-- more residues than the position; 0 at 36 without a sequence, and of a named ion
pub more : Worked "b1,&y1{PEP}-H2O,_{PEP}"
    (b 1 ∷ serial 7 tt 1 (written (text "PEP" tt)) with marked with loss minus silent H2O ∷ ion (named (text "PEP" tt)) ∷ [])
    166
    (2 ∷ 0 ∷ 166 ∷ 0 ∷ 3 ∷ 0 ∷ 28 ∷ 0 ∷ 1 ∷ 0 ∷ 142 ∷ 0 ∷ 0 ∷ 0 ∷ 148 ∷ 0 ∷ 0 ∷ 0 ∷ 148 ∷ 0 ∷ 2 ∷ 0 ∷ 148 ∷ 0 ∷ 6 ∷ 0 ∷ 160 ∷ 0  -- header
    ∷ 1 ∷ 0 ∷ 0 ∷ 2 ∷ 0 ∷ 0 ∷ 1 ∷ 0 ∷ 0 ∷ 0 ∷ 1 ∷ 0 ∷ 0 ∷ 0 ∷ 0 ∷ 0 ∷ 0 ∷ 0 ∷ 0 ∷ 0 ∷ 0 ∷ 0 ∷ 0 ∷ 0 ∷ 0 ∷ 0 ∷ 0 ∷ 0 ∷ 0 ∷ 0 ∷ 0 ∷ 0 ∷ 0 ∷ 0 ∷ 0 ∷ 0 ∷ 0 ∷ 0  -- annotation
    ∷ 1 ∷ 1 ∷ 0 ∷ 8 ∷ 0 ∷ 0 ∷ 1 ∷ 0 ∷ 0 ∷ 0 ∷ 1 ∷ 0 ∷ 0 ∷ 0 ∷ 0 ∷ 0 ∷ 0 ∷ 0 ∷ 0 ∷ 0 ∷ 0 ∷ 0 ∷ 0 ∷ 0 ∷ 0 ∷ 0 ∷ 0 ∷ 0 ∷ 3 ∷ 0 ∷ 0 ∷ 0 ∷ 1 ∷ 0 ∷ 0 ∷ 0 ∷ 3 ∷ 0  -- annotation
    ∷ 6 ∷ 0 ∷ 0 ∷ 0 ∷ 0 ∷ 0 ∷ 0 ∷ 0 ∷ 0 ∷ 0 ∷ 1 ∷ 0 ∷ 0 ∷ 0 ∷ 0 ∷ 0 ∷ 0 ∷ 0 ∷ 0 ∷ 0 ∷ 0 ∷ 0 ∷ 0 ∷ 0 ∷ 0 ∷ 0 ∷ 0 ∷ 0 ∷ 3 ∷ 0 ∷ 0 ∷ 0 ∷ 0 ∷ 0 ∷ 0 ∷ 0 ∷ 0 ∷ 0  -- annotation
    ∷ 0 ∷ 0 ∷ 1 ∷ 0 ∷ 2 ∷ 0  -- loss
    ∷ 0 ∷ 0 ∷ 1 ∷ 0 ∷ 2 ∷ 0  -- unit
    ∷ 0 ∷ 0 ∷ 8 ∷ 0 ∷ 1 ∷ 0  -- unit
    ∷ 80 ∷ 69 ∷ 80 ∷ 80 ∷ 69 ∷ 80  -- text
    ∷ [])
    "b1,&y1{PEP}-H2O,_{PEP}"
unfolding digits whole last_digits point_text symbols read_from
more = record { text = refl; limits = refl; form = refl; rules = refl; sum = refl; long = refl; stores = refl; writes = refl }

-- ---- too few residues: 6

pub four_of_three : Ruled "y4{PEP}" (serial 7 tt 4 (written (text "PEP" tt)) ∷ []) (written 0) silent
unfolding digits whole last_digits point_text symbols read_from
four_of_three = record { text = refl; limits = refl; breach = refl; excess = refl }

-- the capital inside a name is no residue
pub name_not_counted : Ruled "y2{M[K]}" (serial 7 tt 2 (written (text "M[K]" tt)) ∷ []) (written 0) silent
unfolding digits whole last_digits point_text symbols read_from
name_not_counted = record { text = refl; limits = refl; breach = refl; excess = refl }

pub from_to_past : Ruled "m3:6{PEP}" (inner 3 6 (written (text "PEP" tt)) ∷ []) (written 0) silent
unfolding digits whole last_digits point_text symbols read_from
from_to_past = record { text = refl; limits = refl; breach = refl; excess = refl }

-- a start past its end is broken in any case
pub end_before_start : Ruled "m6:3{P}" (inner 6 3 (written (text "P" tt)) ∷ []) (written 0) silent
unfolding digits whole last_digits point_text symbols read_from
end_before_start = record { text = refl; limits = refl; breach = refl; excess = refl }

pub second_too_short : Ruled "p,y4{PEP}" (p ∷ serial 7 tt 4 (written (text "PEP" tt)) ∷ []) (written 2) silent
unfolding digits whole last_digits point_text symbols read_from
second_too_short = record { text = refl; limits = refl; breach = refl; excess = refl }

-- ---- outside the form: 11

pub small_letter : Foreign "y1{x}" (serial 7 tt 1 (written (text "x" tt)) ∷ []) (written 0)
unfolding digits whole last_digits point_text symbols read_from
small_letter = record { text = refl; limits = refl; foreign = refl }

pub two_names_in_front : Foreign "y1{[A]-[B]-M}" (serial 7 tt 1 (written (text "[A]-[B]-M" tt)) ∷ []) (written 0)
unfolding digits whole last_digits point_text symbols read_from
two_names_in_front = record { text = refl; limits = refl; foreign = refl }

pub empty_name : Foreign "y1{M[]}" (serial 7 tt 1 (written (text "M[]" tt)) ∷ []) (written 0)
unfolding digits whole last_digits point_text symbols read_from
empty_name = record { text = refl; limits = refl; foreign = refl }

-- 11 comes before 6 over the whole line
pub behind_a_breach : Foreign "m1:1,y1{x}" (inner 1 1 silent ∷ serial 7 tt 1 (written (text "x" tt)) ∷ []) (written 5)
unfolding digits whole last_digits point_text symbols read_from
behind_a_breach = record { text = refl; limits = refl; foreign = refl }

-- the first of two
pub first_of_two : Foreign "y1{K},m2:2{x},y1{y}"
    (serial 7 tt 1 (written (text "K" tt)) ∷ inner 2 2 (written (text "x" tt)) ∷ serial 7 tt 1 (written (text "y" tt)) ∷ [])
    (written 6)
unfolding digits whole last_digits point_text symbols read_from
first_of_two = record { text = refl; limits = refl; foreign = refl }

-- the braces of named ions and of SMILES hold no sequence
pub other_braces : Foreign "_{x},s{x}[M+H]"
    (ion (named (text "x" tt)) ∷ ion (smiles (text "x" tt)) with item plus silent (atom H) ∷ [])
    silent
unfolding digits whole last_digits point_text symbols read_from
other_braces = record { text = refl; limits = refl; foreign = refl }
