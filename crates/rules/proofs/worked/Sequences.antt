-- Worked sequences: which texts are one, and how many residues they have. Document 02, M-105. Assumes nothing.
use mathlib.Core.Path.{◌≡◌, refl}
use mathlib.Core.Bool.{true, false}
use mathlib.Core.List.{[], ◌∷◌, map}
use Rattle.lang.specs.Parts.{written}
use Rattle.rules.specs.Bytes.{bytes}
use Rattle.rules.specs.Sequences.{read_from, is_sequence, residues, IsSequence}
use Rattle.rules.proofs.worked.Spell.{name}

-- ---- which texts are a sequence

pub sequences : map is_sequence (map bytes ("M" ∷ "PEPTIDE" ∷ "[Ac]-M" ∷ "M-[am]" ∷ "[Ac]-M[[X]]K-[am]" ∷ "M[K]" ∷ "M[a][b]K" ∷ "M[a-b]" ∷ []))
    ≡ true ∷ true ∷ true ∷ true ∷ true ∷ true ∷ true ∷ true ∷ []
unfolding read_from
sequences = refl

-- a capital, a `-` and the first letter of a name count for nothing inside it
pub names_inside : map is_sequence (map bytes ("M[-]" ∷ "[M-]-M" ∷ "M[[]]" ∷ "M[2[a][]b]-[M+]" ∷ []))
    ≡ true ∷ true ∷ true ∷ true ∷ []
unfolding read_from
names_inside = refl

-- no residue
pub no_residue : map is_sequence (map bytes ("" ∷ "x" ∷ "m" ∷ "-[a]" ∷ "[a]-" ∷ "[a]-[b]" ∷ "[a]" ∷ []))
    ≡ false ∷ false ∷ false ∷ false ∷ false ∷ false ∷ false ∷ []
unfolding read_from
no_residue = refl

-- a name too many, one without its `-`, one without a byte
pub misplaced : map is_sequence (map bytes ("[A]-[B]-M" ∷ "[O]M" ∷ "M-[a]K" ∷ "M-[a][b]" ∷ "M-[a]-[b]" ∷ "M[]" ∷ "M-[]" ∷ "[]-M" ∷ []))
    ≡ false ∷ false ∷ false ∷ false ∷ false ∷ false ∷ false ∷ false ∷ []
unfolding read_from
misplaced = refl

-- a `-` with no name behind it, brackets that do not pair up, bytes that are no part of a sequence
pub stray : map is_sequence (map bytes ("M-" ∷ "M--[a]" ∷ "M]" ∷ "M[" ∷ "M[a" ∷ "M[[a]" ∷ "M[a]]" ∷ "M K" ∷ "Mk" ∷ "M[\t]" ∷ []))
    ≡ false ∷ false ∷ false ∷ false ∷ false ∷ false ∷ false ∷ false ∷ false ∷ false ∷ []
unfolding read_from
stray = refl

-- ---- how many residues they have

pub counts : map residues (map bytes ("M" ∷ "PEPTIDE" ∷ "[Ac]-M" ∷ "M-[AM]" ∷ "[Ac]-M[[X]]K-[am]" ∷ "M[K]" ∷ "M[a][b]K" ∷ "M[A-B]" ∷ []))
    ≡ 1 ∷ 7 ∷ 1 ∷ 1 ∷ 2 ∷ 1 ∷ 2 ∷ 1 ∷ []
unfolding read_from
counts = refl

-- ---- one by its parts

pub by_parts : IsSequence (bytes "[Ac]-M[[X]][b]K-[am]")
by_parts = (
  record {
    front = written (name "Ac" tt);
    residues = record {
      first = record { letter = record { val = 77; is_in = tt }; names = name "[X]" tt ∷ name "b" tt ∷ [] };
      more = record { letter = record { val = 75; is_in = tt }; names = [] } ∷ [];
    };
    back = written (name "am" tt);
  },
  refl,
)
