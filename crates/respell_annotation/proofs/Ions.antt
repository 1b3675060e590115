-- What is spelled anew of an ion that is spelled. Assumes nothing.
use Prim.Native.Nat.{ℕ}
use mathlib.Core.Path.{◌≡◌, refl, sym, ap, ◌∙◌}
use mathlib.Core.Bool.{Bool, true, false, cond}
use mathlib.Core.List.{List, [], ◌∷◌, ◌++◌, map, map-map}
use native.Mathlib.Omega.{arith}
use lib.Dec.{eqb}
use lib.ListN.{length, take, drop}
use lib.Seq.{take-append_seam}
use borrow.Author.Tests.{ne_eqb}
use Rattle.std.specs.Prelude.{Option}
use Rattle.lang.specs.Parts.{silent, written, opt_text, items, flat, word_of}
use Rattle.lang.specs.Mark.{Kept, here, later, marks_of}
use Rattle.rules.specs.Bytes.{bytes}
use Rattle.rules.specs.Texts.{braced_text}
use Rattle.rules.specs.Numbers.{number_text}
use Rattle.rules.specs.Formulas.{unit_text, unit_map}
use Rattle.rules.specs.Ions.{cleavage_names, series, internal, immonium, precursor, reference, named, composed, smiles, unknown, ion_text, ion_map, SpelledIon}
use Rattle.rules.specs.Fields.{filled, filled_cut}
use Rattle.rules.specs.Preferred.{shortened, shortened_cut}
use Rattle.rules.specs.Limits.{formula_part, ion_parts}
use Rattle.rules.proofs.Keeps.{kept_part}
use Rattle.faults.specs.declared.Refusal.{Refusal}
use Rattle.put_formula.specs.Preferred.{preferred_units}
use Rattle.put_formula.proofs.PutUnits.{preferred_read}
use Rattle.read_ion.proofs.SpelledIon.{ion_read, ion_spelled_formula}
use Rattle.read_ion.proofs.SpelledYb.{yb_read, behind_letters}
use Rattle.sort_changes.proofs.Fits.{units_told}
use Rattle.respell_annotation.specs.Annotations.{ion_spelled}

-- the letters yb are left out, the units of a formula are spelled anew, and all else stays
pub ion_spelled_lem : (x : SpelledIon) (k : List ℕ) (at : ℕ) (g : Option Refusal) → Kept (marks_of at (ion_parts x))
    → ion_spelled (ion_text x ++ k) (ion_read x g) ≡ ion_text (ion_map shortened shortened_cut (ion_map filled filled_cut x))
unfolding ion_spelled
ion_spelled_lem (series s n t) k at g h = rw (yb_read (series s n t) k) (take-append_seam (ion_text (series s n t)) k)
ion_spelled_lem (internal silent m n t) k at g h = rw (yb_read (internal silent m n t) k) (take-append_seam (ion_text (internal silent m n t)) k)
ion_spelled_lem (internal (written c) m n t) k at g h =
    let x = internal (written c) m n t in
    let rest = number_text m ++ (bytes ":" ++ (number_text n ++ opt_text braced_text t)) in
    rw (yb_read x k) (by (eqb c.which 4) rest (take-append_seam (ion_text x) k))
  where
    by : (yb : Bool) (rest : List ℕ) → take (ion_read (internal (written c) m n t) g).len (ion_text (internal (written c) m n t) ++ k) ≡ 109 ∷ (word_of c ++ rest)
        → cond yb (109 ∷ drop 3 (take (ion_read (internal (written c) m n t) g).len (ion_text (internal (written c) m n t) ++ k)))
        (take (ion_read (internal (written c) m n t) g).len (ion_text (internal (written c) m n t) ++ k))
        ≡ 109 ∷ (opt_text (word_of {words = map bytes cleavage_names}) (elim yb [ true ↦ silent | false ↦ written c ]) ++ rest)
    by true rest e = ap (λ (l : List ℕ). 109 ∷ drop 3 l) e ∙ ap (λ (l : List ℕ). 109 ∷ l) (behind_letters c rest)
    by false rest e = e
ion_spelled_lem (immonium a m) k at g h = take-append_seam (ion_text (immonium a m)) k
ion_spelled_lem precursor k at g h = refl
ion_spelled_lem (reference n) k at g h = take-append_seam (ion_text (reference n)) k
ion_spelled_lem (named t) k at g h = take-append_seam (ion_text (named t)) k
ion_spelled_lem (composed f) k at g h =
    let us = items f in
    let p = kept_part at (ion_parts (composed f)) h (formula_part f) (later here) in
    let z : (length us ≡ 0 → ⊥) = λ q. omega arith in
    rw (ne_eqb (length us) 0 z)
    (ap (λ (w : List ℕ). 102 ∷ 123 ∷ (w ++ (125 ∷ [])))
    (ap (preferred_units (length us)) (ion_spelled_formula f k g)
    ∙ preferred_read us (125 ∷ k) (units_told us p.0 p.1) (record { no_digit = refl; no_small = refl })
    ∙ ap (flat unit_text) (sym (map-map (unit_map shortened) (unit_map filled) us))))
ion_spelled_lem (smiles t) k at g h = take-append_seam (ion_text (smiles t)) k
ion_spelled_lem (unknown n) k at g h = take-append_seam (ion_text (unknown n)) k
