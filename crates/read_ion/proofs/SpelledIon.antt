-- What is read of an ion that is spelled, and where its text or formula stands. Assumes nothing.
use Prim.Native.Nat.{ℕ, ◌+◌, ◌-◌, ◌≤◌}
use mathlib.Core.Path.{◌≡◌, refl, sym, ap, ◌∙◌, subst}
use mathlib.Core.List.{List, [], ◌∷◌, ◌++◌, append_assoc}
use lib.ListN.{length, take, drop}
use lib.Seq.{take-append_seam}
use Rattle.std.specs.Prelude.{Option}
use Rattle.lang.specs.Parts.{Opt, silent, written, opt_text, word_of}
use Rattle.lang.specs.Mark.{marks_of}
use Rattle.rules.specs.Bytes.{bytes}
use Rattle.rules.specs.Numbers.{Number, number_text}
use Rattle.rules.specs.Texts.{Text, Modification, braced_text, bracket_text}
use Rattle.rules.specs.Formulas.{Written, Formula, formula_text}
use Rattle.rules.specs.Ions.{Series, Letters, SpelledIon, series, internal, immonium, precursor, reference, named, composed, smiles, unknown, ion_text, ion_map}
use Rattle.rules.specs.Fields.{filled, filled_cut}
use Rattle.rules.specs.Stored.{bytes_of, ion_fields}
use Rattle.rules.specs.Limits.{ion_parts}
use Rattle.faults.specs.declared.Refusal.{Refusal}
use Rattle.faults.specs.Faults.{after}
use Rattle.read_ion.specs.Ions.{ion_of}
use Rattle.read_ion.proofs.Positions.{series_on, series_start, series_read, internal_on, internal_start, internal_read}
use Rattle.read_ion.proofs.Others.{immonium_read, precursor_read, reference_read, named_read, composed_read, smiles_read, unknown_read}
pub use Rattle.read_ion.proofs.Bounds.{ion_within, ion_units_lem, ion_text_lem}
pub use Rattle.read_ion.proofs.Ends.{EndsIon}
pub use Rattle.read_ion.proofs.OneIon.{ion_read}

-- ---- the text from left to right

series_text : (s : Series) (n : Number) (t : Opt Text) (k : List ℕ) → series_on s n t k ≡ (word_of s ++ (number_text n ++ opt_text braced_text t)) ++ k
series_text s n t k = sym (append_assoc (word_of s) (number_text n ++ opt_text braced_text t) k ∙ ap (λ (w : List ℕ). word_of s ++ w) (append_assoc (number_text n) (opt_text braced_text t) k))

internal_text : (c : Letters) (m n : Number) (t : Opt Text) (k : List ℕ) → internal_on c m n t k ≡ (109 ∷ (opt_text word_of c ++ (number_text m ++ (58 ∷ (number_text n ++ opt_text braced_text t))))) ++ k
internal_text c m n t k =
    ap (λ (w : List ℕ). 109 ∷ w)
    (sym (append_assoc (opt_text word_of c) (number_text m ++ (58 ∷ (number_text n ++ opt_text braced_text t))) k ∙ ap (λ (w : List ℕ). opt_text word_of c ++ w) (append_assoc (number_text m) (58 ∷ (number_text n ++ opt_text braced_text t)) k ∙ ap (λ (w : List ℕ). number_text m ++ (58 ∷ w)) (append_assoc (number_text n) (opt_text braced_text t) k))))

composed_text : (x : Formula Written) (k : List ℕ) → 102 ∷ (123 ∷ (formula_text x ++ (125 ∷ k))) ≡ ion_text (composed x) ++ k
composed_text x k = ap (λ (w : List ℕ). 102 ∷ (123 ∷ w)) (sym (append_assoc (formula_text x) (125 ∷ []) k))

-- ---- what is read

-- of an ion whose text, with what follows it, is s
abbrev ReadAs : SpelledIon → ℕ → Option Refusal → List ℕ → Type 0
ReadAs x end f s = length s ≤ end → ion_of end s f ≡ ion_read x (after f (marks_of (end - length s) (ion_parts x)))

pub ion_read_lem : (x : SpelledIon) (k : List ℕ) (end : ℕ) (f : Option Refusal) → EndsIon k → length (ion_text x ++ k) ≤ end
    → ion_of end (ion_text x ++ k) f ≡ ion_read x (after f (marks_of (end - length (ion_text x ++ k)) (ion_parts x)))
ion_read_lem (series s n t) k end f e h = subst (ReadAs (series s n t) end f) (series_text s n t k) (series_read s n t k end f e) h
ion_read_lem (internal c m n t) k end f e h = subst (ReadAs (internal c m n t) end f) (internal_text c m n t k) (internal_read c m n t k end f e) h
ion_read_lem (immonium a m) k end f e h = immonium_read k end f a m e h
ion_read_lem precursor k end f e h = precursor_read k end f
ion_read_lem (reference n) k end f e h = reference_read k end f n h
ion_read_lem (named t) k end f e h = named_read k end f t h
ion_read_lem (composed x) k end f e h = subst (ReadAs (composed x) end f) (composed_text x k) (composed_read k end f x) h
ion_read_lem (smiles t) k end f e h = smiles_read k end f t h
ion_read_lem (unknown n) k end f e h = unknown_read k end f n e h

-- ---- where the text stands

-- bytes between two
closed_text : (a z : ℕ) (w k : List ℕ) → take (length w) (drop 1 ((a ∷ (w ++ (z ∷ []))) ++ k)) ≡ w
closed_text a z w k = ap (take (length w)) (append_assoc w (z ∷ []) k) ∙ take-append_seam w (z ∷ k)

braced_text_lem : (t : Opt Text) (k : List ℕ) → take (length (bytes_of t)) (drop 1 (opt_text braced_text t ++ k)) ≡ bytes_of t
braced_text_lem silent k = refl
braced_text_lem (written t) k = closed_text 123 125 t.bytes k

bracket_text_lem : (m : Opt Modification) (k : List ℕ) → take (length (bytes_of m)) (drop 1 (opt_text bracket_text m ++ k)) ≡ bytes_of m
bracket_text_lem silent k = refl
bracket_text_lem (written m) k = closed_text 91 93 m.bytes k

pub ion_spelled_text : (x : SpelledIon) (k : List ℕ) (f : Option Refusal)
    → take (ion_read x f).text (drop 1 (drop (ion_read x f).start (ion_text x ++ k))) ≡ (ion_fields (ion_map filled filled_cut x)).text
ion_spelled_text (series s n t) k f =
    ap (λ (w : List ℕ). take (length (bytes_of t)) (drop 1 w)) (ap (drop (length (word_of s) + length (number_text n))) (sym (series_text s n t k)) ∙ series_start s n t k) ∙ braced_text_lem t k
ion_spelled_text (internal c m n t) k f =
    ap (λ (w : List ℕ). take (length (bytes_of t)) (drop 1 w))
    (ap (drop (1 + length (opt_text word_of c) + length (number_text m) + 1 + length (number_text n))) (sym (internal_text c m n t k)) ∙ internal_start c m n t k) ∙ braced_text_lem t k
ion_spelled_text (immonium a m) k f = bracket_text_lem m k
ion_spelled_text precursor k f = refl
ion_spelled_text (reference n) k f = closed_text 91 93 n.bytes k
ion_spelled_text (named t) k f = closed_text 123 125 t.bytes k
ion_spelled_text (composed x) k f = refl
ion_spelled_text (smiles t) k f = closed_text 123 125 t.bytes k
ion_spelled_text (unknown n) k f = refl

-- where the formula stands
pub ion_spelled_formula : (x : Formula Written) (k : List ℕ) (f : Option Refusal) → drop (ion_read (composed x) f).start (ion_text (composed x) ++ k) ≡ formula_text x ++ (bytes "}" ++ k)
ion_spelled_formula x k f = append_assoc (formula_text x) (125 ∷ []) k
