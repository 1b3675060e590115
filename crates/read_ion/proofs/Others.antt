-- What is read of an ion of the other kinds that is spelled. Assumes nothing.
use Prim.Native.Nat.{ℕ, suc, ◌+◌, ◌-◌, ◌≤◌, min}
use mathlib.Core.Path.{◌≡◌, refl, ap, ap₂, ◌∙◌}
use mathlib.Core.List.{List, [], ◌∷◌, ◌++◌}
use native.Mathlib.Omega.{arith}
use lib.ListN.{length, length-append}
use Rattle.std.specs.Prelude.{Option}
use Rattle.lang.specs.Re.{Byte}
use Rattle.lang.specs.Parts.{Opt, silent, written, opt_text, items}
use Rattle.lang.specs.Mark.{marks_of}
use Rattle.lang.proofs.Deriv.{and_0}
use Rattle.rules.specs.Bytes.{capital}
use Rattle.rules.specs.Numbers.{Number, number_text}
use Rattle.rules.specs.Texts.{is_name, Text, Name, Modification, braced_text, bracket_text}
use Rattle.rules.specs.Formulas.{Written, Formula, formula_text}
use Rattle.rules.specs.Ions.{immonium, precursor, reference, named, composed, smiles, unknown, ion_text}
use Rattle.rules.specs.Limits.{max_position, closed_part, formula_part, ion_parts}
use Rattle.numbers.proofs.SpelledNumbers.{number_read, number_silent}
use Rattle.faults.specs.declared.Refusal.{Refusal}
use Rattle.faults.specs.Faults.{after}
use Rattle.faults.proofs.Marks.{join_kept}
use Rattle.read_formula.proofs.Spelled.{capped}
use Rattle.read_formula.proofs.Limits.{mark_told}
use Rattle.read_formula.proofs.Ends.{ends_apart}
use Rattle.read_formula.proofs.Formulas.{formula_read}
use Rattle.read_opening.proofs.SpelledOpenings.{text_here, name_here}
use Rattle.read_ion.specs.declared.IonKind.{IonKind}
use Rattle.read_ion.specs.declared.IonKind.TheVariants as kinds
use Rattle.read_ion.specs.Kinds.{immonium_of, braced_of, reference_of, composed_of, unknown_of, precursor_of}
use Rattle.read_ion.specs.Ions.{ion_by, ion_of}
use Rattle.read_ion.proofs.OneIon.{ion_read, ended}
use Rattle.read_ion.proofs.Ends.{EndsIon, opens_written}

module _ (k : List ℕ) (end : ℕ) (f : Option Refusal) where
  -- ---- immonium ions

  immonium_long : (a : ℕ) (w : List ℕ) → min (2 + 0) (length (73 ∷ (a ∷ w))) ≡ 2
  immonium_long a w = omega arith

  pub immonium_read : (a : Byte capital) (m : Opt Modification) → EndsIon k → length (73 ∷ (a.val ∷ (opt_text bracket_text m ++ k))) ≤ end
      → ion_of end (73 ∷ (a.val ∷ (opt_text bracket_text m ++ k))) f
      ≡ ion_read (immonium a m) (after f (marks_of (end - length (73 ∷ (a.val ∷ (opt_text bracket_text m ++ k)))) (ion_parts (immonium a m))))
  unfolding ion_of ion_by immonium_of
  immonium_read a silent e h = rw (immonium_long a.val k, e.no_modification)
  immonium_read a (written m) e h =
      let s : List ℕ = 73 ∷ (a.val ∷ (bracket_text m ++ k)) in
      let o : length (bracket_text m ++ k) ≤ end = omega arith in
      let l = length-append (bracket_text m) k in
      rw (immonium_long a.val (bracket_text m ++ k), opens_written m k, name_here m (and_0 (is_name m.bytes) _ m.good) k end f o)
      (ap₂ (λ (l : ℕ) (g : Option Refusal). record { kind = kinds.Immonium; letter = a.val; position = 0; last = 0; start = 2; units = 0; text = length m.bytes; len = l; fault = g })
      (let z : min (2 + length (bracket_text m)) (length s) ≡ length (ion_text (immonium a (written m))) = omega arith in z)
      (ap (λ (at : ℕ). after f ((closed_part bracket_text m).marks at)) (let q : end - length (bracket_text m ++ k) ≡ end - length s + 1 + 1 = omega arith in q)
      ∙ ended f ((closed_part bracket_text m).marks (end - length s + 1 + 1))))

  -- ---- precursors

  pub precursor_read : ion_of end (112 ∷ k) f ≡ ion_read precursor (after f (marks_of (end - length (112 ∷ k)) (ion_parts precursor)))
  unfolding ion_of ion_by precursor_of
  precursor_read =
      ap (λ (l : ℕ). record { kind = kinds.Precursor; letter = 0; position = 0; last = 0; start = 1; units = 0; text = 0; len = l; fault = f })
      (let z : min (1 + 0) (length (112 ∷ k)) ≡ 1 = omega arith in z)

  -- ---- names and texts

  pub reference_read : (n : Name) → length (114 ∷ (bracket_text n ++ k)) ≤ end
      → ion_of end (114 ∷ (bracket_text n ++ k)) f ≡ ion_read (reference n) (after f (marks_of (end - length (114 ∷ (bracket_text n ++ k))) (ion_parts (reference n))))
  unfolding ion_of ion_by reference_of
  reference_read n h =
      let s : List ℕ = 114 ∷ (bracket_text n ++ k) in
      let o : length (bracket_text n ++ k) ≤ end = omega arith in
      let l = length-append (bracket_text n) k in
      rw (name_here n n.good k end f o)
      (ap₂ (λ (l : ℕ) (g : Option Refusal). record { kind = kinds.Reference; letter = 0; position = 0; last = 0; start = 1; units = 0; text = length n.bytes; len = l; fault = g })
      (let z : min (1 + length (bracket_text n)) (length s) ≡ length (ion_text (reference n)) = omega arith in z)
      (ap (λ (at : ℕ). after f ((closed_part bracket_text n).marks at)) (let q : end - length (bracket_text n ++ k) ≡ end - length s + 1 = omega arith in q)))

  -- a letter b, and a text
  braced_read : (kind : IonKind) (b : ℕ) (t : Text) → length (b ∷ (braced_text t ++ k)) ≤ end
      → braced_of kind end (b ∷ (braced_text t ++ k)) f
      ≡ record { kind = kind; letter = 0; position = 0; last = 0; start = 1; units = 0; text = length t.bytes; len = suc (length (braced_text t)); fault = after f ((closed_part braced_text t).marks (end - length (b ∷ (braced_text t ++ k)) + 1)) }
  unfolding braced_of
  braced_read kind b t h =
      let s : List ℕ = b ∷ (braced_text t ++ k) in
      let o : length (braced_text t ++ k) ≤ end = omega arith in
      let l = length-append (braced_text t) k in
      rw (text_here t k end f o)
      (ap₂ (λ (l : ℕ) (g : Option Refusal). record { kind = kind; letter = 0; position = 0; last = 0; start = 1; units = 0; text = length t.bytes; len = l; fault = g })
      (let z : min (1 + length (braced_text t)) (length s) ≡ suc (length (braced_text t)) = omega arith in z)
      (ap (λ (at : ℕ). after f ((closed_part braced_text t).marks at)) (let q : end - length (braced_text t ++ k) ≡ end - length s + 1 = omega arith in q)))

  pub named_read : (t : Text) → length (95 ∷ (braced_text t ++ k)) ≤ end
      → ion_of end (95 ∷ (braced_text t ++ k)) f ≡ ion_read (named t) (after f (marks_of (end - length (95 ∷ (braced_text t ++ k))) (ion_parts (named t))))
  unfolding ion_of ion_by
  named_read t h = braced_read kinds.Named 95 t h

  pub smiles_read : (t : Text) → length (115 ∷ (braced_text t ++ k)) ≤ end
      → ion_of end (115 ∷ (braced_text t ++ k)) f ≡ ion_read (smiles t) (after f (marks_of (end - length (115 ∷ (braced_text t ++ k))) (ion_parts (smiles t))))
  unfolding ion_of ion_by
  smiles_read t h = braced_read kinds.Smiles 115 t h

  -- ---- formulas

  pub composed_read : (x : Formula Written) → length (102 ∷ (123 ∷ (formula_text x ++ (125 ∷ k)))) ≤ end
      → ion_of end (102 ∷ (123 ∷ (formula_text x ++ (125 ∷ k)))) f
      ≡ ion_read (composed x) (after f (marks_of (end - length (102 ∷ (123 ∷ (formula_text x ++ (125 ∷ k))))) (ion_parts (composed x))))
  unfolding ion_of ion_by composed_of
  composed_read x h =
      let s : List ℕ = 102 ∷ (123 ∷ (formula_text x ++ (125 ∷ k))) in
      let o : length (formula_text x ++ (125 ∷ k)) ≤ end = omega arith in
      let l = length-append (formula_text x) (125 ∷ k) in
      rw (formula_read x (125 ∷ k) end f (ends_apart (125 ∷ k) refl) o)
      (ap₂ (λ (l : ℕ) (g : Option Refusal). record { kind = kinds.Composed; letter = 0; position = 0; last = 0; start = 2; units = length (items x); text = 0; len = l; fault = g })
      (let z : min (min (2 + length (formula_text x)) (length s) + 1) (length s) ≡ length (ion_text (composed x)) = omega (arith, length-append (formula_text x) (125 ∷ [])) in z)
      (ap (λ (at : ℕ). after f ((formula_part x).marks at)) (let q : end - length (formula_text x ++ (125 ∷ k)) ≡ end - length s + 2 = omega arith in q)
      ∙ ended f ((formula_part x).marks (end - length s + 2))))

  -- ---- unknown ions

  pub unknown_read : (n : Opt Number) → EndsIon k → length (63 ∷ (opt_text number_text n ++ k)) ≤ end
      → ion_of end (63 ∷ (opt_text number_text n ++ k)) f ≡ ion_read (unknown n) (after f (marks_of (end - length (63 ∷ (opt_text number_text n ++ k))) (ion_parts (unknown n))))
  unfolding ion_of ion_by unknown_of
  unknown_read silent e h =
      rw (number_silent k e.no_digit)
      (ap₂ (λ (l : ℕ) (g : Option Refusal). record { kind = kinds.Unknown; letter = 0; position = 0; last = 0; start = 1; units = 0; text = 0; len = l; fault = g })
      (let z : min (1 + 0) (length (63 ∷ k)) ≡ 1 = omega arith in z) (join_kept f (record { place = end - (length (63 ∷ k) - 1); number = 4; broken = _ }) refl))
  unknown_read (written n) e h =
      let s : List ℕ = 63 ∷ (number_text n ++ k) in
      let l = length-append (number_text n) k in
      rw (number_read n.value k e.no_digit)
      (ap₂ (λ (l : ℕ) (g : Option Refusal). record { kind = kinds.Unknown; letter = 0; position = capped n.value; last = 0; start = 1; units = 0; text = 0; len = l; fault = g })
      (let z : min (1 + length (number_text n)) (length s) ≡ length (ion_text (unknown (written n))) = omega arith in z)
      (mark_told f max_position n.value (end - (length s - 1)) (end - length s + 1) (omega arith) (omega arith)))
