-- An ion is told by its kind, its letter, its numbers, its text and its units. Assumes nothing.
use Prim.Native.Nat.{ℕ, ◌+◌}
use mathlib.Core.Path.{◌≡◌, refl, sym, ap, ap₂, ◌∙◌, subst}
use mathlib.Core.Bool.{Bool, true, false}
use lib.Dec.{eqb}
use borrow.Author.Tests.{eqb-true}
use native.Mathlib.Omega.{arith}
use Rattle.lang.specs.Re.{Byte}
use Rattle.lang.specs.Parts.{Opt}
use Rattle.lang.proofs.Lits.{byte_path}
use Rattle.lang.proofs.Means.{such_path, listed_path}
use Rattle.rules.specs.Bytes.{capital}
use Rattle.rules.specs.Numbers.{Number}
use Rattle.rules.specs.Texts.{Text, Name, Modification}
use Rattle.rules.specs.Formulas.{Formula}
use Rattle.rules.specs.Ions.{Series, Cleavage, TableIon, series, internal, immonium, precursor, reference, named, composed, smiles, unknown}
use Rattle.rules.specs.Stored.{kind, held_cut, IonFields, ion_fields}
use Rattle.rules.proofs.Shortened.{from_path}
use Rattle.rules.proofs.OnePart.{number_one, text_one, some_one}

-- an ion by the number of its kind: of two ions of one kind there is then one case for each kind
data OfKind : ℕ → TableIon → Type 0 where
  of_series : (s : Series) (n : Number) (t : Opt Text) → OfKind 1 (series s n t)
  of_internal : (c : Cleavage) (m n : Number) (t : Opt Text) → OfKind 2 (internal c m n t)
  of_immonium : (a : Byte capital) (m : Opt Modification) → OfKind 3 (immonium a m)
  of_precursor : OfKind 4 precursor
  of_reference : (n : Name) → OfKind 5 (reference n)
  of_named : (t : Text) → OfKind 6 (named t)
  of_composed : (f : Formula Number) → OfKind 7 (composed f)
  of_smiles : (t : Text) → OfKind 8 (smiles t)
  of_unknown : (n : Opt Number) → OfKind 9 (unknown n)

of_kind : (x : TableIon) → OfKind (kind x) x
of_kind (series s n t) = of_series s n t
of_kind (internal c m n t) = of_internal c m n t
of_kind (immonium a m) = of_immonium a m
of_kind precursor = of_precursor
of_kind (reference n) = of_reference n
of_kind (named t) = of_named t
of_kind (composed f) = of_composed f
of_kind (smiles t) = of_smiles t
of_kind (unknown n) = of_unknown n

-- the fields, one by one
letter_is : {f g : IonFields} → f ≡ g → f.letter ≡ g.letter
letter_is e = ap (λ (f : IonFields). f.letter) e

position_is : {f g : IonFields} → f ≡ g → f.position ≡ g.position
position_is e = ap (λ (f : IonFields). f.position) e

end_is : {f g : IonFields} → f ≡ g → f.end ≡ g.end
end_is e = ap (λ (f : IonFields). f.end) e

text_is : {f g : IonFields} → f ≡ g → f.text ≡ g.text
text_is e = ap (λ (f : IonFields). f.text) e

units_are : {f g : IonFields} → f ≡ g → f.units ≡ g.units
units_are e = ap (λ (f : IonFields). f.units) e

series_one : (s r : Series) → s.which + 1 ≡ r.which + 1 → s ≡ r
series_one s r e = listed_path s r (omega arith)

-- yb alone is held as 0, and none as 5
cleavage_one : (c d : Cleavage) → held_cut c ≡ held_cut d → c ≡ d
cleavage_one c d e = listed_path c d (by (eqb c.which 4) refl (eqb d.which 4) refl e)
  where
    by : (s : Bool) → eqb c.which 4 ≡ s → (t : Bool) → eqb d.which 4 ≡ t → ◌≡◌ {A = ℕ} (elim s [ true ↦ 0 | false ↦ c.which + 1 ]) (elim t [ true ↦ 0 | false ↦ d.which + 1 ])
        → c.which ≡ d.which
    by true p true q e = eqb-true c.which 4 p ∙ sym (eqb-true d.which 4 q)
    by true p false q e = absurd (omega arith)
    by false p true q e = absurd (omega arith)
    by false p false q e = omega arith

-- no text is empty, so one that is left out differs from each that is there
kind_one : {k : ℕ} {x y : TableIon} → OfKind k x → OfKind k y → ion_fields x ≡ ion_fields y → x ≡ y
kind_one (of_series s n t) (of_series r m u) e =
    λ i. series (series_one s r (letter_is e) i) (from_path n m (position_is e) i) (text_one (λ z. z) t u (text_is e) i)
kind_one (of_internal c m n t) (of_internal d p q u) e =
    λ i. internal (cleavage_one c d (letter_is e) i) (from_path m p (position_is e) i) (from_path n q (end_is e) i) (text_one (λ z. z) t u (text_is e) i)
kind_one (of_immonium a m) (of_immonium b n) e = ap₂ immonium (byte_path a b (letter_is e)) (text_one (λ z. z) m n (text_is e))
kind_one of_precursor of_precursor e = refl
kind_one (of_reference n) (of_reference m) e = ap reference (such_path n m (text_is e))
kind_one (of_named t) (of_named u) e = ap named (such_path t u (text_is e))
kind_one (of_composed f) (of_composed g) e = ap composed (some_one f g (units_are e))
kind_one (of_smiles t) (of_smiles u) e = ap smiles (such_path t u (text_is e))
kind_one (of_unknown n) (of_unknown m) e = ap unknown (number_one n m (position_is e))

pub ion_one : (x y : TableIon) → kind x ≡ kind y → ion_fields x ≡ ion_fields y → x ≡ y
ion_one x y k e = kind_one (of_kind x) (subst (λ (n : ℕ). OfKind n y) (sym k) (of_kind y)) e
