-- What is stored of the small parts of an annotation tells them: what may be left out, and units of formulas. Assumes nothing.
use Prim.Native.Nat.{ℕ}
use mathlib.Core.Path.{◌≡◌, refl, sym, ap, ap₂, subst}
use mathlib.Core.Bool.{Bool, true, false}
use mathlib.Core.List.{List, [], head-eq_of_cons-eq, tail-eq_of_cons-eq}
use native.Mathlib.Omega.{arith}
use lib.Dec.{T, leb→le}
use lib.ListN.{get_or}
use Rattle.lang.specs.Parts.{Opt, silent, written, Some, items, Such}
use Rattle.lang.proofs.Means.{such_path, listed_path}
use Rattle.rules.specs.Numbers.{Number}
use Rattle.rules.specs.Elements.{Symbol, atomic_number}
use Rattle.rules.specs.Formulas.{FormulaUnit, plain, labelled}
use Rattle.rules.specs.Stored.{Field, u8, flag, present, value_or0, number, bytes_of, unit_record}
use Rattle.rules.proofs.Shortened.{from_path}

-- the value in a field of a record, by its place
abbrev pub value_at : ℕ → List Field → ℕ
value_at n fs = (get_or fs n (u8 0)).value

-- ---- there, or not

pub flag_one : (x y : Bool) → flag x ≡ flag y → x ≡ y
flag_one true true e = refl
flag_one true false e = absurd (omega arith)
flag_one false true e = absurd (omega arith)
flag_one false false e = refl

-- told by a flag and two numbers
pub there_one : {A : Type 0} (f g : A → ℕ) → ((a b : A) → f a ≡ f b → g a ≡ g b → a ≡ b)
    → (x y : Opt A) → present x ≡ present y → value_or0 f x ≡ value_or0 f y → value_or0 g x ≡ value_or0 g y → x ≡ y
there_one f g one silent silent e p q = refl
there_one f g one silent (written b) e p q = absurd (omega arith)
there_one f g one (written a) silent e p q = absurd (omega arith)
there_one f g one (written a) (written b) e p q = ap written (one a b p q)

-- told by its number, which is not 0
pub number_one : (x y : Opt Number) → value_or0 number x ≡ value_or0 number y → x ≡ y
number_one silent silent e = refl
number_one silent (written b) e = let h = leb→le 1 b.value b.least in absurd (omega arith)
number_one (written a) silent e = let h = leb→le 1 a.value a.least in absurd (omega arith)
number_one (written a) (written b) e = ap written (from_path a b e)

-- told by its bytes, of which it has one or more
pub text_one : {f : List ℕ → Bool} → (T (f []) → ⊥) → (x y : Opt (Such f)) → bytes_of x ≡ bytes_of y → x ≡ y
text_one full silent silent e = refl
text_one {f} full silent (written b) e = absurd (full (subst (λ (w : List ℕ). T (f w)) (sym e) b.good))
text_one {f} full (written a) silent e = absurd (full (subst (λ (w : List ℕ). T (f w)) e a.good))
text_one full (written a) (written b) e = ap written (such_path a b e)

-- ---- formulas

pub some_one : {A : Type 0} (x y : Some A) → items x ≡ items y → x ≡ y
some_one x y e = λ i. record { first = head-eq_of_cons-eq e i; more = tail-eq_of_cons-eq e i }

pub symbol_one : (x y : Symbol) → atomic_number x ≡ atomic_number y → x ≡ y
symbol_one x y e = listed_path x y (omega arith)

-- a labelled unit has nucleons
pub unit_one : (u v : FormulaUnit Number) → unit_record u ≡ unit_record v → u ≡ v
unit_one (plain s c) (plain r d) e = ap₂ plain (symbol_one s r (ap (value_at 1) e)) (from_path c d (ap (value_at 2) e))
unit_one (plain s c) (labelled b r d) e =
    let h = leb→le 1 b.value b.least in
    let z : 0 ≡ b.value = ap (value_at 0) e in
    absurd (omega arith)
unit_one (labelled a s c) (plain r d) e =
    let h = leb→le 1 a.value a.least in
    let z : a.value ≡ 0 = ap (value_at 0) e in
    absurd (omega arith)
unit_one (labelled a s c) (labelled b r d) e =
    λ i. labelled (from_path a b (ap (value_at 0) e) i) (symbol_one s r (ap (value_at 1) e) i) (from_path c d (ap (value_at 2) e) i)
