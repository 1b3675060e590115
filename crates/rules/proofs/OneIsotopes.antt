-- The records of an annotation's isotopes tell them. Assumes nothing.
use Prim.Native.Nat.{ℕ, ◌+◌}
use mathlib.Core.Path.{◌≡◌, refl, sym, ap, subst}
use mathlib.Core.List.{List, [], ◌∷◌, head-eq_of_cons-eq}
use Rattle.lang.specs.Parts.{Some, items}
use Rattle.rules.specs.Numbers.{Number}
use Rattle.rules.specs.Isotopes.{Shift, Specific, Isotopes, no_isotope, plain_isotope, average_isotope, specific_isotopes}
use Rattle.rules.specs.Stored.{Field, isotope_record, specific_record, isotope_records}
use Rattle.rules.proofs.Shortened.{from_path}
use Rattle.rules.proofs.Keys.{sign_one}
use Rattle.rules.proofs.Cuts.{map_one}
use Rattle.rules.proofs.OnePart.{value_at, some_one, symbol_one}

shift_one : (x y : Shift Number) (k m n l p q : ℕ) → isotope_record x k m n ≡ isotope_record y l p q → x ≡ y
shift_one x y k m n l p q e =
    λ i. record { sign = sign_one x.sign y.sign (ap (value_at 0) e) i; count = from_path x.count y.count (ap (value_at 2) e) i }

specific_one : (x y : Specific Number) → specific_record x ≡ specific_record y → x ≡ y
specific_one x y e =
    λ i. record {
      shift = shift_one x.shift y.shift _ _ _ _ _ _ e i;
      nucleons = from_path x.nucleons y.nucleons (ap (value_at 3) e) i;
      symbol = symbol_one x.symbol y.symbol (ap (value_at 4) e) i;
    }

-- a number for each of the four, by the first record: 0 without one, and else 1 more than its kind
abbrev kind_of : List (List Field) → ℕ
kind_of [] = 0
kind_of (fs ∷ rs) = 1 + value_at 1 fs

-- isotopes by that number: of two with one number there is then one case for each
data OfKind : ℕ → Isotopes Number → Type 0 where
  of_none : OfKind 0 no_isotope
  of_plain : (x : Shift Number) → OfKind 1 (plain_isotope x)
  of_average : (x : Shift Number) → OfKind 2 (average_isotope x)
  of_specific : (xs : Some (Specific Number)) → OfKind 3 (specific_isotopes xs)

of_kind : (x : Isotopes Number) → OfKind (kind_of (isotope_records x)) x
of_kind no_isotope = of_none
of_kind (plain_isotope x) = of_plain x
of_kind (average_isotope x) = of_average x
of_kind (specific_isotopes xs) = of_specific xs

kind_one : {k : ℕ} {x y : Isotopes Number} → OfKind k x → OfKind k y → isotope_records x ≡ isotope_records y → x ≡ y
kind_one of_none of_none e = refl
kind_one (of_plain x) (of_plain y) e = ap plain_isotope (shift_one x y _ _ _ _ _ _ (head-eq_of_cons-eq e))
kind_one (of_average x) (of_average y) e = ap average_isotope (shift_one x y _ _ _ _ _ _ (head-eq_of_cons-eq e))
kind_one (of_specific xs) (of_specific ys) e =
    ap specific_isotopes (some_one xs ys (map_one specific_record specific_one (items xs) (items ys) e))

pub isotopes_one : (x y : Isotopes Number) → isotope_records x ≡ isotope_records y → x ≡ y
isotopes_one x y e = kind_one (of_kind x) (subst (λ (k : ℕ). OfKind k y) (sym (ap kind_of e)) (of_kind y)) e
