-- Where a formula ends. Assumes nothing.
use Prim.Native.Nat.{ℕ, ◌<◌}
use mathlib.Core.Path.{◌≡◌, refl}
use mathlib.Core.Bool.{Bool, true, false, ◌&&◌, ◌||◌}
use mathlib.Core.List.{List, [], ◌∷◌, ◌++◌}
use mathlib.Core.Logic.{◌⊎◌, inl, inr}
use native.Mathlib.Omega.{arith}
use lib.Dec.{leb}
use borrow.Author.Tests.{leb-false, ne_eqb}
use Rattle.lang.specs.Re.{Rng, either}
use Rattle.lang.proofs.Tests.{not_t}
use Rattle.lang.proofs.Ranges.{range_below, range_above}
use Rattle.rules.specs.Bytes.{bytes, ◌to◌, digit}
use Rattle.rules.specs.Texts.{first_in}
use Rattle.elements.specs.Symbols.{small}
use Rattle.read_formula.specs.Units.{begins_unit}

-- what follows a formula does not go on with it
pub record EndsFormula (k : List ℕ) : Type 0 where
  pub no_digit : first_in digit k ≡ false
  pub no_small : first_in small k ≡ false
  pub no_unit : begins_unit k ≡ false

-- the bytes that may go on with a formula
abbrev pub goes_on : List Rng
goes_on = "0" to "9" ∷ "A" to "[" ∷ "a" to "z" ∷ []

neither : (x y : Bool) → x || y ≡ false → (x ≡ false) × (y ≡ false)
neither true y e = absurd (not_t {x = true} e tt)
neither false y e = (refl, e)

outside : (lo hi b : ℕ) → leb lo b && leb b hi ≡ false → (b < lo) ⊎ (hi < b)
outside lo hi b e = by (leb lo b) refl e
  where
    by : (t : Bool) → leb lo b ≡ t → t && leb b hi ≡ false → (b < lo) ⊎ (hi < b)
    by false p q = inl (leb-false lo b p)
    by true p q = inr (leb-false b hi q)

-- one test for what most often follows
pub ends_apart : (k : List ℕ) → first_in goes_on k ≡ false → EndsFormula k
unfolding begins_unit
ends_apart [] e = record { no_digit = refl; no_small = refl; no_unit = refl }
ends_apart (b ∷ k) e =
    let x = neither (leb 48 b && leb b 57) ((leb 65 b && leb b 91) || ((leb 97 b && leb b 122) || false)) e in
    let y = neither (leb 65 b && leb b 91) ((leb 97 b && leb b 122) || false) x.1 in
    record { no_digit = rw x.0; no_small = y.1; no_unit = either below above (outside 65 91 b y.0) }
  where
    below : b < 65 → begins_unit (b ∷ k) ≡ false
    below h = rw (range_below 65 90 b h, ne_eqb 91 b (λ q. omega arith))

    above : 91 < b → begins_unit (b ∷ k) ≡ false
    above h = let g : 90 < b = omega arith in rw (range_above 65 90 b g, ne_eqb 91 b (λ q. omega arith))

-- an adduct follows
pub ends_adduct : (k : List ℕ) → EndsFormula (bytes "[M" ++ k)
unfolding begins_unit
ends_adduct k = record { no_digit = refl; no_small = refl; no_unit = refl }
