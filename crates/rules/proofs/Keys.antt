-- A key of the preferred order tells the text, the sign and the count that it is made of. Assumes nothing.
use Prim.Native.Nat.{ℕ, ◌+◌, ◌<◌}
use mathlib.Core.Path.{◌≡◌, refl, sym, ap, ap₂, ◌∙◌}
use mathlib.Core.Bool.{Bool, true, false}
use mathlib.Core.List.{List, [], ◌∷◌, ◌++◌, map, head-eq_of_cons-eq, tail-eq_of_cons-eq}
use native.Mathlib.Omega.{arith}
use borrow.Author.Tests.{eqb-true}
use lib.Dec.{eqb, leb→le}
use Rattle.lang.specs.Parts.{Opt, silent, written}
use Rattle.rules.specs.Numbers.{From}
use Rattle.rules.specs.Losses.{Sign, minus, plus}
use Rattle.rules.specs.Preferred.{lowest_byte, rank, sign_rank, key, count_or1}
use Rattle.rules.proofs.Shortened.{from_path}

-- the rank of a byte, given whether the byte is `[`
abbrev rank_if : ℕ → Bool → ℕ
rank_if b x = elim x [ true ↦ 1 | false ↦ b + 2 ]

-- no byte has the rank of the end
rank_some : (b : ℕ) → 0 < rank b
rank_some b = by (eqb b lowest_byte)
  where
    by : (x : Bool) → 0 < rank_if b x
    by true = omega arith
    by false = omega arith

rank_one : (a b : ℕ) → rank a ≡ rank b → a ≡ b
rank_one a b = by (eqb a lowest_byte) refl (eqb b lowest_byte) refl
  where
    by : (x : Bool) → eqb a lowest_byte ≡ x → (y : Bool) → eqb b lowest_byte ≡ y → rank_if a x ≡ rank_if b y → a ≡ b
    by true e true f p = eqb-true a lowest_byte e ∙ sym (eqb-true b lowest_byte f)
    by true e false f p = omega arith
    by false e true f p = omega arith
    by false e false f p = omega arith

pub sign_one : (s t : Sign) → sign_rank s ≡ sign_rank t → s ≡ t
sign_one minus minus e = refl
sign_one minus plus e = absurd (omega arith)
sign_one plus minus e = absurd (omega arith)
sign_one plus plus e = refl

-- ranks end where the first 0 stands
ranks_end : (s t u v : List ℕ) → map rank s ++ (0 ∷ u) ≡ map rank t ++ (0 ∷ v) → (s ≡ t) × (u ≡ v)
ranks_end [] [] u v e = (refl, tail-eq_of_cons-eq e)
ranks_end [] (b ∷ t) u v e = let h = head-eq_of_cons-eq e in let g = rank_some b in absurd (omega arith)
ranks_end (a ∷ s) [] u v e = let h = head-eq_of_cons-eq e in let g = rank_some a in absurd (omega arith)
ranks_end (a ∷ s) (b ∷ t) u v e =
    let r = ranks_end s t u v (tail-eq_of_cons-eq e) in
    (ap₂ ◌∷◌ (rank_one a b (head-eq_of_cons-eq e)) r.0, r.1)

pub key_one : (s t : List ℕ) (x y : Sign) (m n : ℕ) → key s x m ≡ key t y n → (s ≡ t) × (x ≡ y) × (m ≡ n)
key_one s t x y m n e =
    let r = ranks_end s t (sign_rank x ∷ m ∷ []) (sign_rank y ∷ n ∷ []) e in
    (r.0, sign_one x y (head-eq_of_cons-eq r.1), head-eq_of_cons-eq (tail-eq_of_cons-eq r.1))

-- a count of 2 or more differs from one left out
pub count_one : (m n : Opt (From 2)) → count_or1 m ≡ count_or1 n → m ≡ n
count_one silent silent e = refl
count_one silent (written n) e = let h = leb→le 2 n.value n.least in absurd (omega arith)
count_one (written m) silent e = let h = leb→le 2 m.value m.least in absurd (omega arith)
count_one (written m) (written n) e = ap written (from_path m n e)
