-- Lists of bytes compared: lists with the same bytes are one list, and a list of bytes is one by each of them. Assumes nothing.
use Prim.Native.Nat.{ℕ, zero, suc, ◌<◌}
use mathlib.Core.Path.{◌≡◌, refl, sym, ap, ap₂}
use mathlib.Core.Bool.{Bool, true, false, ◌&&◌}
use mathlib.Core.List.{List, [], ◌∷◌}
use native.Mathlib.Omega.{arith}
use lib.Dec.{eqb}
use lib.ListN.{length, get_or}
use borrow.Author.Tests.{eqb-true, eq-eqb, lt-ltb}
use Rattle.std.specs.Cmp.Lexicographic.{pointwise}
use Rattle.lang.proofs.Tests.{not_t}
use Rattle.read_line.specs.Same.{same_bytes, all_bytes}

-- ---- two tests

both_first : (x y : Bool) → x && y ≡ true → x ≡ true
both_first true y e = refl
both_first false y e = absurd (not_t {x = true} (sym e) tt)

both_second : (x y : Bool) → x && y ≡ true → y ≡ true
both_second true y e = e
both_second false y e = absurd (not_t {x = true} (sym e) tt)

-- ---- what the comparison means

pub same_is : (a b : List ℕ) → same_bytes a b ≡ true → a ≡ b
unfolding same_bytes
same_is [] [] e = refl
same_is [] (b ∷ t) e = absurd (not_t {x = true} (sym e) tt)
same_is (a ∷ s) [] e = absurd (not_t {x = true} (sym e) tt)
same_is (a ∷ s) (b ∷ t) e =
    ap₂ ◌∷◌ (eqb-true a b (both_first (eqb a b) (same_bytes s t) e)) (same_is s t (both_second (eqb a b) (same_bytes s t) e))

pub same_refl : (a : List ℕ) → same_bytes a a ≡ true
unfolding same_bytes
same_refl [] = refl
same_refl (b ∷ s) = rw (eq-eqb b b refl, same_refl s)

-- the library's comparison of parts is this one
pub same_told : (a b : List ℕ) → pointwise eqb a b ≡ same_bytes a b
unfolding same_bytes
same_told [] [] = refl
same_told [] (b ∷ t) = refl
same_told (a ∷ s) [] = refl
same_told (a ∷ s) (b ∷ t) = ap (λ (x : Bool). eqb a b && x) (same_told s t)

-- ---- bytes

pub bytes_all : (l : List ℕ) → ((i : ℕ) → i < length l → get_or l i 0 < 256) → all_bytes l ≡ true
unfolding all_bytes
bytes_all [] h = refl
bytes_all (b ∷ w) h = rw (lt-ltb b 256 (h zero (omega arith)), bytes_all w (λ i g. h (suc i) (omega arith)))
