-- Numbers of two, four and eight bytes, from an array of the first bytes. Assumes nothing.
use Prim.Native.Nat.{ℕ, ◌<◌}
use mathlib.Core.Path.{◌≡◌}
use mathlib.Core.List.{List}
use native.Mathlib.Omega.{arith}
use lib.ListN.{get_or, drop}
use Rattle.std.specs.Int.{w16, w32, w64, from_le_bytes}
use Rattle.std.proofs.lemmas.List.{get_or-drop}
use Rattle.slices.specs.Numbers.{u16_at, u32_at, u64_at}

-- b has the first n bytes of s
module _ (s b : List ℕ) where
  pub word_of : ((i : ℕ) → i < 2 → get_or b i 0 ≡ get_or s i 0) → from_le_bytes w16 b ≡ u16_at s
  unfolding u16_at
  word_of h = omega (arith, h 0 (omega arith), h 1 (omega arith))

  pub quad_of : ((i : ℕ) → i < 4 → get_or b i 0 ≡ get_or s i 0) → from_le_bytes w32 b ≡ u32_at s
  unfolding u16_at u32_at
  quad_of h =
      omega (arith, h 0 (omega arith), h 1 (omega arith), h 2 (omega arith), h 3 (omega arith), get_or-drop 2 s 0 0, get_or-drop 2 s 1 0)

  pub oct_of : ((i : ℕ) → i < 8 → get_or b i 0 ≡ get_or s i 0) → from_le_bytes w64 b ≡ u64_at s
  unfolding u16_at u32_at u64_at
  oct_of h =
      omega (
        arith,
        h 0 (omega arith),
        h 1 (omega arith),
        h 2 (omega arith),
        h 3 (omega arith),
        h 4 (omega arith),
        h 5 (omega arith),
        h 6 (omega arith),
        h 7 (omega arith),
        get_or-drop 2 s 0 0,
        get_or-drop 2 s 1 0,
        get_or-drop 4 s 0 0,
        get_or-drop 4 s 1 0,
        get_or-drop 2 (drop 4 s) 0 0,
        get_or-drop 4 s 2 0,
        get_or-drop 2 (drop 4 s) 1 0,
        get_or-drop 4 s 3 0,
      )
