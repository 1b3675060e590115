-- Numbers that were stored, read again. Assumes nothing.
use Prim.Native.Nat.{ℕ, ◌+◌, ◌*◌, ◌/◌, ◌%◌, ◌^◌, ◌<◌, ◌≤◌}
use mathlib.Core.Path.{◌≡◌, ap₂, ◌∙◌}
use mathlib.Core.List.{List, ◌++◌}
use native.Mathlib.Omega.{arith}
use Rattle.rules.specs.Stored.{little}
use Rattle.slices.specs.Numbers.{u16_at}
use Rattle.slices.specs.Numbers.{u32_at, u64_at}

-- ---- words

word_kept : (v : ℕ) → v ≤ 65535 → v % 256 + 256 * (v / 256 % 256) ≡ v
word_kept v h = omega arith

pub word_stored : (v : ℕ) (k : List ℕ) → v ≤ 65535 → u16_at (little 2 v ++ k) ≡ v
unfolding u16_at
word_stored v k h = word_kept v h

-- the four lowest bytes
quad_kept : (v : ℕ) → v % 256 + 256 * (v / 256 % 256) + 65536 * (v / 256 / 256 % 256 + 256 * (v / 256 / 256 / 256 % 256)) ≡ v % 4294967296
quad_kept v = omega arith

quad_low : (v : ℕ) (k : List ℕ) → u32_at (little 4 v ++ k) ≡ v % 4294967296
unfolding u32_at u16_at
quad_low v k = quad_kept v

pub quad_stored : (v : ℕ) (k : List ℕ) → v < 2 ^ 32 → u32_at (little 4 v ++ k) ≡ v
quad_stored v k h = quad_low v k ∙ omega arith

pub oct_stored : (v : ℕ) (k : List ℕ) → v < 2 ^ 64 → u64_at (little 8 v ++ k) ≡ v
unfolding u64_at
oct_stored v k h =
    let high = v / 256 / 256 / 256 / 256 in
    ap₂ (λ (a b : ℕ). a + 4294967296 * b) (quad_low v (little 4 high ++ k)) (quad_low high k) ∙ omega arith
