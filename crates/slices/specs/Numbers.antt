-- The numbers of two, four and eight bytes that bytes begin with. Assumes nothing.
use Rattle.std.specs.Prelude.{ℕ, ◌+◌, ◌*◌, List, get_or, drop}

-- the two bytes that a list begins with, the lower first; 0 past its end
unfoldable pub u16_at : List ℕ → ℕ
u16_at s = get_or s 0 0 + 256 * get_or s 1 0

-- four bytes, the lowest first, and eight
unfoldable pub u32_at : List ℕ → ℕ
u32_at s = u16_at s + 65536 * u16_at (drop 2 s)

unfoldable pub u64_at : List ℕ → ℕ
u64_at s = u32_at s + 4294967296 * u32_at (drop 4 s)
