-- Zeros from a place on, byte by byte. Assumes nothing.
use Prim.Native.Nat.{ℕ, suc, ◌+◌, ◌-◌, ◌<◌, ◌≤◌}
use mathlib.Core.Path.{◌≡◌, sym}
use mathlib.Core.List.{List, append-nil}
use native.Mathlib.Omega.{arith}
use native.Mathlib.Numerals.{add-one}
use native.Mathlib.Nat.{sub-zero}
use lib.ListN.{length, take, set, replicate, length-set}
use lib.Seq.{take_all, take-suc-set, append_snoc}
use Rattle.put_bytes.specs.Puts.{cleared}

-- one byte cleared, and all behind it
pub clear_more : (d : List ℕ) (i : ℕ) → i < length d → cleared (set d i 0) (i + 1) ≡ cleared d i
clear_more d i h =
    let n : length d - i ≡ suc (length d - suc i) = omega arith in
    rw (add-one i, length-set d i 0, take-suc-set d i 0 h, n) (append_snoc (take i d) 0 (replicate (length d - suc i) 0))

-- none is left to clear
pub clear_none : (d : List ℕ) (i : ℕ) → length d ≤ i → d ≡ cleared d i
clear_none d i h = let n : length d - i ≡ 0 = omega arith in sym (rw (take_all i d h, n) (append-nil d))

-- from the first byte on
pub clear_all : (d : List ℕ) → cleared d 0 ≡ replicate (length d) 0
clear_all d = rw (sub-zero (length d))
