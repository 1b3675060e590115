-- A part of a text without its first bytes. Assumes nothing.
use Prim.Native.Nat.{ℕ, ◌≤◌, min}
use mathlib.Core.Path.{◌≡◌, sym, ap, ◌∙◌}
use mathlib.Core.List.{List}
use native.Mathlib.Omega.{arith}
use native.Mathlib.Decide.{dec_le}
use lib.ListN.{length, drop, drop_of_length-le}

pub drop_min : (s : List ℕ) (n : ℕ) → drop (min n (length s)) s ≡ drop n s
drop_min s n = by (dec_le n (length s))
  where
    by : Dec (n ≤ length s) → drop (min n (length s)) s ≡ drop n s
    by (yes h) = let e : min n (length s) ≡ n = omega arith in ap (λ (m : ℕ). drop m s) e
    by (no h) =
        let e : min n (length s) ≡ length s = omega arith in
        ap (λ (m : ℕ). drop m s) e ∙ drop_of_length-le s {i = length s} (omega arith) ∙ sym (drop_of_length-le s {i = n} (omega arith))
