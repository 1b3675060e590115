-- Where the next line, or part of one, stands in what was read. Assumes nothing.
use Prim.Native.Nat.{ℕ, zero, suc, ◌+◌, ◌-◌, ◌≤◌, ◌<◌, min}
use mathlib.Core.Path.{◌≡◌, sym, ap, ◌∙◌}
use mathlib.Core.Bool.{true, false, cond}
use Rattle.std.specs.Prelude.{Some, None}
use mathlib.Core.List.{List, [], ◌∷◌}
use native.Mathlib.Omega.{arith}
use lib.Dec.{ltb}
use lib.ListN.{length, take, drop}
use lib.Seq.{take_all, take-nil}
use borrow.Author.Tests.{lt-ltb, le-ltb}
use Rattle.io_parts.specs.Feeds.{before_feed}
use Rattle.io_lines.specs.declared.Stream.{Stream}
use Rattle.io_lines.specs.Streams.{line_of, is_fed, span_of, part_of, line_by}

-- as many as there are
pub take_least : (a m : ℕ) (l : List ℕ) → length l ≤ m → Dec (a ≤ m) → take (min a m) l ≡ take a l
take_least a m l h (yes g) = let e : min a m ≡ a = omega arith in ap (λ (k : ℕ). take k l) e
take_least a m l h (no g) = take_all (min a m) l (omega arith) ∙ sym (take_all a l (omega arith))

pub drop_take : (m x : ℕ) (l : List ℕ) → drop m (take x l) ≡ take (x - m) (drop m l)
drop_take zero x l = let e : x - 0 ≡ x = omega arith in ap (λ (k : ℕ). take k l) (sym e)
drop_take (suc m) zero l = let e : 0 - suc m ≡ 0 = omega arith in ap (λ (k : ℕ). take k (drop (suc m) l)) (sym e)
drop_take (suc m) (suc x) [] = sym (take-nil (suc x - suc m))
drop_take (suc m) (suc x) (b ∷ l) = let e : x - m ≡ suc x - suc m = omega arith in drop_take m x l ∙ ap (λ (k : ℕ). take k (drop m l)) e

module _ (s : Stream) (t : List ℕ) (n : ℕ) (q : n ≡ before_feed t) where
  pub part_fed : n < length t → line_of s (Some (span_of s n true)) (s.next + n + 1) ≡ part_of s t
  part_fed h = let g : before_feed t < length t = omega (arith, q) in simp (q, lt-ltb (before_feed t) (length t) g)

  pub part_all : length t ≤ n → line_of s (cond (ltb 0 n) (Some (span_of s n false)) None) s.filled ≡ part_of s t
  part_all h = let g : length t ≤ before_feed t = omega (arith, q) in simp (q, le-ltb (before_feed t) (length t) g)

-- a look that finds a line feed, or the end of all, or neither
module _ (s p : Stream) where
  pub look_fed : is_fed p ≡ true → p ≡ line_by s p
  look_fed e = simp e

  pub look_ended : is_fed p ≡ false → s.ended ≡ true → p ≡ line_by s p
  look_ended e g = simp (e, g)

  pub look_on : is_fed p ≡ false → s.ended ≡ false → line_of s None s.next ≡ line_by s p
  look_on e g = simp (e, g)
