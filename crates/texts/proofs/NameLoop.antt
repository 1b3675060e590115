-- The walk over a name, by how many brackets are open. Assumes nothing.
use Prim.Native.Nat.{ℕ, ◌+◌, ◌-◌, ◌≤◌, ◌<◌}
use mathlib.Core.Path.{◌≡◌, refl, sym, ap, ◌∙◌}
use mathlib.Core.Bool.{Bool, true, false, cond}
use mathlib.Core.List.{List}
use native.Mathlib.Numerals.{add-one}
use native.Mathlib.Omega.{arith}
use lib.ListN.{length, get_or, drop, drop_of_length-le}
use lib.Seq.{drop-cons}
use Rattle.lang.specs.Re.{in_c, Brackets}
use Rattle.rules.specs.Texts.{name_brackets}
use Rattle.texts.specs.Names.{goes_on, open_behind, name_from, name_end_of}

-- the first `at` bytes go on with a name, and d brackets are open behind them
pub record Passed (s : List ℕ) (at d : ℕ) : Type 0 where
  pub inside : at ≤ length s
  pub few : d ≤ at
  pub is : name_end_of s ≡ name_from (drop at s) at d

-- a byte opens one bracket at most
open_few : (B : Brackets) (d b : ℕ) → open_behind B d b ≤ d + 1
open_few B d b = by (in_c B.opens b) (in_c B.closes b)
  where
    by : (x y : Bool) → cond x (d + 1) (cond y (d - 1) d) ≤ d + 1
    by true y = omega arith
    by false true = omega arith
    by false false = omega arith

module _ {s : List ℕ} where
  pub begin : Passed s 0 0
  begin = record { inside = omega arith; few = omega arith; is = refl }

  module _ {at d : ℕ} (p : Passed s at d) where
    module _ (h : at < length s) {x : Bool} (e : x ≡ goes_on name_brackets d (get_or s at 0)) where
      pub stops : x ≡ false → record { len = at; depth = d } ≡ name_end_of s
      unfolding name_from
      stops n = sym (p.is ∙ rw (drop-cons s at 0 h, ← e, n))

      pub turn : x ≡ true → {n : ℕ} → n ≡ open_behind name_brackets d (get_or s at 0) → Passed s (at + 1) n
      unfolding name_from
      turn y {n} o =
          record {
            inside = omega arith;
            few = omega (arith, p.few, open_few name_brackets d (get_or s at 0));
            is = p.is ∙ rw (drop-cons s at 0 h, ← e, y, ← o, add-one at);
          }

    pub ends : length s ≤ at → record { len = length s; depth = d } ≡ name_end_of s
    unfolding name_from
    ends h =
        let e : at ≡ length s = omega (arith, p.inside) in
        sym (p.is ∙ ap (λ (w : List ℕ). name_from w at d) (drop_of_length-le s h) ∙ ap (λ (n : ℕ). record { len = n; depth = d }) e)
