-- The walk over the digits that a list begins with. Assumes nothing.
use Prim.Native.Nat.{ℕ, ◌+◌, ◌-◌, ◌*◌, ◌≤◌, ◌<◌, min}
use mathlib.Core.Path.{◌≡◌, sym, ap, ap₂, ◌∙◌}
use mathlib.Core.Bool.{true, false}
use mathlib.Core.List.{List, [], ◌∷◌}
use native.Mathlib.Omega.{arith}
use native.Mathlib.Numerals.{add-one}
use lib.ListN.{length, get_or, drop, drop_of_length-le}
use lib.Seq.{drop-cons}
use Rattle.lang.specs.Re.{in_c}
use Rattle.lang.specs.Digits.{value_from}
use Rattle.lang.proofs.Lits.{in→}
use Rattle.lang.proofs.Tests.{is_t}
use Rattle.rules.specs.Bytes.{digit}
use Rattle.numbers.specs.declared.Digits.{Digits}
use Rattle.numbers.specs.Leading.{leading, leading_of}

-- ---- a digit

pub range : (b : ℕ) → in_c digit b ≡ true → (48 ≤ b) × (b ≤ 57)
range b e = in→ 48 57 b (is_t e)

-- ---- a value past the most that is told stays past it

pub capped : (m x y : ℕ) (w : List ℕ) → min x m ≡ min y m → min (value_from x w) m ≡ min (value_from y w) m
unfolding value_from
capped m x y [] e = e
capped m x y (b ∷ w) e = capped m (x * 10 + (b - 48)) (y * 10 + (b - 48)) w (omega arith)

-- ---- the walk

-- what is told after a value and so many digits, of which the rest is digits_ahead
abbrev pub digits_ahead : ℕ → ℕ → ℕ → List ℕ → Digits
digits_ahead most value len s = record { value = min (value_from value (leading s)) most; len = len + length (leading s) }

pub record Passed (s : List ℕ) (before most value len : ℕ) : Type 0 where
  pub inside : len ≤ length s
  pub least : value ≤ most
  pub is : leading_of before most s ≡ digits_ahead most value len (drop len s)

module _ {s : List ℕ} {before most : ℕ} where
  pub begin : before ≤ most → Passed s before most before 0
  unfolding leading_of
  begin h = record { inside = omega arith; least = h; is = ap (λ (n : ℕ). record { value = min (value_from before (leading s)) most; len = n }) (omega arith) }

  pub turn : {value len : ℕ} → Passed s before most value len → len < length s → in_c digit (get_or s len 0) ≡ true
      → Passed s before most (min (value * 10 + (get_or s len 0 - 48)) most) (len + 1)
  unfolding leading value_from
  turn {value} {len} p h e =
      let b = get_or s len 0 in
      let w = leading (drop (len + 1) s) in
      let q : drop len s ≡ b ∷ drop (len + 1) s = rw (add-one len) (drop-cons s len 0 h) in
      record {
        inside = omega arith;
        least = omega arith;
        is = p.is ∙ rw (q, e) (ap₂ (λ (v n : ℕ). record { value = v; len = n })
            (capped most (value * 10 + (b - 48)) (min (value * 10 + (b - 48)) most) w (omega arith)) (omega arith));
      }

  pub stops : {value len : ℕ} → Passed s before most value len → len < length s → in_c digit (get_or s len 0) ≡ false
      → record { value = value; len = len } ≡ leading_of before most s
  unfolding leading value_from
  stops {value} {len} p h e =
      let l = p.least in
      sym (p.is ∙ rw (drop-cons s len 0 h, e) (ap₂ (λ (v n : ℕ). record { value = v; len = n }) (omega arith) (omega arith)))

  pub ends : {value len : ℕ} → Passed s before most value len → length s ≤ len → record { value = value; len = length s } ≡ leading_of before most s
  unfolding leading value_from
  ends {value} {len} p h =
      let l = p.least in
      sym (p.is ∙ rw (drop_of_length-le s h) (ap₂ (λ (v n : ℕ). record { value = v; len = n }) (omega arith) (omega arith)))
