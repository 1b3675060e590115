-- What the decimals in front of a list are read as. Assumes nothing.
use Prim.Native.Nat.{ℕ, suc, ◌+◌, ◌-◌, ◌^◌, ◌≤◌, ◌<◌, min}
use mathlib.Core.Path.{◌≡◌, refl, sym, ap, ap₂, ◌∙◌}
use mathlib.Core.Bool.{Bool, true, false, cond}
use mathlib.Core.List.{List, [], ◌∷◌}
use native.Mathlib.Omega.{arith}
use native.Mathlib.Nat.{le_refl}
use native.Mathlib.Decide.{dec_le}
use lib.ListN.{length, take, drop, get_or, length-drop}
use lib.Seq.{take_all}
use Rattle.lang.specs.Re.{in_c}
use Rattle.lang.specs.Digits.{value_from}
use Rattle.lang.proofs.Lits.{one_eq}
use Rattle.lang.proofs.Tests.{is_t}
use Rattle.rules.specs.Limits.{max_places, max_digits}
use Rattle.numbers.specs.declared.Digits.{Digits}
use Rattle.numbers.specs.declared.Decimal.{Decimal}
use Rattle.std.specs.Prelude.{Option}
use Rattle.numbers.specs.Leading.{leading, leading_of}
use Rattle.numbers.specs.Making.{made_of}
use Rattle.numbers.specs.Points.{point, fraction, fraction_of, pointed, decimal_from}
use Rattle.numbers.proofs.Walks.{capped}
use Rattle.numbers.proofs.Leads.{leading_within}
use Rattle.numbers.proofs.Bounds.{made_long, made_large}

-- `&s[at..]` is this part
pub rest : (s : List ℕ) (at : ℕ) → take (length s - at) (drop at s) ≡ drop at s
rest s at = take_all (length s - at) (drop at s) (omega (arith, length-drop at s))

-- ---- the point

not_point : (b : ℕ) → (b ≡ 46 → ⊥) → in_c point b ≡ false
not_point b n = go (in_c point b) refl
  where
    go : (t : Bool) → in_c point b ≡ t → in_c point b ≡ false
    go true e = absurd (n (one_eq 46 b (is_t e)))
    go false e = e

is_point : (b : ℕ) → b ≡ 46 → in_c point b ≡ true
is_point b e = rw e

-- ---- the fraction, as it is walked

pub fraction_none : (s : List ℕ) (before : ℕ) → before ≤ 10 ^ max_digits → fraction s ≡ [] → record { value = before; len = 0 } ≡ fraction_of before s
unfolding fraction_of value_from
fraction_none s before h e = rw e (ap (λ (v : ℕ). record { value = v; len = 0 }) (omega arith))

pub fraction_empty : (s : List ℕ) → length s < 1 → fraction s ≡ []
unfolding fraction
fraction_empty [] h = refl
fraction_empty (b ∷ s) h = absurd (omega arith)

pub fraction_other : (s : List ℕ) → 1 ≤ length s → (get_or s 0 0 ≡ 46 → ⊥) → fraction s ≡ []
unfolding fraction
fraction_other [] h n = refl
fraction_other (b ∷ s) h n = rw (not_point b n)

pub fraction_point : (s : List ℕ) (before : ℕ) → 1 ≤ length s → get_or s 0 0 ≡ 46
    → leading_of before (10 ^ max_digits) (take (length s - 1) (drop 1 s)) ≡ fraction_of before s
unfolding fraction fraction_of leading_of
fraction_point [] before h e = absurd (omega arith)
fraction_point (b ∷ s) before h e = rw (rest (b ∷ s) 1, is_point b e)

-- ---- what is told where the value or the places are past all bounds

pub made_capped : (v p : ℕ) → made_of (min v (10 ^ max_digits)) (min p (max_places + 1)) ≡ made_of v p
made_capped v p = go (dec_le (10 ^ max_digits) v) (dec_le (max_places + 1) p)
  where
    go : Dec (10 ^ max_digits ≤ v) → Dec (max_places + 1 ≤ p) → made_of (min v (10 ^ max_digits)) (min p (max_places + 1)) ≡ made_of v p
    go (yes h) q = made_large (min v (10 ^ max_digits)) (min p (max_places + 1)) (omega arith) ∙ sym (made_large v p h)
    go (no h) (yes g) = made_long (min v (10 ^ max_digits)) (min p (max_places + 1)) (omega arith) ∙ sym (made_long v p g)
    go (no h) (no g) = ap₂ made_of (omega arith) (omega arith)

pub fraction_within : (s : List ℕ) → pointed (fraction s) ≤ length s
unfolding fraction pointed
fraction_within [] = le_refl 0
fraction_within (b ∷ s) = go (in_c point b) (leading s) (leading_within s)
  where
    go : (t : Bool) (w : List ℕ) → length w ≤ length s → pointed (cond t w []) ≤ suc (length s)
    go true [] h = omega arith
    go true (d ∷ w) h = omega arith
    go false w h = omega arith

-- ---- the whole number, and then the fraction

pub inside : (s : List ℕ) (before most : ℕ) {d : Digits} → d ≡ leading_of before most s → d.len ≤ length s
unfolding leading_of
inside s before most e = omega (arith, ap (λ (x : Digits). x.len) e, leading_within s)

pub capped_by : (s : List ℕ) (before most : ℕ) {d : Digits} → d ≡ leading_of before most s → d.value ≤ most
unfolding leading_of
capped_by s before most e = omega (arith, ap (λ (x : Digits). x.value) e)

pointed_none : (f : List ℕ) → length f ≡ 0 → pointed f ≡ 0
unfolding pointed
pointed_none [] e = refl
pointed_none (b ∷ f) e = absurd (omega arith)

pointed_some : (f : List ℕ) → (length f ≡ 0 → ⊥) → pointed f ≡ suc (length f)
unfolding pointed
pointed_some [] n = absurd (n refl)
pointed_some (b ∷ f) n = refl

-- what the two walks found
pub record Walked (s : List ℕ) (whole all : Digits) : Type 0 where
  pub front : whole ≡ leading_of 0 (10 ^ max_digits) s
  pub behind : all ≡ fraction_of whole.value (take (length s - whole.len) (drop whole.len s))

pub walked : {s : List ℕ} {whole all : Digits} → whole ≡ leading_of 0 (10 ^ max_digits) s
    → all ≡ fraction_of whole.value (take (length s - whole.len) (drop whole.len s)) → Walked s whole all
walked f b = record { front = f; behind = b }

module _ {s : List ℕ} {whole all : Digits} (w : Walked s whole all) where
  tail : List ℕ
  tail = fraction (drop (length (leading s)) s)

  at : whole.len ≡ length (leading s)
  unfolding leading_of
  at = ap (λ (d : Digits). d.len) w.front

  all_is : all ≡ fraction_of whole.value (drop (length (leading s)) s)
  all_is = w.behind ∙ rw (rest s whole.len, at)

  places : all.len ≡ length tail
  unfolding fraction_of tail
  places = ap (λ (d : Digits). d.len) all_is

  value : all.value ≡ min (value_from (value_from 0 (leading s)) tail) (10 ^ max_digits)
  unfolding fraction_of leading_of tail
  value =
      let e : whole.value ≡ min (value_from 0 (leading s)) (10 ^ max_digits) = ap (λ (d : Digits). d.value) w.front in
      ap (λ (d : Digits). d.value) all_is ∙ capped (10 ^ max_digits) whole.value (value_from 0 (leading s)) tail (omega arith)

  found : {made : Option Decimal} {p n : ℕ} → p ≡ min all.len (max_places + 1) → made ≡ made_of all.value p → n ≡ length (leading s) + pointed tail
      → record { made = made; len = n } ≡ decimal_from s
  unfolding decimal_from tail
  found {made} {p} {n} e m l =
      ap₂ (λ (x : Option Decimal) (y : ℕ). record { made = x; len = y })
      (m ∙ ap₂ made_of value (e ∙ ap (λ (x : ℕ). min x (max_places + 1)) places)
      ∙ made_capped (value_from (value_from 0 (leading s)) tail) (length tail))
      l

  pub found_whole : {made : Option Decimal} {p : ℕ} → p ≡ min all.len (max_places + 1) → made ≡ made_of all.value p → all.len ≡ 0
      → record { made = made; len = whole.len } ≡ decimal_from s
  found_whole e m z = found e m (omega (arith, at, pointed_none tail (sym places ∙ z)))

  pub found_point : {made : Option Decimal} {p : ℕ} → p ≡ min all.len (max_places + 1) → made ≡ made_of all.value p → (all.len ≡ 0 → ⊥)
      → record { made = made; len = whole.len + 1 + all.len } ≡ decimal_from s
  found_point e m z = found e m (omega (arith, at, places, pointed_some tail (λ q. z (places ∙ q))))

  -- the point and what follows it stand inside
  pub room : (all.len ≡ 0 → ⊥) → whole.len + 1 + all.len ≤ length s
  unfolding tail
  room z =
      let n = length (leading s) in
      omega (arith, at, places, pointed_some tail (λ q. z (places ∙ q)), fraction_within (drop n s), length-drop n s, leading_within s)
