-- Answers whose outputs stand behind the first bytes of longer ones, and sums that a usize holds. Assumes nothing.
use Prim.Native.Nat.{ℕ, ◌+◌, ◌-◌, ◌≤◌, min}
use mathlib.Core.Path.{◌≡◌, refl, sym, ap, ap₂, ◌∙◌}
use mathlib.Core.List.{List, [], ◌∷◌, ◌++◌, append-nil}
use native.Mathlib.Omega.{arith}
use native.Mathlib.Decide.{dec_le}
use native.Mathlib.Nat.{zero-add}
use lib.ListN.{length, take, drop, replicate, length-append, length-take, length-drop, drop_of_length-le}
use lib.Seq.{take_at, drop_at, take-length, length-take-le, sets, sets-eq}
use Rattle.faults.specs.declared.Why.{Why}
use Rattle.faults.specs.Refusals.{number_of}
use Rattle.rules.specs.Answers as rules
use Rattle.rules.specs.Answers.{refuses}
use Rattle.put_bytes.specs.Puts.{max_place}
use Rattle.answers.specs.Delivered.{Answer, answered, refused_of}
use Rattle.answers.specs.Behind.{capped, Behind}

-- ---- sums

pub capped_is : (a b : ℕ) → a + b ≤ max_place → capped a b ≡ a + b
unfolding capped
capped_is a b h = omega arith

pub capped_more : (a b : ℕ) → a ≤ max_place → a ≤ capped a b
unfolding capped
capped_more a b h = omega arith

-- ---- refusals

pub refused_is : {a : Answer} {e : List ℕ} (room : ℕ) (w : Why) (p : ℕ) → a ≡ refused_of w p → e ≡ replicate room 0 → answered a e ≡ refuses room (number_of w) p
refused_is room w p x y = ap₂ answered x y

-- in an output that is as long
pub refused_as : (d e : List ℕ) {e2 : List ℕ} (w : Why) (p : ℕ) → length e ≡ length d → e2 ≡ replicate (length e) 0
    → answered (refused_of w p) e2 ≡ refuses (length d) (number_of w) p
refused_as d e w p s q = ap (answered (refused_of w p)) (q ∙ ap (λ (m : ℕ). replicate m 0) s)

-- ---- the first bytes of an output

-- bytes over them
pub over_front : (w e : List ℕ) → length w ≤ length e → sets e 0 w ≡ w ++ drop (length w) e
over_front w e h = sets-eq w e 0 (omega arith) ∙ ap (λ (n : ℕ). w ++ drop n e) (zero-add (length w))

-- what stands behind them, lent
pub lent : (f : ℕ → rules.Answer) (at : ℕ) (d : List ℕ) {ys : List ℕ} {from : ℕ} {r : Answer} → from ≡ min (0 + at) (length d)
    → length ys ≡ length (take (length d - from) (drop from d)) → answered r ys ≡ f (length (take (length d - from) (drop from d)))
    → Behind at d (take from d ++ (ys ++ drop (length d - from) (drop from d))) (f (length d - at)) r
lent f at d {ys} {from} {r} e l x = by (dec_le at (length d))
  where
    room : length (take (length d - from) (drop from d)) ≡ length d - at
    room = length-take (length d - from) (drop from d) ∙ omega (arith, length-drop from d)

    out : drop (length d - from) (drop from d) ≡ []
    out = drop_of_length-le (drop from d) {i = length d - from} (omega (arith, length-drop from d))

    made : take from d ++ (ys ++ drop (length d - from) (drop from d)) ≡ take from d ++ ys
    made = ap (λ (l : List ℕ). take from d ++ (ys ++ l)) out ∙ ap (λ (l : List ℕ). take from d ++ l) (append-nil ys)

    front : length (take from d) ≡ from
    front = length-take-le from d (omega arith)

    behind : (take at (take from d ++ ys) ≡ take at d) → drop at (take from d ++ ys) ≡ ys
        → Behind at d (take from d ++ (ys ++ drop (length d - from) (drop from d))) (f (length d - at)) r
    behind p q =
        record {
          same = ap length made ∙ length-append (take from d) ys ∙ omega (arith, front, room, l);
          kept = ap (take at) made ∙ p;
          is = ap (λ (z : List ℕ). answered r (drop at z)) made ∙ ap (answered r) q ∙ x ∙ ap f room;
        }

    by : Dec (at ≤ length d) → Behind at d (take from d ++ (ys ++ drop (length d - from) (drop from d))) (f (length d - at)) r
    by (yes h) =
        let z : from ≡ at = omega arith in
        behind (take_at (take from d) ys at (front ∙ z) ∙ ap (λ (n : ℕ). take n d) z) (drop_at (take from d) ys at (front ∙ z))
    by (no h) =
        let z : from ≡ length d = omega arith in
        let n : length ys ≡ 0 = omega (arith, room, l) in
        let whole : take from d ++ ys ≡ d = ap₂ (λ (u v : List ℕ). u ++ v) (ap (λ (m : ℕ). take m d) z ∙ take-length d) (empty ys n) ∙ append-nil d in
        behind (ap (take at) whole) (ap (drop at) whole ∙ drop_of_length-le d {i = at} (omega arith) ∙ sym (empty ys n))
      where
        empty : (w : List ℕ) → length w ≡ 0 → w ≡ []
        empty [] e = refl
        empty (b ∷ w) e = absurd (omega arith)
