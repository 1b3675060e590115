-- Limits rise with the text. A limit that is not broken may stand anywhere (the 256th byte of a short text lies past its end), so only
-- broken ones are spoken of: those of a part lie within its text, so those of parts one after the other come in the order of the parts.
-- Their numbers lie between two, bottom and top; at one place only a limit of the highest may have others behind it. Assumes nothing.
use Prim.Native.Nat.{ℕ, ◌+◌, ◌<◌, ◌≤◌}
use mathlib.Core.Path.{◌≡◌}
use mathlib.Core.List.{List, [], ◌∷◌, ◌++◌}
use mathlib.Core.Logic.{◌⊎◌, inl, inr}
use native.Mathlib.Omega.{arith}
use native.Mathlib.Decide.{dec_le}
use native.Mathlib.Nat.{le_refl}
use lib.Dec.{T}
use lib.ListN.{length}
use Rattle.lang.specs.Mark.{Mark, In, here, later, Part, marks_of}
use Rattle.lang.proofs.FirstBroken.{Before, InOrder, in_none}

-- ---- members of lists

in_either : {m : Mark} (ms ns : List Mark) → In m (ms ++ ns) → In m ms ⊎ In m ns
in_either [] ns i = inr i
in_either (x ∷ ms) ns here = inl here
in_either {m} (x ∷ ms) ns (later i) = by (in_either ms ns i)
  where
    by : In m ms ⊎ In m ns → In m (x ∷ ms) ⊎ In m ns
    by (inl j) = inl (later j)
    by (inr j) = inr j

order_append : (ms ns : List Mark) → InOrder ms → InOrder ns
    → ((m n : Mark) → In m ms → In n ns → T m.broken → T n.broken → Before m n) → InOrder (ms ++ ns)
order_append [] ns o q h = q
order_append (m ∷ ms) ns o q h = (front, order_append ms ns o.1 q (λ x n i j. h x n (later i) j))
  where
    front : T m.broken → (n : Mark) → In n (ms ++ ns) → T n.broken → Before m n
    front b n i t = by (in_either ms ns i)
      where
        by : In n ms ⊎ In n ns → Before m n
        by (inl j) = o.0 b n j t
        by (inr j) = h m n here j b t

-- ---- marks

-- a place from lo to below hi, and a number from the lowest to the highest
pub record Lies (bottom top lo hi : ℕ) (m : Mark) : Type 0 where
  pub above : lo ≤ m.place
  pub below : m.place < hi
  pub least : bottom ≤ m.number
  pub number : m.number ≤ top

pub record Rises (bottom top lo hi : ℕ) (ms : List Mark) : Type 0 where
  pub within : (m : Mark) → In m ms → T m.broken → Lies bottom top lo hi m
  pub order : InOrder ms

pub rise_none : {bottom top lo hi : ℕ} → Rises bottom top lo hi []
rise_none = record { within = λ m i t. absurd (in_none i); order = tt }

pub rise_one : {bottom top lo hi : ℕ} {m : Mark} → (T m.broken → Lies bottom top lo hi m) → Rises bottom top lo hi (m ∷ [])
rise_one {bottom} {top} {lo} {hi} {m} h = record { within = within; order = (λ b n i t. absurd (in_none i), tt) }
  where
    within : (n : Mark) → In n (m ∷ []) → T n.broken → Lies bottom top lo hi n
    within n here t = h t
    within n (later i) t = absurd (in_none i)

-- in front of the others, at the lowest place, one of the highest number: on a tie it is the one that is reported
pub rise_first : {bottom top lo hi : ℕ} {m : Mark} {ms : List Mark}
    → m.place ≡ lo → bottom ≤ m.number → m.number ≡ top → lo < hi → Rises bottom top lo hi ms → Rises bottom top lo hi (m ∷ ms)
rise_first {bottom} {top} {lo} {hi} {m} {ms} p b q l r = record { within = within; order = (λ t. front, r.order) }
  where
    within : (n : Mark) → In n (m ∷ ms) → T n.broken → Lies bottom top lo hi n
    within n here t = record { above = omega arith; below = omega arith; least = b; number = omega arith }
    within n (later i) t = r.within n i t

    front : (n : Mark) → In n ms → T n.broken → Before m n
    front n i t = by (dec_le n.place lo) (r.within n i t)
      where
        by : Dec (n.place ≤ lo) → Lies bottom top lo hi n → Before m n
        by (yes y) w = let a = w.above in let k = w.number in inr (omega arith, omega arith)
        by (no z) w = inl (omega arith)

pub rise_wide : {bottom top lo hi low high : ℕ} {ms : List Mark} → low ≤ lo → hi ≤ high → Rises bottom top lo hi ms → Rises bottom top low high ms
rise_wide {bottom} {top} {lo} {hi} {low} {high} {ms} a b r = record { within = within; order = r.order }
  where
    within : (m : Mark) → In m ms → T m.broken → Lies bottom top low high m
    within m i t = let w = r.within m i t in record { above = omega arith; below = omega arith; least = w.least; number = w.number }

pub rise_append : {bottom top lo mid hi : ℕ} {ms ns : List Mark}
    → lo ≤ mid → mid ≤ hi → Rises bottom top lo mid ms → Rises bottom top mid hi ns → Rises bottom top lo hi (ms ++ ns)
rise_append {bottom} {top} {lo} {mid} {hi} {ms} {ns} a b r s = record { within = within; order = order_append ms ns r.order s.order apart }
  where
    within : (m : Mark) → In m (ms ++ ns) → T m.broken → Lies bottom top lo hi m
    within m i t = by (in_either ms ns i)
      where
        by : In m ms ⊎ In m ns → Lies bottom top lo hi m
        by (inl j) = (rise_wide (le_refl lo) b r).within m j t
        by (inr j) = (rise_wide a (le_refl hi) s).within m j t

    apart : (m n : Mark) → In m ms → In n ns → T m.broken → T n.broken → Before m n
    apart m n i j t u = let v = r.within m i t in let w = s.within n j u in inl (omega arith)

-- ---- parts of a text

-- how many bytes the parts have
abbrev pub room : List Part → ℕ
room [] = 0
room (p ∷ ps) = length p.text + room ps

-- wherever the part begins, its broken limits lie in its text
pub record Fits (bottom top : ℕ) (p : Part) : Type 0 where
  pub rises : (at : ℕ) → Rises bottom top at (at + length p.text) (p.marks at)

pub data AllFit (bottom top : ℕ) : List Part → Type 0 where
  none : AllFit bottom top []
  also : {p : Part} {ps : List Part} → Fits bottom top p → AllFit bottom top ps → AllFit bottom top (p ∷ ps)

pub parts_rise : {bottom top : ℕ} {ps : List Part} → AllFit bottom top ps → (at : ℕ) → Rises bottom top at (at + room ps) (marks_of at ps)
parts_rise none at = rise_none
parts_rise (also {p = p} {ps = ps} f fs) at =
    let mid = at + length p.text in
    let a : at ≤ mid = omega arith in
    let b : mid ≤ at + room (p ∷ ps) = omega arith in
    let c : mid + room ps ≤ at + room (p ∷ ps) = omega arith in
    rise_append a b (f.rises at) (rise_wide (le_refl mid) c (parts_rise fs mid))
