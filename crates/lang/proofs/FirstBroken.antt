-- A reader meets limits in the order of a list and keeps the first broken one. Where each broken limit comes before every later
-- broken one, the first is the one that is reported. Assumes nothing.
use Prim.Native.Nat.{◌<◌, ◌≤◌}
use mathlib.Core.Path.{◌≡◌, refl, sym, ap, ◌∙◌, subst}
use mathlib.Core.Bool.{Bool, true, false}
use mathlib.Core.List.{List, [], ◌∷◌, ◌++◌}
use mathlib.Core.Logic.{◌⊎◌, inl, inr}
use native.Mathlib.Nat.{le_refl}
use lib.Dec.{T}
use Rattle.lang.specs.Parts.{Opt, silent, written}
use Rattle.lang.specs.Mark.{Mark, In, here, later, Kept, Wins}
use Rattle.lang.proofs.Tests.{is_t, not_t, Case, case}
use Rattle.lang.proofs.Winner.{wins_one, wins_not_kept}

-- the first broken one, silent if none is
unfoldable pub first_broken : List Mark → Opt Mark
first_broken [] = silent
first_broken (m ∷ ms) = elim m.broken [ true ↦ written m | false ↦ first_broken ms ]

-- the one is reported rather than the other
abbrev pub Before : Mark → Mark → Type 0
Before m n = (m.place < n.place) ⊎ ((m.place ≡ n.place) × (n.number ≤ m.number))

-- each broken one is reported rather than any later broken one; the others do not matter
abbrev pub InOrder : List Mark → Type 0
InOrder [] = Unit {0}
InOrder (m ∷ ms) = (T m.broken → (n : Mark) → In n ms → T n.broken → Before m n) × InOrder ms

-- ---- one turn

pub first_here : (m : Mark) (ms : List Mark) → m.broken ≡ true → first_broken (m ∷ ms) ≡ written m
unfolding first_broken
first_here m ms e = ap (λ (b : Bool). elim b as (λ x. Opt Mark) [ true ↦ written m | false ↦ first_broken ms ]) e

pub first_later : (m : Mark) (ms : List Mark) → m.broken ≡ false → first_broken (m ∷ ms) ≡ first_broken ms
unfolding first_broken
first_later m ms e = ap (λ (b : Bool). elim b as (λ x. Opt Mark) [ true ↦ written m | false ↦ first_broken ms ]) e

-- ---- what an answer is

abbrev Is : Mark → Opt Mark → Type 0
Is m silent = ⊥
Is m (written n) = m ≡ n

same_written : {m n : Mark} → written m ≡ written n → m ≡ n
same_written {m} {n} e = subst (Is m) e refl

not_silent : {m : Mark} → written m ≡ silent → ⊥
not_silent {m} e = subst (Is m) e refl

not_written : {m : Mark} → silent ≡ written m → ⊥
not_written e = not_silent (sym e)

pub in_none : {m : Mark} → In m [] → ⊥
in_none = elim [ ]

-- ---- one list after another: the reader goes on where the first list has no broken limit, and stops where it has one

pub first_right : (ms ns : List Mark) → first_broken ms ≡ silent → first_broken (ms ++ ns) ≡ first_broken ns
first_right [] ns e = refl
first_right (m ∷ ms) ns e = by (case m.broken) (first_right ms ns)
  where
    by : Case m.broken → (first_broken ms ≡ silent → first_broken (ms ++ ns) ≡ first_broken ns)
        → first_broken (m ∷ (ms ++ ns)) ≡ first_broken ns
    by (inl b) ih = absurd (not_silent (sym (first_here m ms b) ∙ e))
    by (inr b) ih = first_later m (ms ++ ns) b ∙ ih (sym (first_later m ms b) ∙ e)

pub first_left : (ms ns : List Mark) (a : Mark) → first_broken ms ≡ written a → first_broken (ms ++ ns) ≡ written a
unfolding first_broken
first_left [] ns a e = absurd (not_written e)
first_left (m ∷ ms) ns a e = by (case m.broken) (first_left ms ns a)
  where
    by : Case m.broken → (first_broken ms ≡ written a → first_broken (ms ++ ns) ≡ written a) → first_broken (m ∷ (ms ++ ns)) ≡ written a
    by (inl b) ih = first_here m (ms ++ ns) b ∙ sym (first_here m ms b) ∙ e
    by (inr b) ih = first_later m (ms ++ ns) b ∙ ih (sym (first_later m ms b) ∙ e)

-- ---- none is broken

kept_cons : {m : Mark} {ms : List Mark} → m.broken ≡ false → Kept ms → Kept (m ∷ ms)
kept_cons e k n here t = not_t e t
kept_cons e k n (later i) t = k n i t

pub silent_keeps : (ms : List Mark) → first_broken ms ≡ silent → Kept ms
silent_keeps [] e = λ n i t. in_none i
silent_keeps (m ∷ ms) e = by (case m.broken) (silent_keeps ms)
  where
    by : Case m.broken → (first_broken ms ≡ silent → Kept ms) → Kept (m ∷ ms)
    by (inl b) ih = absurd (not_silent (sym (first_here m ms b) ∙ e))
    by (inr b) ih = kept_cons b (ih (sym (first_later m ms b) ∙ e))

pub keeps_silent : (ms : List Mark) → Kept ms → first_broken ms ≡ silent
unfolding first_broken
keeps_silent [] k = refl
keeps_silent (m ∷ ms) k = by (case m.broken) (keeps_silent ms (λ n i t. k n (later i) t))
  where
    by : Case m.broken → first_broken ms ≡ silent → first_broken (m ∷ ms) ≡ silent
    by (inl b) ih = absurd (k m here (is_t b))
    by (inr b) ih = first_later m ms b ∙ ih

-- ---- one is broken

wins_here : {m : Mark} {ms : List Mark} → T m.broken → ((n : Mark) → In n ms → T n.broken → Before m n) → Wins (m ∷ ms) m
wins_here {m} {ms} b h = record { is_in = here; broken = b; least = least }
  where
    least : (n : Mark) → In n (m ∷ ms) → T n.broken → Before m n
    least n here t = inr (refl, le_refl n.number)
    least n (later i) t = h n i t

wins_later : {m n : Mark} {ms : List Mark} → n.broken ≡ false → Wins ms m → Wins (n ∷ ms) m
wins_later {m} {n} {ms} e w = record { is_in = later w.is_in; broken = w.broken; least = least }
  where
    least : (x : Mark) → In x (n ∷ ms) → T x.broken → Before m x
    least x here t = absurd (not_t e t)
    least x (later i) t = w.least x i t

pub written_wins : (ms : List Mark) → InOrder ms → (m : Mark) → first_broken ms ≡ written m → Wins ms m
unfolding first_broken
written_wins [] o m e = absurd (not_written e)
written_wins (n ∷ ms) o m e = by (case n.broken) (written_wins ms o.1 m)
  where
    by : Case n.broken → (first_broken ms ≡ written m → Wins ms m) → Wins (n ∷ ms) m
    by (inl b) ih = subst (Wins (n ∷ ms)) (same_written (sym (first_here n ms b) ∙ e)) (wins_here (is_t b) (o.0 (is_t b)))
    by (inr b) ih = wins_later b (ih (sym (first_later n ms b) ∙ e))

-- and the one that is reported has the place and the number of the first
pub wins_written : (ms : List Mark) → InOrder ms → (m : Mark) → Wins ms m
    → (n : Mark) × (first_broken ms ≡ written n) × (n.place ≡ m.place) × (n.number ≡ m.number)
wins_written ms o m w = by (first_broken ms) refl
  where
    by : (a : Opt Mark) → first_broken ms ≡ a
        → (n : Mark) × (first_broken ms ≡ written n) × (n.place ≡ m.place) × (n.number ≡ m.number)
    by silent e = absurd (wins_not_kept w (silent_keeps ms e))
    by (written n) e = let q = wins_one (written_wins ms o n e) w in (n, e, q.0, q.1)
