-- One step of the scan by what the code tests: in a state that is not deep the table decides, and in a deep one brackets are counted. Assumes nothing.
use Prim.Native.Nat.{ℕ, ◌+◌, ◌-◌, ◌<◌, ◌≤◌}
use mathlib.Core.Path.{◌≡◌, sym, ap, ◌∙◌}
use mathlib.Core.List.{List}
use Rattle.lang.proofs.Moved.{moved_flat, moved_open, moved_close, moved_on}
use native.Mathlib.Omega.{arith}
use lib.Dec.{T, leb, leb→le, le→leb, ltb, ltb→lt, lt→ltb}
use Rattle.lang.proofs.Deriv.{and_0, and_1, and_i}
use Rattle.shape.specs.Tables.{deeps, flats}
use Rattle.scan_line.specs.Steps.{deep_at, step_by, move_by, stand_of}

module _ (m : List ℕ) (q d b : ℕ) where
  abbrev Stands : ℕ → ℕ → Type 0
  Stands x y = record { state = x; depth = y } ≡ stand_of (move_by m q d b)

  by_table : {t : ℕ} → t ≡ step_by m q b → (step_by m q b, d) ≡ move_by m q d b → Stands t d
  by_table e p = ap (λ (x : ℕ). stand_of (x, d)) e ∙ ap stand_of p

  pub flat_step : (T (deep_at q) → ⊥) → {t : ℕ} → t ≡ step_by m q b → Stands t d
  unfolding move_by
  flat_step h e = by_table e (sym (moved_flat (deep_at q) 91 93 q d (step_by m q b) b h))

  pub opened : T (deep_at q) → b ≡ 91 → Stands q (d + 1)
  unfolding move_by
  opened h e = ap stand_of (sym (moved_open (deep_at q) 91 93 q d (step_by m q b) b h e))

  pub closed : T (deep_at q) → (b ≡ 91 → ⊥) → b ≡ 93 → 0 < d → Stands q (d - 1)
  unfolding move_by
  closed h n e g = ap stand_of (sym (moved_close (deep_at q) 91 93 q d (step_by m q b) b h n e g))

  pub deep_step : T (deep_at q) → (b ≡ 91 → ⊥) → (b ≡ 93 → 0 < d → ⊥) → {t : ℕ} → t ≡ step_by m q b → Stands t d
  unfolding move_by
  deep_step h n f e = by_table e (sym (moved_on (deep_at q) 91 93 q d (step_by m q b) b h n f))

-- ---- which states are deep

pub is_deep : (q : ℕ) → deeps ≤ q → q < flats → T (deep_at q)
is_deep q h g = and_i (leb deeps q) (ltb q flats) (le→leb deeps q h) (lt→ltb q flats g)

pub before_deep : (q : ℕ) → q < deeps → T (deep_at q) → ⊥
before_deep q h t = let g = leb→le deeps q (and_0 (leb deeps q) (ltb q flats) t) in omega arith

pub behind_deep : (q : ℕ) → flats ≤ q → T (deep_at q) → ⊥
behind_deep q h t = let g = ltb→lt q flats (and_1 (leb deeps q) (ltb q flats) t) in omega arith
