-- Slots of which the first are held, and all behind them blank. Assumes nothing.
use Rattle.std.specs.Prelude.{ℕ, ◌-◌, ◌≤◌, ◌≡◌, List, ◌++◌, length, take, drop, replicate}
use Rattle.std.proofs.Common.{sym, ap, ◌∙◌, subst, take-append-drop, length-take-le}
use Rattle.rules.specs.Limits.{max_losses}
use Rattle.changes.specs.declared.Sign.TheVariants.{Minus}
use Rattle.changes.specs.declared.Content.TheVariants.{Electron}
use Rattle.sort_slots.specs.declared.Slot.{Slot}

-- a slot that holds nothing
abbrev pub blank : Slot
blank = record { sign = Minus; count = 0; content = Electron; start = 0; key = 0; len = 0 }

-- what stands behind the first n of as many slots as there may be losses
abbrev pub blank_behind : ℕ → List Slot
blank_behind n = replicate (max_losses - n) blank

-- there are as many slots as there may be losses, and all behind the first n are blank
pub record FirstHeld (n : ℕ) (at : List Slot) : Type 0 where
  pub few : n ≤ max_losses
  pub all : length at ≡ max_losses
  pub behind : drop n at ≡ blank_behind n

-- the slots that are held give all of them back
module _ {n : ℕ} {at : List Slot} (h : FirstHeld n at) where
  pub held_count : length (take n at) ≡ n
  held_count = length-take-le n at (subst (λ (m : ℕ). n ≤ m) (sym h.all) h.few)

  pub held_all : take n at ++ blank_behind (length (take n at)) ≡ at
  held_all = ap (λ (l : List Slot). take n at ++ l) (ap blank_behind held_count ∙ sym h.behind) ∙ take-append-drop n at
