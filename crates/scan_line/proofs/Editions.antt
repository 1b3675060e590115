-- How bytes that step as the machine of an edition of lines does move: to the same state, or both nowhere. Assumes nothing.
use Prim.Native.Nat.{ℕ, ◌+◌, ◌-◌, ◌<◌, ◌≤◌, min}
use mathlib.Core.Path.{◌≡◌, refl, ap}
use mathlib.Core.Bool.{Bool, true, false, cond, ◌&&◌}
use mathlib.Core.List.{List}
use native.Mathlib.Omega.{arith}
use lib.Dec.{ltb}
use Rattle.lang.specs.Re.{in_c}
use Rattle.lang.specs.Scan.{moved}
use Rattle.lang.proofs.Certify.{step}
use Rattle.lang.proofs.Deep.{move}
use Rattle.rules.specs.Editions.{LineEdition, first_lines, second_lines}
use Rattle.rules.specs.Texts.{name_brackets}
use Rattle.shape.specs.Tables.{states, flats}
use Rattle.shape.proofs.TableMachine.{machine, machine1, machine_of}
use Rattle.scan_line.specs.Steps.{deep_at, step_by, move_by}
use Rattle.scan_line.proofs.Cells.{Steps}

-- no edition has more states than the bytes have rows for, and each has one
pub few : (l : LineEdition) (q : ℕ) → q < (machine_of l).states → q < states
unfolding machine machine1
few first_lines q h = omega arith
few second_lines q h = h

pub some : (l : LineEdition) → 0 < (machine_of l).states
unfolding machine machine1
some first_lines = omega arith
some second_lines = omega arith

-- where the machine of an edition goes on, the bytes go to the same state
pub record Moved (l : LineEdition) (m : List ℕ) (q d b : ℕ) : Type 0 where
  pub dead : states ≤ (move_by m q d b).0 → (move (machine_of l) q d b).0 ≡ (machine_of l).states
  pub goes : (move_by m q d b).0 < states → (move_by m q d b ≡ move (machine_of l) q d b) × ((move_by m q d b).0 < (machine_of l).states)

-- by what a step of the table gives, x by the bytes and y by the machine of n states
module _ (n : ℕ) (most : n ≤ states) (x y q d : ℕ) (small : q < n) (steps : min x n ≡ y) (apart : x < states → x < n) where
  record Same (p r : ℕ × ℕ) : Type 0 where
    dead : states ≤ p.0 → r.0 ≡ n
    goes : p.0 < states → (p ≡ r) × (p.0 < n)

  stays : (e : ℕ) → Same (q, e) (q, e)
  stays e = record { dead = λ h. absurd (omega arith); goes = λ h. (refl, small) }

  table : (e : ℕ) → Same (x, e) (y, e)
  table e =
      record {
        dead = λ h. omega arith;
        goes = λ h. let g = apart h in let z : x ≡ y = omega arith in (ap (λ (k : ℕ). (k, e)) z, g);
      }

  same : (deep opens closes : Bool) → Same (moved deep opens closes q d x) (moved deep opens closes q d y)
  same false opens closes = table d
  same true true closes = stays (d + 1)
  same true false closes = by (ltb 0 d && closes)
    where
      by : (c : Bool) → Same (cond c (q, d - 1) (x, d)) (cond c (q, d - 1) (y, d))
      by true = stays (d - 1)
      by false = table d

pub moves : (l : LineEdition) {m : List ℕ} → Steps l m → (q d b : ℕ) → q < (machine_of l).states → b < 256 → Moved l m q d b
unfolding machine machine1 move_by
moves first_lines {m} o q d b h g =
    let s = same flats (omega arith) (step_by m q b) (step machine1 q b) q d h (o.steps q b h g) (o.apart q b h g) (deep_at q) (in_c name_brackets.opens b) (in_c name_brackets.closes b) in
    record { dead = s.dead; goes = s.goes }
moves second_lines {m} o q d b h g =
    let s = same states (omega arith) (step_by m q b) (step machine q b) q d h (o.steps q b h g) (o.apart q b h g) (deep_at q) (in_c name_brackets.opens b) (in_c name_brackets.closes b) in
    record { dead = s.dead; goes = s.goes }
