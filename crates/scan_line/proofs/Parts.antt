-- A line that comes in parts is scanned as if it came in one. Assumes nothing.
use Prim.Native.Nat.{ℕ, ◌+◌, ◌<◌, ◌≤◌, ◌^◌}
use mathlib.Core.Path.{◌≡◌, sym, ap, ◌∙◌}
use mathlib.Core.List.{List, [], ◌∷◌, ◌++◌}
use native.Mathlib.Omega.{arith}
use native.Mathlib.Decide.{dec_le}
use lib.ListN.{length, length-append}
use Rattle.shape.specs.Tables.{states, size}
use Rattle.scan_line.specs.declared.Progress.{Progress}
use Rattle.scan_line.specs.Steps.{move_by, standing, run_by, taken_by}
use Rattle.scan_line.proofs.Walks.{move_le, run_on, run_stops, stays_few, stays_dead, stays_deep, taken_run}

module _ (m w : List ℕ) where
  abbrev On : Progress → Progress → Type 0
  On s t = taken_by m s w ≡ t

  runs : (p : List ℕ) → size ≤ length m → (q d at : ℕ) → q < states → d ≤ at → at + length (p ++ w) < 2 ^ 64 → On (run_by m q d at p) (run_by m q d at (p ++ w))
  unfolding run_by
  runs [] l q d at h z r = taken_run m (standing q d at) w l h z r
  runs (b ∷ p) l q d at h z r = by (λ q' d' h' z'. runs p l q' d' (at + 1) h' z' (omega arith)) (dec_le states (move_by m q d b).0)
    where
      by : ((q' d' : ℕ) → q' < states → d' ≤ at + 1 → On (run_by m q' d' (at + 1) p) (run_by m q' d' (at + 1) (p ++ w)))
          → Dec (states ≤ (move_by m q d b).0) → On (run_by m q d at (b ∷ p)) (run_by m q d at (b ∷ p ++ w))
      by ih (yes x) =
          ap (λ (s : Progress). taken_by m s w) (run_stops m q d at b p x) ∙ sym (stays_dead m (standing states 0 at) w l (omega arith)) ∙ sym (run_stops m q d at b (p ++ w) x)
      by ih (no x) =
          ap (λ (s : Progress). taken_by m s w) (run_on m q d at b p (omega arith))
          ∙ ih (move_by m q d b).0 (move_by m q d b).1 (omega arith) (omega (arith, move_le m q d b))
          ∙ sym (run_on m q d at b (p ++ w) (omega arith))

  -- by any machine, from any standing, where the places fit a usize
  pub in_parts : (s : Progress) (p : List ℕ) → s.at + length (p ++ w) < 2 ^ 64 → taken_by m (taken_by m s p) w ≡ taken_by m s (p ++ w)
  in_parts s p r = by (dec_le size (length m)) (dec_le states s.state) (dec_le s.depth s.at)
    where
      stays : s ≡ taken_by m s p → s ≡ taken_by m s w → s ≡ taken_by m s (p ++ w) → taken_by m (taken_by m s p) w ≡ taken_by m s (p ++ w)
      stays a b c = ap (λ (t : Progress). taken_by m t w) (sym a) ∙ sym b ∙ c

      by : Dec (size ≤ length m) → Dec (states ≤ s.state) → Dec (s.depth ≤ s.at) → taken_by m (taken_by m s p) w ≡ taken_by m s (p ++ w)
      by (no f) d e = stays (stays_few m s p (omega arith)) (stays_few m s w (omega arith)) (stays_few m s (p ++ w) (omega arith))
      by (yes l) (yes h) e = stays (stays_dead m s p l h) (stays_dead m s w l h) (stays_dead m s (p ++ w) l h)
      by (yes l) (no f) (no g) =
          let h : s.state < states = omega arith in
          let z : s.at < s.depth = omega arith in
          stays (stays_deep m s p l h z) (stays_deep m s w l h z) (stays_deep m s (p ++ w) l h z)
      by (yes l) (no f) (yes g) =
          let z : s.at + length p < 2 ^ 64 = omega (arith, length-append p w) in
          ap (λ (t : Progress). taken_by m t w) (taken_run m s p l (omega arith) g z) ∙ runs p l s.state s.depth s.at (omega arith) g r
          ∙ sym (taken_run m s (p ++ w) l (omega arith) g r)
