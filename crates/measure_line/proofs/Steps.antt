-- Each step over a comma comes nearer to the end of the line. Assumes nothing.
use Prim.Native.Nat.{ℕ, ◌-◌, ◌<◌, ◌≤◌}
use mathlib.Core.Path.{◌≡◌, sym}
use mathlib.Core.Bool.{true}
use mathlib.Core.List.{List, [], ◌∷◌}
use native.Mathlib.Omega.{arith}
use lib.ListN.{length, drop, length-drop}
use Rattle.lang.proofs.Tests.{not_t}
use Rattle.rules.specs.Bytes.{bytes}
use Rattle.rules.specs.Texts.{starts_with}
use Rattle.rules.specs.Editions.{Edition}
use Rattle.read_annotation.specs.declared.Parts.{Parts}
use Rattle.measure_line.specs.declared.Totals.{Totals}
use Rattle.measure_line.specs.Totals.{goes_on, add_of, add_next}
use Rattle.measure_line.specs.Walks.{Done, done_next}

comma_some : (s : List ℕ) → starts_with (bytes ",") s ≡ true → 1 ≤ length s
comma_some [] e = absurd (not_t {x = true} (sym e) tt)
comma_some (b ∷ s) e = omega arith

-- a comma stands inside the line
pub goes_inside : (line : List ℕ) (at : ℕ) → goes_on line at ≡ true → at < length line
goes_inside line at e = let h = comma_some (drop at line) e in omega (arith, length-drop at line)

pub add_falls : (e : Edition) (line : List ℕ) (t : Totals) → goes_on line t.at ≡ true → length line - (add_next e line t).at < length line - t.at
unfolding add_of
add_falls e line t g = let h = goes_inside line t.at g in omega arith

pub done_falls : {X : Type 0} (give : List ℕ → Parts → List X) (line : List ℕ) (a : Done X) → goes_on line a.at ≡ true
    → length line - (done_next give line a).at < length line - a.at
done_falls give line a e = let h = goes_inside line a.at e in omega arith
