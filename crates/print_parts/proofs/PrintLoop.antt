-- The loop over losses, or over adduct items: what is left to print, and how far units and names go. Assumes nothing.
use Prim.Native.Nat.{ℕ, suc, ◌+◌, ◌-◌, ◌*◌, ◌<◌, ◌≤◌, min}
use mathlib.Core.Path.{◌≡◌, sym, ap, ◌∙◌}
use mathlib.Core.Bool.{Bool, true, false, cond}
use mathlib.Core.List.{List, ◌++◌}
use native.Mathlib.Omega.{arith}
use lib.Dec.{eqb}
use lib.ListN.{length, get_or, drop, length-drop}
use Rattle.rules.specs.Limits.{max_units}
use Rattle.rules.specs.Layout.{loss_width, unit_width, content_kind_at, content_size_at}
use Rattle.put_bytes.specs.Puts.{max_place, Put}
use Rattle.put_bytes.proofs.PutLoop.{PutSoFar, begin, more, ends}
use Rattle.slices.specs.Numbers.{u16_at}
use Rattle.print_parts.specs.Changes.{change_units, change_name, change_printed, changes_printed, unit_bytes, name_bytes, PrintsChanges}

-- no more units than the limits allow
pub few_units : (l : List ℕ) → change_units l ≤ max_units
unfolding change_units
few_units l = by (eqb (get_or l content_kind_at 0) 0)
  where
    by : (b : Bool) → cond b (min (u16_at (drop content_size_at l)) max_units) 0 ≤ max_units
    by true = omega arith
    by false = omega arith

-- at turn i, with these records, units and names left
pub record Printing (n : ℕ) (l u t d : List ℕ) (to : ℕ) (e : List ℕ) (at : ℕ) (rows units text : List ℕ) (i : ℕ) : Type 0 where
  pub going : PutSoFar d to (changes_printed n l u t) e at (changes_printed (n - i) rows units text)
  pub units_in : length units ≤ length u
  pub text_in : length text ≤ length t
  pub units_left : min (length u - length units + unit_bytes (n - i) rows) (length u) ≡ min (unit_bytes n l) (length u)
  pub text_left : min (length t - length text + name_bytes (n - i) rows) (length t) ≡ min (name_bytes n l) (length t)

module _ (n : ℕ) (l u t : List ℕ) where
  pub changes_begin : {d : List ℕ} {to : ℕ} → length d ≤ max_place → to ≤ max_place → Printing n l u t d to d to l u t 0
  changes_begin h g =
      let e : n - 0 ≡ n = omega arith in
      record {
        going = begin h g (ap (λ (m : ℕ). changes_printed m l u t) e);
        units_in = omega arith;
        text_in = omega arith;
        units_left = ap (λ (m : ℕ). min (length u - length u + unit_bytes m l) (length u)) e ∙ omega arith;
        text_left = ap (λ (m : ℕ). min (length t - length t + name_bytes m l) (length t)) e ∙ omega arith;
      }

  -- the first of those that are left is printed, and these are left behind it
  pub changes_turn : {d e f rows units text rows' units' text' : List ℕ} {to at at' i k w : ℕ} → Printing n l u t d to e at rows units text i → i < n
      → Put e at (change_printed rows units text) f at' → k ≡ change_units rows → units' ≡ drop (unit_width * k) units
      → w ≡ change_name rows → text' ≡ drop w text → rows' ≡ drop loss_width rows → Printing n l u t d to f at' rows' units' text' (i + 1)
  unfolding changes_printed unit_bytes name_bytes
  changes_turn {rows = rows} {units = units} {text = text} {rows' = rows'} {units' = units'} {text' = text'} {i = i} {k = k} {w = w} p h put ek eu ew et er =
      let m = n - (i + 1) in
      let now : n - i ≡ suc m = omega arith in
      let us : unit_bytes (n - i) rows ≡ unit_width * k + unit_bytes m rows' =
      ap (λ (z : ℕ). unit_bytes z rows) now ∙ (λ j. unit_width * sym ek j + unit_bytes m (sym er j)) in
      let ns : name_bytes (n - i) rows ≡ w + name_bytes m rows' =
      ap (λ (z : ℕ). name_bytes z rows) now ∙ (λ j. sym ew j + name_bytes m (sym er j)) in
      let lu : length units' ≡ length units - unit_width * k = ap length eu ∙ length-drop (unit_width * k) units in
      let lt : length text' ≡ length text - w = ap length et ∙ length-drop w text in
      record {
        going =
            more p.going put
            (ap (λ (z : ℕ). changes_printed z rows units text) now
            ∙ (λ j. change_printed rows units text ++ changes_printed m (sym er j) ((ap (λ (z : ℕ). drop (unit_width * z) units) (sym ek) ∙ sym eu) j) ((ap (λ (z : ℕ). drop z text) (sym ew) ∙ sym et) j)));
        units_in = omega (arith, lu, p.units_in);
        text_in = omega (arith, lt, p.text_in);
        units_left = omega (arith, lu, us, p.units_in, p.units_left);
        text_left = omega (arith, lt, ns, p.text_in, p.text_left);
      }

  pub changes_end : {d e rows units text : List ℕ} {to at i : ℕ} → Printing n l u t d to e at rows units text i → n ≤ i
      → PrintsChanges n l u t d to e (record { to = at; units = length u - length units; text = length t - length text })
  unfolding changes_printed unit_bytes name_bytes
  changes_end {rows = rows} {units = units} {text = text} {i = i} p h =
      let z : n - i ≡ 0 = omega arith in
      let us : unit_bytes (n - i) rows ≡ 0 = ap (λ (m : ℕ). unit_bytes m rows) z in
      let ns : name_bytes (n - i) rows ≡ 0 = ap (λ (m : ℕ). name_bytes m rows) z in
      record {
        put = ends p.going (ap (λ (m : ℕ). changes_printed m rows units text) z);
        units = omega (arith, us, p.units_left, p.units_in);
        text = omega (arith, ns, p.text_left, p.text_in);
      }
