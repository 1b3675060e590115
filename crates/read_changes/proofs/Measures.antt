-- How far a loss or adduct item goes, whatever its limits, and that it stores no more than its bytes. Assumes nothing.
use Prim.Native.Nat.{ℕ, ◌+◌, ◌-◌, ◌≤◌, min}
use mathlib.Core.Path.{◌≡◌, refl, ap}
use mathlib.Core.Bool.{Bool, true, false, cond}
use mathlib.Core.List.{List}
use native.Mathlib.Omega.{arith}
use lib.ListN.{length, drop, length-drop}
use Rattle.std.specs.Prelude.{Option}
use Rattle.lang.proofs.Walks.{walk_rest}
use Rattle.rules.specs.Bytes.{bytes}
use Rattle.rules.specs.Texts.{starts_with}
use Rattle.texts.specs.Names.{name_length}
use Rattle.texts.proofs.NameEnds.{name_length_within}
use Rattle.changes.specs.declared.Content.{Content}
use Rattle.changes.specs.declared.Content.TheVariants as content
use Rattle.changes.specs.Contents.{content_size, content_units, content_bytes}
use Rattle.faults.specs.declared.Refusal.{Refusal}
use Rattle.read_formula.specs.Units.{begins_unit}
use Rattle.read_formula.specs.Formulas.{Counted, counted, unit_size, count_unit, formula_of}
use Rattle.read_formula.proofs.Measures.{unit_moves}
use Rattle.read_formula.proofs.Formulas.{formula_within}
use Rattle.read_opening.specs.declared.Head.{Head}
use Rattle.read_opening.specs.Heads.{head_of, begins_change}
use Rattle.read_opening.specs.Enclosed.{enclosed_of, nothing, name_of}
use Rattle.read_opening.proofs.Measures.{name_within, change_some}
use Rattle.read_changes.specs.declared.ChangeRead.{ChangeRead}
use Rattle.read_changes.specs.Changes.{head_fault, change_with, formula_change, name_change, content_of, change_of, units_in, text_in}
use Rattle.read_changes.proofs.Walks.{rest_same, held_within}

-- ---- formulas and names

pub formula_long : (end last : ℕ) (s : List ℕ) (f g : Option Refusal) → (formula_of end s f).len ≡ (formula_of last s g).len
unfolding formula_of
formula_long end last s f g = ap (λ (r : List ℕ). length s - length r) (rest_same begins_unit unit_size (count_unit end) (count_unit last) s (counted 0 f) (counted 0 g))

unit_grows : (end : ℕ) (a : Counted) (s : List ℕ) → begins_unit s ≡ true → ((count_unit end a s).units ≤ a.units + unit_size s) × (unit_size s ≤ length s)
unfolding count_unit
unit_grows end a s e = let m = unit_moves s e in (omega arith, m.1)

formula_few : (end : ℕ) (s : List ℕ) (f : Option Refusal) → (formula_of end s f).units ≤ (formula_of end s f).len
unfolding formula_of
formula_few end s f =
    omega (
      arith,
      held_within begins_unit unit_size (count_unit end) (λ (a : Counted). a.units) (unit_grows end) s (counted 0 f),
      walk_rest begins_unit unit_size (count_unit end) unit_moves s (counted 0 f),
    )

name_long : (end last : ℕ) (s : List ℕ) (f g : Option Refusal) → (name_of end s f).len ≡ (name_of last s g).len
unfolding name_of enclosed_of
name_long end last s f g = by (starts_with (bytes "[") s)
  where
    by : (t : Bool) → (cond t (enclosed_of (name_length (drop 1 s)) (length s) end f) (nothing f)).len ≡ (cond t (enclosed_of (name_length (drop 1 s)) (length s) last g) (nothing g)).len
    by true = refl
    by false = refl

name_few : (end : ℕ) (s : List ℕ) (f : Option Refusal) → (name_of end s f).size ≤ (name_of end s f).len
unfolding name_of enclosed_of
name_few end s f = by (starts_with (bytes "[") s)
  where
    by : (t : Bool) → (cond t (enclosed_of (name_length (drop 1 s)) (length s) end f) (nothing f)).size ≤ (cond t (enclosed_of (name_length (drop 1 s)) (length s) end f) (nothing f)).len
    by true = omega (arith, name_length_within (drop 1 s), length-drop 1 s)
    by false = omega arith

-- ---- losses and adduct items

module _ (end last : ℕ) (s : List ℕ) (h : Head) (f g : Option Refusal) where
  what_long : (content_of end s h f).len ≡ (content_of last s h g).len
  unfolding content_of
  what_long = by (begins_unit (drop h.len s)) (starts_with (bytes "[") (drop h.len s))
    where
      by : (u v : Bool) → (cond u (formula_change s h (formula_of end (drop h.len s) f)) (cond v (name_change s h (name_of end (drop h.len s) f)) (change_with s h content.Electron 1 f))).len
          ≡ (cond u (formula_change s h (formula_of last (drop h.len s) g)) (cond v (name_change s h (name_of last (drop h.len s) g)) (change_with s h content.Electron 1 g))).len
      by true v = ap (λ (n : ℕ). min (h.len + n) (length s)) (formula_long end last (drop h.len s) f g)
      by false true = ap (λ (n : ℕ). min (h.len + n) (length s)) (name_long end last (drop h.len s) f g)
      by false false = refl

-- how long it is does not depend on its limits
pub change_long : (bound i end b j last : ℕ) (s : List ℕ) (f g : Option Refusal) → (change_of bound i end s f).len ≡ (change_of b j last s g).len
unfolding change_of
change_long bound i end b j last s f g = what_long end last s (head_of s) (head_fault bound i (head_of s) end (length s) f) (head_fault b j (head_of s) last (length s) g)

-- no more units or name bytes than bytes, and no more bytes than there are
pub record Fits (s : List ℕ) (x : ChangeRead) : Type 0 where
  pub some : 1 ≤ length s → 1 ≤ x.len
  pub len : x.len ≤ length s
  pub size : content_size x.content ≤ x.len

what_fits : (end : ℕ) (s : List ℕ) (h : Head) (f : Option Refusal) → 1 ≤ h.len → Fits s (content_of end s h f)
unfolding content_of
what_fits end s h f o = by (begins_unit (drop h.len s)) (starts_with (bytes "[") (drop h.len s))
  where
    by : (u v : Bool) → Fits s (cond u (formula_change s h (formula_of end (drop h.len s) f)) (cond v (name_change s h (name_of end (drop h.len s) f)) (change_with s h content.Electron 1 f)))
    by true v =
        record {
          some = λ l. omega arith;
          len = omega arith;
          size = omega (arith, formula_few end (drop h.len s) f, formula_within end (drop h.len s) f, length-drop h.len s);
        }
    by false true =
        let w = name_within end (drop h.len s) f in
        record { some = λ l. omega arith; len = omega arith; size = omega (arith, name_few end (drop h.len s) f, w.len, length-drop h.len s) }
    by false false = record { some = λ l. omega arith; len = omega arith; size = omega arith }

head_some : (s : List ℕ) → 1 ≤ (head_of s).len
unfolding head_of
head_some s = omega arith

pub change_fits : (bound i end : ℕ) (s : List ℕ) (f : Option Refusal) → Fits s (change_of bound i end s f)
unfolding change_of
change_fits bound i end s f = what_fits end s (head_of s) (head_fault bound i (head_of s) end (length s) f) (head_some s)

pub change_moves : (bound i end : ℕ) (f : Option Refusal) (s : List ℕ) → begins_change s ≡ true → (1 ≤ (change_of bound i end s f).len) × ((change_of bound i end s f).len ≤ length s)
change_moves bound i end f s e = let p = change_fits bound i end s f in (p.some (change_some s e).0, p.len)

-- units or name bytes: one of the two has none
pub stored_in : (x : ChangeRead) → units_in x + text_in x ≤ content_size x.content
stored_in x = by x.content
  where
    by : (c : Content) → content_units c + content_bytes c ≤ content_size c
    by (content.Formula units) = omega arith
    by (content.Name bytes) = omega arith
    by content.Electron = omega arith

pub change_stored : (bound i end : ℕ) (s : List ℕ) (f : Option Refusal) → units_in (change_of bound i end s f) + text_in (change_of bound i end s f) ≤ (change_of bound i end s f).len
change_stored bound i end s f = let p = change_fits bound i end s f in omega (arith, stored_in (change_of bound i end s f), p.size)
