-- The walk over losses or adduct items. Assumes nothing.
use Prim.Native.Nat.{ℕ, ◌+◌, ◌-◌, ◌≤◌}
use mathlib.Core.Path.{◌≡◌, refl, sym, ap, ap₂, ◌∙◌}
use mathlib.Core.Bool.{true, false}
use mathlib.Core.List.{List}
use native.Mathlib.Omega.{arith}
use lib.ListN.{length, drop, length-drop}
use lib.Seq.{drop-drop}
use Rattle.std.specs.Prelude.{Option, None}
use Rattle.lang.proofs.Walks.{walk_on, walk_ends}
use Rattle.faults.specs.declared.Refusal.{Refusal}
use Rattle.read_opening.specs.Heads.{begins_change}
use Rattle.read_changes.specs.declared.ChangeRead.{ChangeRead}
use Rattle.read_changes.specs.Changes.{change_of, units_in, text_in}
use Rattle.read_changes.specs.Rows.{Sums, sums, change_size, added, count_change, changes_from, changes_of}
use Rattle.read_changes.proofs.Measures.{change_long, change_moves, change_stored}

pub size_moves : (s : List ℕ) → begins_change s ≡ true → (1 ≤ change_size s) × (change_size s ≤ length s)
size_moves s e = change_moves 0 0 0 None s e

-- the first `at` bytes are n of them, with so many units and name bytes, and g is the fault after them
pub record Passed (bound end : ℕ) (s : List ℕ) (f : Option Refusal) (at n units text : ℕ) (g : Option Refusal) : Type 0 where
  pub inside : at ≤ length s
  pub few : n ≤ at
  pub held : units + text ≤ at
  pub is : changes_from bound end s (sums 0 0 0 f) ≡ changes_from bound end (drop at s) (sums n units text g)

pub begin : {bound end : ℕ} {s : List ℕ} {f : Option Refusal} → Passed bound end s f 0 0 0 0 f
begin = record { inside = omega arith; few = omega arith; held = omega arith; is = refl }

module _ {bound end : ℕ} {s : List ℕ} {f : Option Refusal} {at n units text : ℕ} {g : Option Refusal} (p : Passed bound end s f at n units text g) {r : List ℕ} (pr : r ≡ drop at s) where
  -- one stands here; what it takes up, and what it stores
  pub record Moved (x : ChangeRead) : Type 0 where
    pub some : at + 1 ≤ at + x.len
    pub inside : at + x.len ≤ length s
    pub held : units + units_in x + (text + text_in x) ≤ at + x.len

  module _ {q : List ℕ} {x : ChangeRead} (e : begins_change r ≡ true) (pq : q ≡ drop at s) (px : x ≡ change_of bound n end q g) where
    change_is : x ≡ change_of bound n end (drop at s) g
    change_is = px ∙ ap (λ (t : List ℕ). change_of bound n end t g) pq

    pub moves : Moved x
    moves =
        let t = drop at s in
        let m = change_moves bound n end g t (rw pr at e) in
        let y = change_stored bound n end t g in
        let l : x.len ≡ (change_of bound n end t g).len = ap (λ (x : ChangeRead). x.len) change_is in
        let u : units_in x ≡ units_in (change_of bound n end t g) = ap units_in change_is in
        let v : text_in x ≡ text_in (change_of bound n end t g) = ap text_in change_is in
        let i = p.inside in
        let o = p.held in
        record { some = omega (arith, l, m.0); inside = omega (arith, l, m.1, length-drop at s); held = omega (arith, l, u, v, y, o) }

    pub turn : {y z : ℕ} {h : Option Refusal} → y ≡ units_in x → z ≡ text_in x → h ≡ x.fault → Passed bound end s f (at + x.len) (n + 1) (units + y) (text + z) h
    unfolding count_change
    turn {y} {z} {h} py pz ph =
        let t = drop at s in
        let m = moves in
        let o = p.few in
        let l : change_size t ≡ x.len = change_long 0 0 0 bound n end t None g ∙ ap (λ (x : ChangeRead). x.len) (sym change_is) in
        record {
          inside = m.inside;
          few = omega (arith, m.some, o);
          held = omega (arith, m.held, py, pz);
          is = p.is ∙ walk_on begins_change change_size (count_change bound end) size_moves t (sums n units text g) (rw pr at e)
              ∙ ap₂ (λ (w : List ℕ) (a : Sums). changes_from bound end w a) (drop-drop (change_size t) at s ∙ ap (λ (k : ℕ). drop (at + k) s) l)
              (ap (added (sums n units text g)) (sym change_is) ∙ rw (← py, ← pz, ← ph));
        }

  pub ends : begins_change r ≡ false → record { n = n; units = units; text = text; len = at; fault = g } ≡ changes_of bound end s f
  unfolding changes_of
  ends e =
      let i = p.inside in
      let l : length s - length (drop at s) ≡ at = omega (arith, length-drop at s) in
      sym (rw (p.is, walk_ends begins_change change_size (count_change bound end) size_moves (drop at s) (sums n units text g) (rw pr at e))
      (ap (λ (k : ℕ). record { n = n; units = units; text = text; len = k; fault = g }) l))
