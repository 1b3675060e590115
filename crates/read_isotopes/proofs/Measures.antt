-- How far an isotope goes: as far whatever its limits, never past the end of its text, and a byte or more where an isotope begins.
-- Assumes nothing.
use Prim.Native.Nat.{ℕ, zero, suc, ◌+◌, ◌≤◌, min}
use mathlib.Core.Path.{◌≡◌, refl, sym, ◌∙◌}
use mathlib.Core.Bool.{Bool, true, false, cond}
use mathlib.Core.List.{List}
use native.Mathlib.Omega.{arith}
use lib.ListN.{length, drop}
use Rattle.std.specs.Prelude.{Option, None}
use Rattle.lang.specs.Walk.{walked, walk_in}
use Rattle.rules.specs.Bytes.{bytes, digit}
use Rattle.rules.specs.Texts.{first_in, starts_with}
use Rattle.numbers.specs.Leading.{number_of}
use Rattle.elements.specs.Symbols.{element_of}
use Rattle.faults.specs.declared.Refusal.{Refusal}
use Rattle.read_formula.specs.Formulas.{Counted}
use Rattle.read_opening.specs.Heads.{head_of, begins_isotope}
use Rattle.read_opening.proofs.Measures.{isotope_some}
use Rattle.read_isotopes.specs.declared.IsotopeKind.TheVariants as kind
use Rattle.read_isotopes.specs.Isotopes.{isotope_fault, isotope_with, isotope_in, isotope_of}
use Rattle.read_isotopes.specs.Rows.{isotope_size, count_isotope, isotopes_of}

-- by what stands behind sign, count and `i`: a digit, `A`, or neither
abbrev size_in : List ℕ → ℕ → Bool → Bool → ℕ
size_in s at d a =
    let t = drop at s in
    let l = length s in
    cond d (min (min (at + (number_of t).len) l + (element_of (drop (number_of t).len t)).len) l) (cond a (min (at + 1) l) at)

abbrev place_behind : List ℕ → ℕ
place_behind s = min ((head_of s).len + 1) (length s)

size_is : (i end : ℕ) (s : List ℕ) (f : Option Refusal)
    → (isotope_of i end s f).len ≡ size_in s (place_behind s) (first_in digit (drop (place_behind s) s)) (starts_with (bytes "A") (drop (place_behind s) s))
unfolding isotope_of isotope_in
size_is i end s f = by (first_in digit (drop (place_behind s) s)) (starts_with (bytes "A") (drop (place_behind s) s))
  where
    by : (d a : Bool)
        → (let h = head_of s in
        let at = place_behind s in
        let t = drop at s in
        let n = number_of t in
        let e = element_of (drop n.len t) in
        let l = length s in
        cond d (isotope_with h (kind.Specific n.value e.number) (min (min (at + n.len) l + e.len) l) (isotope_fault i h n.value at end l f))
        (cond a (isotope_with h kind.Average (min (at + 1) l) (isotope_fault i h 0 at end l f)) (isotope_with h kind.Plain at (isotope_fault i h 0 at end l f)))).len
        ≡ size_in s (place_behind s) d a
    by true a = refl
    by false true = refl
    by false false = refl

-- whatever the limits
pub isotope_len : (i end : ℕ) (s : List ℕ) (f : Option Refusal) → (isotope_of i end s f).len ≡ isotope_size s
isotope_len i end s f = size_is i end s f ∙ sym (size_is 0 0 s None)

size_in_lem : (s : List ℕ) (at : ℕ) (d a : Bool) → at ≤ length s → size_in s at d a ≤ length s
size_in_lem s at true a h = omega arith
size_in_lem s at false true h = omega arith
size_in_lem s at false false h = h

size_some : (s : List ℕ) (at : ℕ) (d a : Bool) → 1 ≤ at → at ≤ length s → 1 ≤ size_in s at d a
size_some s at true a h g = omega arith
size_some s at false true h g = omega arith
size_some s at false false h g = h

pub isotope_within : (s : List ℕ) → isotope_size s ≤ length s
isotope_within s =
    rw (size_is 0 0 s None) (size_in_lem s (place_behind s) (first_in digit (drop (place_behind s) s)) (starts_with (bytes "A") (drop (place_behind s) s)) (omega arith))

pub isotope_moves : (s : List ℕ) → begins_isotope s ≡ true → (1 ≤ isotope_size s) × (isotope_size s ≤ length s)
isotope_moves s e =
    let m = isotope_some s e in
    (rw (size_is 0 0 s None) (size_some s (place_behind s) (first_in digit (drop (place_behind s) s)) (starts_with (bytes "A") (drop (place_behind s) s)) (omega arith) (omega arith)), isotope_within s)

-- ---- all isotopes of a text

-- no more than turns
count_few : (end n : ℕ) (s : List ℕ) (a : Counted) → (walk_in begins_isotope isotope_size (count_isotope end) n s a).known.units ≤ a.units + n
unfolding walk_in count_isotope
count_few end zero s a = omega arith
count_few end (suc n) s a = by (begins_isotope s) (count_few end n (drop (isotope_size s) s) (count_isotope end a s))
  where
    by : (t : Bool) → (walk_in begins_isotope isotope_size (count_isotope end) n (drop (isotope_size s) s) (count_isotope end a s)).known.units ≤ a.units + 1 + n
        → (cond t (walk_in begins_isotope isotope_size (count_isotope end) n (drop (isotope_size s) s) (count_isotope end a s)) (walked s a)).known.units ≤ a.units + suc n
    by true h = omega arith
    by false h = omega arith

module _ (end : ℕ) (s : List ℕ) (f : Option Refusal) where
  pub isotopes_within : (isotopes_of end s f).len ≤ length s
  unfolding isotopes_of
  isotopes_within = omega arith

  pub isotopes_few : (isotopes_of end s f).n ≤ length s
  unfolding isotopes_of
  isotopes_few = let c = count_few end (length s) s (record { units = 0; fault = f }) in omega arith
