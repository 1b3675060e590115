-- How far a sign and a count, a text in braces and a name in brackets go. Assumes nothing.
use Prim.Native.Nat.{ℕ, ◌+◌, ◌≤◌, max}
use mathlib.Core.Path.{◌≡◌, refl}
use mathlib.Core.Bool.{Bool, true, false, cond, not, ◌&&◌}
use mathlib.Core.List.{List, [], ◌∷◌}
use native.Mathlib.Omega.{arith}
use lib.ListN.{length, drop, length-drop}
use Rattle.std.specs.Prelude.{Option}
use Rattle.lang.proofs.Deriv.{and_0, and_1}
use Rattle.lang.proofs.Tests.{is_t, t_is}
use Rattle.rules.specs.Bytes.{bytes, text_byte}
use Rattle.rules.specs.Texts.{starts_with}
use Rattle.numbers.specs.declared.Number.{Number}
use Rattle.numbers.specs.Leading.{number_of}
use Rattle.numbers.proofs.SpelledNumbers.{number_within}
use Rattle.texts.specs.Leading.{leading_in}
use Rattle.texts.specs.Names.{name_length}
use Rattle.texts.proofs.LeadingBytes.{leading_within}
use Rattle.texts.proofs.NameEnds.{name_length_within}
use Rattle.faults.specs.declared.Refusal.{Refusal}
use Rattle.read_opening.specs.declared.Enclosed.{Enclosed}
use Rattle.read_opening.specs.Heads.{head_of, behind, begins_sign, begins_isotope, begins_change}
use Rattle.read_opening.specs.Enclosed.{enclosed_of, nothing, text_of, name_of}

-- ---- sign and count

-- what the code reads
pub head_fits : (s : List ℕ) {r : List ℕ} {n : Number} → r ≡ drop 1 s → n ≡ number_of r → 1 + n.len ≤ max 1 (length s)
head_fits s {r} {n} pr pn =
    let a : n.len ≤ length (drop 1 s) = rw (pn, pr) (number_within (drop 1 s)) in
    omega (arith, length-drop 1 s)

pub head_within : (s : List ℕ) → (head_of s).len ≤ max 1 (length s)
unfolding head_of
head_within s = head_fits s refl refl

-- both of two tests
module _ (x y : Bool) (e : x && y ≡ true) where
  both_0 : x ≡ true
  both_0 = t_is x (and_0 x y (is_t e))

  both_1 : y ≡ true
  both_1 = t_is y (and_1 x y (is_t e))

sign_some : (s : List ℕ) → begins_sign s ≡ true → 1 ≤ length s
sign_some [] e = absurd (is_t {x = false} e)
sign_some (b ∷ s) e = omega arith

letter_some : (s : List ℕ) → starts_with (bytes "i") s ≡ true → 1 ≤ length s
letter_some [] e = absurd (is_t {x = false} e)
letter_some (b ∷ s) e = omega arith

pub change_some : (s : List ℕ) → begins_change s ≡ true → (1 ≤ length s) × ((head_of s).len ≤ length s)
unfolding begins_change
change_some s e =
    let a = sign_some s (both_0 (begins_sign s) (not (starts_with (bytes "i") (behind s))) e) in
    (a, omega (arith, head_within s))

-- the `i` stands behind sign and count
pub isotope_some : (s : List ℕ) → begins_isotope s ≡ true → (1 ≤ length s) × ((head_of s).len + 1 ≤ length s)
unfolding begins_isotope
isotope_some s e =
    let a = sign_some s (both_0 (begins_sign s) (starts_with (bytes "i") (behind s)) e) in
    let b = letter_some (behind s) (both_1 (begins_sign s) (starts_with (bytes "i") (behind s)) e) in
    (a, omega (arith, length-drop (head_of s).len s))

-- ---- texts in braces, names in brackets

-- a part is no longer than its text
pub record Within (c : Enclosed) (s : List ℕ) : Type 0 where
  pub len : c.len ≤ length s
  pub size : c.size ≤ length s

closed_in : (n : ℕ) (s : List ℕ) → n ≤ length (drop 1 s) → (end : ℕ) (f : Option Refusal) (t : Bool) → Within (cond t (enclosed_of n (length s) end f) (nothing f)) s
unfolding enclosed_of
closed_in n s h end f true = record { len = omega arith; size = omega (arith, h, length-drop 1 s) }
closed_in n s h end f false = record { len = omega arith; size = omega arith }

pub text_within : (end : ℕ) (s : List ℕ) (f : Option Refusal) → Within (text_of end s f) s
unfolding text_of
text_within end s f = closed_in (leading_in text_byte (drop 1 s)) s (leading_within text_byte (drop 1 s)) end f (starts_with (bytes "{") s)

pub name_within : (end : ℕ) (s : List ℕ) (f : Option Refusal) → Within (name_of end s f) s
unfolding name_of
name_within end s f = closed_in (name_length (drop 1 s)) s (name_length_within (drop 1 s)) end f (starts_with (bytes "[") s)
