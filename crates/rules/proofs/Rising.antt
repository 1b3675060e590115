-- The broken limits of numbers, decimals and texts lie within their own bytes; so do those of parts that may be left out,
-- of parts one after the other, and of things in a row. Assumes nothing.
use Prim.Native.Nat.{ℕ, ◌+◌, ◌<◌, ◌≤◌}
use mathlib.Core.Path.{◌≡◌, refl}
use mathlib.Core.Bool.{Bool}
use mathlib.Core.List.{List, [], ◌∷◌, ◌++◌}
use native.Mathlib.Omega.{arith}
use native.Mathlib.Nat.{le_refl}
use lib.Dec.{ltb→lt}
use lib.ListN.{length, length-append}
use Rattle.lang.specs.Parts.{Opt, silent, written, opt_text, flat, Such}
use Rattle.lang.specs.Mark.{Mark, Part, marks_of}
use Rattle.lang.proofs.Rising as R
use Rattle.lang.proofs.Rising.{room, rise_none, rise_one, rise_first, rise_wide, rise_append, parts_rise}
use Rattle.rules.specs.Bytes.{bytes}
use Rattle.rules.specs.Numbers.{digits, From}
use Rattle.rules.specs.Decimals.{Decimal, whole, point_text, decimal_text}
use Rattle.rules.specs.Texts.{braced_text, bracket_text}
use Rattle.rules.specs.Limits.{max_text, number_mark, many_mark, decimal_mark}
use Rattle.rules.specs.Limits.{bare, opt_part, number_part, decimal_part, row_marks, row_part, closed_part}
use Rattle.rules.proofs.Digits.{digits_some}

-- the number of a limit is 4 or 5
abbrev pub Rises : ℕ → ℕ → List Mark → Type 0
Rises lo hi ms = R.Rises 4 5 lo hi ms

abbrev pub Fits : Part → Type 0
Fits p = R.Fits 4 5 p

abbrev pub AllFit : List Part → Type 0
AllFit ps = R.AllFit 4 5 ps

-- ---- one mark

pub bare_fits : (w : List ℕ) → Fits (bare w)
bare_fits w = record { rises = λ at. rise_none }

pub number_rises : (bound n at hi : ℕ) → at < hi → Rises at hi (number_mark bound n at)
number_rises bound n at hi h = rise_one (λ t. record { above = le_refl at; below = h; least = omega arith; number = omega arith })

pub decimal_rises : (d : Decimal) (at hi : ℕ) → at < hi → Rises at hi (decimal_mark d at)
decimal_rises d at hi h = rise_one (λ t. record { above = le_refl at; below = h; least = omega arith; number = omega arith })

pub number_fits : {m : ℕ} (bound : ℕ) (n : From m) → Fits (number_part bound n)
number_fits bound n = record { rises = λ at. number_rises bound n.value at _ (omega (arith, digits_some n.value)) }

pub decimal_some : (d : Decimal) → 0 < length (decimal_text d)
decimal_some d =
    let w = whole d.places d.value in
    omega (arith, length-append (digits w) (point_text d.places d.value), digits_some w)

pub decimal_fits : (d : Decimal) → Fits (decimal_part d)
decimal_fits d = record { rises = λ at. decimal_rises d at _ (omega (arith, decimal_some d)) }

-- where the limit of a text is broken the text has its 256th byte, and the place lies in it
closed_fits : {f : List ℕ → Bool} (text : Such f → List ℕ) (t : Such f) → length t.bytes < length (text t) → Fits (closed_part text t)
closed_fits text t h =
    record {
      rises = λ at. rise_one (λ b.
          let l = ltb→lt max_text (length t.bytes) b in
          record { above = omega arith; below = omega arith; least = omega arith; number = omega arith });
    }

pub braced_fits : {f : List ℕ → Bool} (t : Such f) → Fits (closed_part braced_text t)
braced_fits t = closed_fits braced_text t (omega (arith, length-append t.bytes (bytes "}")))

pub bracket_fits : {f : List ℕ → Bool} (t : Such f) → Fits (closed_part bracket_text t)
bracket_fits t = closed_fits bracket_text t (omega (arith, length-append t.bytes (bytes "]")))

-- ---- what may be left out, parts, rows

pub opt_fits : {A : Type 0} (f : A → Part) → ((x : A) → Fits (f x)) → (o : Opt A) → Fits (opt_part f o)
opt_fits f h silent = bare_fits []
opt_fits f h (written x) = h x

pub opt_length : {A : Type 0} (f : A → Part) (o : Opt A) → length (opt_part f o).text ≡ length (opt_text (λ x. (f x).text) o)
opt_length f silent = refl
opt_length f (written x) = refl

-- parts with which a text of n bytes begins
pub parts_within : {ps : List Part} → AllFit ps → (at n : ℕ) → room ps ≤ n → Rises at (at + n) (marks_of at ps)
parts_within {ps} f at n h = let k : at + room ps ≤ at + n = omega arith in rise_wide (le_refl at) k (parts_rise f at)

-- a limit on how many there are, at the first byte of one of them, and then its own limits
pub many_first : (bound i at n : ℕ) {ms : List Mark} → 0 < n → Rises at (at + n) ms → Rises at (at + n) (many_mark bound i at ∷ ms)
many_first bound i at n h r = rise_first refl (omega arith) refl (omega arith) r

-- things in a row, each with its limits in its own text
module _ {A : Type 0} (text : A → List ℕ) (marks : ℕ → A → ℕ → List Mark)
    (each : (i : ℕ) (x : A) (at : ℕ) → Rises at (at + length (text x)) (marks i x at)) where
  pub row_rises : (i : ℕ) (xs : List A) (at : ℕ) → Rises at (at + length (flat text xs)) (row_marks text marks i xs at)
  row_rises i [] at = rise_none
  row_rises i (x ∷ xs) at =
      let mid = at + length (text x) in
      let e = length-append (text x) (flat text xs) in
      let a : at ≤ mid = omega arith in
      let b : mid ≤ at + length (text x ++ flat text xs) = omega arith in
      let c : mid + length (flat text xs) ≤ at + length (text x ++ flat text xs) = omega arith in
      rise_append a b (each i x at) (rise_wide (le_refl mid) c (row_rises (i + 1) xs mid))

  pub row_fits : (xs : List A) → Fits (row_part text marks xs)
  row_fits xs = record { rises = row_rises 0 xs }
