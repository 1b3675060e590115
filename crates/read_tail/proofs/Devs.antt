-- What is read of a deviation and of a confidence, from what their parts tell. Assumes nothing.
use Prim.Native.Nat.{ℕ, ◌+◌, ◌-◌}
use mathlib.Core.Path.{◌≡◌}
use mathlib.Core.Bool.{Bool, true, false}
use mathlib.Core.List.{List}
use lib.ListN.{length, drop}
use Rattle.std.specs.Prelude.{Option}
use Rattle.rules.specs.Bytes.{bytes}
use Rattle.rules.specs.Texts.{starts_with}
use Rattle.numbers.specs.declared.DecimalRead.{DecimalRead}
use Rattle.numbers.specs.declared.FirstByte.TheVariants.{Digit, DigitOrPoint}
use Rattle.numbers.specs.Points.{decimal_of}
use Rattle.faults.specs.declared.Refusal.{Refusal}
use Rattle.read_tail.specs.declared.PartKind.TheVariants.{Plain, Ppm}
use Rattle.read_tail.specs.declared.DecimalPart.{DecimalPart}
use Rattle.read_tail.specs.Decimals.{part_of, digit_at, deviation_of, confidence_of}

module _ (s : List ℕ) (end : ℕ) (f : Option Refusal) (h : starts_with (bytes "/") s ≡ true) {m : Bool} {at : ℕ} {r q : List ℕ} {d : DecimalRead} {l place : ℕ} {a : DecimalPart}
    (pm : m ≡ starts_with (bytes "-") (drop 1 s)) (pat : at ≡ digit_at m) (pr : r ≡ drop at s) (pd : d ≡ decimal_of Digit r) (pq : q ≡ drop (at + d.len) s)
    (pl : l ≡ length s - at) (pp : place ≡ end - l) where
  pub in_ppm : starts_with (bytes "ppm") q ≡ true → a ≡ part_of d.made Ppm m false (at + d.len + 3) place f → a ≡ deviation_of end s f
  unfolding deviation_of
  in_ppm e pa = rw (h, ← pm, ← pat, ← pr, ← pd, ← pq, e, pa, pp, pl)

  pub in_units : starts_with (bytes "ppm") q ≡ false → a ≡ part_of d.made Plain m false (at + d.len) place f → a ≡ deviation_of end s f
  unfolding deviation_of
  in_units e pa = rw (h, ← pm, ← pat, ← pr, ← pd, ← pq, e, pa, pp, pl)

module _ (s : List ℕ) (end : ℕ) (f : Option Refusal) (h : starts_with (bytes "*") s ≡ true) {bare : Bool} {t : List ℕ} {d : DecimalRead} {at l place : ℕ} {a : DecimalPart}
    (pt : t ≡ drop 1 s) (pb : bare ≡ starts_with (bytes ".") t) (pat : at ≡ digit_at bare) (pd : d ≡ decimal_of DigitOrPoint t) (pl : l ≡ length s - at) (pp : place ≡ end - l) where
  pub with_star : a ≡ part_of d.made Plain false bare (1 + d.len) place f → a ≡ confidence_of end s f
  unfolding confidence_of
  with_star pa = rw (h, ← pt, ← pb, ← pd, pa, pp, pl, pat)
