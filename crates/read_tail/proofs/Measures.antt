-- How far a charge, a deviation and a confidence go. Assumes nothing.
use Prim.Native.Nat.{ℕ, ◌+◌, ◌≤◌, ◌<◌, max}
use mathlib.Core.Path.{◌≡◌, refl, sym, ◌∙◌}
use mathlib.Core.Bool.{Bool, true, false, ◌&&◌}
use mathlib.Core.List.{List, [], ◌∷◌}
use native.Mathlib.Omega.{arith}
use lib.Dec.{eqb, ltb}
use lib.ListN.{length, drop, length-drop}
use borrow.Author.Tests.{ltb-true, ltb-false}
use Rattle.lang.proofs.Tests.{not_t}
use Rattle.rules.specs.Bytes.{bytes}
use Rattle.rules.specs.Texts.{starts_with}
use Rattle.numbers.specs.declared.Number.{Number}
use Rattle.numbers.specs.declared.DecimalRead.{DecimalRead}
use Rattle.numbers.specs.declared.FirstByte.{FirstByte}
use Rattle.numbers.specs.Leading.{number_of}
use Rattle.numbers.specs.Points.{decimal_of}
use Rattle.numbers.proofs.SpelledNumbers.{number_within, decimal_within}
use Rattle.read_tail.specs.Decimals.{digit_at}

-- behind the first bytes stands a number or a decimal
module _ (s : List ℕ) (i : ℕ) {r : List ℕ} (pr : r ≡ drop i s) where
  pub number_fits : {n : Number} → n ≡ number_of r → i + n.len ≤ max i (length s)
  number_fits {n} pn =
      let a : n.len ≤ length (drop i s) = rw (pn, pr) (number_within (drop i s)) in
      omega (arith, length-drop i s)

  pub decimal_fits : (first : FirstByte) {d : DecimalRead} → d ≡ decimal_of first r → i + d.len ≤ max i (length s)
  decimal_fits first {d} pd =
      let a : d.len ≤ length (drop i s) = rw (pd, pr) (decimal_within first (drop i s)) in
      omega (arith, length-drop i s)

pub size_small : (m : Bool) → digit_at m ≤ 2
size_small true = omega arith
size_small false = omega arith

-- ---- `ppm`

module _ (s : List ℕ) where
  ppm_short : length s < 3 → false ≡ starts_with (bytes "ppm") s
  ppm_short h = go s h
    where
      and_false : (x : Bool) → false ≡ (x && false)
      and_false true = refl
      and_false false = refl

      go : (s : List ℕ) → length s < 3 → false ≡ starts_with (bytes "ppm") s
      go [] h = refl
      go (a ∷ []) h = and_false (eqb 112 a)
      go (a ∷ b ∷ []) h = rw (← and_false (eqb 112 b)) (and_false (eqb 112 a))
      go (a ∷ b ∷ d ∷ s) h = absurd (omega arith)

ppm_long : (t : List ℕ) → starts_with (bytes "ppm") t ≡ true → 3 ≤ length t
ppm_long t e = by (ltb (length t) 3) refl
  where
    by : (x : Bool) → ltb (length t) 3 ≡ x → 3 ≤ length t
    by true p = absurd (not_t {x = true} (sym (ppm_short t (ltb-true (length t) 3 p) ∙ e)) tt)
    by false p = ltb-false (length t) 3 p

pub ppm_fits : (s : List ℕ) (i : ℕ) {r : List ℕ} → r ≡ drop i s → starts_with (bytes "ppm") r ≡ true → i + 3 ≤ length s
ppm_fits s i {r} pr e = omega (arith, length-drop i s, ppm_long (drop i s) (rw pr at e))
