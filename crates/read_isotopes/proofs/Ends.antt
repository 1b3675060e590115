-- Where isotopes end. Assumes nothing.
use Prim.Native.Nat.{ℕ, ◌≤◌}
use mathlib.Core.Path.{◌≡◌, refl}
use mathlib.Core.Bool.{Bool, true, false, ◌||◌}
use mathlib.Core.List.{List, [], ◌∷◌}
use native.Mathlib.Omega.{arith}
use borrow.Author.Tests.{ne_eqb}
use Rattle.lang.specs.Re.{Rng, rng, in_rng, in_c}
use Rattle.lang.specs.Mark.{In, here, later}
use Rattle.lang.proofs.Tests.{is_t, not_t}
use Rattle.lang.proofs.Ranges.{range_in}
use Rattle.rules.specs.Bytes.{bytes, ◌to◌, digit}
use Rattle.rules.specs.Texts.{first_in, starts_with}
use Rattle.elements.specs.Symbols.{small}
use Rattle.read_opening.specs.Heads.{begins_sign, begins_isotope}
use Rattle.read_opening.proofs.SpelledOpenings.{no_sign}

-- the bytes that may go on with isotopes
abbrev pub goes_on : List Rng
goes_on = "+" to "+" ∷ "-" to "-" ∷ "0" to "9" ∷ "A" to "Z" ∷ "a" to "z" ∷ []

-- what follows isotopes does not go on with them
abbrev pub EndsIsotopes : List ℕ → Type 0
EndsIsotopes k = first_in goes_on k ≡ false

-- ---- classes of bytes

neither_0 : (x y : Bool) → x || y ≡ false → x ≡ false
neither_0 true y e = e
neither_0 false y e = refl

neither_1 : (x y : Bool) → x || y ≡ false → y ≡ false
neither_1 true y e = absurd (not_t {x = true} e tt)
neither_1 false y e = e

-- not in a class, so in no range of it
range_not : (c : List Rng) (g : Rng) (b : ℕ) → In g c → in_c c b ≡ false → in_rng g b ≡ false
range_not [] r b i e = elim i [ ]
range_not (g ∷ c) r b here e = neither_0 (in_rng g b) (in_c c b) e
range_not (g ∷ c) r b (later i) e = range_not c r b i (neither_1 (in_rng g b) (in_c c b) e)

first_not : (c : List Rng) (g : Rng) (k : List ℕ) → In g c → first_in c k ≡ false → first_in (g ∷ []) k ≡ false
first_not c g [] i e = refl
first_not c g (b ∷ k) i e = rw (range_not c g b i e)

-- no byte of a range, so not this one
starts_not : (lo hi a : ℕ) → lo ≤ a → a ≤ hi → (k : List ℕ) → first_in (rng lo hi ∷ []) k ≡ false → starts_with (a ∷ []) k ≡ false
starts_not lo hi a h g [] e = refl
starts_not lo hi a h g (b ∷ k) e = rw (ne_eqb a b (λ q. not_t {x = in_c (rng lo hi ∷ []) b} e (is_t (range_in lo hi b (omega arith) (omega arith)))))

-- ---- what does not follow

module _ (k : List ℕ) (e : EndsIsotopes k) where
  pub ends_digit : first_in digit k ≡ false
  ends_digit = first_not goes_on ("0" to "9") k (later (later here)) e

  pub ends_small : first_in small k ≡ false
  ends_small = first_not goes_on ("a" to "z") k (later (later (later (later here)))) e

  pub ends_average : starts_with (bytes "A") k ≡ false
  ends_average = starts_not 65 90 65 (omega arith) (omega arith) k (first_not goes_on ("A" to "Z") k (later (later (later here))) e)

  pub ends_sign : begins_sign k ≡ false
  ends_sign =
      rw (
        starts_not 43 43 43 (omega arith) (omega arith) k (first_not goes_on ("+" to "+") k here e),
        starts_not 45 45 45 (omega arith) (omega arith) k (first_not goes_on ("-" to "-") k (later here) e),
      )

  pub ends_isotope : begins_isotope k ≡ false
  ends_isotope = (no_sign k ends_sign).1
