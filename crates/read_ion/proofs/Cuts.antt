-- What is read of the letters of an internal ion that are spelled, or left out, where a digit follows. Assumes nothing.
use Prim.Native.Nat.{ℕ, ◌+◌, ◌-◌, ◌*◌, ◌≤◌}
use mathlib.Core.Path.{◌≡◌, refl, ap}
use mathlib.Core.Bool.{Bool, true, false, cond}
use mathlib.Core.List.{List, [], ◌∷◌, ◌++◌, map}
use native.Mathlib.Omega.{arith}
use lib.Dec.{T, eqb, ltb, eqb→eq, ltb→lt}
use lib.ListN.{length, get_or}
use borrow.Author.Tests.{lt-ltb, ltb-true}
use Rattle.std.specs.Prelude.{Option, Some, None}
use Rattle.std.specs.Option.{unwrap_or}
use Rattle.std.proofs.lemmas.Option.{none-some}
use Rattle.lang.specs.Parts.{silent, written, opt_text, word_of}
use Rattle.lang.proofs.Tests.{is_t}
use Rattle.lang.proofs.Machine.{all→}
use Rattle.lang.proofs.Ranges.{in_range}
use Rattle.rules.specs.Bytes.{bytes, digit}
use Rattle.rules.specs.Texts.{first_in}
use Rattle.rules.specs.Ions.{cleavage_names, Cleavage, Letters}
use Rattle.rules.specs.Fields.{filled_cut}
use Rattle.rules.specs.Stored.{held_cut}
use Rattle.read_ion.specs.Cuts.{place_in, held_of, cut_with, cut_of}

-- no place is before the first or past the third
pub place_small : (b first n : ℕ) → place_in b first ≡ Some n → (1 ≤ n) × (n ≤ 3)
unfolding place_in
place_small b first n = by (ltb b first) (ltb (b - first) 3) refl
  where
    by : (x y : Bool) → ltb (b - first) 3 ≡ y → ◌≡◌ {A = Option ℕ} (cond x None (cond y (Some (b - first + 1)) None)) (Some n) → (1 ≤ n) × (n ≤ 3)
    by true y e p = absurd (none-some n p)
    by false true e p = let h = ltb-true (b - first) 3 e in let q : b - first + 1 ≡ n = ap (λ (o : Option ℕ). unwrap_or o 0) p in (omega arith, omega arith)
    by false false e p = absurd (none-some n p)

pub place_few : (b first : ℕ) → unwrap_or (place_in b first) 0 ≤ 3
place_few b first = by (place_in b first) refl
  where
    by : (o : Option ℕ) → place_in b first ≡ o → unwrap_or o 0 ≤ 3
    by None e = omega arith
    by (Some n) e = (place_small b first n e).1

-- ---- what is computed of the nine words

abbrev is_held : ℕ → Option ℕ → ℕ → Bool
is_held h None b = false
is_held h (Some a) b = eqb (held_of (3 * (a - 1) + b)) h

abbrev is_cut : ℕ → List ℕ → Bool
is_cut h [] = false
is_cut h (a ∷ []) = false
is_cut h (a ∷ b ∷ []) = is_held h (place_in a 120) (unwrap_or (place_in b 97) 0)
is_cut h (a ∷ b ∷ d ∷ w) = false

placed : (c : Cleavage) → T (is_cut (held_cut c) (word_of c))
unfolding place_in held_of
placed c =
    all→ (λ w. is_cut (elim (eqb w 4) [ true ↦ 0 | false ↦ w + 1 ]) (get_or (map bytes cleavage_names) w [])) 9 tt c.which (ltb→lt c.which 9 c.known)

-- ---- what follows from it

cut_is : (h : ℕ) (o : Option ℕ) (b : ℕ) → T (is_held h o b) → cut_with o b ≡ record { held = h; len = 2 }
cut_is h None b t = absurd t
cut_is h (Some a) b t = ap (λ (n : ℕ). record { held = n; len = 2 }) (eqb→eq (held_of (3 * (a - 1) + b)) h t)

cut_in : (h : ℕ) (w k : List ℕ) → T (is_cut h w) → cut_of (w ++ k) ≡ record { held = h; len = length w }
unfolding cut_of
cut_in h [] k t = absurd t
cut_in h (a ∷ []) k t = absurd t
cut_in h (a ∷ b ∷ []) k t = cut_is h (place_in a 120) (unwrap_or (place_in b 97) 0) t
cut_in h (a ∷ b ∷ d ∷ w) k t = absurd t

cut_none : (k : List ℕ) → first_in digit k ≡ true → cut_of k ≡ record { held = 0; len = 0 }
unfolding cut_of place_in
cut_none [] e = absurd (is_t {x = false} e)
cut_none (d ∷ k) e = let r = in_range 48 57 d e in rw (lt-ltb d 120 (omega arith))

pub cut_read : (c : Letters) (k : List ℕ) → first_in digit k ≡ true → cut_of (opt_text word_of c ++ k) ≡ record { held = held_cut (filled_cut c); len = length (opt_text word_of c) }
cut_read silent k e = cut_none k e
cut_read (written c) k e = cut_in (held_cut c) (word_of c) k (placed c)

-- ---- what the code finds, call by call

module _ (s : List ℕ) {x : ℕ} {o : Option ℕ} (px : x ≡ get_or s 0 0) (po : o ≡ place_in x 120) where
  pub cut_nothing : o ≡ None → record { held = 0; len = 0 } ≡ cut_of s
  unfolding cut_of
  cut_nothing z = rw (← px, ← po, z)

  pub cut_letters : {y a b h : ℕ} {p : Option ℕ} → y ≡ get_or s 1 0 → p ≡ place_in y 97 → b ≡ unwrap_or p 0 → o ≡ Some a → h ≡ held_of (3 * (a - 1) + b) → record { held = h; len = 2 } ≡ cut_of s
  unfolding cut_of
  cut_letters py pp pb z ph = rw (ph, ← px, ← po, z, ← py, ← pp, ← pb)
