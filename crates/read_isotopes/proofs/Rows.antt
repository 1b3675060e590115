-- A walk over isotopes that are spelled, whatever is gathered on it. Assumes nothing.
use Prim.Native.Nat.{ℕ, ◌+◌}
use mathlib.Core.Path.{◌≡◌, refl, ap, ◌∙◌}
use mathlib.Core.Bool.{true, false}
use mathlib.Core.List.{List, [], ◌∷◌, ◌++◌, append_assoc}
use lib.ListN.{length, drop}
use lib.Seq.{drop-append_seam}
use Rattle.std.specs.Prelude.{Option, None}
use Rattle.lang.specs.Re.{Rng, in_c}
use Rattle.lang.specs.Parts.{flat, word_of}
use Rattle.lang.specs.Walk.{walked, walk, folded}
use Rattle.lang.proofs.Walks.{walk_on, walk_ends, walk_spelled}
use Rattle.rules.specs.Bytes.{bytes}
use Rattle.rules.specs.Texts.{first_in}
use Rattle.rules.specs.Numbers.{number_text}
use Rattle.rules.specs.Formulas.{Written, written_text}
use Rattle.rules.specs.Losses.{Sign, minus, plus, sign_text}
use Rattle.rules.specs.Isotopes.{Shift, shift_text, Specific, specific_text}
use Rattle.elements.specs.Symbols.{small}
use Rattle.faults.specs.declared.Refusal.{Refusal}
use Rattle.read_opening.specs.Heads.{begins_isotope}
use Rattle.read_isotopes.specs.declared.IsotopeRead.{IsotopeRead}
use Rattle.read_isotopes.specs.Isotopes.{isotope_of}
use Rattle.read_isotopes.specs.Rows.{isotope_size}
use Rattle.read_isotopes.proofs.Measures.{isotope_moves}
use Rattle.read_isotopes.proofs.Ends.{EndsIsotopes, ends_small, ends_digit, ends_average, ends_isotope}
use Rattle.read_isotopes.proofs.Spelled.{shift_begins, plain_read, average_read, specific_read, specific_read_lem}

-- ---- what an isotope begins with: a sign

pub shift_first : (c : List Rng) (x : Shift Written) (t : List ℕ) → in_c c 43 ≡ false → in_c c 45 ≡ false → first_in c (shift_text x ++ t) ≡ false
shift_first c x t p m = by x.sign
  where
    by : (g : Sign) → first_in c ((sign_text g ++ (written_text x.count ++ bytes "i")) ++ t) ≡ false
    by minus = m
    by plus = p

module _ (x : Specific Written) (t : List ℕ) where
  pub specific_front : specific_text x ++ t ≡ shift_text x.shift ++ ((number_text x.nucleons ++ word_of x.symbol) ++ t)
  specific_front = append_assoc (shift_text x.shift) (number_text x.nucleons ++ word_of x.symbol) t

  specific_begins : begins_isotope (specific_text x ++ t) ≡ true
  specific_begins = ap begins_isotope specific_front ∙ (shift_begins x.shift ((number_text x.nucleons ++ word_of x.symbol) ++ t)).0

  specific_first : (c : List Rng) → in_c c 43 ≡ false → in_c c 45 ≡ false → first_in c (specific_text x ++ t) ≡ false
  specific_first c p m = ap (first_in c) specific_front ∙ shift_first c x.shift ((number_text x.nucleons ++ word_of x.symbol) ++ t) p m

-- behind an isotope stand isotopes, and then what follows them
pub row_first : (c : List Rng) (xs : List (Specific Written)) (k : List ℕ) → in_c c 43 ≡ false → in_c c 45 ≡ false → first_in c k ≡ false → first_in c (flat specific_text xs ++ k) ≡ false
row_first c [] k p m e = e
row_first c (x ∷ xs) k p m e = ap (first_in c) (append_assoc (specific_text x) (flat specific_text xs) k) ∙ specific_first x (flat specific_text xs ++ k) c p m

pub specific_here : (i end : ℕ) (f : Option Refusal) (x : Specific Written) (xs : List (Specific Written)) (k : List ℕ) → EndsIsotopes k
    → isotope_of i end (specific_text x ++ (flat specific_text xs ++ k)) f ≡ specific_read i end x (length (specific_text x ++ (flat specific_text xs ++ k))) f
specific_here i end f x xs k e = specific_read_lem x (flat specific_text xs ++ k) i end f (row_first small xs k refl refl (ends_small k e))

-- ---- walks

module _ {S : Type 0} (step : S → List ℕ → S) where
  -- nothing
  pub walk_none : (k : List ℕ) (a : S) → EndsIsotopes k → walk begins_isotope isotope_size step k a ≡ walked k a
  walk_none k a e = walk_ends begins_isotope isotope_size step isotope_moves k a (ends_isotope k e)

  -- one
  walk_one : (w k : List ℕ) (a : S) → EndsIsotopes k → begins_isotope (w ++ k) ≡ true → isotope_size (w ++ k) ≡ length w
      → walk begins_isotope isotope_size step (w ++ k) a ≡ walked k (step a (w ++ k))
  walk_one w k a e b l =
      let s = w ++ k in
      walk_on begins_isotope isotope_size step isotope_moves s a b
      ∙ ap (λ (n : ℕ). walk begins_isotope isotope_size step (drop n s) (step a s)) l
      ∙ ap (λ (z : List ℕ). walk begins_isotope isotope_size step z (step a s)) (drop-append_seam w k)
      ∙ walk_none k (step a s) e

  pub walk_plain : (x : Shift Written) (k : List ℕ) (a : S) → EndsIsotopes k → walk begins_isotope isotope_size step (shift_text x ++ k) a ≡ walked k (step a (shift_text x ++ k))
  walk_plain x k a e =
      walk_one (shift_text x) k a e (shift_begins x k).0 (ap (λ (r : IsotopeRead). r.len) (plain_read 0 0 x k None (ends_digit k e) (ends_average k e)))

  pub walk_average : (x : Shift Written) (k : List ℕ) (a : S) → EndsIsotopes k
      → walk begins_isotope isotope_size step ((shift_text x ++ bytes "A") ++ k) a ≡ walked k (step a ((shift_text x ++ bytes "A") ++ k))
  walk_average x k a e =
      walk_one (shift_text x ++ bytes "A") k a e (ap begins_isotope (append_assoc (shift_text x) (bytes "A") k) ∙ (shift_begins x (bytes "A" ++ k)).0)
      (ap (λ (r : IsotopeRead). r.len) (average_read 0 0 x k None))

  -- specific ones in a row
  pub walk_row : (turn : S → Specific Written → ℕ → S)
      → ((a : S) (x : Specific Written) (xs : List (Specific Written)) (k : List ℕ) → EndsIsotopes k → step a (specific_text x ++ (flat specific_text xs ++ k)) ≡ turn a x (length (flat specific_text xs) + length k))
      → (xs : List (Specific Written)) (k : List ℕ) (a : S) → EndsIsotopes k
      → walk begins_isotope isotope_size step (flat specific_text xs ++ k) a ≡ walked k (folded specific_text turn a xs (length k))
  walk_row turn turns =
      walk_spelled begins_isotope isotope_size step isotope_moves specific_text turn EndsIsotopes ends_isotope
      (λ x xs k e. specific_begins x (flat specific_text xs ++ k))
      (λ x xs k e. ap (λ (r : IsotopeRead). r.len) (specific_here 0 0 None x xs k e)) turns
