-- What an ion begins with: no digit, and no `&`. Assumes nothing.
use Prim.Native.Nat.{ℕ, zero, suc, ◌<◌}
use mathlib.Core.Path.{◌≡◌, refl, ap, ◌∙◌}
use mathlib.Core.Bool.{Bool, true, false, ◌&&◌}
use mathlib.Core.List.{List, [], ◌∷◌, ◌++◌, append_assoc}
use native.Mathlib.Omega.{arith}
use native.Mathlib.Nat.{le_of_suc-le-suc, not-suc-le-zero}
use lib.Dec.{T, ltb→lt}
use lib.ListN.{length, get_or}
use borrow.Author.Tests.{ne_eqb}
use Rattle.lang.specs.Re.{Rng, in_c}
use Rattle.lang.specs.Parts.{opt_text, Listed, word_of}
use Rattle.lang.proofs.Tests.{t_is}
use Rattle.lang.proofs.Ranges.{in_range, first_below}
use Rattle.lang.proofs.Deriv.{and_0, and_1}
use Rattle.rules.specs.Bytes.{bytes, ◌to◌, digit}
use Rattle.rules.specs.Texts.{first_in, starts_with, braced_text}
use Rattle.rules.specs.Numbers.{number_text}
use Rattle.rules.specs.Ions.{series, internal, immonium, precursor, reference, named, composed, smiles, unknown, ion_text, SpelledIon}

-- `?` and all letters
abbrev high : List Rng
high = "?" to "z" ∷ []

abbrev all_first : List Rng → List (List ℕ) → Bool
all_first c [] = true
all_first c (w ∷ ws) = first_in c w && all_first c ws

first_append : (c : List Rng) (w k : List ℕ) → T (first_in c w) → first_in c (w ++ k) ≡ true
first_append c [] k t = absurd t
first_append c (b ∷ w) k t = t_is (in_c c b) t

word_at : (c : List Rng) (ws : List (List ℕ)) → T (all_first c ws) → (n : ℕ) → n < length ws → T (first_in c (get_or ws n []))
word_at c [] t n h = absurd (not-suc-le-zero h)
word_at c (w ∷ ws) t zero h = and_0 (first_in c w) (all_first c ws) t
word_at c (w ∷ ws) t (suc n) h = word_at c ws (and_1 (first_in c w) (all_first c ws) t) n (le_of_suc-le-suc h)

word_first : (c : List Rng) (ws : List (List ℕ)) → T (all_first c ws) → (l : Listed ws) (k : List ℕ) → first_in c (word_of l ++ k) ≡ true
word_first c ws t l k = first_append c (word_of l) k (word_at c ws t l.which (ltb→lt l.which (length ws) l.known))

ion_high : (x : SpelledIon) (k : List ℕ) → first_in high (ion_text x ++ k) ≡ true
ion_high (series s n t) k =
    ap (first_in high) (append_assoc (word_of s) (number_text n ++ opt_text braced_text t) k) ∙ word_first high _ tt s ((number_text n ++ opt_text braced_text t) ++ k)
ion_high (internal c m n t) k = refl
ion_high (immonium a m) k = refl
ion_high precursor k = refl
ion_high (reference n) k = refl
ion_high (named t) k = refl
ion_high (composed f) k = refl
ion_high (smiles t) k = refl
ion_high (unknown n) k = refl

pub ion_begins_apart : (x : SpelledIon) (k : List ℕ) → first_in digit (ion_text x ++ k) ≡ false
ion_begins_apart x k = first_below 63 122 48 57 (omega arith) (ion_text x ++ k) (ion_high x k)

high_no_mark : (s : List ℕ) → first_in high s ≡ true → starts_with (bytes "&") s ≡ false
high_no_mark [] e = refl
high_no_mark (b ∷ s) e = let r = in_range 63 122 b e in rw (ne_eqb 38 b (λ q. omega arith))

pub ion_no_mark : (x : SpelledIon) (k : List ℕ) → starts_with (bytes "&") (ion_text x ++ k) ≡ false
ion_no_mark x k = high_no_mark (ion_text x ++ k) (ion_high x k)
