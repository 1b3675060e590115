-- Where an ion ends. Assumes nothing.
use Prim.Native.Nat.{ℕ}
use mathlib.Core.Path.{◌≡◌, refl}
use mathlib.Core.Bool.{true, false, not, ◌||◌}
use mathlib.Core.List.{List, [], ◌∷◌, ◌++◌}
use Rattle.lang.specs.Parts.{Opt, silent, written, opt_text}
use Rattle.lang.proofs.Deriv.{and_1}
use Rattle.lang.proofs.Tests.{t_is}
use Rattle.rules.specs.Bytes.{bytes, digit}
use Rattle.rules.specs.Texts.{first_in, starts_with, is_name, Text, Modification, braced_text, bracket_text}
use Rattle.rules.specs.Losses.{Sign, minus, plus, sign_text}
use Rattle.read_ion.specs.Kinds.{opens_modification}

-- what follows an ion does not go on with it
pub record EndsIon (k : List ℕ) : Type 0 where
  pub no_digit : first_in digit k ≡ false
  pub no_brace : starts_with (bytes "{") k ≡ false
  pub no_modification : opens_modification k ≡ false

-- an adduct follows
pub ends_adduct : (g : Sign) (k : List ℕ) → EndsIon (bytes "[M" ++ (sign_text g ++ k))
unfolding opens_modification
ends_adduct minus k = record { no_digit = refl; no_brace = refl; no_modification = refl }
ends_adduct plus k = record { no_digit = refl; no_brace = refl; no_modification = refl }

-- nothing that can go on with an ion follows
pub ends_other : (k : List ℕ) → first_in digit k ≡ false → starts_with (bytes "{") k ≡ false → starts_with (bytes "[") k ≡ false → EndsIon k
unfolding opens_modification
ends_other k d b e = record { no_digit = d; no_brace = b; no_modification = rw e }

-- behind a number stands a text, or the end
pub text_no_digit : (t : Opt Text) (k : List ℕ) → first_in digit k ≡ false → first_in digit (opt_text braced_text t ++ k) ≡ false
text_no_digit silent k e = e
text_no_digit (written t) k e = refl

-- ---- a modification is none of what may follow

-- the bracket behind a name is no part of `M+` or `M-`
plus_in : (w k : List ℕ) → starts_with (bytes "M+") ((w ++ bytes "]") ++ k) ≡ starts_with (bytes "M+") w
plus_in [] k = refl
plus_in (a ∷ []) k = refl
plus_in (a ∷ b ∷ w) k = refl

minus_in : (w k : List ℕ) → starts_with (bytes "M-") ((w ++ bytes "]") ++ k) ≡ starts_with (bytes "M-") w
minus_in [] k = refl
minus_in (a ∷ []) k = refl
minus_in (a ∷ b ∷ w) k = refl

pub opens_written : (m : Modification) (k : List ℕ) → opens_modification (bracket_text m ++ k) ≡ true
unfolding opens_modification
opens_written m k =
    let w = m.bytes in
    let g = t_is (not (starts_with (bytes "M+") w || starts_with (bytes "M-") w)) (and_1 (is_name w) (not (starts_with (bytes "M+") w || starts_with (bytes "M-") w)) m.good) in
    rw (plus_in w k, minus_in w k) g
