-- What the digits in front of a list are read as. Assumes nothing.
use Prim.Native.Nat.{ℕ, zero, suc, ◌≤◌}
use mathlib.Core.Path.{◌≡◌, refl, ap}
use mathlib.Core.Bool.{Bool, true, false, cond}
use mathlib.Core.List.{List, [], ◌∷◌, ◌++◌}
use native.Mathlib.Omega.{arith}
use native.Mathlib.Nat.{le_refl}
use lib.Dec.{T}
use lib.ListN.{length}
use Rattle.lang.specs.Re.{in_c}
use Rattle.lang.specs.Parts.{all}
use Rattle.lang.proofs.Deriv.{and_0, and_1, and_i}
use Rattle.lang.proofs.Lits.{→in, in→}
use Rattle.lang.proofs.Tests.{t_is}
use Rattle.rules.specs.Bytes.{digit}
use Rattle.rules.specs.Numbers.{digits}
use Rattle.rules.specs.Texts.{first_in}
use Rattle.rules.proofs.Digits as D
use Rattle.numbers.specs.Leading.{leading}

pub leading_silent : (k : List ℕ) → first_in digit k ≡ false → leading k ≡ []
unfolding leading
leading_silent [] e = refl
leading_silent (b ∷ k) e = rw e

pub leading_read : (w k : List ℕ) → T (all digit w) → first_in digit k ≡ false → leading (w ++ k) ≡ w
unfolding leading
leading_read [] k t e = leading_silent k e
leading_read (b ∷ w) k t e =
    let h : in_c digit b ≡ true = t_is (in_c digit b) (and_0 (in_c digit b) (all digit w) t) in
    rw h (ap (λ (l : List ℕ). b ∷ l) (leading_read w k (and_1 (in_c digit b) (all digit w) t) e))

pub leading_within : (s : List ℕ) → length (leading s) ≤ length s
unfolding leading
leading_within [] = le_refl 0
leading_within (b ∷ s) = go (in_c digit b) (leading_within s)
  where
    go : (t : Bool) → length (leading s) ≤ length s → length (cond t (b ∷ leading s) []) ≤ suc (length s)
    go true h = omega arith
    go false h = omega arith

pub all_digits_lem : (n : ℕ) → T (all digit (digits n))
all_digits_lem zero = rw (D.digits_small 0 (omega arith)) tt
all_digits_lem (suc n) =
    let l = D.leading (suc n) (omega arith) in
    let g = in→ 49 57 l.first l.nonzero in
    rw l.is (and_i (in_c digit l.first) (all digit l.rest) (→in 48 57 l.first (omega arith) (omega arith)) l.others)
