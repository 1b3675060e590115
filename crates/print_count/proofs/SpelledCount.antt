-- The sign and the count of a spelled loss, adduct item or isotope, in preferred spelling. Assumes nothing.
use Prim.Native.Nat.{ℕ, ◌<◌}
use mathlib.Core.Path.{◌≡◌, refl, ap₂}
use mathlib.Core.Bool.{Bool, true, false, cond}
use mathlib.Core.List.{List, [], ◌++◌}
use native.Mathlib.Omega.{arith}
use lib.Dec.{leb, leb→le}
use borrow.Author.Tests.{lt-leb}
use Rattle.lang.specs.Parts.{Opt, silent, written, opt_text}
use Rattle.rules.specs.Numbers.{digits, From, Number, number_text}
use Rattle.rules.specs.Formulas.{written_text}
use Rattle.rules.specs.Losses.{Sign, minus, plus, sign_text}
use Rattle.rules.specs.Preferred.{shortened, count_or1}
use Rattle.changes.proofs.Signs.{sign_read}
use Rattle.print_count.specs.Heads.{sign_bytes, count_text, head_text}

pub sign_text_lem : (s : Sign) → sign_bytes (sign_read s) ≡ sign_text s
sign_text_lem minus = refl
sign_text_lem plus = refl

-- the count of a loss, of which no 1 is written
pub count_text_lem : (c : Opt (From 2)) → count_text (count_or1 c) ≡ opt_text number_text c
unfolding count_text
count_text_lem silent = refl
count_text_lem (written n) = let h : 1 < n.value = omega (arith, leb→le 2 n.value n.least) in rw (lt-leb n.value 1 h)

-- any other
pub number_text_lem : (n : Number) → count_text n.value ≡ written_text (shortened n)
unfolding count_text
number_text_lem n = by (leb n.value 1)
  where
    by : (t : Bool) → cond t [] (digits n.value) ≡ written_text (elim t [ true ↦ silent | false ↦ written n ])
    by true = refl
    by false = refl

pub head_text_lem : (s : Sign) (count : ℕ) {c : List ℕ} → count_text count ≡ c → head_text (sign_read s) count ≡ sign_text s ++ c
head_text_lem s count e = ap₂ (λ (a b : List ℕ). a ++ b) (sign_text_lem s) e
