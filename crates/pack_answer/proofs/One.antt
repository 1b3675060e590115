-- Two results that meet what is said of a call are equal, where the rules fix its answer. Assumes nothing.
use Prim.Native.Nat.{ℕ}
use mathlib.Core.Path.{◌≡◌, refl, ap}
use native.Mathlib.Omega.{arith}
use Rattle.rules.specs.Answers.{Answer}
use Rattle.pack_answer.specs.Handed.{Handed, done, Hands, too_few, packs}

-- where the rules fix the answer, they fix what the caller has
pub hands_one : {Answers : Answer → Type 0} {room n : ℕ} {x y : Handed} → ((a b : Answer) → Answers a → Answers b → a ≡ b)
    → Hands Answers room n x → Hands Answers room n y → x ≡ y
hands_one one (too_few h) (too_few g) = refl
hands_one one (too_few h) (packs g y i) = absurd (omega arith)
hands_one one (packs h x i) (too_few g) = absurd (omega arith)
hands_one {n = n} one (packs h x i) (packs g y j) = ap (λ (a : Answer). done a.number a.place a.size a.out n) (one _ _ x y)
