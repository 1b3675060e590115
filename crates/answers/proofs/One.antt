-- Two answers that meet a contract of this crate are equal. Assumes nothing.
use Prim.Native.Nat.{ℕ}
use mathlib.Core.Path.{◌≡◌, sym, ap, ap₂, ◌∙◌}
use mathlib.Core.List.{List, ◌++◌}
use lib.ListN.{take-append-drop}
use Rattle.std.specs.Prelude.{Ok, Err}
use Rattle.faults.specs.declared.Why.{Why}
use Rattle.faults.specs.declared.Refusal.{Refusal}
use Rattle.faults.specs.Refusals.{number_of, why_of}
use Rattle.faults.proofs.Refusals.{why_of_number}
use native.Mathlib.Omega.{arith}
use Rattle.rules.specs.Answers as rules
use Rattle.answers.specs.Delivered.{Answer, number_in, place_in, size_in, answered}
use Rattle.answers.specs.Behind.{Behind}

-- a refusal is not numbered 0
pub number_not_0 : (w : Why) → number_of w ≡ 0 → ⊥
number_not_0 w e = let n : number_of w ≡ 9 = ap number_of (sym (why_of_number w) ∙ ap why_of e) in absurd (omega (arith, n, e))

pub why_one : (w v : Why) → number_of w ≡ number_of v → w ≡ v
why_one w v e = sym (why_of_number w) ∙ ap why_of e ∙ why_of_number v

refusal_one : (x y : Refusal) → x.why ≡ y.why → x.place ≡ y.place → x ≡ y
refusal_one x y w p = λ i. record { why = w i; place = p i }

-- the numbers of an answer fix it
pub answer_one : (r q : Answer) → number_in r ≡ number_in q → place_in r ≡ place_in q → size_in r ≡ size_in q → r ≡ q
answer_one (Ok n) (Ok m) w p s = ap Ok s
answer_one (Ok n) (Err y) w p s = absurd (number_not_0 y.why (sym w))
answer_one (Err x) (Ok m) w p s = absurd (number_not_0 x.why w)
answer_one (Err x) (Err y) w p s = ap Err (refusal_one x y (why_one x.why y.why w) p)

-- the answer of the paper fixes the output and the code's answer
pub answered_one : {r q : Answer} {e f : List ℕ} → answered r e ≡ answered q f → (e ≡ f) × (r ≡ q)
answered_one {r} {q} x = (
  ap (λ (a : rules.Answer). a.out) x,
  answer_one r q (ap (λ (a : rules.Answer). a.number) x) (ap (λ (a : rules.Answer). a.place) x) (ap (λ (a : rules.Answer). a.size) x),
)

pub behind_one : {at : ℕ} {d e f : List ℕ} {b : rules.Answer} {r q : Answer} → Behind at d e b r → Behind at d f b q → (e ≡ f) × (r ≡ q)
behind_one {at} {e = e} {f = f} x y =
    let z = answered_one (x.is ∙ sym y.is) in
    (sym (take-append-drop at e) ∙ ap₂ (λ (s t : List ℕ). s ++ t) (x.kept ∙ sym y.kept) z.0 ∙ take-append-drop at f, z.1)
