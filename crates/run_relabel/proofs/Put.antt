-- The place behind an answer that was put, or that stands already. Assumes nothing.
use Prim.Native.Nat.{ℕ, ◌+◌, ◌^◌, ◌<◌, min}
use native.Mathlib.Omega.{arith}
use mathlib.Core.Path.{◌≡◌, refl, sym, subst}
use mathlib.Core.List.{List}
use lib.ListN.{length}
use Rattle.std.specs.Prelude.{Ok, Err}
use Rattle.put_bytes.specs.Puts.{Put}
use Rattle.faults.specs.declared.Refusal.{Refusal}
use Rattle.answers.specs.Delivered.{Answer}
use Rattle.answers.proofs.One.{number_not_0}
use Rattle.io_answers.specs.Tells.{refusal_text}
use Rattle.run_relabel.specs.AnswerPut.{AnswerPut}

pub answer_refused : {d e : List ℕ} {at r : ℕ} {a : Answer} {x : Refusal} → a ≡ Err x → x.place < 2 ^ 64 → Put d at (refusal_text x) e r → AnswerPut d at a e r
answer_refused {d} {e} {at} {r} {a} {x} h s p =
    let no : AnswerPut d at (Err x) e r = record { refused = λ n. p; spelled = λ n. absurd (number_not_0 x.why n); short = s; behind = λ n. absurd (number_not_0 x.why n) } in
    subst (λ (y : Answer). AnswerPut d at y e r) (sym h) no

pub answer_spelled : {d : List ℕ} {at r n : ℕ} {a : Answer} → a ≡ Ok n → r ≡ min (at + n) (length d) → AnswerPut d at a d r
answer_spelled {d} {at} {r} {n} {a} h q =
    let yes : AnswerPut d at (Ok n) d r = record { refused = λ z. absurd (z refl); spelled = λ z. refl; short = omega arith; behind = λ z. q } in
    subst (λ (y : Answer). AnswerPut d at y d r) (sym h) yes
