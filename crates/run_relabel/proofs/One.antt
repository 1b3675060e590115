-- Two answers that meet a contract of this crate are equal. Assumes nothing.
use mathlib.Core.Path.{◌≡◌, sym, ◌∙◌}
use mathlib.Core.List.{List}
use Prim.Native.Nat.{ℕ}
use native.Mathlib.Decide.{ℕ_discrete}
use Rattle.put_bytes.proofs.One.{put_one}
use Rattle.answers.specs.Delivered.{Answer, number_in}
use Rattle.run_relabel.specs.AnswerPut.{AnswerPut}

pub answer_put_one : {d e f : List ℕ} {at r q : ℕ} {a : Answer} → AnswerPut d at a e r → AnswerPut d at a f q → (e ≡ f) × (r ≡ q)
answer_put_one {e = e} {f = f} {r = r} {q = q} {a = a} x y = by (ℕ_discrete (number_in a) 0)
  where
    by : Dec (number_in a ≡ 0) → (e ≡ f) × (r ≡ q)
    by (yes z) = (x.spelled z ∙ sym (y.spelled z), x.behind z ∙ sym (y.behind z))
    by (no z) = put_one (x.refused z) (y.refused z)
