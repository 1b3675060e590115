-- What is printed of an answer: the refusal, or nothing more where the spelling stands already. Assumes nothing.
use Rattle.std.specs.Prelude.{ℕ, ◌+◌, ◌^◌, ◌<◌, min, ◌≡◌, List, length}
use Rattle.put_bytes.specs.Puts.{Put}
use Rattle.answers.specs.Delivered.{Answer, number_in, place_in, size_in}
use Rattle.io_answers.specs.Tells.{refused_text}

-- output d is e, and r the place behind what is told of the answer at a place
pub record AnswerPut (d : List ℕ) (at : ℕ) (a : Answer) (e : List ℕ) (r : ℕ) : Type 0 where
  pub refused : (number_in a ≡ 0 → ⊥) → Put d at (refused_text (number_in a) (place_in a)) e r
  pub spelled : number_in a ≡ 0 → e ≡ d
  pub short : place_in a < 2 ^ 64
  pub behind : number_in a ≡ 0 → r ≡ min (at + size_in a) (length d)
