-- Document 02, M-108: what a call from C leaves behind, by the answer of the call that it stands for. Assumes nothing.
use Rattle.std.specs.Prelude.{ℕ, ◌-◌, ◌<◌, ◌≤◌, min, cond, List, ◌++◌, ltb, replicate}
use Rattle.rules.specs.Stored.{little}
use Rattle.rules.specs.Answers.{Answer}

-- the number returned, and all bytes of the output and of the answer's buffer
pub record Handed : Type 0 where
  pub returned : ℕ
  pub out : List ℕ
  pub packed : List ℕ

abbrev pub handed : ℕ → List ℕ → List ℕ → Handed
handed r out packed = record { returned = r; out = out; packed = packed }

-- number, place and length, of two bytes each
abbrev pub packed_size : ℕ
packed_size = 6

-- the lowest byte of each first
abbrev pub packed_of : ℕ → ℕ → ℕ → List ℕ
packed_of number place size = little 2 number ++ (little 2 place ++ little 2 size)

-- an answer in its buffer of n bytes: zeros behind the sixth
abbrev pub done : ℕ → ℕ → ℕ → List ℕ → ℕ → Handed
done number place size out n = handed number out (packed_of number place size ++ replicate (n - packed_size) 0)

-- a buffer of fewer bytes: 8, and zeros in both
abbrev pub handed_too_few : ℕ → ℕ → Handed
handed_too_few room n = handed 8 (replicate room 0) (replicate n 0)

-- ---- the calls that make their machine: by what the rules say of the answer

-- none of the three numbers of an answer is more than m
pub record AtMost (m : ℕ) (a : Answer) : Type 0 where
  pub number : a.number ≤ m
  pub place : a.place ≤ m
  pub size : a.size ≤ m

-- what two bytes hold
abbrev pub most : ℕ
most = 65535

-- of an output of room bytes and an answer's buffer of n; two bytes hold each of the three numbers
pub data Hands (Answers : Answer → Type 0) (room n : ℕ) : Handed → Type 0 where
  too_few : n < packed_size → Hands Answers room n (handed_too_few room n)
  packs : packed_size ≤ n → {a : Answer} → Answers a → AtMost most a → Hands Answers room n (done a.number a.place a.size a.out n)

-- ---- the calls by a lent machine: by the answer that the model gives

-- a number as far as two bytes hold it: by the machine that was prepared it is the number itself
abbrev pub short : ℕ → ℕ
short n = min n most

-- the answer a, of an output of room bytes, in a buffer of n
unfoldable pub handed_of : ℕ → Answer → ℕ → Handed
handed_of room a n = cond (ltb n packed_size) (handed_too_few room n) (done (short a.number) (short a.place) (short a.size) a.out n)
