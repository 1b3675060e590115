-- Things in a row, each giving bytes: how many there are is known. Assumes nothing.
use Rattle.std.specs.Prelude.{ℕ, zero, suc, List, [], ◌++◌, drop}

-- what the first n things of a list give, each having its size
unfoldable pub chain : (List ℕ → List ℕ) → (List ℕ → ℕ) → ℕ → List ℕ → List ℕ
chain give size zero s = []
chain give size (suc n) s = give s ++ chain give size n (drop (size s) s)
