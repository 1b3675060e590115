-- Beginnings of the texts of a language, and one step of a scan that counts brackets. Assumes nothing.
use Rattle.std.specs.Prelude.{ℕ, ◌+◌, ◌-◌, ◌<◌, Bool, cond, ◌&&◌, List, ◌++◌, ltb, length, take}

-- p goes on to some text of the language
abbrev pub Begins : (List ℕ → Type 0) → List ℕ → Type 0
Begins L p = (q : List ℕ) × L (p ++ q)

-- the first k bytes of l begin a text of the language, and the first k + 1 do not
pub record Stray (L : List ℕ → Type 0) (l : List ℕ) (k : ℕ) : Type 0 where
  pub inside : k < length l
  pub begins : Begins L (take k l)
  pub stops : Begins L (take (k + 1) l) → ⊥

-- in a deep state q, with d brackets more open than q says: a byte that opens a bracket or closes one of the d is counted, and any other leads to the table's next state t
abbrev pub counted : (opens closes : Bool) (q d t : ℕ) → ℕ × ℕ
counted opens closes q d t = cond opens (q, d + 1) (cond (ltb 0 d && closes) (q, d - 1) (t, d))

-- from a state that is not deep the table alone decides
abbrev pub moved : (deep opens closes : Bool) (q d t : ℕ) → ℕ × ℕ
moved deep opens closes q d t = cond deep (counted opens closes q d t) (t, d)
