-- Where a name ends that bytes begin with: its brackets pair up. Assumes nothing.
use Rattle.std.specs.Prelude.{ℕ, ◌+◌, ◌-◌, Bool, cond, ◌&&◌, ◌||◌, List, [], ◌∷◌, ltb}
use Rattle.lang.specs.Re.{in_c, Brackets}
use Rattle.rules.specs.Texts.{name_brackets}
use Rattle.texts.specs.declared.NameEnd.{NameEnd}

-- a byte goes on with a name in which d brackets are open
abbrev pub goes_on : Brackets → ℕ → ℕ → Bool
goes_on B d b = in_c B.plain b || (in_c B.opens b || (ltb 0 d && in_c B.closes b))

-- how many brackets are open behind that byte
abbrev pub open_behind : Brackets → ℕ → ℕ → ℕ
open_behind B d b = cond (in_c B.opens b) (d + 1) (cond (in_c B.closes b) (d - 1) d)

-- how far a name goes of which `at` bytes are passed and d brackets are open
unfoldable pub name_from : List ℕ → ℕ → ℕ → NameEnd
name_from [] at d = record { len = at; depth = d }
name_from (b ∷ w) at d = cond (goes_on name_brackets d b) (name_from w (at + 1) (open_behind name_brackets d b)) (record { len = at; depth = d })

-- how far the name goes that bytes begin with
abbrev pub name_end_of : List ℕ → NameEnd
name_end_of s = name_from s 0 0

-- how many bytes it has
abbrev pub name_length : List ℕ → ℕ
name_length s = (name_end_of s).len
