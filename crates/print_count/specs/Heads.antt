-- A sign and a count as they are preferred. Assumes nothing.
use Rattle.std.specs.Prelude.{ℕ, cond, List, [], ◌++◌, leb}
use Rattle.rules.specs.Bytes.{bytes}
use Rattle.rules.specs.Numbers.{digits}
use Rattle.changes.specs.declared.Sign.{Sign}
use Rattle.changes.specs.declared.Sign.TheVariants.{Minus, Plus}

abbrev pub sign_bytes : Sign → List ℕ
sign_bytes Minus = bytes "-"
sign_bytes Plus = bytes "+"

-- a 1 is left out
unfoldable pub count_text : ℕ → List ℕ
count_text n = cond (leb n 1) [] (digits n)

abbrev pub head_text : Sign → ℕ → List ℕ
head_text sign count = sign_bytes sign ++ count_text count
