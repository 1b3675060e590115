-- A buffer that is to hold the machine. Assumes nothing.
use Rattle.std.specs.Prelude.{ℕ, ◌-◌, cond, List, ◌++◌, ltb, eqb, replicate}
use Rattle.rules.specs.Editions.{LineEdition, first_lines, second_lines}
use Rattle.shape.specs.Tables.{size}
use Rattle.scan_line.specs.Steps.{machine_bytes}

-- the number returned, and all bytes of the buffer
pub record Prepared : Type 0 where
  pub returned : ℕ
  pub machine : List ℕ

abbrev pub prepared : ℕ → List ℕ → Prepared
prepared r machine = record { returned = r; machine = machine }

-- the machine of an edition of lines, and zeros behind it, in a buffer of n bytes
abbrev pub machine_in : LineEdition → ℕ → List ℕ
machine_in l n = machine_bytes l ++ replicate (n - size) 0

-- in a buffer of n bytes: 8 and zeros, or done
unfoldable pub put_of : LineEdition → ℕ → Prepared
put_of l n = cond (ltb n size) (prepared 8 (replicate n 0)) (prepared 0 (machine_in l n))

-- of the edition of this number: 9 and zeros, where there is none
unfoldable pub prepared_of : ℕ → ℕ → Prepared
prepared_of lines n = cond (eqb lines 1) (put_of first_lines n) (cond (eqb lines 2) (put_of second_lines n) (prepared 9 (replicate n 0)))
