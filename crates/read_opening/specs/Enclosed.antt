-- The text in braces, or the name in brackets, that bytes begin with. Assumes nothing.
use Rattle.std.specs.Prelude.{ℕ, ◌+◌, ◌-◌, min, cond, List, ltb, length, drop, Option}
use Rattle.lang.specs.Mark.{Mark}
use Rattle.rules.specs.Bytes.{bytes, text_byte}
use Rattle.rules.specs.Texts.{starts_with}
use Rattle.rules.specs.Limits.{max_text}
use Rattle.texts.specs.Leading.{leading_in}
use Rattle.texts.specs.Names.{name_length}
use Rattle.faults.specs.declared.Refusal.{Refusal}
use Rattle.faults.specs.Faults.{join}
use Rattle.read_opening.specs.declared.Enclosed.{Enclosed}

-- 5: n bytes, the first too many of which would stand at the place
abbrev pub long_mark : ℕ → ℕ → Mark
long_mark n place = record { place = place; number = 5; broken = ltb max_text n }

-- n bytes behind an opening byte, where `left` of the line's `end` bytes are left; as far as these go
unfoldable pub enclosed_of : ℕ → ℕ → ℕ → Option Refusal → Enclosed
enclosed_of n left end f = record { size = n; len = min (min (n + 1) left + 1) left; fault = join f (long_mark n (end - (left - 256))) }

abbrev pub nothing : Option Refusal → Enclosed
nothing f = record { size = 0; len = 0; fault = f }

unfoldable pub text_of : ℕ → List ℕ → Option Refusal → Enclosed
text_of end s f = cond (starts_with (bytes "{") s) (enclosed_of (leading_in text_byte (drop 1 s)) (length s) end f) (nothing f)

unfoldable pub name_of : ℕ → List ℕ → Option Refusal → Enclosed
name_of end s f = cond (starts_with (bytes "[") s) (enclosed_of (name_length (drop 1 s)) (length s) end f) (nothing f)
