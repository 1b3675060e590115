-- Bytes as they are written: texts and classes of bytes. Assumes nothing.
use Rattle.std.specs.Prelude.{ℕ, List, [], ◌∷◌}
use Prim.Native.Char.{Char, code}
use Prim.Native.String as S
use Prim.Native.String.{String}
use Rattle.lang.specs.Re.{Rng, rng}

infix 90 ◌to◌
-- the bytes of a text
abbrev pub bytes : String → List ℕ
bytes S.[] = []
bytes (S.◌∷◌ c s) = code c ∷ bytes s

-- the bytes from one to another
abbrev pub ◌to◌ : Char → Char → Rng
a to b = rng (code a) (code b)

abbrev pub digit : List Rng
digit = "0" to "9" ∷ []

abbrev pub capital : List Rng
capital = "A" to "Z" ∷ []

-- a letter is A to Z or a to z
abbrev pub letter : List Rng
letter = "A" to "Z" ∷ "a" to "z" ∷ []

-- 0x20 to 0x7E without { and }
abbrev pub text_byte : List Rng
text_byte = " " to "z" ∷ "|" to "|" ∷ "~" to "~" ∷ []

-- 0x20 to 0x7E without [ and ]
abbrev pub name_byte : List Rng
name_byte = " " to "Z" ∷ "\\" to "\\" ∷ "^" to "~" ∷ []
