-- What comparing a byte with single bytes tells of it: computed for each of the 256. Assumes nothing.
use Prim.Native.Nat.{ℕ, ◌+◌, ◌-◌, ◌<◌}
use mathlib.Core.Path.{◌≡◌, ap₂}
use mathlib.Core.Bool.{Bool, true, false, cond, not, ◌&&◌, ◌||◌, beq}
use lib.Dec.{T, eqb, ltb}
use Rattle.lang.specs.Re.{in_c}
use Rattle.lang.proofs.Machine.{all_b, all→}
use Rattle.lang.proofs.Classes.{beq→}
use Rattle.rules.specs.Bytes.{text_byte}
use Rattle.rules.specs.Texts.{name_brackets}
use Rattle.texts.specs.Leading.{printable}
use Rattle.texts.specs.Names.{goes_on, open_behind}

-- two tests that agree on each byte
agree : (f g : ℕ → Bool) → T (all_b (λ b. beq (f b) (g b)) 256) → (b : ℕ) → b < 256 → f b ≡ g b
agree f g t b h = beq→ (f b) (g b) (all→ (λ b. beq (f b) (g b)) 256 t b h)

-- a text has all printable bytes but `{` and `}`
pub text_by_lem : (b : ℕ) → b < 256 → in_c text_byte b ≡ (not (eqb b 123) && (not (eqb b 125) && in_c printable b))
text_by_lem = agree (in_c text_byte) (λ b. not (eqb b 123) && (not (eqb b 125) && in_c printable b)) tt

-- whether a byte goes on with a name, by whether a bracket is open
abbrev goes : Bool → ℕ → Bool
goes t b = in_c name_brackets.plain b || (in_c name_brackets.opens b || (t && in_c name_brackets.closes b))

-- all printable bytes do, but `]` only where one is
pub goes_by : (d b : ℕ) → b < 256 → goes_on name_brackets d b ≡ cond (eqb b 93) (ltb 0 d) (in_c printable b)
goes_by d b h = by (ltb 0 d)
  where
    by : (t : Bool) → goes t b ≡ cond (eqb b 93) t (in_c printable b)
    by true = agree (goes true) (λ b. cond (eqb b 93) true (in_c printable b)) tt b h
    by false = agree (goes false) (λ b. cond (eqb b 93) false (in_c printable b)) tt b h

-- `[` opens a bracket and `]` closes one
pub open_by : (d b : ℕ) → b < 256 → open_behind name_brackets d b ≡ cond (eqb b 91) (d + 1) (cond (eqb b 93) (d - 1) d)
open_by d b h =
    ap₂ (λ (x y : Bool). cond x (d + 1) (cond y (d - 1) d))
    (agree (in_c name_brackets.opens) (λ b. eqb b 91) tt b h)
    (agree (in_c name_brackets.closes) (λ b. eqb b 93) tt b h)
