-- Bytes that hexadecimal digits spell. Assumes nothing.
use Rattle.std.specs.Prelude.{ℕ, ◌+◌, ◌-◌, ◌*◌, ◌%◌, Bool, true, cond, ◌&&◌, List, [], ◌∷◌, ltb, leb, eqb, length, Option, Some, None, is_some, unwrap_or}

-- 0 to 9, A to F, a to f; none where the byte is no digit
unfoldable pub hex_value : ℕ → Option ℕ
hex_value b =
    cond (ltb b 48) None
    (cond (leb b 57) (Some (b - 48))
    (cond (ltb b 65) None (cond (leb b 70) (Some (b - 65 + 10)) (cond (ltb b 97) None (cond (leb b 102) (Some (b - 97 + 10)) None)))))

abbrev pub byte_of : ℕ → ℕ → ℕ
byte_of high low = unwrap_or (hex_value high) 0 * 16 + unwrap_or (hex_value low) 0

unfoldable pub all_digits : List ℕ → Bool
all_digits [] = true
all_digits (b ∷ s) = is_some (hex_value b) && all_digits s

-- all are digits, and an even number of them
abbrev pub spelled : List ℕ → Bool
spelled s = all_digits s && eqb (length s % 2) 0

-- the bytes of the pairs
unfoldable pub unhexed : List ℕ → List ℕ
unhexed [] = []
unhexed (a ∷ []) = []
unhexed (a ∷ b ∷ s) = byte_of a b ∷ unhexed s
