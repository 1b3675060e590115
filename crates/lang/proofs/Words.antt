-- Words of a list that has no empty word have a byte or more. Assumes nothing.
use Prim.Native.Nat.{ℕ, zero, suc, ◌<◌}
use mathlib.Core.Bool.{Bool, true, ◌&&◌}
use mathlib.Core.List.{List, [], ◌∷◌}
use native.Mathlib.Nat.{le_of_suc-le-suc, not-suc-le-zero}
use lib.Dec.{T, ltb, ltb→lt}
use lib.ListN.{length, get_or}
use Rattle.lang.specs.Parts.{Listed, word_of}
use Rattle.lang.proofs.Deriv.{and_0, and_1}

abbrev pub none_empty : List (List ℕ) → Bool
none_empty [] = true
none_empty (w ∷ ws) = ltb 0 (length w) && none_empty ws

some_at : (ws : List (List ℕ)) → T (none_empty ws) → (n : ℕ) → n < length ws → 0 < length (get_or ws n [])
some_at [] t n h = absurd (not-suc-le-zero h)
some_at (w ∷ ws) t zero h = ltb→lt 0 (length w) (and_0 (ltb 0 (length w)) (none_empty ws) t)
some_at (w ∷ ws) t (suc n) h = some_at ws (and_1 (ltb 0 (length w)) (none_empty ws) t) n (le_of_suc-le-suc h)

pub word_some : (ws : List (List ℕ)) → T (none_empty ws) → (l : Listed ws) → 0 < length (word_of l)
word_some ws t l = some_at ws t l.which (ltb→lt l.which (length ws) l.known)
