-- A test of each of some bytes; and each byte of the line of a spelling is below 256. Assumes nothing.
use Prim.Native.Nat.{ℕ}
use mathlib.Core.Path.{sym, subst}
use mathlib.Core.Bool.{Bool, true, false, ◌&&◌, ◌||◌}
use mathlib.Core.List.{List, [], ◌∷◌, ◌++◌}
use lib.Dec.{T, eqb, eqb→eq, ltb, lt→ltb}
use Rattle.lang.specs.Re.{either}
use Rattle.lang.proofs.Deriv.{and_0, and_1, and_i, or_e}
use Rattle.rules.specs.Lines.{Spelling, line_text}
use Rattle.shape.proofs.LineBytes.{line_each}

abbrev pub each_b : (ℕ → Bool) → List ℕ → Bool
each_b f [] = true
each_b f (b ∷ w) = f b && each_b f w

-- of those bytes
abbrev pub among : List ℕ → ℕ → Bool
among [] b = false
among (x ∷ w) b = eqb b x || among w b

pub each→ : (f : ℕ → Bool) (w : List ℕ) → T (each_b f w) → (b : ℕ) → T (among w b) → T (f b)
each→ f [] t b a = absurd a
each→ f (x ∷ w) t b a =
    either
    (λ e. subst (λ (y : ℕ). T (f y)) (sym (eqb→eq b x e)) (and_0 (f x) (each_b f w) t))
    (λ m. each→ f w (and_1 (f x) (each_b f w) t) b m)
    (or_e (eqb b x) (among w b) a)

pub each_front : (f : ℕ → Bool) (v w : List ℕ) → T (each_b f (v ++ w)) → T (each_b f v)
each_front f [] w t = tt
each_front f (b ∷ v) w t = and_i (f b) (each_b f v) (and_0 (f b) (each_b f (v ++ w)) t) (each_front f v w (and_1 (f b) (each_b f (v ++ w)) t))

-- ---- bytes

abbrev pub low : ℕ → Bool
low b = ltb b 256

pub line_bytes : (s : Spelling) → T (each_b low (line_text s))
line_bytes s = line_each (λ w. T (each_b low w)) tt (λ b w h e. and_i (low b) (each_b low w) (lt→ltb b 256 h) e) s
