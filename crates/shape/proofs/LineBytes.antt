-- The line of a spelling is bytes: what holds of none, and with each byte more, holds of it. Assumes nothing.
use Prim.Native.Nat.{ℕ, ◌<◌, ◌≤◌}
use mathlib.Core.Path.{◌∙◌, subst}
use mathlib.Core.List.{List, [], ◌∷◌, append-nil}
use native.Mathlib.Omega.{arith}
use native.Mathlib.Decide.{dec_le}
use lib.Dec.{T}
use Rattle.lang.specs.Re.{Rng, in_c}
use Rattle.lang.proofs.EachByte.{each_class, each_text}
use Rattle.lang.proofs.Unique.{low_c, low_c→}
use Rattle.rules.specs.Elements.{symbols}
use Rattle.rules.specs.Lines.{Spelling, line_text}
use Rattle.shape.proofs.Grammar.{line_re, letters_re, symbol_re}
use Rattle.shape.proofs.MeansLine.{means_line}

low_byte : (c : List Rng) (b : ℕ) → T (low_c c) → T (in_c c b) → b < 256
low_byte c b l i = by (dec_le 256 b)
  where
    by : Dec (256 ≤ b) → b < 256
    by (yes h) = absurd (low_c→ c b l h i)
    by (no h) = omega arith

-- every class of the grammar is one of bytes
line_low : T (each_class low_c (line_re letters_re))
unfolding symbol_re symbols
line_low = tt

pub line_each : (P : List ℕ → Type 0) → P [] → ((b : ℕ) (w : List ℕ) → b < 256 → P w → P (b ∷ w)) → (s : Spelling) → P (line_text s)
line_each P none more s =
    subst P (means_line.enc_text s [] ∙ append-nil (line_text s))
    (each_text low_c P (λ c b w l i p. more b w (low_byte c b l i) p) (line_re letters_re) line_low (means_line.enc s) [] none)
