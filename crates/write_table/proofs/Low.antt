-- The line of a spelling is bytes. Assumes nothing.
use Prim.Native.Nat.{ℕ, zero, suc, ◌<◌}
use mathlib.Core.Path.{◌≡◌, refl}
use mathlib.Core.Bool.{true}
use mathlib.Core.List.{List, [], ◌∷◌}
use native.Mathlib.Omega.{arith}
use lib.Dec.{ltb}
use lib.ListN.{length, get_or}
use borrow.Author.Tests.{lt-ltb, ltb-true}
use Rattle.lang.proofs.Tests.{is_t, t_is}
use Rattle.lang.proofs.Deriv.{and_0, and_1}
use Rattle.rules.specs.Lines.{Spelling, line_text}
use Rattle.shape.proofs.LineBytes.{line_each}
use Rattle.read_line.specs.Same.{all_bytes}

pub line_bytes : (s : Spelling) → all_bytes (line_text s) ≡ true
unfolding all_bytes
line_bytes s = line_each (λ w. all_bytes w ≡ true) refl (λ b w h e. rw (lt-ltb b 256 h, e)) s

-- ---- each of them

pub bytes_each : (l : List ℕ) → all_bytes l ≡ true → (i : ℕ) → i < length l → get_or l i 0 < 256
unfolding all_bytes
bytes_each [] e i h = absurd (omega arith)
bytes_each (b ∷ l) e zero h = ltb-true b 256 (t_is (ltb b 256) (and_0 (ltb b 256) (all_bytes l) (is_t e)))
bytes_each (b ∷ l) e (suc i) h = bytes_each l (t_is (all_bytes l) (and_1 (ltb b 256) (all_bytes l) (is_t e))) i (omega arith)
