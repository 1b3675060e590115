-- What follows of a line that was found, for whoever answers it. Assumes nothing.
use Prim.Native.Nat.{ℕ, ◌≤◌, ◌<◌}
use mathlib.Core.Path.{◌≡◌, sym, ap, ap₂, ◌∙◌}
use mathlib.Core.Bool.{true, false}
use mathlib.Core.List.{List, [], ◌∷◌, ◌++◌}
use native.Mathlib.Omega.{arith}
use lib.Dec.{ltb}
use lib.ListN.{length, length-append}
use borrow.Author.Tests.{lt-ltb}
use Rattle.io_lines.specs.declared.Stream.{Stream}
use Rattle.put_bytes.specs.Puts.{max_place}
use Rattle.io_lines.specs.Streams.{is_found, left, line_in}
use Rattle.io_lines.specs.Found.{StandsFor, all, cut, Line, Ending, line, end, stops, goes_on, Next}
use Rattle.io_lines.proofs.Searches.{true_false}

module _ {h : ℕ} {whole kept : List ℕ} where
  whole_by : StandsFor h whole kept → length whole ≤ h → kept ≡ whole
  whole_by (all e) few = e
  whole_by (cut a b e) few = absurd (omega arith)

  -- a line of no more bytes than half a buffer is kept as it came
  pub found_whole : Line h whole kept → length whole ≤ h → kept ≡ whole
  found_whole l few = whole_by l.stands few

  long_by : (most : ℕ) → most < h → StandsFor h whole kept → most < length whole → most < length kept
  long_by most g (all e) long = omega (arith, ap length e)
  long_by most g (cut a b e) long = omega arith

  -- one that is longer than a limit below half a buffer is kept longer than that
  pub long_stays_long : (most : ℕ) → most < h → Line h whole kept → most < length whole → most < length kept
  long_stays_long most g l long = long_by most g l.stands long

  found_by : 0 < h → StandsFor h whole kept → ltb 0 (length kept) ≡ ltb 0 (length whole)
  found_by g (all e) = ap (λ (l : List ℕ). ltb 0 (length l)) e
  found_by g (cut a b e) = lt-ltb 0 (length kept) (omega arith) ∙ sym (lt-ltb 0 (length whole) (omega arith))

  -- a last line is found where there is one
  pub last_found : 0 < h → Line h whole kept → ltb 0 (length kept) ≡ ltb 0 (length whole)
  last_found g l = found_by g l.stands

-- where the input is over and nothing is left, as in a stream that was stopped, nothing is found, and what failed is kept
module _ (d e : List ℕ) (s r : Stream) (over : s.ended ≡ true) (none : left d s ≡ []) where
  nothing_by : (came : List ℕ) → came ≡ [] → Ending max_place d s came e r → (is_found r ≡ false) × (r.failed ≡ s.failed)
  nothing_by came c (line w p l f g o k) =
      absurd (omega (arith, ap length (sym p ∙ ap₂ ◌++◌ none c), length-append w (10 ∷ left e r)))
  nothing_by came c (end l n f g o k) =
      let w : left d s ++ came ≡ [] = ap₂ ◌++◌ none c in
      let z : line_in e r ≡ left d s ++ came = found_whole l (omega (arith, ap length w)) in
      (f ∙ ap (λ (x : List ℕ). ltb 0 (length x)) (z ∙ w), k)
  nothing_by came c (stops o x p) = absurd (true_false (sym over ∙ o))
  nothing_by came c (goes_on l f o on k n) = absurd (true_false (sym over ∙ on))

  pub nothing_more : Next d s e r → (is_found r ≡ false) × (r.failed ≡ s.failed)
  nothing_more k = nothing_by k.came (k.unasked (k.over over)) k.ending
