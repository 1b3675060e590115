-- Two answers that meet a contract of this crate are equal: the bytes of the output, the scan, and the streams where the system did the
-- same. Assumes nothing.
use Prim.Native.Nat.{ℕ}
use mathlib.Core.Path.{◌≡◌, refl, sym, ◌∙◌}
use mathlib.Core.Bool.{Bool, true, false}
use mathlib.Core.List.{List}
use lib.ListN.{length, replicate, length-replicate}
use Rattle.scan_line.specs.declared.Progress.{Progress}
use Rattle.scan_line.specs.Steps.{taken_by}
use Rattle.io_lines.specs.declared.Stream.{Stream}
use Rattle.run_program.proofs.One.{waits_one}
use Rattle.io_lines.specs.Streams.{is_fed}
use Rattle.shapes.specs.Shown.{Shown, Parted}

pub shown_one : {machine : List ℕ} {p : Progress} {s r q : Stream} {d e f : List ℕ} (line : List ℕ) (h : length line ≡ p.at)
    (x : Shown machine p s d e r) (y : Shown machine p s d f q) → (e ≡ f) × ((x.waits line h).room ≡ (y.waits line h).room → r ≡ q)
shown_one line h x y = waits_one (x.waits line h) (y.waits line h)

pub parted_one : {machine part : List ℕ} {s : Stream} {p v w : Progress} {d e f : List ℕ} {r q : Stream}
    → Parted machine part s p d e v r → Parted machine part s p d f w q → (e ≡ f) × (v ≡ w)
parted_one {machine} {part} {s} {p} {v} {w} {e = e} {f = f} x y = by (is_fed s) refl
  where
    by : (b : Bool) → is_fed s ≡ b → (e ≡ f) × (v ≡ w)
    by true h =
        let n = (taken_by machine p part).at in
        let z = shown_one (replicate n 0) (length-replicate {A = ℕ} n 0) (x.shown h) (y.shown h) in
        (z.0, x.fresh h ∙ sym (y.fresh h))
    by false h = (x.kept h ∙ sym (y.kept h), x.scanned h ∙ sym (y.scanned h))
