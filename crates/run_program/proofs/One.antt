-- Two answers that wait are equal: the bytes of the output, and the streams where the system did the same. Assumes nothing.
use Prim.Native.Nat.{ℕ}
use mathlib.Core.Path.{◌≡◌, sym, ap₂, ◌∙◌}
use mathlib.Core.List.{List}
use Rattle.put_bytes.proofs.One.{put_one}
use Rattle.io_lines.specs.declared.Stream.{Stream}
use Rattle.io_lines.specs.Streams.{waiting_of}
use Rattle.run_program.specs.Waits.{Waits}

pub waits_one : {most : ℕ} {text : List ℕ} {s r q : Stream} {d e f : List ℕ} (x : Waits most text s d e r) (y : Waits most text s d f q)
    → (e ≡ f) × (x.room ≡ y.room → r ≡ q)
waits_one x y =
    let z = put_one x.put y.put in
    (z.0, λ h. x.waits ∙ ap₂ waiting_of h z.1 ∙ sym y.waits)
