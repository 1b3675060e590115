-- Two answers that meet a contract of this crate are equal. Assumes nothing.
use mathlib.Core.Path.{◌≡◌, sym, ap₂, ◌∙◌}
use mathlib.Core.Bool.{Bool}
use mathlib.Core.List.{List}
use Prim.Native.Nat.{ℕ}
use lib.ListN.{length}
use Rattle.put_bytes.proofs.Putting.{put_as}
use Rattle.put_bytes.proofs.One.{put_one}
use Rattle.answers.specs.Delivered.{Answer}
use Rattle.read_line.proofs.One.{answered_in_one}
use Rattle.io_lines.specs.declared.Stream.{Stream}
use Rattle.io_lines.specs.Streams.{waiting_of}
use Rattle.io_answers.specs.Tells.{told}
use Rattle.io_answers.specs.Asked.{room_in}
use Rattle.run_program.specs.declared.Input.{Input}
use Rattle.run_reads.specs.Reads.{ReadInto}
use Rattle.run_reads.specs.Answered.{Answered}

pub read_into_one : {input : Input} {machine asked d e f : List ℕ} {sized : Bool} {r q : Answer}
    → ReadInto input machine asked sized d e r → ReadInto input machine asked sized d f q → (e ≡ f) × (r ≡ q)
read_into_one {asked = asked} {d = d} {sized = sized} a b = answered_in_one (room_in sized asked (length d)) a.read a.kept b.read b.kept

-- the table, the output, and the streams where the system did the same
pub answered_one : {input : Input} {machine asked t u v d e f : List ℕ} {sized : Bool} {s r q : Stream} (a : Answered input machine asked sized s t u d e r)
    (b : Answered input machine asked sized s t v d f q) → (u ≡ v) × ((e ≡ f) × (a.waits.room ≡ b.waits.room → r ≡ q))
answered_one {s = s} a b =
    let x = read_into_one a.reads b.reads in
    let w = a.waits in
    let y = put_one (put_as w.put (ap₂ told x.1 x.0)) b.waits.put in
    (x.0, (y.0, λ h. w.waits ∙ ap₂ waiting_of h y.1 ∙ sym b.waits.waits))
