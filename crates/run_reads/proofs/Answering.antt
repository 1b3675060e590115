-- What is read of the line that was found is told behind what waited. Assumes nothing.
use Prim.Native.Nat.{ℕ}
use mathlib.Core.Path.{◌≡◌, subst}
use mathlib.Core.Bool.{Bool}
use mathlib.Core.List.{List}
use lib.ListN.{length}
use Rattle.put_bytes.specs.Puts.{Put}
use Rattle.answers.specs.Delivered.{Answer}
use Rattle.rows.specs.Relabels.{max_stored_row}
use Rattle.io_lines.specs.declared.Stream.{Stream}
use Rattle.io_lines.specs.Streams.{waiting_of, Roomed}
use Rattle.run_program.proofs.Waiting.{waits_by}
use Rattle.io_answers.specs.Tells.{longest_answer, told}
use Rattle.run_program.specs.declared.Input.{Input}
use Rattle.run_reads.specs.Reads.{ReadInto}
use Rattle.run_reads.specs.Answered.{Answered}

pub answered_by : {input : Input} {m line asked t u d e : List ℕ} {sized : Bool} {s v r : Stream} {a : Answer} {end : ℕ} → Roomed (length d) (longest_answer max_stored_row) s v → line ≡ asked
    → ReadInto input m line sized t u a → Put d v.waiting (told a u) e end → r ≡ waiting_of v end → Answered input m asked sized s t u d e r
answered_by {input} {m} {t = t} {u} {sized = sized} {a = a} roomed found reads puts waits =
    record {
      answer = a;
      reads = subst (λ (l : List ℕ). ReadInto input m l sized t u a) found reads;
      waits = waits_by roomed puts waits;
    }
