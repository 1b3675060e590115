-- `try_answer_all::LengthsAnswers::answer` meets its contract. Assumes nothing.
use mathlib.Core.Path.{ap}
use Rattle.put_bytes.proofs.Putting.{put_then, put_as}
use Rattle.run_program.proofs.Waiting.{waits_by}
use Rattle.try_answer_all.specs.Said.{length_text}
use Rattle.try_answer_all.proofs.LengthsAnswers.answer.Goals as goal

pub returns-clause-said : goal.returns-clause-said
returns-clause-said c =
    let put = put_then c.put_field-number.ensures (put_then c.put_number-len.ensures c.put8.ensures) in
    waits_by c.room-t.ensures (put_as put (ap (length_text _) c.line.ensures)) c.answered.ensures
