-- `io_answers::put_briefly` meets its contract: a refusal, or the digits. Assumes nothing.
use Rattle.io_answers.proofs.Texts.{brief_refused, brief_digits}
use Rattle.put_bytes.proofs.Putting.{put_then, put_as}
use Rattle.io_answers.proofs.put_briefly.Goals as goal

pub returns-in-Ok : goal.returns-in-Ok
returns-in-Ok c = put_as (put_then c.put_hex-p.ensures c.put8.ensures) (brief_digits c.args.table.now c.in-Ok.is c.first_of.ensures)

pub returns-in-Err : goal.returns-in-Err
returns-in-Err c = put_as (put_then c.put_refusal-p.ensures c.put8-in-Err.ensures) (brief_refused c.args.table.now c.in-Err.is)
