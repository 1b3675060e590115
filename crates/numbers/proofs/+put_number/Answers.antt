-- `numbers::put_number` meets its contract: by recursion on the number, one digit, or n / 10 and the last digit. Assumes nothing.
use Rattle.numbers.proofs.Written.{put_digit, put_more}
use Rattle.numbers.proofs.+put_number.Goals as goal

pub returns-then-n-lt10 : goal.returns-then-n-lt10
returns-then-n-lt10 t c = put_digit _ c.if-n-lt10.true c.put8.ensures

pub returns-else-n-lt10 : goal.returns-else-n-lt10
returns-else-n-lt10 t c = put_more _ c.if-n-lt10.false c.put_number-to.ensures c.put8-else-n-lt10.ensures
