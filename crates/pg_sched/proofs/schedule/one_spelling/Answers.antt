use Rattle.pg_sched.proofs.OneReading.{one_schedule}
use Rattle.pg_sched.proofs.schedule.one_spelling.Goals as goal

pub returns : goal.returns
returns c n m xs ys hn hm hx hy e = one_schedule n m xs ys hn hm hx hy e
