use Rattle.std.proofs.Common.{arith}
use Rattle.pg_world.proofs.Kept.{one_tick_more}
use Rattle.pg_world.proofs.event_list.more_ticks.Goals as goal

pub returns-clause-more : goal.returns-clause-more
returns-clause-more c = λ _. one_tick_more _ _ _ _ _ _ _ _ c.in-Tick.is (omega arith) (omega arith) (omega arith) (omega arith)
