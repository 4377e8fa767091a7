use Rattle.std.proofs.Common.{◌≡◌, ◌-◌, [], None}
use Rattle.pg_packet_fields.specs.Lists.{many}
use Rattle.pg_state_fields.specs.Replicas.{held_at, to_held}
use Rattle.pg_state_fields.proofs.replicas.read_each_held.Given as goal

abbrev pub invariant-loop : goal.invariant-loop
invariant-loop l = many held_at to_held (l.count - l.counter) l.last l.all l.reader ≡ many held_at to_held l.count None [] l.fn.reader
