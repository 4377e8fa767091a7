use Rattle.std.proofs.Common.{◌≡◌, ◌-◌, [], None}
use Rattle.pg_packet_fields.specs.Lists.{many}
use Rattle.pg_state_fields.specs.Flags.{entry_at, to_child}
use Rattle.pg_state_fields.proofs.flags.read_each_entry.Given as goal

abbrev pub invariant-loop : goal.invariant-loop
invariant-loop l = many entry_at to_child (l.count - l.counter) l.last l.entries l.reader ≡ many entry_at to_child l.count None [] l.fn.reader
