use Rattle.std.proofs.Common.{◌≡◌, ◌-◌, []}
use Rattle.pg_packet_fields.specs.Lists.{many}
use Rattle.pg_state_read.specs.Whole.{any_server}
use Rattle.pg_state_fields.specs.Orders.{unchanged}
use Rattle.pg_state_read.proofs.parts.read_each_server.Given as goal

abbrev pub invariant-loop : goal.invariant-loop
invariant-loop l = many any_server unchanged (l.count - l.counter) tt l.servers l.reader ≡ many any_server unchanged l.count tt [] l.fn.reader
