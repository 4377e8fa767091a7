use Rattle.std.proofs.Common.{◌≡◌, ◌-◌, []}
use Rattle.pg_packet_fields.specs.Lists.{many}
use Rattle.pg_state_fields.specs.Contents.{any_delta}
use Rattle.pg_state_fields.specs.Orders.{unchanged}
use Rattle.pg_state_fields.proofs.contents.read_each_delta.Given as goal

abbrev pub invariant-loop : goal.invariant-loop
invariant-loop l = many any_delta unchanged (l.count - l.counter) tt l.deltas l.reader ≡ many any_delta unchanged l.count tt [] l.fn.reader
