use Rattle.std.proofs.Common.{◌≡◌, ◌-◌, []}
use Rattle.pg_packet_fields.specs.Lists.{many}
use Rattle.pg_packet_read.specs.Replies.{any_row, unchanged}
use Rattle.pg_packet_read.proofs.replies.read_each_row.Given as goal

abbrev pub invariant-loop : goal.invariant-loop
invariant-loop l = many any_row unchanged (l.count - l.counter) tt l.rows l.reader ≡ many any_row unchanged l.count tt [] l.fn.reader
