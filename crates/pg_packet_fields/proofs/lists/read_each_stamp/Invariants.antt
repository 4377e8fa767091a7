use Rattle.std.proofs.Common.{◌≡◌, ◌-◌, [], None}
use Rattle.pg_packet_fields.specs.Lists.{later_at, many, to_last}
use Rattle.pg_packet_fields.proofs.lists.read_each_stamp.Given as goal

abbrev pub invariant-loop : goal.invariant-loop
invariant-loop l = many later_at to_last (l.count - l.counter) l.last l.stamps l.reader ≡ many later_at to_last l.count None [] l.fn.reader
