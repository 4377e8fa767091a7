use Rattle.std.proofs.Common.{◌≡◌, ◌-◌, []}
use Rattle.pg_packet_fields.specs.Lists.{many}
use Rattle.pg_packet_fields.specs.Places.{to_server}
use Rattle.pg_state_fields.specs.Flags.{gold_at}
use Rattle.pg_packet_fields.proofs.Golds.{UpTo}
use Rattle.pg_state_fields.proofs.flags.read_each_gold.Given as goal

abbrev pub invariant-loop : goal.invariant-loop
invariant-loop l = (many gold_at to_server (l.count - l.counter) l.last l.flags l.reader ≡ many gold_at to_server l.count 0 [] l.fn.reader) × UpTo l.last l.flags
