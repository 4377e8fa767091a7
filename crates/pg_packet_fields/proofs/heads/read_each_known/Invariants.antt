use Rattle.std.proofs.Common.{◌≡◌, ◌-◌, []}
use Rattle.pg_packet_fields.specs.Heads.{known_at, nobody, to_actor}
use Rattle.pg_packet_fields.specs.Lists.{many}
use Rattle.pg_packet_fields.proofs.Actors.{UpTo}
use Rattle.pg_packet_fields.proofs.heads.read_each_known.Given as goal

abbrev pub invariant-loop : goal.invariant-loop
invariant-loop l = (many known_at to_actor (l.count - l.counter) l.last l.vector l.reader ≡ many known_at to_actor l.count nobody [] l.fn.reader) × UpTo l.last l.vector
