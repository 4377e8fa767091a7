use Rattle.std.proofs.Common.{◌≡◌, ◌-◌, [], None}
use Rattle.pg_edges.specs.Key.{key_cmp}
use Rattle.pg_packet_fields.specs.Lists.{many}
use Rattle.pg_state_fields.specs.Edges.{tagged_at, to_key}
use Rattle.pg_state_fields.proofs.Lasts.{Up}
use Rattle.pg_state_fields.proofs.edges.read_each_key.Given as goal

abbrev pub invariant-loop : goal.invariant-loop
invariant-loop l = (many tagged_at to_key (l.count - l.counter) l.last l.keys l.reader ≡ many tagged_at to_key l.count None [] l.fn.reader) × Up key_cmp l.last l.keys
