use Rattle.std.proofs.Common.{◌≡◌, ◌-◌, []}
use Rattle.pg_packet_fields.specs.Lists.{many}
use Rattle.pg_state_fields.specs.Edges.{edge_at, to_peer}
use Rattle.pg_state_fields.proofs.EdgesLast.{UpTo}
use Rattle.pg_state_fields.proofs.edges.read_each_edge.Given as goal

abbrev pub invariant-loop : goal.invariant-loop
invariant-loop l = (many edge_at to_peer (l.count - l.counter) l.last l.edges l.reader ≡ many edge_at to_peer l.count 0 [] l.fn.reader) × UpTo l.last l.edges
