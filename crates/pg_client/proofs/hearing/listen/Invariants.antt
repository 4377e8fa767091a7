use Rattle.std.proofs.Common.{◌≤◌}
use Rattle.pg_client.specs.Asks.{Heard}
use Rattle.pg_client.proofs.hearing.listen.Given as goal

abbrev pub invariant-takes : goal.invariant-takes
invariant-takes g l = record {
  heard : Heard g.N.Net.tells l._count (g.N.Net.told l.initial.net) (g.N.Net.told l.net) (g.N.Net.takes l.initial.net) (g.N.Net.takes l.net);
  later : g.N.Net.faults l.initial.net ≤ g.N.Net.faults l.net;
}
