use Rattle.std.proofs.Common.{◌≡◌, ◌≤◌, ◌<◌, false, IsSome}
use Rattle.pg_node_input.specs.law_lengths.law_spelled.Stores.{FitsStore}
use Rattle.pg_host.specs.Host.{scene}
use Rattle.pg_host.specs.Savings.{GoesOn}
use Rattle.pg_host.proofs.serving.take_turns.Given as goal

abbrev pub invariant-turns : goal.invariant-turns
invariant-turns g l = record {
  goes : GoesOn g.N.Net.tells g.C.Clock.tells g.D.Disk.tells l.server l.servers l.port 1 l.entries l.count.since l.count.entries l._turn false
      (scene (g.N.Net.told l.initial.net) (g.N.Net.takes l.initial.net) (g.C.Clock.told l.initial.clock) (g.D.Disk.told l.initial.disk) l.initial.log l.initial.node.store)
      (scene (g.N.Net.told l.net) (g.N.Net.takes l.net) (g.C.Clock.told l.clock) (g.D.Disk.told l.disk) l.log l.node.store);
  since : l.count.since < 1024;
  open_ : IsSome l.log;
  going : l.node.failed ≡ false;
  fits : FitsStore l.node.store;
  net_later : g.N.Net.faults l.initial.net ≤ g.N.Net.faults l.net;
  disk_later : g.D.Disk.faults l.initial.disk ≤ g.D.Disk.faults l.disk;
}
