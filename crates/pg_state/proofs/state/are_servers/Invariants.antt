use Rattle.std.proofs.Common.{drop}
use Rattle.std.specs.List.{AllByRecursion}
use Rattle.pg_packet_write.specs.Fits.{IsServer}
use Rattle.pg_state.proofs.state.are_servers.Given as goal

abbrev pub invariant-loop-server : goal.invariant-loop-server
invariant-loop-server l = record {
  there : AllByRecursion IsServer l.servers → AllByRecursion IsServer (drop l.server-index l.servers);
  back : AllByRecursion IsServer (drop l.server-index l.servers) → AllByRecursion IsServer l.servers;
}
