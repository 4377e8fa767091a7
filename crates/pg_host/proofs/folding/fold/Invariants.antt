use Rattle.std.proofs.Common.{◌≡◌, false}
use Rattle.pg_node_input.specs.law_lengths.law_spelled.Stores.{FitsStore}
use Rattle.pg_host.specs.Starts.{IsFoldedTo}
use Rattle.pg_host.proofs.folding.fold.Given as goal

abbrev pub invariant-loop-k : goal.invariant-loop-k
invariant-loop-k l = record {
  so_far : IsFoldedTo l.entries l.skip l.k l.from l.gate l.initial.server.store l.server.store;
  going : l.server.failed ≡ false;
  fits : FitsStore l.server.store;
}
