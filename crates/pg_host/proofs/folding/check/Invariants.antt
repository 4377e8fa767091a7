use Rattle.pg_host.specs.Starts.{IsReadTo}
use Rattle.pg_host.proofs.folding.check.Given as goal

abbrev pub invariant-loop-entry : goal.invariant-loop-entry
invariant-loop-entry l = record {
  so_far : IsReadTo l.entries l.entry-index l.from l.gate;
}
