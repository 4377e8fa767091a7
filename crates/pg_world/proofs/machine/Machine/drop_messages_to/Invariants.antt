use Rattle.std.proofs.Common.{◌≡◌, ◌++◌, length}
use Rattle.pg_run.specs.Journal.{without_to}
use Rattle.pg_world.proofs.machine.Machine.drop_messages_to.Given as goal

abbrev pub invariant-loop-message : goal.invariant-loop-message
invariant-loop-message l = record {
  bag : l.left ++ without_to l.server l.self.bag ≡ without_to l.server l.fn.self.bag;
  servers : l.self.servers ≡ l.fn.self.servers;
  removed : l.self.removed ≡ l.fn.self.removed;
}

abbrev pub decreases-loop-message : goal.decreases-loop-message
decreases-loop-message l = length l.self.bag
