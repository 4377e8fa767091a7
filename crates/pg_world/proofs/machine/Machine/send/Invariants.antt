use Rattle.std.proofs.Common.{◌≡◌, ◌++◌, drop}
use Rattle.pg_run.specs.Journal.{to_live}
use Rattle.pg_world.proofs.machine.Machine.send.Given as goal

abbrev pub invariant-loop-message : goal.invariant-loop-message
invariant-loop-message l = record {
  bag : l.self.bag ++ to_live l.fn.self.removed (drop l.message-index l.sent) ≡ l.fn.self.bag ++ to_live l.fn.self.removed l.sent;
  servers : l.self.servers ≡ l.fn.self.servers;
  removed : l.self.removed ≡ l.fn.self.removed;
}
