use Rattle.std.proofs.Common.{◌≡◌, ◌++◌}
use Rattle.pg_store.specs.Beginning.{patches_of}
use Rattle.pg_store.proofs.store.Store.patches_of.Given as goal

abbrev pub invariant-loop-intent : goal.invariant-loop-intent
invariant-loop-intent l = l.keys ++ patches_of l.dir l.intent-iterator ≡ patches_of l.dir l.self.intents
