use Rattle.std.proofs.Common.{◌≡◌, length, map, []}
use Rattle.pg_event.specs.declared.quiet.Cause.TheVariants.{Owed}
use Rattle.pg_server.specs.Owing.{owed}
use Rattle.pg_run.specs.Quiet.{of_live}
use Rattle.pg_run.specs.Run.{World}
use Rattle.pg_world.specs.Stands.{Stands}
use Rattle.pg_world.proofs.machine.Machine.owed.Given as goal

abbrev pub invariant-loop-k : goal.invariant-loop-k
invariant-loop-k l = (w : World) → Stands l.self w → of_live (length l.self.servers.items) w (λ s. map Owed (owed (w.stores s))) l.k ≡ []
