use Rattle.std.proofs.Common.{◌≡◌, length, []}
use Rattle.pg_run.specs.Quiet.{lag, of_live}
use Rattle.pg_run.specs.Run.{World}
use Rattle.pg_world.specs.Stands.{Stands}
use Rattle.pg_world.proofs.machine.Machine.lagging.Given as goal

abbrev pub invariant-loop-k : goal.invariant-loop-k
invariant-loop-k l = (w : World) → Stands l.self w → of_live (length l.self.servers.items) w (lag w) l.k ≡ []
