-- What a run keeps.
use Rattle.std.specs.Prelude.{◌≡◌, ◌≤◌, length, false}
use Rattle.pg_run.specs.Run.{run}
use Rattle.pg_world.specs.Stands.{Stands}
use Rattle.pg_world.specs.Played.{Played}
use Rattle.pg_world.specs.declared.world.World.TheInside.{Inside}

abbrev pub seen : Inside → Played
seen w = record { servers = w.servers; events = w.events; failed = w.failed }

pub record IsPlayed (w : Inside) : Type 0 where
  pub few : w.servers ≤ 64
  pub count : w.failed ≡ false → length w.machine.servers.items ≡ w.servers
  pub stands : w.failed ≡ false → Stands w.machine (run w.servers w.events)
