-- How a run goes on of which is counted.
use Rattle.std.specs.Prelude.{ℕ, ◌≡◌, List, [], false}
use Rattle.pg_run.specs.Run.{start}
use Rattle.pg_sched.specs.declared.line.Line.{Line}
use Rattle.pg_world.specs.Played.{final}
use Rattle.pg_replay.specs.declared.soak.Soak.{Soak}
use Rattle.pg_replay.specs.Settling.{after_lines}
use Rattle.pg_replay.specs.Soaking.{no_tally, with_lines}

-- these lines were taken and counted from the start on, and nothing of them is kept
pub record HasSoaked (servers : ℕ) (lines : List Line) (soak : Soak) : Type 0 where
  pub world : final soak.replay.world ≡ after_lines servers (start servers) lines
  pub going : soak.replay.world.failed ≡ false
  pub count : soak.replay.world.servers ≡ servers
  pub marks : soak.replay.marks.items ≡ []
  pub out : soak.replay.out ≡ []
  pub tally : soak.tally ≡ with_lines servers (start servers) lines no_tally

-- the same from any moment on
pub record SoaksOn (before after : Soak) (lines : List Line) : Type 0 where
  pub world : final after.replay.world
      ≡ after_lines before.replay.world.servers (final before.replay.world) lines
  pub going : after.replay.world.failed ≡ false
  pub servers : after.replay.world.servers ≡ before.replay.world.servers
  pub marks : after.replay.marks.items ≡ []
  pub out : before.replay.out ≡ [] → after.replay.out ≡ []
  pub tally : after.tally
      ≡ with_lines before.replay.world.servers (final before.replay.world) lines before.tally
