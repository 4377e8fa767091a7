use Rattle.std.proofs.Common.{subst}
use Rattle.pg_disk.specs.Told.{Told, given}
use Rattle.pg_checkpoint.specs.Heads.{IsHead}
use Rattle.pg_checkpoint.proofs.Heads.{newer_loads}
use Rattle.pg_checkpoint.proofs.snap.find.Goals as goal

pub returns-clause-found : goal.returns-clause-found
returns-clause-found g c = λ tells.
    newer_loads (g.D.Disk.told c.args.disk.now) c.in_ok-first.first c.in_ok-second.second (c.in_ok-first.ensures.head tells)
    (subst (λ (t : Told). IsHead (given t 2) c.in_ok-second.second) (c.in_ok-first.ensures.same tells) (c.in_ok-second.ensures.head tells))
    c.newer.result c.newer.ensures
