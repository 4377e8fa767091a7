use Rattle.std.proofs.Common.{subst}
use Rattle.pg_disk.specs.Told.{Told, given}
use Rattle.pg_checkpoint.specs.Heads.{IsHead}
use Rattle.pg_checkpoint.proofs.Heads.{turn_is, none_left}
use Rattle.pg_checkpoint.proofs.snap.prepare.Goals as goal

pub returns-clause-turn : goal.returns-clause-turn
returns-clause-turn g c = λ tells.
    turn_is (g.D.Disk.told c.args.disk.now) c.in_ok-first.first c.in_ok-second.second (c.in_ok-first.ensures.head tells)
    (subst (λ (t : Told). IsHead (given t 2) c.in_ok-second.second) (c.in_ok-first.ensures.same tells) (c.in_ok-second.ensures.head tells))
    c.in_ok-turn.turn c.in_ok-turn.ensures.ok.0 c.in_ok-turn.ensures.ok.1

pub returns-in_err-turn-clause-full : goal.returns-in_err-turn-clause-full
returns-in_err-turn-clause-full g c = λ is_full tells.
    none_left (g.D.Disk.told c.args.disk.now) c.in_ok-first.first c.in_ok-second.second (c.in_ok-first.ensures.head tells)
    (subst (λ (t : Told). IsHead (given t 2) c.in_ok-second.second) (c.in_ok-first.ensures.same tells) (c.in_ok-second.ensures.head tells))
    c.in_err-turn.ensures.err.1
