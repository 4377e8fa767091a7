use Rattle.std.proofs.Common.{[], ◌∷◌, subst}
use Rattle.pg_net.specs.Clock.{Remembered, AreNoted, first}
use Rattle.pg_net.proofs.Noted.{noted_from}
use Rattle.pg_net.proofs.memory_clock.MemoryClockClock.now.Goals as goal

pub returns-clause-given : goal.returns-clause-given
returns-clause-given c = λ t.
    subst (λ (old : Remembered). AreNoted (first old.moments.items old.moments.made) (first c.next.new.self.items c.next.new.self.made) (c.next.result ∷ [])) c.self.view_is
    (noted_from c.self.inside.moments c.next.new.self c.next.result c.next.ensures.bound c.next.ensures.given c.next.ensures.moved)
