use Rattle.std.proofs.Common.{Option, refl, subst}
use Rattle.pg_disk.proofs.Tries.{keeps_none}
use Rattle.pg_host.specs.declared.asking.Asked.{Asked}
use Rattle.pg_host.specs.Host.{Scene, scene}
use Rattle.pg_host.specs.Turn.{Asks}
use Rattle.pg_host.proofs.Entered.{works_none, works_one, halts_one}
use Rattle.pg_host.proofs.Readable.{some_read}
use Rattle.pg_host.proofs.turning.take_packet.Goals as goal

pub returns-in-None-clause-works : goal.returns-in-None-clause-works
returns-in-None-clause-works g c =
    let a : Scene = scene (g.N.Net.told c.args.net.now) (g.N.Net.takes c.args.net.now) (g.C.Clock.told c.args.clock.now) (g.D.Disk.told c.args.disk.now) c.args.log.now c.args.server.now.store in
    let b : Scene = scene (g.N.Net.told c.args.net.now) (g.N.Net.takes c.args.net.now) (g.C.Clock.told c.ask-found.new.clock) (g.D.Disk.told c.args.disk.now) c.args.log.now c.args.server.now.store in
    works_none g.N.Net.tells g.C.Clock.tells g.D.Disk.tells c.args.port c.args.from c.args.packet a b
    (subst (λ (x : Option Asked). Asks g.C.Clock.tells c.args.from c.args.packet x a.clock b.clock) c.in-None.is c.ask-found.ensures.asks) refl refl refl refl

pub returns-in-None-clause-others : goal.returns-in-None-clause-others
returns-in-None-clause-others g c = λ tells. keeps_none 0 (g.D.Disk.told c.args.disk.now)

pub returns-in-Ok-clause-works : goal.returns-in-Ok-clause-works
returns-in-Ok-clause-works g c =
    let a : Scene = scene (g.N.Net.told c.args.net.now) (g.N.Net.takes c.args.net.now) (g.C.Clock.told c.args.clock.now) (g.D.Disk.told c.args.disk.now) c.args.log.now c.args.server.now.store in
    let b : Scene = scene (g.N.Net.told c.enter.new.net) (g.N.Net.takes c.enter.new.net) (g.C.Clock.told c.ask-found.new.clock) (g.D.Disk.told c.enter.new.disk) c.enter.new.log c.enter.new.server.store in
    works_one g.N.Net.tells g.C.Clock.tells g.D.Disk.tells c.args.port c.args.from c.args.packet a b c.in-Some.asked c.is_stop-stop.result c.is_stop-stop.ensures
    (subst (λ (x : Option Asked). Asks g.C.Clock.tells c.args.from c.args.packet x a.clock b.clock) c.in-Some.is c.ask-found.ensures.asks)
    (some_read c.in-Some.asked c.ask-found.result c.in-Some.is c.ask-found.ensures.read) c.enter.ensures.others c.enter.ensures.any_moment
    c.in-Ok.ensures.sent c.in-Ok.ensures.store c.in-Ok.ensures.kept

pub returns-in-Err-clause-halts : goal.returns-in-Err-clause-halts
returns-in-Err-clause-halts g c =
    let a : Scene = scene (g.N.Net.told c.args.net.now) (g.N.Net.takes c.args.net.now) (g.C.Clock.told c.args.clock.now) (g.D.Disk.told c.args.disk.now) c.args.log.now c.args.server.now.store in
    let b : Scene = scene (g.N.Net.told c.enter.new.net) (g.N.Net.takes c.enter.new.net) (g.C.Clock.told c.ask-found.new.clock) (g.D.Disk.told c.enter.new.disk) c.enter.new.log c.enter.new.server.store in
    halts_one g.N.Net.tells g.C.Clock.tells g.D.Disk.tells c.args.port c.args.from c.args.packet a b c.in-Some.asked c.is_stop-stop.result c.is_stop-stop.ensures
    (subst (λ (x : Option Asked). Asks g.C.Clock.tells c.args.from c.args.packet x a.clock b.clock) c.in-Some.is c.ask-found.ensures.asks)
    (some_read c.in-Some.asked c.ask-found.result c.in-Some.is c.ask-found.ensures.read) c.enter.ensures.others c.enter.ensures.any_moment
    c.enter.ensures.first (λ disk_tells net_tells. c.enter.ensures.before disk_tells net_tells)
