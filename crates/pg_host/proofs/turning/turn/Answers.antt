use Rattle.std.proofs.Common.{ap, subst, Option, MatchOption, IsErr, Ok, ◌≡◌}
use Rattle.pg_disk.proofs.Tries.{keeps_none}
use Rattle.pg_packet_read.specs.Whole.{packet_of}
use Rattle.pg_packet_write.specs.DatagramValue.{DatagramValue}
use Rattle.pg_host.specs.Host.{Scene, scene}
use Rattle.pg_host.proofs.Taking.{ends_failed, ends_unread, err_ends, given_idle, given_packet, goes_idle, goes_past, ok_goes, packet_in}
use Rattle.pg_host.proofs.turning.turn.Goals as goal

pub returns-in-Err-clause-ends : goal.returns-in-Err-clause-ends
returns-in-Err-clause-ends g c =
    let a : Scene = scene (g.N.Net.told c.args.net.now) (g.N.Net.takes c.args.net.now) (g.C.Clock.told c.args.clock.now) (g.D.Disk.told c.args.disk.now) c.args.log.now c.args.server.now.store in
    ends_failed g.N.Net.tells g.C.Clock.tells g.D.Disk.tells c.args.port a (g.N.Net.told c.take.new.self) (g.N.Net.takes c.take.new.self) c.in-Err.ensures.same c.in-Err.ensures.failed

pub returns-in-Idle-clause-turns : goal.returns-in-Idle-clause-turns
returns-in-Idle-clause-turns g c =
    let a : Scene = scene (g.N.Net.told c.args.net.now) (g.N.Net.takes c.args.net.now) (g.C.Clock.told c.args.clock.now) (g.D.Disk.told c.args.disk.now) c.args.log.now c.args.server.now.store in
    goes_idle g.N.Net.tells g.C.Clock.tells g.D.Disk.tells c.args.port a (g.N.Net.told c.take.new.self) (g.N.Net.takes c.take.new.self)
    (λ tells. given_idle 40001 c.in-Ok.answer c.take.new.buf a.net (g.N.Net.told c.take.new.self) c.in-Idle.is (c.in-Ok.ensures.taken tells))
    (λ tells. (c.in-Ok.ensures.taken tells).sent) (λ tells. (c.in-Ok.ensures.taken tells).bound) c.in-Ok.ensures.takes

pub returns-in-Err-read-clause-ends : goal.returns-in-Err-read-clause-ends
returns-in-Err-read-clause-ends g c =
    let a : Scene = scene (g.N.Net.told c.args.net.now) (g.N.Net.takes c.args.net.now) (g.C.Clock.told c.args.clock.now) (g.D.Disk.told c.args.disk.now) c.args.log.now c.args.server.now.store in
    ends_unread g.N.Net.tells g.C.Clock.tells g.D.Disk.tells c.args.port a (g.N.Net.told c.take.new.self) (g.N.Net.takes c.take.new.self) (packet_in c.in-Packet.from c.in-Packet.length c.take.new.buf)
    (λ tells. given_packet 40001 c.in-Ok.answer c.take.new.buf a.net (g.N.Net.told c.take.new.self) c.in-Packet.from c.in-Packet.length c.in-Packet.is (c.in-Ok.ensures.taken tells))
    (λ tells. (c.in-Ok.ensures.taken tells).sent) (λ tells. (c.in-Ok.ensures.taken tells).bound) c.in-Ok.ensures.takes
    (c.in-Err-read.ensures.unread c.in-Packet.from)

pub returns-in-None-clause-turns : goal.returns-in-None-clause-turns
returns-in-None-clause-turns g c =
    let a : Scene = scene (g.N.Net.told c.args.net.now) (g.N.Net.takes c.args.net.now) (g.C.Clock.told c.args.clock.now) (g.D.Disk.told c.args.disk.now) c.args.log.now c.args.server.now.store in
    goes_past g.N.Net.tells g.C.Clock.tells g.D.Disk.tells c.args.port a (g.N.Net.told c.take.new.self) (g.N.Net.takes c.take.new.self) (packet_in c.in-Packet.from c.in-Packet.length c.take.new.buf)
    (λ tells. given_packet 40001 c.in-Ok.answer c.take.new.buf a.net (g.N.Net.told c.take.new.self) c.in-Packet.from c.in-Packet.length c.in-Packet.is (c.in-Ok.ensures.taken tells))
    (λ tells. (c.in-Ok.ensures.taken tells).sent) (λ tells. (c.in-Ok.ensures.taken tells).bound) c.in-Ok.ensures.takes
    (subst (λ (found : Option DatagramValue). MatchOption found (IsErr (packet_of (packet_in c.in-Packet.from c.in-Packet.length c.take.new.buf).bytes)) (λ d. packet_of (packet_in c.in-Packet.from c.in-Packet.length c.take.new.buf).bytes ≡ Ok d)) c.in-None.is c.in-Ok-read.ensures.packet)

pub returns-in-Some-clause-turns : goal.returns-in-Some-clause-turns
returns-in-Some-clause-turns g c =
    let a : Scene = scene (g.N.Net.told c.args.net.now) (g.N.Net.takes c.args.net.now) (g.C.Clock.told c.args.clock.now) (g.D.Disk.told c.args.disk.now) c.args.log.now c.args.server.now.store in
    let b : Scene = scene (g.N.Net.told c.take_packet.new.net) (g.N.Net.takes c.take_packet.new.net) (g.C.Clock.told c.take_packet.new.clock) (g.D.Disk.told c.take_packet.new.disk) c.take_packet.new.log c.take_packet.new.server.store in
    ok_goes g.N.Net.tells g.C.Clock.tells g.D.Disk.tells c.args.port a (g.N.Net.told c.take.new.self) (g.N.Net.takes c.take.new.self) (packet_in c.in-Packet.from c.in-Packet.length c.take.new.buf)
    (λ tells. given_packet 40001 c.in-Ok.answer c.take.new.buf a.net (g.N.Net.told c.take.new.self) c.in-Packet.from c.in-Packet.length c.in-Packet.is (c.in-Ok.ensures.taken tells))
    (λ tells. (c.in-Ok.ensures.taken tells).sent) (λ tells. (c.in-Ok.ensures.taken tells).bound) c.in-Ok.ensures.takes
    c.in-Some.packet
    (subst (λ (found : Option DatagramValue). MatchOption found (IsErr (packet_of (packet_in c.in-Packet.from c.in-Packet.length c.take.new.buf).bytes)) (λ d. packet_of (packet_in c.in-Packet.from c.in-Packet.length c.take.new.buf).bytes ≡ Ok d)) c.in-Some.is c.in-Ok-read.ensures.packet)
    b c.take_packet.ensures.takes c.take_packet.result c.take_packet.ensures.works

pub returns-in-Some-clause-ends : goal.returns-in-Some-clause-ends
returns-in-Some-clause-ends g c =
    let a : Scene = scene (g.N.Net.told c.args.net.now) (g.N.Net.takes c.args.net.now) (g.C.Clock.told c.args.clock.now) (g.D.Disk.told c.args.disk.now) c.args.log.now c.args.server.now.store in
    let b : Scene = scene (g.N.Net.told c.take_packet.new.net) (g.N.Net.takes c.take_packet.new.net) (g.C.Clock.told c.take_packet.new.clock) (g.D.Disk.told c.take_packet.new.disk) c.take_packet.new.log c.take_packet.new.server.store in
    err_ends g.N.Net.tells g.C.Clock.tells g.D.Disk.tells c.args.port a (g.N.Net.told c.take.new.self) (g.N.Net.takes c.take.new.self) (packet_in c.in-Packet.from c.in-Packet.length c.take.new.buf)
    (λ tells. given_packet 40001 c.in-Ok.answer c.take.new.buf a.net (g.N.Net.told c.take.new.self) c.in-Packet.from c.in-Packet.length c.in-Packet.is (c.in-Ok.ensures.taken tells))
    (λ tells. (c.in-Ok.ensures.taken tells).sent) (λ tells. (c.in-Ok.ensures.taken tells).bound) c.in-Ok.ensures.takes
    c.in-Some.packet
    (subst (λ (found : Option DatagramValue). MatchOption found (IsErr (packet_of (packet_in c.in-Packet.from c.in-Packet.length c.take.new.buf).bytes)) (λ d. packet_of (packet_in c.in-Packet.from c.in-Packet.length c.take.new.buf).bytes ≡ Ok d)) c.in-Some.is c.in-Ok-read.ensures.packet)
    b c.take_packet.ensures.takes c.take_packet.result c.take_packet.ensures.halts

pub returns-in-Err-clause-others : goal.returns-in-Err-clause-others
returns-in-Err-clause-others g c = λ tells. keeps_none 0 (g.D.Disk.told c.args.disk.now)

pub returns-in-Idle-clause-others : goal.returns-in-Idle-clause-others
returns-in-Idle-clause-others g c = λ tells. keeps_none 0 (g.D.Disk.told c.args.disk.now)

pub returns-in-Err-read-clause-others : goal.returns-in-Err-read-clause-others
returns-in-Err-read-clause-others g c = λ tells. keeps_none 0 (g.D.Disk.told c.args.disk.now)

pub returns-in-None-clause-others : goal.returns-in-None-clause-others
returns-in-None-clause-others g c = λ tells. keeps_none 0 (g.D.Disk.told c.args.disk.now)
