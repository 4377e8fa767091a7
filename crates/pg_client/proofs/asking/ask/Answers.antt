use Rattle.std.proofs.Common.{◌≡◌, ◌∙◌, ℕ, ◌+◌, List, Option, Ok, ap, refl, subst, inl, inr}
use Rattle.pg_net.specs.Net.{Told}
use Rattle.pg_call.specs.declared.reply.Reply.{Reply}
use Rattle.pg_event.specs.declared.status.Status.TheVariants as status
use Rattle.pg_client.specs.Asks.{Listens, call_bytes}
use Rattle.pg_client.proofs.Calls.{asks_none, asks_told, given_then, packet_sent}
use Rattle.pg_client.proofs.asking.ask.Goals as goal

pub returns-in-Err-clause-asks : goal.returns-in-Err-clause-asks
returns-in-Err-clause-asks g c =
    asks_none g.N.Net.tells (c.args.port + c.args.server) c.args.asked status.OutOfMemory (g.N.Net.told c.args.net.now) (g.N.Net.takes c.args.net.now) (g.K.Sink.contents c.args.sink.now)
    (g.N.Net.told c.args.net.now) (g.N.Net.takes c.args.net.now) (inr refl) (λ tells. refl) (λ tells. refl) refl

pub returns-in-Err-bind-clause-asks : goal.returns-in-Err-bind-clause-asks
returns-in-Err-bind-clause-asks g c =
    asks_none g.N.Net.tells (c.args.port + c.args.server) c.args.asked status.NetFault (g.N.Net.told c.args.net.now) (g.N.Net.takes c.args.net.now) (g.K.Sink.contents c.args.sink.now)
    (g.N.Net.told c.bind.new.self) (g.N.Net.takes c.bind.new.self) (inl refl)
    (λ tells. ap (λ (t : Told). t.given) (c.in-Err-bind.ensures.same tells)) (λ tells. ap (λ (t : Told). t.sent) (c.in-Err-bind.ensures.same tells)) c.bind.ensures.takes

pub returns-in-Err-send-clause-asks : goal.returns-in-Err-send-clause-asks
returns-in-Err-send-clause-asks g c =
    asks_none g.N.Net.tells (c.args.port + c.args.server) c.args.asked status.NetFault (g.N.Net.told c.args.net.now) (g.N.Net.takes c.args.net.now) (g.K.Sink.contents c.args.sink.now)
    (g.N.Net.told c.send.new.self) (g.N.Net.takes c.send.new.self) (inl refl)
    (λ tells. ap (λ (t : Told). t.given) (c.in-Err-send.ensures.same tells) ∙ ap (λ (t : Told). t.given) (c.in-Ok-bind.ensures.bound tells))
    (λ tells. ap (λ (t : Told). t.sent) (c.in-Err-send.ensures.same tells) ∙ ap (λ (t : Told). t.sent) (c.in-Ok-bind.ensures.bound tells))
    (c.send.ensures.takes ∙ c.bind.ensures.takes)

pub returns-in-Some-clause-asks : goal.returns-in-Some-clause-asks
returns-in-Some-clause-asks g c =
    let n0 : Told = g.N.Net.told c.args.net.now in
    let bound : Told = g.N.Net.told c.bind.new.self in
    let sent : Told = g.N.Net.told c.send.new.self in
    let n1 : Told = g.N.Net.told c.listen.new.net in
    let port : ℕ = c.args.port + c.args.server in
    let bytes : List ℕ = c.as_slice.result.now in
    let is : bytes ≡ call_bytes c.args.asked = c.as_slice.ensures ∙ c.in-Ok.ensures in
    asks_told g.N.Net.tells port c.args.asked c.tell.result n0 (g.N.Net.takes c.args.net.now) (g.K.Sink.contents c.args.sink.now)
    sent n1 (g.N.Net.takes c.send.new.self) (g.N.Net.takes c.listen.new.net)
    (λ tells. given_then n0 bound sent port bytes (c.in-Ok-bind.ensures.bound tells) (c.in-Ok-send.ensures.sent tells))
    (λ tells. packet_sent n0 bound sent port bytes (c.in-Ok-bind.ensures.bound tells) (c.in-Ok-send.ensures.sent tells) c.args.asked is)
    (c.send.ensures.takes ∙ c.bind.ensures.takes)
    c.in-Some.reply (g.K.Sink.contents c.tell.new.sink)
    (subst (λ (found : Option Reply). Listens g.N.Net.tells (Ok found) sent n1 (g.N.Net.takes c.send.new.self) (g.N.Net.takes c.listen.new.net)) c.in-Some.is c.in-Ok-listen.ensures.listens)
    c.tell.ensures.wrote c.tell.ensures.status
