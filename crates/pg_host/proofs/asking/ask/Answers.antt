use Rattle.std.proofs.Common.{◌≡◌, ◌∙◌, ap, sym, subst, arith}
use Rattle.pg_msg.specs.declared.message.Packet.{Packet}
use Rattle.pg_packet_write.specs.DatagramValue.{DatagramValue}
use Rattle.pg_packet_write.specs.Datagrams.{FitsContent, FitsRequest}
use Rattle.pg_packet_write.specs.declared.datagram.Content.{Content}
use Rattle.pg_packet_write.specs.declared.datagram.Content.TheVariants as content
use Rattle.pg_packet_write.specs.declared.datagram.Request.{Request}
use Rattle.pg_packet_write.specs.declared.datagram.Request.TheVariants as request
use Rattle.pg_host.proofs.Clocked.{asks_call, asks_message, asks_tick, datagram}
use Rattle.pg_host.proofs.Readable.{arrival_read, arrival_short, call_read, call_short, tick_read, tick_short}
use Rattle.pg_host.proofs.asking.ask.Goals as goal

pub returns-in-Message-clause-asks : goal.returns-in-Message-clause-asks
returns-in-Message-clause-asks g c =
    asks_message g.C.Clock.tells c.args.from c.packet.inside.from c.packet.inside.view c.args.packet c.in-Message.message (g.C.Clock.told c.args.clock.now)
    (ap (datagram c.packet.inside.from c.packet.inside.view) (sym c.in-Message.is) ∙ c.packet.view_is)

pub returns-in-Message-clause-fits : goal.returns-in-Message-clause-fits
returns-in-Message-clause-fits g c = record {
  spelled = subst (λ (x : Content). FitsContent x) c.in-Message.is c.packet.invariant;
  flags = c.message_fits.ensures.flags;
}

pub returns-in-Call-asked-clause-asks : goal.returns-in-Call-asked-clause-asks
returns-in-Call-asked-clause-asks g c =
    asks_call g.C.Clock.tells c.args.from c.packet.inside.from c.packet.inside.view c.args.packet c.in-Call.number c.now-moment.result
    (g.C.Clock.told c.args.clock.now) (g.C.Clock.told c.now-moment.new.self) c.now-moment.ensures.given c.now-moment.ensures.words c.in-Call-asked.call
    (ap (λ (r : Request). datagram c.packet.inside.from c.packet.inside.view (content.Call c.in-Call.number r)) (sym c.in-Call-asked.is)
    ∙ ap (datagram c.packet.inside.from c.packet.inside.view) (sym c.in-Call.is) ∙ c.packet.view_is)

pub returns-in-Call-clause-asks : goal.returns-in-Call-clause-asks
returns-in-Call-clause-asks g c =
    asks_tick g.C.Clock.tells c.args.from c.packet.inside.from c.packet.inside.view c.args.packet c.in-Call.number c.now-moment.result
    (g.C.Clock.told c.args.clock.now) (g.C.Clock.told c.now-moment.new.self) c.now-moment.ensures.given c.now-moment.ensures.words
    c.word-random.result (g.C.Clock.told c.word-random.new.self) c.word-random.ensures.given c.word-random.ensures.moments
    (ap (λ (r : Request). datagram c.packet.inside.from c.packet.inside.view (content.Call c.in-Call.number r)) (sym c.in-Tick.is)
    ∙ ap (datagram c.packet.inside.from c.packet.inside.view) (sym c.in-Call.is) ∙ c.packet.view_is)

pub returns-in-Message-clause-short : goal.returns-in-Message-clause-short
returns-in-Message-clause-short g c =
    let p : Packet = record { from = c.packet.inside.from; view = c.packet.inside.view; message = c.in-Message.message } in
    arrival_short c.entries_read_back.ensures.written c.packets_read_back.ensures.spelled c.entries_are_short.ensures.packet c.args.packet c.requires p
    (ap (datagram c.packet.inside.from c.packet.inside.view) (sym c.in-Message.is) ∙ c.packet.view_is)
    (subst (λ (x : Content). FitsContent x) c.in-Message.is c.packet.invariant) (c.entries_are_short.ensures.arrival p)

pub returns-in-Message-clause-read : goal.returns-in-Message-clause-read
returns-in-Message-clause-read g c =
    let p : Packet = record { from = c.packet.inside.from; view = c.packet.inside.view; message = c.in-Message.message } in
    arrival_read c.entries_read_back.ensures.written c.packets_read_back.ensures.spelled c.entries_are_short.ensures.packet c.args.packet c.requires p
    (ap (datagram c.packet.inside.from c.packet.inside.view) (sym c.in-Message.is) ∙ c.packet.view_is)

pub returns-in-Call-asked-clause-short : goal.returns-in-Call-asked-clause-short
returns-in-Call-asked-clause-short g c =
    let whole : datagram c.packet.inside.from c.packet.inside.view (content.Call c.in-Call.number (request.Call c.in-Call-asked.call)) ≡ c.args.packet =
    ap (λ (r : Request). datagram c.packet.inside.from c.packet.inside.view (content.Call c.in-Call.number r)) (sym c.in-Call-asked.is)
    ∙ ap (datagram c.packet.inside.from c.packet.inside.view) (sym c.in-Call.is) ∙ c.packet.view_is in
    call_short c.entries_read_back.ensures.written c.packets_read_back.ensures.spelled c.entries_are_short.ensures.packet c.args.packet c.requires c.now-moment.result c.in-Call-asked.call
    (subst (λ (r : Request). FitsRequest r) c.in-Call-asked.is (subst (λ (x : Content). FitsContent x) c.in-Call.is c.packet.invariant))
    (c.entries_are_short.ensures.call c.args.packet c.in-Call.number c.now-moment.result c.in-Call-asked.call (sym (ap (λ (d : DatagramValue). d.content) whole)))

pub returns-in-Call-asked-clause-read : goal.returns-in-Call-asked-clause-read
returns-in-Call-asked-clause-read g c =
    let whole : datagram c.packet.inside.from c.packet.inside.view (content.Call c.in-Call.number (request.Call c.in-Call-asked.call)) ≡ c.args.packet =
    ap (λ (r : Request). datagram c.packet.inside.from c.packet.inside.view (content.Call c.in-Call.number r)) (sym c.in-Call-asked.is)
    ∙ ap (datagram c.packet.inside.from c.packet.inside.view) (sym c.in-Call.is) ∙ c.packet.view_is in
    call_read c.entries_read_back.ensures.written c.packets_read_back.ensures.spelled c.entries_are_short.ensures.packet c.args.packet c.requires c.in-Call.number c.now-moment.result c.in-Call-asked.call
    (omega arith) (sym (ap (λ (d : DatagramValue). d.content) whole))

pub returns-in-Call-clause-short : goal.returns-in-Call-clause-short
returns-in-Call-clause-short g c = tick_short c.now-moment.result c.word-random.result (c.entries_are_short.ensures.tick c.now-moment.result c.word-random.result)

pub returns-in-Call-clause-read : goal.returns-in-Call-clause-read
returns-in-Call-clause-read g c = tick_read c.entries_read_back.ensures.written c.now-moment.result c.word-random.result (omega arith) (omega arith)
