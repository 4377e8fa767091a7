use Rattle.std.proofs.Common.{◌≡◌, ◌∙◌, ap, map, subst, sym, List, ◌++◌}
use Rattle.pg_node_input.specs.law_lengths.Packets.{IsAskedFew}
use Rattle.pg_node_input.specs.law_lengths.law_spelled.Messages.{FitsInput}
use Rattle.pg_net.specs.Net.{Datagram}
use Rattle.pg_server.specs.Local.{effect_of}
use Rattle.pg_server.specs.declared.input.Input.{Input}
use Rattle.pg_host.specs.Sends.{SentFirst, message_packet, packets, reply_packets, with_all}
use Rattle.pg_host.proofs.Lists.{all_behind, first_behind, first_none}
use Rattle.pg_host.proofs.Stepped.{packets_are}
use Rattle.pg_host.proofs.entering.enter.Goals as goal

pub take-requires-clause-input : goal.take-requires-clause-input
take-requires-clause-input g c = subst (λ (i : Input). FitsInput i) (sym c.in-Ok.ensures.same) c.requires.input

pub take-requires-clause-few : goal.take-requires-clause-few
take-requires-clause-few g c = subst (λ (i : Input). IsAskedFew i) (sym c.in-Ok.ensures.same) c.requires.few

pub returns-in-Ok-send_messages-clause-sent : goal.returns-in-Ok-send_messages-clause-sent
returns-in-Ok-send_messages-clause-sent g c = λ tells.
    let all : reply_packets c.store.result.now c.args.back c.in-Ok-take.out.reply ++ map (message_packet c.args.port) c.in-Ok-take.out.sent ≡ packets c.args.port c.args.back (effect_of c.args.server.now.store c.args.input) =
    packets_are c.args.port c.args.back (effect_of c.args.server.now.store c.args.input) c.store.result.now c.in-Ok-take.out
    (c.store.ensures ∙ c.in-Ok-take.ensures.store ∙ ap (λ (i : Input). (effect_of c.args.server.now.store i).store) c.in-Ok.ensures.same)
    (c.in-Ok-take.ensures.out ∙ ap (λ (i : Input). (effect_of c.args.server.now.store i).out) c.in-Ok.ensures.same) in
    all_behind (g.N.Net.told c.args.net.now) (g.N.Net.told c.send_reply.new.net) (g.N.Net.told c.send_messages.new.net) (reply_packets c.store.result.now c.args.back c.in-Ok-take.out.reply) (map (message_packet c.args.port) c.in-Ok-take.out.sent)
    (c.in-Ok-send_reply.ensures.sent tells) (c.in-Ok-send_messages.ensures.sent tells)
    ∙ ap (with_all (g.N.Net.told c.args.net.now)) all

pub returns-in-Ok-send_messages-clause-first : goal.returns-in-Ok-send_messages-clause-first
returns-in-Ok-send_messages-clause-first g c = λ tells.
    subst (λ (ps : List Datagram). SentFirst (g.N.Net.told c.args.net.now) (g.N.Net.told c.send_messages.new.net) ps)
    (packets_are c.args.port c.args.back (effect_of c.args.server.now.store c.args.input) c.store.result.now c.in-Ok-take.out
    (c.store.ensures ∙ c.in-Ok-take.ensures.store ∙ ap (λ (i : Input). (effect_of c.args.server.now.store i).store) c.in-Ok.ensures.same)
    (c.in-Ok-take.ensures.out ∙ ap (λ (i : Input). (effect_of c.args.server.now.store i).out) c.in-Ok.ensures.same))
    (first_behind (g.N.Net.told c.args.net.now) (g.N.Net.told c.send_reply.new.net) (g.N.Net.told c.send_messages.new.net) (reply_packets c.store.result.now c.args.back c.in-Ok-take.out.reply) (map (message_packet c.args.port) c.in-Ok-take.out.sent)
    (c.in-Ok-send_reply.ensures.sent tells) (c.send_messages.ensures.first tells))

pub returns-clause-first : goal.returns-clause-first
returns-clause-first g c = λ tells.
    subst (λ (ps : List Datagram). SentFirst (g.N.Net.told c.args.net.now) (g.N.Net.told c.send_messages.new.net) ps)
    (packets_are c.args.port c.args.back (effect_of c.args.server.now.store c.args.input) c.store.result.now c.in-Ok-take.out
    (c.store.ensures ∙ c.in-Ok-take.ensures.store ∙ ap (λ (i : Input). (effect_of c.args.server.now.store i).store) c.in-Ok.ensures.same)
    (c.in-Ok-take.ensures.out ∙ ap (λ (i : Input). (effect_of c.args.server.now.store i).out) c.in-Ok.ensures.same))
    (first_behind (g.N.Net.told c.args.net.now) (g.N.Net.told c.send_reply.new.net) (g.N.Net.told c.send_messages.new.net) (reply_packets c.store.result.now c.args.back c.in-Ok-take.out.reply) (map (message_packet c.args.port) c.in-Ok-take.out.sent)
    (c.in-Ok-send_reply.ensures.sent tells) (c.send_messages.ensures.first tells))

pub returns-in-Err-send_reply-clause-first : goal.returns-in-Err-send_reply-clause-first
returns-in-Err-send_reply-clause-first g c = λ tells.
    first_none (g.N.Net.told c.args.net.now) (g.N.Net.told c.send_reply.new.net) (packets c.args.port c.args.back (effect_of c.args.server.now.store c.args.input)) (c.in-Err-send_reply.ensures.same tells)
