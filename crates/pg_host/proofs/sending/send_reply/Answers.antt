use Rattle.std.proofs.Common.{Option, IfSome, subst}
use Rattle.pg_call.specs.declared.reply.Reply.{Reply}
use Rattle.pg_node_input.specs.law_lengths.Packets.{IsToldWell}
use Rattle.pg_host.proofs.Stepped.{reply_spelled}
use Rattle.pg_host.proofs.sending.send_reply.Goals as goal

pub reply-packet-requires : goal.reply-packet-requires
reply-packet-requires g c =
    reply_spelled c.in-Client.number c.in-Some.reply (subst (λ (o : Option Reply). IfSome o (λ r. IsToldWell r)) c.in-Some.is c.requires) c.reply_fits.ensures
