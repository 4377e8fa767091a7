-- What a server sends behind its inputs, as packets of a net.
use Rattle.std.specs.Prelude.{ℕ, ◌≡◌, ◌+◌, List, [], ◌∷◌, ◌++◌, map, take, Some, None}
use Rattle.std.specs.declared.option.Option.{Option}
use Rattle.pg_call.specs.declared.reply.Reply.{Reply}
use Rattle.pg_msg.specs.declared.message.Sent.{Sent}
use Rattle.pg_net.specs.Net.{Datagram, Told}
use Rattle.pg_packet_write.specs.Datagrams.{packet_bytes}
use Rattle.pg_packet_write.specs.DatagramValue.{DatagramValue}
use Rattle.pg_packet_write.specs.declared.datagram.Content.TheVariants as content
use Rattle.pg_server.specs.Local.{Effect, effect_of}
use Rattle.pg_store.specs.Seen.{server_of, view_of}
use Rattle.pg_store.specs.declared.store.Store.{Store}
use Rattle.pg_host.specs.declared.asking.Asked.{Asked}
use Rattle.pg_host.specs.declared.asking.Back.{Back}
use Rattle.pg_host.specs.declared.asking.Back.TheVariants.{Nobody, Client}

-- ---- packets

-- a packet whose bytes go to a port
abbrev pub packet_to : ℕ → DatagramValue → Datagram
packet_to port d = record { port = port; bytes = packet_bytes d }

-- A reply under the client's number. As every message it is from this server, in the server's view
-- behind the input.
abbrev pub reply_value : Store → ℕ → Reply → DatagramValue
reply_value s number reply =
    record { from = server_of s; view = view_of s; content = content.Reply number reply }

abbrev pub message_value : Sent → DatagramValue
message_value sent = record {
  from = sent.packet.from;
  view = sent.packet.view;
  content = content.Message sent.packet.message;
}

-- it goes to the port it came from
abbrev pub reply_packets : Store → Back → Option Reply → List Datagram
reply_packets s Nobody reply = []
reply_packets s (Client port number) None = []
reply_packets s (Client port number) (Some reply) = packet_to port (reply_value s number reply) ∷ []

-- each message goes to the port of its addressee
abbrev pub message_packet : ℕ → Sent → Datagram
message_packet port sent = packet_to (port + sent.to) (message_value sent)

-- first the reply, if there is one, and then the messages
abbrev pub packets : ℕ → Back → Effect → List Datagram
packets port back e =
    reply_packets e.store back e.out.reply ++ map (message_packet port) e.out.sent

-- ---- behind inputs

-- what the server holds
abbrev pub after_all : Store → List Asked → Store
after_all s [] = s
after_all s (a ∷ more) = after_all (effect_of s a.input).store more

-- WHAT IT SENDS
abbrev pub sends : ℕ → Store → List Asked → List Datagram
sends port s [] = []
sends port s (a ∷ more) =
    packets port a.back (effect_of s a.input) ++ sends port (effect_of s a.input).store more

-- ---- on a net

-- these packets more were sent
abbrev pub with_all : Told → List Datagram → Told
with_all told more =
    record { bound = told.bound; left = told.left; given = told.given; sent = told.sent ++ more }

-- of these packets the first were sent
abbrev pub SentFirst : Told → Told → List Datagram → Type 0
SentFirst old new more = (n : ℕ) × (new ≡ with_all old (take n more))
