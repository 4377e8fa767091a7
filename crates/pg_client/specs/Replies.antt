-- What a client makes of what takes gave: the reply to its call, the text of it, and how it ends.
use Rattle.std.specs.Prelude.{ℕ, ◌==◌, List, [], ◌∷◌, ◌++◌, Some, None, Ok, Err, Result, if◌then◌else◌}
use Rattle.std.specs.declared.option.Option.{Option}
use Rattle.pg_net.specs.Net.{Datagram}
use Rattle.pg_call.specs.Reply.{reply_body}
use Rattle.pg_call.specs.declared.refusal.Refusal.{Refusal}
use Rattle.pg_call.specs.declared.refusal.Refusal.TheVariants as refusal
use Rattle.pg_call.specs.declared.reply.Reply.{Reply}
use Rattle.pg_call.specs.declared.reply.Reply.TheVariants as reply
use Rattle.pg_event.specs.declared.status.Status.{Status}
use Rattle.pg_event.specs.declared.status.Status.TheVariants as status
use Rattle.pg_packet_fields.specs.declared.error.PacketError.{PacketError}
use Rattle.pg_packet_read.specs.Whole.{packet_of}
use Rattle.pg_packet_write.specs.DatagramValue.{DatagramValue}
use Rattle.pg_packet_write.specs.declared.datagram.Content.{Content}
use Rattle.pg_packet_write.specs.declared.datagram.Content.TheVariants as content

-- the Reply number 1 that a packet is, whoever sent it
abbrev pub said_by : Content → Option Reply
said_by (content.Message message) = None
said_by (content.Call number asked) = None
said_by (content.Reply number reply) = if number == 1 then Some reply else None

abbrev pub reply_read : Result DatagramValue PacketError → Option Reply
reply_read (Ok packet) = said_by packet.content
reply_read (Err e) = None

-- the same of a packet's bytes, which may be no packet
abbrev pub reply_of : List ℕ → Option Reply
reply_of bytes = reply_read (packet_of bytes)

-- the same of what a take gave, where None is Idle
abbrev pub reply_in : Option Datagram → Option Reply
reply_in None = None
reply_in (Some datagram) = reply_of datagram.bytes

abbrev pub or_later : Option Reply → Option Reply → Option Reply
or_later None later = later
or_later (Some reply) later = Some reply

-- the first Reply number 1 of what takes gave
abbrev pub first_reply : List (Option Datagram) → Option Reply
first_reply [] = None
first_reply (g ∷ gave) = or_later (reply_in g) (first_reply gave)

-- what a reply is written as: its text in journals, and a line feed
abbrev pub reply_text : Reply → List ℕ
reply_text reply = reply_body reply ++ 10 ∷ []

-- nothing, where no reply came
abbrev pub text_of : Option Reply → List ℕ
text_of None = []
text_of (Some reply) = reply_text reply

-- the number of a refusal, which its text has too
abbrev pub refusal_number : Refusal → ℕ
refusal_number (refusal.BadPath component) = 1
refusal_number refusal.ClockEnd = 2
refusal_number (refusal.NotYet id) = 3
refusal_number (refusal.NoName component) = 4
refusal_number (refusal.NotDir component) = 5
refusal_number refusal.IsDir = 6
refusal_number refusal.Root = 7
refusal_number (refusal.Exists id) = 8
refusal_number refusal.DirFull = 9
refusal_number (refusal.NotEmpty id) = 10
refusal_number refusal.Loop = 11
refusal_number refusal.TooLong = 12
refusal_number (refusal.Behind stamp) = 13
refusal_number refusal.IsGold = 14
refusal_number refusal.LastGold = 15
refusal_number (refusal.HasChild id) = 16
refusal_number (refusal.Unsettled what id peer) = 17
refusal_number refusal.Held = 18
refusal_number (refusal.WrongView view) = 19
refusal_number refusal.ManyActors = 20

-- how a call ends whose reply was written
abbrev pub status_of : Reply → Status
status_of reply.Done = status.Done
status_of (reply.Made id) = status.Done
status_of (reply.Wrote stamp) = status.Done
status_of (reply.Bytes bytes) = status.Done
status_of (reply.Names total rows) = status.Done
status_of (reply.Stat stat) = status.Done
status_of (reply.Leaving server) = status.Done
status_of (reply.Status counts) = status.Done
status_of (reply.Refused why) = status.Refused (refusal_number why)

-- how a call ends by its reply, or without one
abbrev pub ended_by : Option Reply → Status
ended_by None = status.TurnsSpent
ended_by (Some reply) = status_of reply
