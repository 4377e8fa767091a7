-- Whole packets.
use Rattle.std.specs.Prelude.{ℕ, List, [], ◌∷◌, ◌++◌}
use Rattle.pg_codec.specs.Spelling.{number_bytes}
use Rattle.pg_packet_write.specs.declared.datagram.Content.{Content}
use Rattle.pg_packet_write.specs.declared.datagram.Content.TheVariants as content
use Rattle.pg_packet_write.specs.declared.datagram.Request.{Request}
use Rattle.pg_packet_write.specs.declared.datagram.Request.TheVariants as request
use Rattle.pg_packet_write.specs.DatagramValue.{DatagramValue}
use Rattle.pg_packet_write.specs.Calls.{FitsCall, FitsReply, call_bytes, reply_bytes}
use Rattle.pg_packet_write.specs.Messages.{FitsMessage, code_of, message_bytes}

-- how every packet begins: `PG`, and the number of this format
abbrev pub mark : List ℕ
mark = 80 ∷ 71 ∷ 1 ∷ []

-- the kinds of packets by number
abbrev pub kind_of : Content → ℕ
kind_of (content.Message message) = code_of message
kind_of (content.Call number asked) = 27
kind_of (content.Reply number reply) = 28

-- a call, or 16 for a tick
unfoldable pub request_bytes : Request → List ℕ
request_bytes (request.Call call) = call_bytes call
request_bytes request.Tick = number_bytes 1 16

unfoldable pub content_bytes : Content → List ℕ
content_bytes (content.Message message) = message_bytes message
content_bytes (content.Call number asked) = number_bytes 8 number ++ request_bytes asked
content_bytes (content.Reply number reply) = number_bytes 8 number ++ reply_bytes reply

-- the mark, the kind, the sender, the view, and what the kind says
unfoldable pub packet_bytes : DatagramValue → List ℕ
packet_bytes d = mark ++ (number_bytes 1 (kind_of d.content) ++ (number_bytes 4 d.from
    ++ (number_bytes 8 d.view ++ content_bytes d.content)))

abbrev pub FitsRequest : Request → Type 0
FitsRequest (request.Call call) = FitsCall call
FitsRequest request.Tick = Unit {0}

-- what has a spelling
abbrev pub FitsContent : Content → Type 0
FitsContent (content.Message message) = FitsMessage message
FitsContent (content.Call number asked) = FitsRequest asked
FitsContent (content.Reply number reply) = FitsReply reply
