-- What the packets that a net gave ask of a server.
use Rattle.std.specs.Prelude.{ℕ, ◌≡◌, ◌+◌, ◌⊎◌, List, [], ◌∷◌, ◌++◌, length, Bool, false, true, ◌||◌, Some, None, Result, Ok, Err}
use Rattle.std.specs.declared.option.Option.{Option}
use Rattle.pg_call.specs.declared.call.Call.{Call}
use Rattle.pg_call.specs.declared.call.Call.TheVariants as call
use Rattle.pg_msg.specs.declared.message.Message.{Message}
use Rattle.pg_net.specs.Net.{Datagram}
use Rattle.pg_packet_fields.specs.declared.error.PacketError.{PacketError}
use Rattle.pg_packet_read.specs.Whole.{packet_of}
use Rattle.pg_packet_write.specs.DatagramValue.{DatagramValue}
use Rattle.pg_packet_write.specs.declared.datagram.Content.{Content}
use Rattle.pg_packet_write.specs.declared.datagram.Content.TheVariants as content
use Rattle.pg_packet_write.specs.declared.datagram.Request.TheVariants as request
use Rattle.pg_server.specs.declared.input.Input.{Input}
use Rattle.pg_server.specs.declared.input.Input.TheVariants as input
use Rattle.pg_host.specs.declared.asking.Asked.{Asked}
use Rattle.pg_host.specs.declared.asking.Back.TheVariants.{Nobody, Client}

-- ---- inputs

-- of a message, with the sender and the view that its packet names
abbrev pub arrived : DatagramValue → Message → Asked
arrived d message = record {
  back = Nobody;
  input = input.Arrival (record { from = d.from; view = d.view; message = message });
}

-- of a call that came from this port, under this number of the client's
abbrev pub called : ℕ → ℕ → ℕ → Call → Asked
called port number moment call =
    record { back = Client port number; input = input.Call moment call }

abbrev pub ticked : ℕ → ℕ → ℕ → ℕ → Asked
ticked port number moment word =
    record { back = Client port number; input = input.Tick moment word }

-- What the content of a packet asks, before what the later packets ask of the moments and words
-- that are left. A call takes one moment, and a tick one moment and one word; where none is left
-- there is no input more. A message takes none. A reply asks nothing of a server: it is passed
-- over. Sender and view are looked at in a message alone, and there by the server.
abbrev pub asked_by : ℕ → DatagramValue → Content → (List ℕ → List ℕ → List Asked) → List ℕ → List ℕ
    → List Asked
asked_by port d (content.Message message) more moments words =
    arrived d message ∷ more moments words
asked_by port d (content.Call number (request.Call call)) more [] words = []
asked_by port d (content.Call number (request.Call call)) more (moment ∷ moments) words =
    called port number moment call ∷ more moments words
asked_by port d (content.Call number request.Tick) more [] words = []
asked_by port d (content.Call number request.Tick) more (moment ∷ moments) [] = []
asked_by port d (content.Call number request.Tick) more (moment ∷ moments) (word ∷ words) =
    ticked port number moment word ∷ more moments words
asked_by port d (content.Reply number reply) more moments words = more moments words

-- bytes that are no packet are passed over, and no moment is taken for them
abbrev pub asked_at : ℕ → Result DatagramValue PacketError → (List ℕ → List ℕ → List Asked) → List ℕ
    → List ℕ → List Asked
asked_at port (Ok d) more = asked_by port d d.content more
asked_at port (Err e) more = more

-- THE INPUTS of what takes gave, with these moments and words
abbrev pub asked : List (Option Datagram) → List ℕ → List ℕ → List Asked
asked [] = λ moments words. []
asked (None ∷ gave) = asked gave
asked (Some packet ∷ gave) = asked_at packet.port (packet_of packet.bytes) (asked gave)

-- ---- how many moments and words they take

abbrev pub moments_by : Content → ℕ
moments_by (content.Message message) = 0
moments_by (content.Call number asked) = 1
moments_by (content.Reply number reply) = 0

abbrev pub words_by : Content → ℕ
words_by (content.Message message) = 0
words_by (content.Call number (request.Call call)) = 0
words_by (content.Call number request.Tick) = 1
words_by (content.Reply number reply) = 0

abbrev pub moments_at : Result DatagramValue PacketError → ℕ
moments_at (Ok d) = moments_by d.content
moments_at (Err e) = 0

abbrev pub words_at : Result DatagramValue PacketError → ℕ
words_at (Ok d) = words_by d.content
words_at (Err e) = 0

abbrev pub moments_for : List (Option Datagram) → ℕ
moments_for [] = 0
moments_for (None ∷ gave) = moments_for gave
moments_for (Some packet ∷ gave) = moments_at (packet_of packet.bytes) + moments_for gave

abbrev pub words_for : List (Option Datagram) → ℕ
words_for [] = 0
words_for (None ∷ gave) = words_for gave
words_for (Some packet ∷ gave) = words_at (packet_of packet.bytes) + words_for gave

-- just as many as the inputs of what takes gave have
pub record AreEnough (gave : List (Option Datagram)) (moments words : List ℕ) : Type 0 where
  pub each_moment : length moments ≡ moments_for gave
  pub each_word : length words ≡ words_for gave

-- the same, but that the last packet may lack its moment and its word
pub record LacksLast (gave : List (Option Datagram)) (moments words : List ℕ) : Type 0 where
  pub before : List (Option Datagram)
  pub last : Datagram
  pub whole : gave ≡ before ++ Some last ∷ []
  pub enough : AreEnough before moments words

abbrev pub AreNearlyEnough : List (Option Datagram) → List ℕ → List ℕ → Type 0
AreNearlyEnough gave moments words = AreEnough gave moments words ⊎ LacksLast gave moments words

-- ---- `stop`

abbrev pub is_stop_call : Call → Bool
is_stop_call call.Stop = true
is_stop_call other = false

abbrev pub is_stop : Input → Bool
is_stop (input.Call moment call) = is_stop_call call
is_stop (input.Tick moment word) = false
is_stop (input.Arrival packet) = false
is_stop input.Restart = false

abbrev pub has_stop : List Asked → Bool
has_stop [] = false
has_stop (a ∷ more) = is_stop a.input || has_stop more

-- a `stop` is the last of these, and the only one
pub record EndsByStop (own : List Asked) : Type 0 where
  pub before : List Asked
  pub last : Asked
  pub whole : own ≡ before ++ last ∷ []
  pub none : has_stop before ≡ false
  pub is : is_stop last.input ≡ true

-- whether the last of these is the first `stop`; else there is none
abbrev pub StopsAs : Bool → List Asked → Type 0
StopsAs true own = EndsByStop own
StopsAs false own = has_stop own ≡ false
