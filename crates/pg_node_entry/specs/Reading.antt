-- How entries are read, with the place of the first fault that is met.
use Rattle.std.specs.Prelude.{ℕ, zero, suc, ◌≡◌, ◌+◌, ◌==◌, ◌&&◌, ◌||◌, Bool, List, [], ◌∷◌, length, slice_index, Result, Ok, Err, nat_lt, if◌then◌else◌}
use Rattle.pg_call.specs.declared.call.Call.{Call}
use Rattle.pg_codec.specs.Reading.{Field, ◌>>=◌, followed_by, seen_as, checked, number_at, unread}
use Rattle.pg_codec.specs.Unread.{Unread}
use Rattle.pg_node_entry.specs.declared.entry.NodeEntry.{NodeEntry}
use Rattle.pg_node_entry.specs.declared.entry.NodeEntry.TheVariants as entry
use Rattle.pg_node_entry.specs.declared.error.EntryError.{EntryError}
use Rattle.pg_node_entry.specs.declared.error.EntryError.TheVariants as fault
use Rattle.pg_node_entry.specs.declared.reading.EntryKind.{EntryKind}
use Rattle.pg_node_entry.specs.declared.reading.EntryKind.TheVariants as kind
use Rattle.pg_packet_fields.specs.Faults.{of_packet}
use Rattle.pg_packet_fields.specs.declared.error.PacketError.{PacketError}
use Rattle.pg_packet_fields.specs.declared.error.PacketError.TheVariants.{OutOfMemory, Short, BadTag, TooLong, Tail}
use Rattle.pg_packet_read.specs.Calls.{request_at}
use Rattle.pg_packet_read.specs.Whole.{packet_of}
use Rattle.pg_packet_write.specs.DatagramValue.{DatagramValue}
use Rattle.pg_packet_write.specs.declared.datagram.Content.{Content}
use Rattle.pg_packet_write.specs.declared.datagram.Content.TheVariants as content
use Rattle.pg_packet_write.specs.declared.datagram.Request.{Request}
use Rattle.pg_packet_write.specs.declared.datagram.Request.TheVariants as request

-- ---- faults

-- the fault of a packet or a field, behind so many bytes: its place is all that is told
abbrev pub fault_behind : ℕ → PacketError → EntryError
fault_behind count OutOfMemory = fault.OutOfMemory
fault_behind count (Short place) = fault.Bad (count + place)
fault_behind count (BadTag place) = fault.Bad (count + place)
fault_behind count (TooLong place) = fault.Bad (count + place)
fault_behind count (Tail place) = fault.Bad (count + place)

-- where the fault is
abbrev pub place_of : PacketError → ℕ
place_of OutOfMemory = 0
place_of (Short place) = place
place_of (BadTag place) = place
place_of (TooLong place) = place
place_of (Tail place) = place

-- what a function returned is what reading gives, unless memory ran out
abbrev pub Fails : EntryError → Result NodeEntry EntryError → Type 0
Fails fault.OutOfMemory read = Unit {0}
Fails (fault.Bad place) read = read ≡ Err (fault.Bad place)

abbrev pub Gives : Result NodeEntry EntryError → Result NodeEntry EntryError → Type 0
Gives (Ok e) read = read ≡ Ok e
Gives (Err e) read = Fails e read

-- ---- entries that carry no packet

-- a call, and no tick
abbrev pub call_of : ℕ → Request → Result Call PacketError
call_of place (request.Call call) = Ok call
call_of place request.Tick = Err (BadTag place)

unfoldable pub noted_call_at : Field PacketError Call
noted_call_at from = checked call_of request_at from

-- the kinds of entries by number, but for 3: of arrivals
abbrev pub kind_of : ℕ → ℕ → Result EntryKind PacketError
kind_of place (suc zero) = Ok kind.Call
kind_of place (suc (suc zero)) = Ok kind.Tick
kind_of place (suc (suc (suc (suc zero)))) = Ok kind.Restart
kind_of place (suc (suc (suc (suc (suc zero))))) = Ok kind.First
kind_of place number = Err (BadTag place)

unfoldable pub kind_at : Field PacketError EntryKind
kind_at from = checked kind_of (of_packet (number_at 1)) from

-- the fields of the kind in their order
unfoldable pub fields_at : EntryKind → Field PacketError NodeEntry
fields_at kind.Call from = seen_as (λ x. entry.Call x.0 x.1)
    (followed_by (of_packet (number_at 8)) (λ moment. noted_call_at)) from
fields_at kind.Tick from = seen_as (λ x. entry.Tick x.0 x.1)
    (followed_by (of_packet (number_at 8)) (λ moment. of_packet (number_at 8))) from
fields_at kind.Restart from = Ok (entry.Restart, from)
fields_at kind.First from = seen_as (λ x. entry.First x.0 x.1)
    (followed_by (of_packet (number_at 4)) (λ server. of_packet (number_at 4))) from

-- the number of the kind, and its fields
unfoldable pub entry_at : Field PacketError NodeEntry
entry_at from = kind_at from >>= λ kind. fields_at kind.0 kind.1

-- nothing stands behind it
abbrev pub ended : NodeEntry × Unread → Result NodeEntry PacketError
ended x = if length x.1.rest == 0 then Ok x.0 else Err (Tail x.1.place)

-- the entry that the bytes are, where it carries no packet
unfoldable pub plain_of : List ℕ → Result NodeEntry PacketError
plain_of bytes = entry_at (unread bytes) >>= ended

abbrev pub placed : Result NodeEntry PacketError → Result NodeEntry EntryError
placed (Ok e) = Ok e
placed (Err e) = Err (fault_behind 0 e)

-- ---- arrivals

-- Whether the bytes begin as a packet that is no message's: a call's or a reply's.
unfoldable pub begins_other : List ℕ → Bool
begins_other bytes = nat_lt 3 (length bytes) && (slice_index bytes 0 == 80
    && (slice_index bytes 1 == 71 && (slice_index bytes 2 == 1
    && (slice_index bytes 3 == 27 || slice_index bytes 3 == 28))))

-- of another packet than a message's the number of its kind is bad
abbrev pub message_in : DatagramValue → Content → Result NodeEntry EntryError
message_in d (content.Message message) =
    Ok (entry.Arrival (record { from = d.from; view = d.view; message = message }))
message_in d other = Err (fault.Bad 4)

-- a packet stands behind the number of the entry's kind
abbrev pub carried : Result DatagramValue PacketError → Result NodeEntry EntryError
carried (Ok d) = message_in d d.content
carried (Err e) = Err (fault_behind 1 e)

unfoldable pub arrival_of : List ℕ → Result NodeEntry EntryError
arrival_of bytes = if begins_other bytes then Err (fault.Bad 4) else carried (packet_of bytes)

-- ---- entries

-- THE ENTRY that the bytes are, or the place of the first that no entry has there; the length of
-- the bytes where they end too early
unfoldable pub entry_of : List ℕ → Result NodeEntry EntryError
entry_of [] = Err (fault.Bad 0)
entry_of (number ∷ rest) =
    if number == 3 then arrival_of rest else placed (plain_of (number ∷ rest))
