-- Faults of fields, as faults of packets.
use Rattle.std.specs.Prelude.{◌≡◌, Result, Ok, Err}
use Rattle.pg_codec.specs.declared.error.ReadError.{ReadError}
use Rattle.pg_codec.specs.declared.error.ReadError.TheVariants as read
use Rattle.pg_codec.specs.Reading.{Field}
use Rattle.pg_packet_fields.specs.declared.error.PacketError.{PacketError}
use Rattle.pg_packet_fields.specs.declared.error.PacketError.TheVariants.{OutOfMemory, Short, BadTag, TooLong, Tail}

abbrev pub widened : ReadError → PacketError
widened (read.Short place) = Short place
widened (read.BadTag place) = BadTag place

abbrev pub with_fault : {X : Type 0} → Result X ReadError → Result X PacketError
with_fault (Ok x) = Ok x
with_fault (Err e) = Err (widened e)

-- the same field, with the faults of packets
abbrev pub of_packet : {X : Type 0} → Field ReadError X → Field PacketError X
of_packet field from = with_fault (field from)

-- what a function returned, seen by view, is what reading gives, unless memory ran out
abbrev pub Fails : {Y : Type 0} → PacketError → Result Y PacketError → Type 0
Fails OutOfMemory read = Unit {0}
Fails (Short place) read = read ≡ Err (Short place)
Fails (BadTag place) read = read ≡ Err (BadTag place)
Fails (TooLong place) read = read ≡ Err (TooLong place)
Fails (Tail place) read = read ≡ Err (Tail place)

abbrev pub Gives : {X Y : Type 0} → (X → Y) → Result X PacketError → Result Y PacketError → Type 0
Gives view (Ok x) read = read ≡ Ok (view x)
Gives view (Err e) read = Fails e read
