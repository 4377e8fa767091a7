-- Kinds by their numbers.
use Rattle.std.specs.Prelude.{ℕ, zero, suc, List, Option, Some, None, Result, Ok, Err, slice_get}
use Rattle.pg_codec.specs.Reading.{Field, checked, number_at}
use Rattle.pg_packet_fields.specs.Faults.{of_packet}
use Rattle.pg_packet_fields.specs.declared.error.PacketError.{PacketError}
use Rattle.pg_packet_fields.specs.declared.error.PacketError.TheVariants.{BadTag}

-- the item with this number, the first having 1
abbrev pub numbered : {X : Type 0} → List X → ℕ → Option X
numbered items zero = None
numbered items (suc n) = slice_get items n

abbrev pub or_bad : {X : Type 0} → ℕ → Option X → Result X PacketError
or_bad place None = Err (BadTag place)
or_bad place (Some x) = Ok x

-- the item whose number is the byte, else a fault at the byte
unfoldable pub item_at : {X : Type 0} → List X → Field PacketError X
item_at items from =
    checked (λ place n. or_bad place (numbered items n)) (of_packet (number_at 1)) from
