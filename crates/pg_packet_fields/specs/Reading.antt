-- How the fields of packets are read from left to right, with the first fault that is met.
use Rattle.std.specs.Prelude.{ℕ, zero, suc, ◌&&◌, List, Result, Ok, Err, nat_le, ◌==◌, if◌then◌else◌}
use Rattle.pg_base.specs.declared.id.Kind.TheVariants.{Dir}
use Rattle.pg_base.specs.declared.id.FileId.{FileId}
use Rattle.pg_base.specs.declared.policy.Policy.{Policy}
use Rattle.pg_base.specs.declared.policy.Policy.TheVariants.{Last, Join}
use Rattle.pg_codec.specs.Reading.{Field, ◌>>=◌, followed_by, seen_as, checked, bytes_at, number_at, file_at, stamp_at}
use Rattle.pg_edges.specs.declared.key.Key.{Key}
use Rattle.pg_edges.specs.declared.key.Key.TheVariants as key
use Rattle.pg_msg.specs.declared.message.Ask.{Ask}
use Rattle.pg_msg.specs.declared.message.Ask.TheVariants as ask
use Rattle.pg_msg.specs.declared.message.Ends.{Ends}
use Rattle.pg_packet_fields.specs.Faults.{of_packet}
use Rattle.pg_packet_fields.specs.declared.error.PacketError.{PacketError}
use Rattle.pg_packet_fields.specs.declared.error.PacketError.TheVariants.{BadTag}

-- the number of a server, else a fault at the place
abbrev pub server_of : ℕ → ℕ → Result ℕ PacketError
server_of place n = if nat_le 1 n && nat_le n 64 then Ok n else Err (BadTag place)

unfoldable pub server_at : Field PacketError ℕ
server_at from = checked server_of (of_packet (number_at 4)) from

-- the letter of directories, else a fault
abbrev pub dir_of : ℕ → ℕ → Result ℕ PacketError
dir_of place byte = if byte == 100 then Ok byte else Err (BadTag place)

-- the id of a directory
unfoldable pub dir_at : Field PacketError FileId
dir_at from = seen_as (λ x. record { kind = Dir; server = x.1.0; number = x.1.1 })
    (followed_by (checked dir_of (of_packet (number_at 1)))
    (λ letter. followed_by (of_packet (number_at 4)) (λ server. of_packet (number_at 8)))) from

abbrev pub policy_of : ℕ → ℕ → Result Policy PacketError
policy_of place (suc zero) = Ok Last
policy_of place (suc (suc zero)) = Ok Join
policy_of place n = Err (BadTag place)

unfoldable pub policy_at : Field PacketError Policy
policy_at from = checked policy_of (of_packet (number_at 1)) from

abbrev pub ask_of : ℕ → ℕ → Result Ask PacketError
ask_of place (suc zero) = Ok ask.Seek
ask_of place (suc (suc zero)) = Ok ask.Confirm
ask_of place (suc (suc (suc zero))) = Ok ask.Patch
ask_of place n = Err (BadTag place)

unfoldable pub ask_at : Field PacketError Ask
ask_at from = checked ask_of (of_packet (number_at 1)) from

-- the file, the sender's birth, the receiver's birth
unfoldable pub ends_at : Field PacketError Ends
ends_at from = seen_as (λ x. record { file = x.0; sender = x.1.0; receiver = x.1.1 })
    (followed_by (of_packet file_at)
    (λ file. followed_by (of_packet (number_at 8)) (λ sender. of_packet (number_at 8)))) from

-- what stands behind the kind of a key, which is at the place
abbrev pub key_of : ℕ → ℕ → Field PacketError Key
key_of place (suc zero) from = Ok (key.Place, from)
key_of place (suc (suc zero)) from = seen_as key.Flag server_at from
key_of place (suc (suc (suc zero))) from = seen_as key.Entry (of_packet file_at) from
key_of place (suc (suc (suc (suc zero)))) from = seen_as key.Version (of_packet stamp_at) from
key_of place n from = Err (BadTag place)

unfoldable pub key_at : Field PacketError Key
key_at from = of_packet (number_at 1) from >>= λ kind. key_of from.place kind.0 kind.1

-- a text behind its length in two bytes
unfoldable pub text_at : Field PacketError (List ℕ)
text_at from = seen_as (λ x. x.1)
    (followed_by (of_packet (number_at 2)) (λ count. of_packet (bytes_at count))) from
