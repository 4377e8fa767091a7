-- Vectors, heads and versions.
use Rattle.std.specs.Prelude.{ℕ, ◌≡◌, ◌<◌, ◌≤◌, ◌^◌, ◌⊎◌, ◌&&◌, ◌||◌, List, length, Result, Ok, Err, nat_le, nat_lt, if◌then◌else◌}
use Rattle.pg_base.specs.Version.{VersionValue}
use Rattle.pg_base.specs.declared.head.Head.{Head}
use Rattle.pg_base.specs.declared.vector.Actor.{Actor}
use Rattle.pg_codec.specs.Laws.{AreBytes, HasStampWidth}
use Rattle.pg_codec.specs.Reading.{Field, followed_by, seen_as, checked, bytes_at, number_at, stamp_at}
use Rattle.pg_packet_write.specs.Fits.{IsServer}
use Rattle.pg_packet_fields.specs.Faults.{of_packet}
use Rattle.pg_packet_fields.specs.Lists.{AreListed, count_of, list_at}
use Rattle.pg_packet_fields.specs.declared.error.PacketError.{PacketError}
use Rattle.pg_packet_fields.specs.declared.error.PacketError.TheVariants.{BadTag}

-- a server that is not before the last one
abbrev pub from_of : ℕ → ℕ → ℕ → Result ℕ PacketError
from_of last place n =
    if nat_le last n && (nat_le 1 n && nat_le n 64) then Ok n else Err (BadTag place)

-- a birth at the server, which makes an actor behind the last one
abbrev pub birth_of : Actor → ℕ → ℕ → ℕ → Result ℕ PacketError
birth_of last server place n =
    if nat_lt last.server server || nat_lt last.birth n then Ok n else Err (BadTag place)

-- a number that is not 0
abbrev pub some_of : ℕ → ℕ → Result ℕ PacketError
some_of place n = if nat_le 1 n then Ok n else Err (BadTag place)

unfoldable pub some_at : Field PacketError ℕ
some_at from = checked some_of (of_packet (number_at 8)) from

-- an actor behind the last one, its server and its birth, and its number, which is not 0
unfoldable pub known_at : Actor → Field PacketError (Actor × ℕ)
known_at last from = seen_as (λ x. (record { server = x.0; birth = x.1.0 }, x.1.1))
    (followed_by (checked (from_of last.server) (of_packet (number_at 4)))
    (λ server. followed_by (checked (birth_of last server) (of_packet (number_at 8)))
    (λ birth. some_at))) from

abbrev pub to_actor : Actor → Actor × ℕ → Actor
to_actor last known = known.0

-- before every actor
abbrev pub nobody : Actor
nobody = record { server = 0; birth = 0 }

-- a count in two bytes, at most 256, and so many actors in their order
unfoldable pub vector_at : Field PacketError (List (Actor × ℕ))
vector_at from = list_at 2 256 known_at to_actor nobody from

-- stamp, birth, number, vector, length of the body
abbrev pub head_by : Field PacketError ℕ → Field PacketError ℕ → Field PacketError Head
head_by number long from = seen_as (λ x. record {
  stamp = x.0;
  birth = x.1.0;
  number = x.1.1.0;
  vector = x.1.1.1.0;
  length = x.1.1.1.1;
})
    (followed_by (of_packet stamp_at) (λ stamp. followed_by (of_packet (number_at 8))
    (λ birth. followed_by number (λ n. followed_by vector_at (λ vector. long))))) from

-- the head that is told without a body: its number is not 0
unfoldable pub head_at : Field PacketError Head
head_at from = head_by some_at (of_packet (number_at 4)) from

-- the head in front of a body: its number is not 0, and its length at most 1,024
unfoldable pub front_at : Field PacketError Head
front_at from = head_by some_at (checked (count_of 1024) (of_packet (number_at 4))) from

-- the head, and as many bytes as it says
unfoldable pub version_at : Field PacketError VersionValue
version_at from = seen_as (λ x. record { head = x.0; body = x.1 })
    (followed_by front_at (λ head. of_packet (bytes_at head.length))) from

-- ---- what can be read

-- a server from the last one on
pub record IsFrom (last server : ℕ) : Type 0 where
  pub least : last ≤ server
  pub range : IsServer server

pub record IsBirth (last : Actor) (server birth : ℕ) : Type 0 where
  pub behind : (last.server < server) ⊎ (last.birth < birth)
  pub width : birth < 2 ^ 64

pub record IsSome (n : ℕ) : Type 0 where
  pub least : 1 ≤ n
  pub width : n < 2 ^ 64

-- an actor behind the last one, with a number
pub record IsKnown (last : Actor) (known : Actor × ℕ) : Type 0 where
  pub server : IsFrom last.server known.0.server
  pub birth : IsBirth last known.0.server known.0.birth
  pub number : IsSome known.1

abbrev pub AreKnown : List (Actor × ℕ) → Type 0
AreKnown vector = AreListed 256 IsKnown to_actor nobody vector

pub record IsHead (h : Head) : Type 0 where
  pub stamp : HasStampWidth h.stamp
  pub birth : h.birth < 2 ^ 64
  pub number : IsSome h.number
  pub vector : AreKnown h.vector
  pub long : h.length < 2 ^ 32

pub record IsFront (h : Head) : Type 0 where
  pub stamp : HasStampWidth h.stamp
  pub birth : h.birth < 2 ^ 64
  pub number : IsSome h.number
  pub vector : AreKnown h.vector
  pub long : h.length ≤ 1024

pub record IsWholeVersion (v : VersionValue) : Type 0 where
  pub head : IsFront v.head
  pub long : length v.body ≡ v.head.length
  pub width : AreBytes v.body
