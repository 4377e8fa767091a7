-- Where bytes stop being a packet, said by what packets there are, and not by how they are read.
use Rattle.std.specs.Prelude.{ℕ, ◌≡◌, ◌<◌, ◌≤◌, ◌⊎◌, List, ◌++◌, length, take}
use Rattle.pg_packet_read.specs.Whole.{IsWholeDatagram}
use Rattle.pg_packet_write.specs.Datagrams.{packet_bytes}
use Rattle.pg_packet_write.specs.DatagramValue.{DatagramValue}
use Rattle.law_packets.specs.Lists.{Begins, Opens}

-- some packet begins so, of whatever length
abbrev pub BeginsPacket : List ℕ → Type 0
BeginsPacket bytes = Begins IsWholeDatagram packet_bytes bytes

-- some packet would begin so, had the list at the end the count of the items that stand there
pub record BeginsButCount (bytes : List ℕ) : Type 0 where
  pub before : List ℕ
  pub whole : List ℕ
  pub begun : List ℕ
  pub parts : bytes ≡ before ++ begun
  pub opens : Opens whole begun
  pub begins : BeginsPacket (before ++ whole)

-- All fields are as they can be behind those before them. Some packet begins so, but for a list in
-- which there is no room for as many items as its count says.
abbrev pub AreFields : List ℕ → Type 0
AreFields bytes = BeginsPacket bytes ⊎ BeginsButCount bytes

-- The field at the place is the first that no packet continues: with it no packet begins so.
pub record IsBadAt (bytes : List ℕ) (place : ℕ) : Type 0 where
  pub before : List ℕ
  pub field : List ℕ
  pub rest : List ℕ
  pub parts : bytes ≡ before ++ (field ++ rest)
  pub at : place ≡ length before
  pub some : 0 < length field
  pub fields : AreFields before
  pub none : BeginsPacket (before ++ field) → ⊥

-- The bytes end at the place, in a field of which there are not all bytes: each packet that begins
-- as before the field has at least so many bytes behind that.
pub record IsShortAt (bytes : List ℕ) (place : ℕ) : Type 0 where
  pub before : List ℕ
  pub field : List ℕ
  pub least : ℕ
  pub parts : bytes ≡ before ++ field
  pub at : place ≡ length bytes
  pub fields : AreFields before
  pub fewer : length field < least
  pub each : (packet : DatagramValue) (more : List ℕ) → IsWholeDatagram packet
      → packet_bytes packet ≡ before ++ more → least ≤ length more

-- a packet ends at the place, and more stands behind it
pub record EndsAt (bytes : List ℕ) (place : ℕ) : Type 0 where
  pub packet : DatagramValue
  pub rest : List ℕ
  pub whole : IsWholeDatagram packet
  pub parts : bytes ≡ packet_bytes packet ++ rest
  pub at : place ≡ length (packet_bytes packet)
  pub some : 0 < length rest

-- so many bytes are a packet
pub record ArePacket (bytes : List ℕ) : Type 0 where
  pub packet : DatagramValue
  pub whole : IsWholeDatagram packet
  pub spelled : bytes ≡ packet_bytes packet

-- more bytes than the most, which is the place, with no fault in the first so many: these are a
-- packet, or end in a field
pub record IsOver (most : ℕ) (bytes : List ℕ) (place : ℕ) : Type 0 where
  pub at : place ≡ most
  pub over : most < length bytes
  pub first : ArePacket (take most bytes) ⊎ IsShortAt (take most bytes) most
