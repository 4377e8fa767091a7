-- Places, flags and entries.
use Rattle.std.specs.Prelude.{ℕ, ◌<◌, ◌≤◌, ◌^◌, ◌&&◌, List, Result, Ok, Err, nat_le, nat_lt, if◌then◌else◌}
use Rattle.pg_base.specs.Id as id
use Rattle.pg_codec.specs.Laws.{AreBytes, HasStampWidth}
use Rattle.pg_codec.specs.Reading.{Field, followed_by, seen_as, checked, number_at, file_at, flag_at, stamp_at}
use Rattle.pg_entries.specs.declared.entry.Entry.{Entry}
use Rattle.pg_register.specs.Place.{IsPlaceName}
use Rattle.pg_register.specs.declared.flag.Flag.{Flag}
use Rattle.pg_register.specs.declared.place.Place.{Place}
use Rattle.pg_words.specs.FileWord.{IsDirectory}
use Rattle.pg_packet_fields.specs.Faults.{of_packet}
use Rattle.pg_packet_fields.specs.Lists.{AreListed, list_at}
use Rattle.pg_packet_fields.specs.Names.{name_at}
use Rattle.pg_packet_fields.specs.Reading.{dir_at}
use Rattle.pg_packet_fields.specs.declared.error.PacketError.{PacketError}
use Rattle.pg_packet_fields.specs.declared.error.PacketError.TheVariants.{BadTag}

-- stamp, directory, whether it is live, name
unfoldable pub place_at : Field PacketError Place
place_at from = seen_as
    (λ x. record { stamp = x.0; parent = x.1.0; live = x.1.1.0; name = x.1.1.1 })
    (followed_by (of_packet stamp_at) (λ stamp. followed_by dir_at
    (λ parent. followed_by (of_packet flag_at) (λ live. name_at)))) from

-- a server behind the last one, else a fault at the place
abbrev pub above_of : ℕ → ℕ → ℕ → Result ℕ PacketError
above_of last place n = if nat_lt last n && nat_le n 64 then Ok n else Err (BadTag place)

-- a flag of a server behind the last one: its server, birth, number, and whether it is raised
unfoldable pub gold_at : ℕ → Field PacketError Flag
gold_at last from = seen_as
    (λ x. record { server = x.0; birth = x.1.0; number = x.1.1.0; raised = x.1.1.1 })
    (followed_by (checked (above_of last) (of_packet (number_at 4)))
    (λ server. followed_by (of_packet (number_at 8)) (λ birth. followed_by (of_packet (number_at 8))
    (λ number. of_packet flag_at)))) from

abbrev pub to_server : ℕ → Flag → ℕ
to_server last flag = flag.server

-- a count in one byte, at most 64, and so many flags, by server
unfoldable pub golds_at : Field PacketError (List Flag)
golds_at from = list_at 1 64 gold_at to_server 0 from

-- child, place, flags
unfoldable pub entry_at : Field PacketError Entry
entry_at from = seen_as (λ x. record { child = x.0; place = x.1.0; flags = x.1.1 })
    (followed_by (of_packet file_at) (λ child. followed_by place_at (λ place. golds_at))) from

-- ---- what can be read

-- a name of a place, of bytes
pub record IsName (name : List ℕ) : Type 0 where
  pub place : IsPlaceName name
  pub width : AreBytes name

pub record IsWholePlace (p : Place) : Type 0 where
  pub stamp : HasStampWidth p.stamp
  pub parent : IsDirectory p.parent
  pub name : IsName p.name

-- a server behind the last one
pub record IsAbove (last server : ℕ) : Type 0 where
  pub above : last < server
  pub most : server ≤ 64

pub record IsGold (last : ℕ) (flag : Flag) : Type 0 where
  pub server : IsAbove last flag.server
  pub birth : flag.birth < 2 ^ 64
  pub number : flag.number < 2 ^ 64

abbrev pub AreGolds : List Flag → Type 0
AreGolds flags = AreListed 64 IsGold to_server 0 flags

pub record IsWholeEntry (e : Entry) : Type 0 where
  pub child : id.Fits e.child
  pub place : IsWholePlace e.place
  pub flags : AreGolds e.flags
