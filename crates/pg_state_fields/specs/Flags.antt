-- Places with flags, and entries, as a state has them: a flag's number is below 2^63.
use Rattle.std.specs.Prelude.{ℕ, ◌^◌, ◌&&◌, Bool, List, Option, None, Some, nat_le, nat_lt}
use Rattle.pg_base.specs.Id as id
use Rattle.pg_base.specs.Id.{file_cmp}
use Rattle.pg_base.specs.declared.id.FileId.{FileId}
use Rattle.pg_codec.specs.Laws.{HasWidth}
use Rattle.pg_codec.specs.Reading.{Field, followed_by, seen_as, checked, number_at, flag_at}
use Rattle.pg_entries.specs.declared.entry.Entry.{Entry}
use Rattle.pg_names.specs.declared.attributes.Attributes.{Attributes}
use Rattle.pg_register.specs.declared.flag.Flag.{Flag}
use Rattle.pg_packet_fields.specs.Faults.{of_packet}
use Rattle.pg_packet_fields.specs.Lists.{AreListed, list_at}
use Rattle.pg_packet_fields.specs.Places.{IsWholePlace, place_at, to_server}
use Rattle.pg_packet_fields.specs.declared.error.PacketError.{PacketError}
use Rattle.pg_state_fields.specs.Orders.{AreCounted, Passes, counted_list_at, is_behind, next_file_at, tested_of}

abbrev pub is_flag_number : ℕ → Bool
is_flag_number n = nat_lt n (2 ^ 63)

unfoldable pub flag_number_at : Field PacketError ℕ
flag_number_at from = checked (tested_of is_flag_number) (of_packet (number_at 8)) from

abbrev pub is_above : ℕ → ℕ → Bool
is_above last n = nat_lt last n && nat_le n 64

-- a server behind the last one
unfoldable pub above_at : ℕ → Field PacketError ℕ
above_at last from = checked (tested_of (is_above last)) (of_packet (number_at 4)) from

-- a flag of a server behind the last one
unfoldable pub gold_at : ℕ → Field PacketError Flag
gold_at last from = seen_as
    (λ x. record { server = x.0; birth = x.1.0; number = x.1.1.0; raised = x.1.1.1 })
    (followed_by (above_at last) (λ server. followed_by (of_packet (number_at 8))
    (λ birth. followed_by flag_number_at (λ number. of_packet flag_at)))) from

-- at most 64, by server
unfoldable pub golds_at : Field PacketError (List Flag)
golds_at from = list_at 1 64 gold_at to_server 0 from

-- place and flags
unfoldable pub own_at : Field PacketError Attributes
own_at from = seen_as (λ x. record { place = x.0; flags = x.1 })
    (followed_by place_at (λ place. golds_at)) from

abbrev pub entry_with : FileId → Attributes → Entry
entry_with child own = record { child = child; place = own.place; flags = own.flags }

abbrev pub own_of : Entry → Attributes
own_of e = record { place = e.place; flags = e.flags }

-- a child behind the last one, its place and flags
unfoldable pub entry_at : Option FileId → Field PacketError Entry
entry_at last from = seen_as (λ x. entry_with x.0 x.1)
    (followed_by (next_file_at last) (λ child. own_at)) from

abbrev pub to_child : Option FileId → Entry → Option FileId
to_child last e = Some e.child

-- a count of four bytes, and so many entries, by child
unfoldable pub entries_at : Field PacketError (List Entry)
entries_at from = counted_list_at 4 entry_at to_child None from

-- ---- what can be read

pub record IsGold (last : ℕ) (flag : Flag) : Type 0 where
  pub server : Passes (HasWidth 4) (is_above last) flag.server
  pub birth : HasWidth 8 flag.birth
  pub number : Passes (HasWidth 8) is_flag_number flag.number

abbrev pub AreGolds : List Flag → Type 0
AreGolds flags = AreListed 64 IsGold to_server 0 flags

pub record IsOwn (own : Attributes) : Type 0 where
  pub place : IsWholePlace own.place
  pub flags : AreGolds own.flags

-- an entry whose child is behind the last one
pub record IsEntry (last : Option FileId) (e : Entry) : Type 0 where
  pub child : Passes id.Fits (is_behind file_cmp last) e.child
  pub place : IsWholePlace e.place
  pub flags : AreGolds e.flags

abbrev pub AreEntries : List Entry → Type 0
AreEntries entries = AreCounted 4 IsEntry to_child None entries
