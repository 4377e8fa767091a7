-- Which numbers a message may have.
use Rattle.std.specs.Prelude.{ℕ, ◌+◌, ◌^◌, ◌&&◌, Bool, nat_lt, true, List}
use Rattle.std.specs.List.{list_all}
use Rattle.pg_base.specs.declared.stamp.Stamp.{Stamp}
use Rattle.pg_base.specs.declared.head.Head.{Head}
use Rattle.pg_base.specs.declared.vector.Actor.{Actor}
use Rattle.pg_register.specs.declared.flag.Flag.{Flag}
use Rattle.pg_edges.specs.declared.key.Key.{Key}
use Rattle.pg_edges.specs.declared.key.Key.TheVariants as key
use Rattle.pg_entries.specs.declared.cell.Cell.{Cell}
use Rattle.pg_entries.specs.declared.cell.Cell.TheVariants as cell
use Rattle.pg_entries.specs.declared.entry.Entry.{Entry}
use Rattle.pg_msg.specs.declared.message.Message.{Message}
use Rattle.pg_msg.specs.declared.message.Message.TheVariants as message

-- no time and no number of a run comes near it
abbrev pub number_limit : ℕ
number_limit = 2 ^ 62 + 2 ^ 40

-- ---- parts of a message

-- the number of a flag or of a vector
abbrev pub is_number : ℕ → Bool
is_number n = nat_lt n number_limit

abbrev pub has_time_in_range : Stamp → Bool
has_time_in_range stamp = nat_lt stamp.time number_limit

abbrev pub have_times_in_range : List Stamp → Bool
have_times_in_range stamps = list_all has_time_in_range stamps

abbrev pub is_vector_in_range : List (Actor × ℕ) → Bool
is_vector_in_range vector = list_all (λ e. is_number e.1) vector

abbrev pub is_head_in_range : Head → Bool
is_head_in_range head = has_time_in_range head.stamp && is_vector_in_range head.vector

abbrev pub are_flags_in_range : List Flag → Bool
are_flags_in_range flags = list_all (λ flag. is_number flag.number) flags

abbrev pub is_entry_in_range : Entry → Bool
is_entry_in_range entry = has_time_in_range entry.place.stamp && are_flags_in_range entry.flags

abbrev pub is_key_in_range : Key → Bool
is_key_in_range key.Place = true
is_key_in_range (key.Flag server) = true
is_key_in_range (key.Entry child) = true
is_key_in_range (key.Version stamp) = has_time_in_range stamp

abbrev pub is_cell_in_range : Cell → Bool
is_cell_in_range (cell.Place place) = has_time_in_range place.stamp
is_cell_in_range (cell.Flag flag) = is_number flag.number
is_cell_in_range (cell.Entry entry sure) = is_entry_in_range entry
is_cell_in_range (cell.Version version) = is_head_in_range version.head

-- ---- a message

-- each time of a stamp, and each number of a flag or of a vector, is below the limit. Births, tags,
-- offsets and lengths may be any
abbrev pub is_in_range : Message → Bool
is_in_range (message.Cell ends tag c) = is_cell_in_range c
is_in_range (message.Ack ends k tag) = is_key_in_range k
is_in_range (message.Harbinger ends tag head) = is_head_in_range head
is_in_range (message.Want ends wanted) =
    has_time_in_range wanted.stamp && have_times_in_range wanted.heads
is_in_range (message.Delta ends delta) =
    is_head_in_range delta.head && have_times_in_range delta.from
is_in_range (message.Piece ends piece) = is_head_in_range piece.head
is_in_range (message.Later ends stamp) = has_time_in_range stamp
is_in_range (message.Fetch file birth) = true
is_in_range (message.Grant ends granted) =
    has_time_in_range granted.place.stamp && are_flags_in_range granted.flags
is_in_range (message.NoGrant file birth) = true
is_in_range (message.Full ends) = true
is_in_range (message.Seek file birth) = true
is_in_range (message.Greet ends greeting) = true
is_in_range (message.NoneHere ask file child) = true
is_in_range (message.Gone file birth) = true
is_in_range (message.Bye ends) = true
is_in_range (message.ByeOk file birth) = true
is_in_range (message.Confirm dir entry) = is_entry_in_range entry
is_in_range (message.PlaceIs dir entry) = is_entry_in_range entry
is_in_range (message.Tell dir entry) = is_entry_in_range entry
is_in_range (message.TellOk dir child stamp) = has_time_in_range stamp
is_in_range (message.Leave ends stamp) = has_time_in_range stamp
is_in_range (message.LeaveOk ends stamp) = has_time_in_range stamp
is_in_range (message.Invite ends) = true
is_in_range (message.Walk ends origin birth hops word) = true
