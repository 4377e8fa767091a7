-- How the fields of packets are spelled.
use Rattle.std.specs.Prelude.{ℕ, List, ◌++◌, length}
use Rattle.std.specs.List.{flat_map}
use Rattle.pg_base.specs.declared.policy.Policy.{Policy}
use Rattle.pg_base.specs.declared.policy.Policy.TheVariants as policy
use Rattle.pg_base.specs.declared.stamp.Stamp.{Stamp}
use Rattle.pg_base.specs.declared.vector.Actor.{Actor}
use Rattle.pg_base.specs.declared.head.Head.{Head}
use Rattle.pg_base.specs.Version.{VersionValue}
use Rattle.pg_codec.specs.Spelling.{number_bytes, flag_bytes, file_bytes, stamp_bytes}
use Rattle.pg_register.specs.declared.flag.Flag.{Flag}
use Rattle.pg_register.specs.declared.place.Place.{Place}
use Rattle.pg_entries.specs.declared.entry.Entry.{Entry}
use Rattle.pg_entries.specs.declared.cell.Cell.{Cell}
use Rattle.pg_entries.specs.declared.cell.Cell.TheVariants as cell
use Rattle.pg_edges.specs.declared.key.Key.{Key}
use Rattle.pg_edges.specs.declared.key.Key.TheVariants as key
use Rattle.pg_patch.specs.declared.part.Part.{Part}
use Rattle.pg_patch.specs.Ranges.{RangesValue}
use Rattle.pg_msg.specs.declared.message.Ask.{Ask}
use Rattle.pg_msg.specs.declared.message.Ask.TheVariants as ask
use Rattle.pg_msg.specs.declared.message.Ends.{Ends}

-- bytes behind their number, which takes so many bytes
unfoldable pub counted : ℕ → List ℕ → List ℕ
counted width bytes = number_bytes width (length bytes) ++ bytes

-- a list behind the number of its items
unfoldable pub listed : {X : Type 0} → ℕ → (X → List ℕ) → List X → List ℕ
listed width spelled xs = number_bytes width (length xs) ++ flat_map spelled xs

-- stamp, parent, whether it is live, and the name behind its length in one byte
unfoldable pub place_bytes : Place → List ℕ
place_bytes p = stamp_bytes p.stamp ++ (file_bytes p.parent
    ++ (flag_bytes p.live ++ counted 1 p.name))

-- server, birth, number, whether it is raised
unfoldable pub gold_bytes : Flag → List ℕ
gold_bytes f = number_bytes 4 f.server
    ++ (number_bytes 8 f.birth ++ (number_bytes 8 f.number ++ flag_bytes f.raised))

unfoldable pub golds_bytes : List Flag → List ℕ
golds_bytes flags = listed 1 gold_bytes flags

-- child, place, flags
unfoldable pub entry_bytes : Entry → List ℕ
entry_bytes e = file_bytes e.child ++ (place_bytes e.place ++ golds_bytes e.flags)

-- an actor's server and birth, and its number
unfoldable pub known_bytes : Actor × ℕ → List ℕ
known_bytes known = number_bytes 4 known.0.server
    ++ (number_bytes 8 known.0.birth ++ number_bytes 8 known.1)

unfoldable pub vector_bytes : List (Actor × ℕ) → List ℕ
vector_bytes vector = listed 2 known_bytes vector

-- stamp, birth, number, vector, length of the body
unfoldable pub head_bytes : Head → List ℕ
head_bytes h = stamp_bytes h.stamp ++ (number_bytes 8 h.birth ++ (number_bytes 8 h.number
    ++ (vector_bytes h.vector ++ number_bytes 4 h.length)))

-- the head, and the body as it is
unfoldable pub version_bytes : VersionValue → List ℕ
version_bytes v = head_bytes v.head ++ v.body

-- offset, length and bytes
unfoldable pub part_bytes : Part → List ℕ
part_bytes p = number_bytes 4 p.offset ++ counted 4 p.bytes

-- keep, least, parts
unfoldable pub ranges_bytes : RangesValue → List ℕ
ranges_bytes r = number_bytes 4 r.keep ++ (number_bytes 4 r.least ++ listed 4 part_bytes r.parts)

unfoldable pub stamps_bytes : List Stamp → List ℕ
stamps_bytes stamps = listed 2 stamp_bytes stamps

-- the kind of the key, and what names it
unfoldable pub key_bytes : Key → List ℕ
key_bytes key.Place = number_bytes 1 1
key_bytes (key.Flag server) = number_bytes 1 2 ++ number_bytes 4 server
key_bytes (key.Entry child) = number_bytes 1 3 ++ file_bytes child
key_bytes (key.Version stamp) = number_bytes 1 4 ++ stamp_bytes stamp

-- the kind of the cell, and what it holds
unfoldable pub cell_bytes : Cell → List ℕ
cell_bytes (cell.Place place) = number_bytes 1 1 ++ place_bytes place
cell_bytes (cell.Flag flag) = number_bytes 1 2 ++ gold_bytes flag
cell_bytes (cell.Entry entry sure) = number_bytes 1 3 ++ (entry_bytes entry ++ flag_bytes sure)
cell_bytes (cell.Version version) = number_bytes 1 4 ++ version_bytes version

unfoldable pub policy_bytes : Policy → List ℕ
policy_bytes policy.Last = number_bytes 1 1
policy_bytes policy.Join = number_bytes 1 2

unfoldable pub ask_bytes : Ask → List ℕ
ask_bytes ask.Seek = number_bytes 1 1
ask_bytes ask.Confirm = number_bytes 1 2
ask_bytes ask.Patch = number_bytes 1 3

-- the file, the sender's birth, the receiver's birth
unfoldable pub ends_bytes : Ends → List ℕ
ends_bytes e = file_bytes e.file ++ (number_bytes 8 e.sender ++ number_bytes 8 e.receiver)
