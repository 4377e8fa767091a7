-- What the edges see of a server that holds names and replicas, and of its messages.
use Rattle.std.specs.Prelude.{ℕ, ◌≡◌, ◌==◌, Bool, true, false, if◌then◌else◌, Contains, List, []}
use Rattle.std.specs.Option.{option_map}
use Rattle.pg_base.specs.declared.head.Head.{Head}
use Rattle.pg_base.specs.declared.id.FileId.{FileId}
use Rattle.pg_edges.specs.declared.key.Key.TheVariants as key
use Rattle.theory_flood.specs.Noting.{noting}
use Rattle.theory_flood.specs.Promises.{Saying}
use Rattle.theory_flood.specs.Promises.Saying.{CellFor, AckTo, Other}
use Rattle.theory_flood.specs.Protocol.{Protocol}
use Rattle.theory_flood.specs.Server.{Replica as Seen, Server, Slot, slot}
use Rattle.pg_entries.specs.declared.cell.Cell.{Cell}
use Rattle.pg_entries.specs.declared.cell.Cell.TheVariants as cell
use Rattle.pg_cells.specs.pg_msg.declared.message.Message.{Message}
use Rattle.pg_cells.specs.pg_msg.declared.message.Message.TheVariants as message
use Rattle.pg_cells.specs.pg_msg.declared.message.Sent.{Sent}
use Rattle.pg_cells.specs.pg_msg.Sent.{cell_key}
use Rattle.pg_cells.specs.pg_replica.declared.replica.Replica.{Replica}
use Rattle.pg_cells.specs.pg_store.declared.store.Store.{Store}
use Rattle.pg_cells.specs.pg_store.Births.{is_over}
use Rattle.pg_cells.specs.pg_store.Cells.{cell_at}
use Rattle.pg_cells.specs.pg_store.Store.{replica_at}
use Rattle.theory_flood_pieces.specs.UpTo.{IsUpTo}

-- a version by its head, without its body: whether one is up to another its vectors tell
abbrev pub head_cell : Head → Cell
head_cell head = cell.Version (record { head = head; body = [] })

-- a cell, whether or not the server that tells it is sure of it: a server may come to be sure of an
-- entry without another word on its edges. Of a version the head
abbrev pub plain : Cell → Cell
plain (cell.Place place) = cell.Place place
plain (cell.Flag flag) = cell.Flag flag
plain (cell.Entry entry sure) = cell.Entry entry true
plain (cell.Version version) = head_cell version.head

-- the birth and the edges of a thing's replica, and the cells of all its keys
abbrev pub seen : Store → FileId → Replica → Seen Cell
seen store file x = record {
  birth = x.birth;
  edges = x.edges;
  cells = λ k. option_map plain (cell_at store file k);
}

-- a thing that is not held is not seen
abbrev pub see : Store → Server Cell
see store = record {
  tags = store.tags;
  replicas = λ file. option_map (seen store file) (replica_at store file);
}

-- what a message from one server to another says to the edges: a harbinger says what the version
-- itself does, unless it is under no tag. The grant of a new replica, and what is asked and told of
-- children, they do not read, nor bodies
abbrev pub saying : ℕ → ℕ → Message → Saying Slot Cell
saying from to (message.Cell ends tag c) =
    CellFor from (slot ends.file ends.sender to ends.receiver (cell_key c)) tag (plain c)
saying from to (message.Ack ends k tag) =
    AckTo to (slot ends.file ends.receiver from ends.sender k) tag
saying from to (message.Harbinger ends tag head) = if tag == 0 then Other else CellFor from
    (slot ends.file ends.sender to ends.receiver (key.Version head.stamp)) tag (head_cell head)
saying from to _ = Other

abbrev pub says : Sent → Saying Slot Cell
says m = saying m.packet.from m.to m.packet.message

-- which births count as over, of one server
abbrev pub Overs : Type 0
Overs = FileId → ℕ → Bool

-- All along one event: these births count as over, and this was heard of earlier and may be
-- answered now
pub record Along : Type 0 where
  pub over : Overs
  pub late : List (Saying Slot Cell)

-- where each cell is answered at once
abbrev pub at_once : Overs → Along
at_once over = record { over = over; late = [] }

-- where those births count that are over in the end
abbrev pub in_the_end : Store → List (Saying Slot Cell) → Along
in_the_end b late = record { over = is_over b; late = late }

-- for one event
abbrev pub cells_in : Along → Protocol Store Sent Cell
cells_in along = record {
  see = see;
  IsUpTo = IsUpTo;
  IsOver = λ a file birth c. along.over file birth ≡ true;
  Took = λ a file birth c. Unit {0};
  says = says;
  Noted = λ a x. Contains along.late x;
}

-- where no birth does, as in what a server does without letting a replica go
abbrev pub standing : Protocol Store Sent Cell
standing = cells_in (at_once (λ file birth. false))

-- Between events: which births are over is read off the store, whatever cells the replica had. What
-- a replica took, beside what it covers, is told by the run, and not by a store
abbrev pub cells : Protocol Store Sent Cell
cells = record {
  see = see;
  IsUpTo = IsUpTo;
  IsOver = λ a file birth c. is_over a file birth ≡ true;
  Took = λ a file birth c. Unit {0};
  says = says;
  Noted = λ a x. ⊥;
}

-- the same, where this may be answered late
abbrev pub answering : List (Saying Slot Cell) → Protocol Store Sent Cell
answering late = noting cells (λ x. Contains late x)

-- what a server hears in an event, and what holds all along it
pub record Hearing : Type 0 where
  pub said : Saying Slot Cell
  pub along : Along

abbrev pub hears : Along → Saying Slot Cell → Hearing
hears along said = record { said = said; along = along }
