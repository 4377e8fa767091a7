-- Messages that fit: what comes brings what is held from then on, and what is held is told of in a spelling.
use Rattle.std.proofs.Common.{ℕ, ◌≡◌, List, All, refl}
use Rattle.pg_base.specs.declared.id.FileId.{FileId}
use Rattle.pg_base.specs.declared.id.Kind.TheVariants.{Dir}
use Rattle.pg_entries.specs.declared.cell.Cell.{Cell}
use Rattle.pg_entries.specs.declared.cell.Cell.TheVariants as cells
use Rattle.pg_entries.specs.declared.entry.Entry.{Entry}
use Rattle.pg_msg.specs.declared.message.Message.{Message}
use Rattle.pg_msg.specs.declared.message.Sent.{Sent}
use Rattle.pg_register.specs.declared.place.Place.{Place}
use Rattle.pg_register.specs.Flag.{IsByServer}
use Rattle.pg_words.specs.PlaceWords.{IsPlace}
use Rattle.pg_server.specs.pg_pieces.pg_store.declared.store.Store.{Store}
use Rattle.pg_server.specs.pg_pieces.Posting.{sent_to}
use Rattle.pg_packet_write.specs.Fits.{FitsCell, FitsEntry, FitsHead}
use Rattle.pg_packet_write.specs.Messages.{FitsMessage, FitsTold}
use Rattle.law_spelled.specs.Messages.{FitsSent, HasPlaceWidths, HasToldWidths, HasWidths, IsCellByServer}
use Rattle.law_spelled.specs.Stores.{FitsListed, FitsPlace, MayBeServer}
use Rattle.law_spelled.proofs.Flags.{IsOfServer, golds, of_golds}

-- what a message is to be, so that it is posted
abbrev pub FitsPost : Message → Type 0
FitsPost m = HasWidths m → FitsMessage m

abbrev pub AllSent : List Sent → Type 0
AllSent ms = All FitsSent ms

pub sent_fits : (s : Store) (to : ℕ) (m : Message) → MayBeServer to → FitsPost m → FitsSent (sent_to s to m)
sent_fits s to m may k = record { to = may; message = k }

-- ---- places and entries, as they come and as they are told

pub place_comes : (f : FileId) (p : Place) → IsPlace p → FitsPlace f p
place_comes f p h = record { parent = h.parent.kind; name = λ fits. h.name }

pub place_told : (f : FileId) (p : Place) → FitsPlace f p → HasPlaceWidths f p → IsPlace p
place_told f p h w = record {
  stamp = w.stamp;
  parent = record { kind = h.parent; fits = w.parent };
  name = h.name w.thing;
}

pub entry_comes : (e : Entry) → FitsEntry e → IsByServer e.flags → FitsListed e.child e
entry_comes e h by = record { child = refl; place = place_comes e.child e.place h.place; flags = of_golds e.flags h.flags by }

pub entry_told : (e : Entry) → FitsListed e.child e → HasPlaceWidths e.child e.place → FitsEntry e
entry_told e h w = record { place = place_told e.child e.place h.place w; flags = golds e.flags h.flags }

-- a directory, and a child that is told of it
abbrev pub FitsChild : FileId → Entry → Type 0
FitsChild dir e = (dir.kind ≡ Dir) × FitsListed e.child e

pub child_comes : (dir : FileId) (e : Entry) → FitsTold dir e → IsByServer e.flags → FitsChild dir e
child_comes dir e h by = (h.dir.kind, entry_comes e h.entry by)

pub child_told : (dir : FileId) (e : Entry) → FitsChild dir e → HasToldWidths dir e → FitsTold dir e
child_told dir e h w = record { dir = record { kind = h.0; fits = w.0 }; entry = entry_told e h.1 w.1 }

-- ---- cells

-- a cell that a thing may take
abbrev pub FitsCellOf : FileId → Cell → Type 0
FitsCellOf f (cells.Place place) = FitsPlace f place
FitsCellOf f (cells.Flag flag) = IsOfServer flag
FitsCellOf f (cells.Entry entry sure) = FitsListed entry.child entry
FitsCellOf f (cells.Version v) = FitsHead v.head

pub cell_comes : (f : FileId) (c : Cell) → FitsCell c → IsCellByServer c → FitsCellOf f c
cell_comes f (cells.Place place) h by = place_comes f place h
cell_comes f (cells.Flag flag) h by = h
cell_comes f (cells.Entry entry sure) h by = entry_comes entry h by
cell_comes f (cells.Version v) h by = h.head
