-- What a server asks for of versions that it does not cover, and whom it tells of them.
use Rattle.std.specs.Prelude.{ℕ, ◌==◌, ◌&&◌, nat_le, if◌then◌else◌, Bool, true, List, [], ◌∷◌, ◌++◌, length, map, min, Option}
use Rattle.std.specs.List.{flat_map}
use Rattle.pg_base.specs.declared.head.Head.{Head}
use Rattle.pg_base.specs.declared.id.FileId.{FileId}
use Rattle.pg_base.specs.declared.stamp.Stamp.{Stamp}
use Rattle.pg_base.specs.Stamp.{is_before}
use Rattle.pg_base.specs.Version.{stamp_of}
use Rattle.pg_edges.specs.declared.edge.Edge.{Edge}
use Rattle.pg_edges.specs.declared.key.Key.TheVariants as key
use Rattle.pg_announced.specs.declared.announced.Announced.{Announced}
use Rattle.pg_announced.specs.Announced.{NotesValue, key_at, note_at}
use Rattle.pg_pieces.specs.pg_msg.declared.message.Ends.{Ends}
use Rattle.pg_pieces.specs.pg_msg.declared.message.Message.TheVariants as message
use Rattle.pg_pieces.specs.pg_msg.declared.message.Sent.{Sent}
use Rattle.pg_pieces.specs.pg_msg.declared.work.Work.{Work}
use Rattle.pg_pieces.specs.pg_msg.Ends.{back}
use Rattle.pg_pieces.specs.pg_store.declared.store.Store.{Store}
use Rattle.pg_pieces.specs.pg_store.Store.{content_of, replica_of}
use Rattle.pg_pieces.specs.Accepting.{ends_to}
use Rattle.pg_pieces.specs.Posting.{reply, sent_to}

-- ---- what is noted

-- what is noted of a version of the file
abbrev pub noted : Store → FileId → Stamp → Option Announced
noted store file stamp = note_at store.announced (key_at file stamp)

-- other notes, and all else as it was
abbrev pub with_notes : Store → NotesValue → Store
with_notes store notes = record store { announced = notes }

-- ---- what is sent

-- each of the stamps is before the next: they are in order, and no two are equal
abbrev pub rise_behind : Stamp → List Stamp → Bool
rise_behind stamp [] = true
rise_behind stamp (next ∷ stamps) = is_before stamp next && rise_behind next stamps

abbrev pub rise : List Stamp → Bool
rise [] = true
rise (stamp ∷ stamps) = rise_behind stamp stamps

-- the stamps of the heads, where they are few enough to be told and no two are equal
abbrev pub few : List Stamp → List Stamp
few stamps = if nat_le (length stamps) 256 && rise stamps then stamps else []

abbrev pub listed : Store → FileId → List Stamp
listed store file = few (map stamp_of (content_of store file).heads)

-- who sent the message that came is asked for the body of a version, from a byte on
abbrev pub ask : Store → Ends → Stamp → ℕ → List Stamp → Work → Work
ask store ends stamp offset heads work = reply store
    (message.Want (back ends) (record { stamp = stamp; offset = offset; heads = heads })) work

-- from the first byte on that is not here
abbrev pub offset_of : List ℕ → ℕ
offset_of bytes = min (length bytes) 4294967295

-- the version of that stamp is here: where it was announced under a tag, that is told
abbrev pub acknowledged : Store → Ends → Stamp → ℕ → Work → Work
acknowledged store ends stamp tag work =
    if tag == 0 then work
    else reply store (message.Ack (back ends) (key.Version stamp) tag) work

-- who sent the message that came is told that the body is not to be had here now
abbrev pub put_off : Store → Ends → Stamp → Work → Work
put_off store ends stamp work = reply store (message.Later (back ends) stamp) work

-- a peer hears of a version, unless it told of it itself
abbrev pub heard_by : Store → FileId → ℕ → Head → Edge → List Sent
heard_by store file from head e = if e.peer == from then []
    else sent_to store e.peer (message.Harbinger (ends_to store file e.birth) 0 head) ∷ []

abbrev pub told_others : Store → FileId → ℕ → Head → Work → Work
told_others store file from head work = record work {
  sent = work.sent ++ flat_map (heard_by store file from head) (replica_of store file).edges;
}
