-- A replica is to be filled.
use Rattle.std.specs.Prelude.{ℕ, ◌&&◌, not, if◌then◌else◌, Option, None, Some}
use Rattle.pg_base.specs.declared.id.FileId.{FileId}
use Rattle.pg_register.specs.declared.place.Place.{Place}
use Rattle.pg_register.specs.Place.{blank_place}
use Rattle.pg_pieces.specs.pg_msg.declared.message.Ends.{Ends}
use Rattle.pg_pieces.specs.pg_msg.declared.message.Granted.{Granted}
use Rattle.pg_pieces.specs.pg_msg.declared.message.Message.TheVariants as message
use Rattle.pg_pieces.specs.pg_msg.declared.work.Work.{Work}
use Rattle.pg_pieces.specs.pg_names.declared.attributes.Attributes.{Attributes}
use Rattle.pg_pieces.specs.pg_names.Names.{is_dir, own_or_blank}
use Rattle.pg_pieces.specs.pg_replica.declared.replica.Replica.{Replica}
use Rattle.pg_pieces.specs.pg_store.declared.store.Store.{Store}
use Rattle.pg_pieces.specs.pg_store.Links.{is_clean, knows_later}
use Rattle.pg_pieces.specs.pg_store.Store.{is_full, replica_at}
use Rattle.pg_pieces.specs.Accepting.{link_peer}
pub use Rattle.pg_pieces.specs.Accepting.{ends_to}
use Rattle.pg_pieces.specs.Done.{Done, idle}
use Rattle.pg_pieces.specs.Posting.{reply}

-- ---- what a new replica begins with

-- its place. Of a dead directory it is the blank one: the death comes as a cell, behind the entries
abbrev pub place_to_grant : FileId → Place → Place
place_to_grant file place = if is_dir file && not place.live then blank_place file else place

-- the policy, the place and the flags of the replica from which it is filled
abbrev pub granted_from : FileId → Attributes → Replica → Granted
granted_from file own x = record {
  policy = x.content.policy;
  place = place_to_grant file own.place;
  flags = own.flags;
}

abbrev pub given : Store → Ends → Option Replica → Work → Work
given store ends None work = work
given store ends (Some x) work = reply store
    (message.Grant ends (granted_from ends.file (own_or_blank store.names ends.file) x)) work

-- it is granted, with what the replica here has
abbrev pub give : Store → Ends → Work → Work
give store ends work = given store ends (replica_at store ends.file) work

-- ---- the answer

-- where the asker has acknowledged all it is full; else it is granted
abbrev pub answer_fetch : Store → FileId → ℕ → Work → Work
answer_fetch store file birth work =
    if is_clean store file work.from birth
    then reply store (message.Full (ends_to store file birth)) work
    else give store (ends_to store file birth) work

abbrev pub answered_fetch : FileId → ℕ → Done → Done
answered_fetch file birth done =
    idle done.store (answer_fetch done.store file birth done.work)

-- a full replica links the asker and answers it, but for a birth that is not the asker's latest.
-- Who has no full one says so
abbrev pub fetch : Store → FileId → ℕ → Work → Done
fetch store file birth work =
    if is_full store file
    then (if knows_later store file work.from birth then idle store work
    else answered_fetch file birth (link_peer store file work.from birth work))
    else idle store (reply store (message.NoGrant file birth) work)
