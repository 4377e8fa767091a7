-- Places of listed children are confirmed.
use Rattle.std.specs.Prelude.{Bool, true, ◌||◌, not, if◌then◌else◌, Option, None, Some}
use Rattle.pg_base.specs.declared.id.FileId.{FileId}
use Rattle.pg_base.specs.declared.stamp.Stamp.{Stamp}
use Rattle.pg_entries.specs.declared.entry.Entry.{Entry}
use Rattle.pg_entries.specs.Entry.{is_listed}
use Rattle.pg_pieces.specs.pg_intent.declared.key.IntentKey.TheVariants as intent_key
use Rattle.pg_pieces.specs.pg_intent.Intents.{ended}
use Rattle.pg_pieces.specs.pg_msg.declared.message.Ask.TheVariants as ask
use Rattle.pg_pieces.specs.pg_msg.declared.message.Message.TheVariants as message
use Rattle.pg_pieces.specs.pg_msg.declared.work.Work.{Work}
use Rattle.pg_pieces.specs.pg_names.declared.attributes.Attributes.{Attributes}
use Rattle.pg_pieces.specs.pg_names.Names.{cell_at, own_or_blank}
use Rattle.pg_pieces.specs.pg_names.Same.{is_same_stamp}
use Rattle.pg_pieces.specs.pg_house.Work.{is_root}
use Rattle.pg_pieces.specs.pg_store.declared.store.Store.{Store}
use Rattle.pg_pieces.specs.pg_store.Beginning.{with_intents}
use Rattle.pg_pieces.specs.pg_store.Store.{is_held}
use Rattle.pg_pieces.specs.Done.{Done, idle}
use Rattle.pg_pieces.specs.Posting.{reply}
use Rattle.pg_pieces.specs.Taking.{take_entry_noted, take_flags_noted, take_place_noted}

abbrev pub entry_for : FileId → Attributes → Entry
entry_for file own = record { child = file; place = own.place; flags = own.flags }

-- the own place and flags of a thing, as a cell for it
abbrev pub own_entry : Store → FileId → Entry
own_entry store file = entry_for file (own_or_blank store.names file)

-- ---- confirm

-- the root takes no place
abbrev pub take_told_place : Store → Entry → Work → Done
take_told_place store entry work =
    if is_root entry.child then idle store work
    else take_place_noted store entry.child entry.place work

abbrev pub take_told_flags : Entry → Done → Done
take_told_flags entry done = take_flags_noted done.store entry.child entry.flags done.work

-- what the child has is told
abbrev pub with_place_told : Store → FileId → FileId → Work → Work
with_place_told store dir child work =
    reply store (message.PlaceIs dir (own_entry store child)) work

abbrev pub place_told : FileId → FileId → Done → Done
place_told dir child done =
    idle done.store (with_place_told done.store dir child done.work)

-- a held child takes what is newer in the cell that a directory has for it, and tells what it has
-- then, before any house rule. Who does not hold it says so
abbrev pub confirm : Store → FileId → Entry → Work → Done
confirm store dir entry work =
    if is_held store entry.child
    then place_told dir entry.child (take_told_flags entry (take_told_place store entry work))
    else idle store (reply store (message.NoneHere ask.Confirm dir entry.child) work)

-- ---- placeis

-- the directory's cell for the child has the place of this stamp, or does not list it
abbrev pub is_confirmed_by : FileId → Stamp → Option Entry → Bool
is_confirmed_by dir stamp None = true
is_confirmed_by dir stamp (Some e) = is_same_stamp e.place.stamp stamp || not (is_listed dir e)

abbrev pub is_confirmed : Store → FileId → FileId → Stamp → Bool
is_confirmed store dir child stamp =
    is_confirmed_by dir stamp (cell_at store.names dir child)

-- then its Confirm ends
abbrev pub end_confirmed : Store → FileId → Entry → Store
end_confirmed store dir entry =
    if is_confirmed store dir entry.child entry.place.stamp
    then with_intents store (ended store.intents (intent_key.Confirm dir entry.child))
    else store

abbrev pub confirmed : FileId → Entry → Done → Done
confirmed dir entry done = idle (end_confirmed done.store dir entry) done.work

-- a held directory takes what is newer in what a holder of the child told
abbrev pub place_is : Store → FileId → Entry → Work → Done
place_is store dir entry work =
    if is_held store dir then confirmed dir entry (take_entry_noted store dir entry work)
    else idle store work
