-- Directories are told of children that moved.
use Rattle.std.specs.Prelude.{ℕ, Bool, ◌==◌, ◌&&◌, false, if◌then◌else◌, Option, Some}
use Rattle.pg_base.specs.declared.id.FileId.{FileId}
use Rattle.pg_base.specs.declared.stamp.Stamp.{Stamp}
use Rattle.pg_entries.specs.declared.entry.Entry.{Entry}
use Rattle.pg_pieces.specs.pg_intent.declared.intent.Intent.{Intent}
use Rattle.pg_pieces.specs.pg_intent.declared.intent.Intent.TheVariants as intent
use Rattle.pg_pieces.specs.pg_intent.declared.key.IntentKey.TheVariants as intent_key
use Rattle.pg_pieces.specs.pg_intent.Intents.{ended, intent_at}
use Rattle.pg_pieces.specs.pg_msg.declared.message.Ask.TheVariants as ask
use Rattle.pg_pieces.specs.pg_msg.declared.message.Message.TheVariants as message
use Rattle.pg_pieces.specs.pg_msg.declared.work.Work.{Work}
use Rattle.pg_pieces.specs.pg_names.Same.{is_same_stamp}
use Rattle.pg_pieces.specs.pg_store.declared.store.Store.{Store}
use Rattle.pg_pieces.specs.pg_store.Beginning.{with_intents}
use Rattle.pg_pieces.specs.pg_store.Store.{is_held}
use Rattle.pg_pieces.specs.Done.{Done, idle}
use Rattle.pg_pieces.specs.Posting.{reply}
use Rattle.pg_pieces.specs.Taking.{take_entry_noted}

-- ---- tell

-- the answer has the stamp of the place that was told, whatever the directory has
abbrev pub told : FileId → Entry → Done → Done
told dir entry done = idle done.store
    (reply done.store (message.TellOk dir entry.child entry.place.stamp) done.work)

-- a held directory takes what is newer in the entry. Who does not hold it says so
abbrev pub tell : Store → FileId → Entry → Work → Done
tell store dir entry work =
    if is_held store dir then told dir entry (take_entry_noted store dir entry work)
    else idle store (reply store (message.NoneHere ask.Patch dir entry.child) work)

-- ---- tellok

-- it is a Patch that asks the sender, and carries just the place of this stamp
abbrev pub is_told : Option Intent → Stamp → ℕ → Bool
is_told (Some (intent.Patch dir entry target)) stamp from =
    target == from && is_same_stamp entry.place.stamp stamp
is_told _ stamp from = false

-- then it ends
abbrev pub end_told : Store → FileId → FileId → Stamp → ℕ → Store
end_told store dir child stamp from =
    if is_told (intent_at store.intents (intent_key.Patch dir child)) stamp from
    then with_intents store (ended store.intents (intent_key.Patch dir child))
    else store

abbrev pub tell_ok : Store → FileId → FileId → Stamp → Work → Done
tell_ok store dir child stamp work = idle (end_told store dir child stamp work.from) work
