-- What a journal says: which versions were made, which messages were sent, and which are under way.
-- A journal is the list of its entries, the latest first.
use Rattle.std.specs.Prelude.{[], ℕ, ◌-◌, ◌==◌, ◌||◌, Bool, not, if◌then◌else◌, List, ◌∷◌, ◌++◌, filter, map, Option, None, Some, slice_get, remove}
use Rattle.std.specs.List.{list_any}
use Rattle.pg_base.specs.declared.id.FileId.{FileId}
use Rattle.pg_base.specs.declared.stamp.Stamp.{Stamp}
use Rattle.pg_base.specs.Id.{is_same_file}
use Rattle.pg_content.specs.History.{Made, is_ancestor, is_same_stamp}
use Rattle.pg_server.specs.pg_pieces.pg_msg.declared.message.Sent.{Sent}
use Rattle.pg_server.specs.pg_pieces.pg_msg.declared.update.MadeVersion.{MadeVersion}
use Rattle.pg_server.specs.pg_pieces.pg_msg.declared.update.Update.{Update}
use Rattle.pg_server.specs.pg_pieces.pg_msg.declared.update.Update.TheVariants as update
use Rattle.pg_event.specs.declared.event.Event.{Event}
use Rattle.pg_event.specs.declared.event.Event.TheVariants.{Call, Tick, Deliver, Lose, Repeat, Restart, Remove}
use Rattle.pg_event.specs.declared.entry.Entry.{Entry}
use Rattle.pg_event.specs.declared.entry.VoidCause.{VoidCause}
use Rattle.pg_register.specs.Flag.{is_removed}
use Rattle.pg_server.specs.pg_pieces.pg_store.declared.store.Store.{Store}
use Rattle.pg_server.specs.pg_pieces.pg_store.Births.{birth_of}

-- the versions among what was made
abbrev pub versions_in : List Update → List MadeVersion
versions_in [] = []
versions_in (update.Version made ∷ us) = made ∷ versions_in us
versions_in (update.Place file place ∷ us) = versions_in us
versions_in (update.Flag file flag ∷ us) = versions_in us

-- a version, and the birth of the replica that made it
pub record Born : Type 0 where
  pub birth : ℕ
  pub made : MadeVersion

-- what a server made: of each file by the replica that it has
abbrev pub born_at : Store → MadeVersion → Born
born_at store u = record { birth = birth_of store u.file; made = u }

abbrev pub born_in : Store → List Update → List Born
born_in store us = map (born_at store) (versions_in us)

-- a version as the history of its file has it
abbrev pub made_of : Born → Made
made_of u = record {
  stamp = u.made.stamp;
  birth = u.birth;
  bases = u.made.bases;
  ranges = u.made.ranges;
}

abbrev pub made_for : FileId → List Born → List Made
made_for file [] = []
made_for file (u ∷ us) =
    if is_same_file file u.made.file then made_of u ∷ made_for file us else made_for file us

-- the history of a file: its versions, the latest first
abbrev pub versions : FileId → List Born → List Made
versions file history = made_for file history

-- the versions that entries tell of, without births
abbrev pub made_versions : List Entry → List MadeVersion
made_versions [] = []
made_versions (entry ∷ earlier) = versions_in entry.made ++ made_versions earlier

-- whether the version is one of these or an ancestor of one
abbrev pub is_within : List Made → List Stamp → Stamp → Bool
is_within h set s = list_any (λ t. is_same_stamp s t || is_ancestor h s t) set

-- these versions of a history, each with its ancestors
abbrev pub with_ancestors : List Made → List Stamp → List Stamp
with_ancestors h set = map (λ m. m.stamp) (filter (λ m. is_within h set m.stamp) h)

-- ---- messages under way

-- the message with this number; messages are counted from 1, in order of sending
abbrev pub message_at : List Sent → ℕ → Option Sent
message_at bag number = if number == 0 then None else slice_get bag (number - 1)

-- without the message of this number, where there is one
abbrev pub without : List Sent → ℕ → Option Sent → List Sent
without bag number None = bag
without bag number (Some m) = remove bag (number - 1)

-- with this message once more at the end
abbrev pub with_copy : List Sent → Option Sent → List Sent
with_copy bag None = bag
with_copy bag (Some m) = bag ++ m ∷ []

-- ---- removals

-- the servers removed behind an event, and those before it
abbrev pub removed_in : Event → Option VoidCause → List ℕ → List ℕ
removed_in (Remove server) None removed = removed ++ server ∷ []
removed_in _ _ removed = removed

-- the servers that were removed, in that order
abbrev pub removals : List Entry → List ℕ
removals [] = []
removals (entry ∷ earlier) = removed_in entry.event entry.void (removals earlier)

-- the messages that are not to a removed server
abbrev pub to_live : List ℕ → List Sent → List Sent
to_live removed sent = filter (λ m. not (is_removed removed m.to)) sent

-- the messages that are not to this server
abbrev pub without_to : ℕ → List Sent → List Sent
without_to server bag = filter (λ m. not (m.to == server)) bag

-- a server is removed, where that is not void
abbrev pub bag_behind : List Sent → ℕ → Option VoidCause → List Sent
bag_behind bag server None = without_to server bag
bag_behind bag server (Some cause) = bag

-- what is left of the messages under way, with what an event sends or copies, behind these removals
abbrev pub bag_after : List ℕ → List Sent → Event → Option VoidCause → List Sent → List Sent
bag_after removed bag (Call server moment call) void sent = bag ++ to_live removed sent
bag_after removed bag (Tick server moment word) void sent = bag ++ to_live removed sent
bag_after removed bag (Deliver number) void sent =
    without bag number (message_at bag number) ++ to_live removed sent
bag_after removed bag (Lose number) void sent = without bag number (message_at bag number)
bag_after removed bag (Repeat number) void sent = with_copy bag (message_at bag number)
bag_after removed bag (Restart server) void sent = bag ++ to_live removed sent
bag_after removed bag (Remove server) void sent = bag_behind bag server void

-- the messages under way, in order of sending: none is to a removed server
abbrev pub bag : List Entry → List Sent
bag [] = []
bag (entry ∷ earlier) =
    bag_after (removals earlier) (bag earlier) entry.event entry.void entry.sent

-- ---- messages ever sent

-- all of them, be they under way, delivered or lost
abbrev pub mail : List Entry → List Sent
mail [] = []
mail (entry ∷ earlier) = entry.sent ++ mail earlier
