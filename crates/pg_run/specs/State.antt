-- What the updates that a replica took come to: of a thing its place and its flags, of a directory
-- the entries of its children, of a file its content.
use Rattle.std.specs.Prelude.{Bool, false, if◌then◌else◌, List, [], ◌∷◌, Option, None, Some}
use Rattle.pg_base.specs.declared.id.FileId.{FileId}
use Rattle.pg_base.specs.declared.policy.Policy.{Policy}
use Rattle.pg_base.specs.declared.policy.Policy.TheVariants.{Last}
use Rattle.pg_base.specs.declared.stamp.Stamp.{Stamp}
use Rattle.pg_base.specs.Id.{is_same_file}
use Rattle.pg_content.specs.Content.{ContentValue}
use Rattle.pg_content.specs.StandsFor.{content_of}
use Rattle.pg_entries.specs.declared.entry.Entry.{Entry as Cell}
use Rattle.pg_server.specs.pg_pieces.pg_call.declared.call.Call.{Call}
use Rattle.pg_server.specs.pg_pieces.pg_call.declared.call.Call.TheVariants as call
use Rattle.pg_server.specs.pg_pieces.pg_call.declared.reply.Reply.{Reply}
use Rattle.pg_server.specs.pg_pieces.pg_call.declared.reply.Reply.TheVariants as reply
use Rattle.pg_event.specs.declared.event.Event.{Event}
use Rattle.pg_event.specs.declared.event.Event.TheVariants as event
use Rattle.pg_event.specs.declared.entry.Entry.{Entry}
use Rattle.pg_server.specs.pg_pieces.pg_names.declared.attributes.Attributes.{Attributes}
use Rattle.pg_run.specs.Journal.{Born, versions, with_ancestors}
use Rattle.pg_run.specs.Took.{Take, flags_in, own_place, place_in, stamps_taken}
use Rattle.pg_run.specs.Took.Taker.{InDir, Itself}
use Rattle.pg_run.specs.Passed.{has_cell}

-- ---- names

-- a thing's own place and flags: of the places the latest, of each server's flags the newest
abbrev pub own_state : FileId → List Take → Attributes
own_state file takes =
    record { place = own_place file takes; flags = flags_in Itself file takes }

-- a directory's cell for a child of which it took an update
abbrev pub entry_state : FileId → FileId → List Take → Option Cell
entry_state dir child takes =
    if has_cell dir child takes
    then Some (record {
      child = child;
      place = place_in (InDir dir) child takes;
      flags = flags_in (InDir dir) child takes;
    })
    else None

-- ---- contents

-- the policy that a call names, if it makes a file
abbrev pub policy_named : Call → Option Policy
policy_named (call.Mkdir path) = None
policy_named (call.Create path policy) = Some policy
policy_named (call.Write path offset bytes) = None
policy_named (call.Cut path length) = None
policy_named (call.Read path offset count) = None
policy_named (call.Fresh path) = None
policy_named (call.Ls path from) = None
policy_named (call.Stat target) = None
policy_named (call.Rename from to) = None
policy_named (call.Unlink path) = None
policy_named (call.Rmdir path) = None
policy_named (call.Forget id) = None
policy_named (call.Demote target) = None
policy_named (call.Drop target) = None
policy_named (call.Giveup view server) = None
policy_named call.Status = None
policy_named call.Stop = None

abbrev pub policy_asked : Event → Option Policy
policy_asked (event.Call server moment asked) = policy_named asked
policy_asked (event.Tick server moment word) = None
policy_asked (event.Deliver number) = None
policy_asked (event.Lose number) = None
policy_asked (event.Repeat number) = None
policy_asked (event.Restart server) = None
policy_asked (event.Remove server) = None

-- the thing that a reply says was made is this file
abbrev pub is_made : FileId → Option Reply → Bool
is_made file None = false
is_made file (Some reply.Done) = false
is_made file (Some (reply.Made id)) = is_same_file id file
is_made file (Some (reply.Wrote stamp)) = false
is_made file (Some (reply.Bytes bytes)) = false
is_made file (Some (reply.Names total rows)) = false
is_made file (Some (reply.Stat stat)) = false
is_made file (Some (reply.Leaving server)) = false
is_made file (Some (reply.Status counts)) = false
is_made file (Some (reply.Refused why)) = false

abbrev pub policy_by : Bool → Option Policy → Policy → Policy
policy_by made None other = other
policy_by made (Some policy) other = if made then policy else other

-- the policy of a file: that of the call that made it
abbrev pub policy_made : FileId → List Entry → Policy
policy_made file [] = Last
policy_made file (entry ∷ earlier) =
    policy_by (is_made file entry.reply) (policy_asked entry.event) (policy_made file earlier)

-- the versions of a file that a server took: a version comes with its ancestors
abbrev pub versions_taken : FileId → List Born → List Take → List Stamp
versions_taken file history takes =
    with_ancestors (versions file history) (stamps_taken file takes)

-- the content of a file: the heads of the versions that were taken, whole and by stamp, with the
-- policy of the file. Of a directory it is empty
abbrev pub content_state : FileId → List Entry → List Born → List Take → ContentValue
content_state file journal history takes =
    content_of (policy_made file journal) (versions file history)
    (versions_taken file history takes)
