-- One intention of a server.
use Rattle.std.specs.Prelude.{ℕ, Bool, ◌||◌, false, Option, None, Some}
use Rattle.pg_base.specs.declared.id.FileId.{FileId}
use Rattle.pg_base.specs.Id.{is_same_file}
use Rattle.pg_intent.specs.declared.kind.IntentKind.{IntentKind}
use Rattle.pg_intent.specs.declared.kind.IntentKind.TheVariants as kind
use Rattle.pg_entries.specs.Entry.{joined}
use Rattle.pg_intent.specs.declared.key.IntentKey.{IntentKey}
use Rattle.pg_intent.specs.declared.key.IntentKey.TheVariants as key
use Rattle.pg_intent.specs.declared.intent.Intent.{Intent}
use Rattle.pg_intent.specs.declared.intent.Intent.TheVariants as intent

-- what tells it from another: a Bye by file, birth and peer, a Patch and a Confirm by directory and
-- child, the others by file
abbrev pub key_of : Intent → IntentKey
key_of (intent.Bye file birth peer peer_birth) = key.Bye file birth peer
key_of (intent.Seek file target) = key.Seek file
key_of (intent.Fill file birth target) = key.Fill file
key_of (intent.Patch dir entry target) = key.Patch dir entry.child
key_of (intent.Confirm dir child target) = key.Confirm dir child
key_of (intent.Leave file peer peer_birth) = key.Leave file

abbrev pub kind_of : Intent → IntentKind
kind_of (intent.Bye file birth peer peer_birth) = kind.Bye
kind_of (intent.Seek file target) = kind.Seek
kind_of (intent.Fill file birth target) = kind.Fill
kind_of (intent.Patch dir entry target) = kind.Patch
kind_of (intent.Confirm dir child target) = kind.Confirm
kind_of (intent.Leave file peer peer_birth) = kind.Leave

-- what it is about: the directory, where it is about a child of one
abbrev pub file_of : Intent → FileId
file_of (intent.Bye file birth peer peer_birth) = file
file_of (intent.Seek file target) = file
file_of (intent.Fill file birth target) = file
file_of (intent.Patch dir entry target) = dir
file_of (intent.Confirm dir child target) = dir
file_of (intent.Leave file peer peer_birth) = file

abbrev pub child_of : Intent → Option FileId
child_of (intent.Patch dir entry target) = Some entry.child
child_of (intent.Confirm dir child target) = Some child
child_of _ = None

-- the server that is asked, 0 for none: of a Bye and a Leave the peer
abbrev pub target_of : Intent → ℕ
target_of (intent.Bye file birth peer peer_birth) = peer
target_of (intent.Seek file target) = target
target_of (intent.Fill file birth target) = target
target_of (intent.Patch dir entry target) = target
target_of (intent.Confirm dir child target) = target
target_of (intent.Leave file peer peer_birth) = peer

abbrev pub is_child : FileId → Option FileId → Bool
is_child id None = false
is_child id (Some child) = is_same_file child id

-- its file, its directory or its child
abbrev pub is_about : FileId → Intent → Bool
is_about id i = is_same_file (file_of i) id || is_child id (child_of i)

-- it asks another server, but a Bye and a Leave stay with their peer
abbrev pub aimed_at : ℕ → Intent → Intent
aimed_at to (intent.Seek file target) = intent.Seek file to
aimed_at to (intent.Fill file birth target) = intent.Fill file birth to
aimed_at to (intent.Patch dir entry target) = intent.Patch dir entry to
aimed_at to (intent.Confirm dir child target) = intent.Confirm dir child to
aimed_at to i = i

-- it begins again, as the other of the same key: a Patch joins the other's entry and keeps its
-- target, and of the other kinds nothing changes
abbrev pub rejoined : Intent → Intent → Intent
rejoined (intent.Patch dir entry target) (intent.Patch d e t) =
    intent.Patch dir (joined entry e) target
rejoined i other = i
