-- The messages of intentions.
use Rattle.std.specs.Prelude.{ℕ, ◌==◌, ◌++◌, if◌then◌else◌, List, [], ◌∷◌, Option, None, Some}
use Rattle.std.specs.List.{flat_map}
use Rattle.pg_base.specs.declared.id.FileId.{FileId}
use Rattle.pg_entries.specs.declared.entry.Entry.{Entry}
use Rattle.pg_graph.specs.pg_intent.declared.intent.Intent.{Intent}
use Rattle.pg_graph.specs.pg_intent.declared.intent.Intent.TheVariants as intent
use Rattle.pg_graph.specs.pg_intent.declared.key.IntentKey.{IntentKey}
use Rattle.pg_graph.specs.pg_intent.Intent.{target_of}
use Rattle.pg_graph.specs.pg_intent.Intents.{intent_at}
use Rattle.pg_graph.specs.pg_msg.declared.message.Message.{Message}
use Rattle.pg_graph.specs.pg_msg.declared.message.Message.TheVariants as message
use Rattle.pg_graph.specs.pg_msg.declared.message.Sent.{Sent}
use Rattle.pg_graph.specs.pg_msg.declared.work.Work.{Work}
use Rattle.pg_graph.specs.pg_names.declared.attributes.Attributes.{Attributes}
use Rattle.pg_graph.specs.pg_names.Names.{cell_at, own_at}
use Rattle.pg_graph.specs.pg_store.declared.store.Store.{Store}
use Rattle.pg_graph.specs.pg_store.Births.{birth_of}
use Rattle.pg_graph.specs.pg_pieces.Posting.{sent_to}
use Rattle.pg_intentions.specs.Intending.{pieces}

-- a peer is told that a replica is gone
abbrev pub bye_message : FileId → ℕ → ℕ → Message
bye_message file birth peer_birth =
    message.Bye (record { file = file; sender = birth; receiver = peer_birth })

-- the cell that is to be confirmed
abbrev pub confirm_message : FileId → Option Entry → Option Message
confirm_message dir None = None
confirm_message dir (Some entry) = Some (message.Confirm dir entry)

-- a gold replica of this birth is asked for leave to go, while the place has the stamp that it has
abbrev pub leave_message : Store → FileId → ℕ → Option Attributes → Option Message
leave_message store file peer_birth None = None
leave_message store file peer_birth (Some own) = Some (message.Leave
    (record { file = file; sender = birth_of store file; receiver = peer_birth })
    own.place.stamp)

-- what is asked by an intention. None where what it is about is not held: then it does not stand
abbrev pub request : Store → Intent → Option Message
request store (intent.Bye file birth peer peer_birth) =
    Some (bye_message file birth peer_birth)
request store (intent.Seek file target) = Some (message.Seek file (birth_of store file))
request store (intent.Fill file birth target) = Some (message.Fetch file birth)
request store (intent.Patch dir entry target) = Some (message.Tell dir entry)
request store (intent.Confirm dir child target) =
    confirm_message dir (cell_at store.names dir child)
request store (intent.Leave file peer peer_birth) =
    leave_message store file peer_birth (own_at store.names file)

abbrev pub asked_of : Store → ℕ → Option Message → List Sent
asked_of store to None = []
asked_of store to (Some m) = sent_to store to m ∷ []

-- its message, where it has a target
abbrev pub asks : Store → Intent → List Sent
asks store i =
    if target_of i == 0 then [] else asked_of store (target_of i) (request store i)

-- the message of the one with this key, as it stands
abbrev pub asks_by : Store → IntentKey → List Sent
asks_by store k = pieces (asks store) (intent_at store.intents k)

-- of the intentions that began in this event, in their order
abbrev pub ask_begun : Store → Work → Work
ask_begun store work = record work { sent = work.sent ++ flat_map (asks_by store) work.begun }

-- of all
abbrev pub ask_all : Store → Work → Work
ask_all store work = record work { sent = work.sent ++ flat_map (asks store) store.intents }
