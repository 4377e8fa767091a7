-- What an input brings a server's replicas besides what is made: what a message carries, and the
-- replicas that begin. And which replica goes. What a Delta or a Piece carries goes by whom the
-- server asked last.
use Rattle.std.specs.Prelude.{ℕ, Bool, false, ◌==◌, ◌+◌, ◌&&◌, not, if◌then◌else◌, List, [], ◌∷◌, ◌++◌, length, map, Option, None, Some, Result, Err, Ok}
use Rattle.std.specs.List.{filter, flat_map}
use Rattle.pg_base.specs.declared.id.FileId.{FileId}
use Rattle.pg_base.specs.Id.{is_same_file}
use Rattle.pg_base.specs.declared.stamp.Stamp.{Stamp}
use Rattle.pg_entries.specs.declared.cell.Cell.{Cell}
use Rattle.pg_entries.specs.declared.entry.Entry.{Entry}
use Rattle.pg_server.specs.pg_pieces.pg_intent.declared.intent.Intent.{Intent}
use Rattle.pg_server.specs.pg_pieces.pg_intent.declared.intent.Intent.TheVariants as intent
use Rattle.pg_delta.specs.Chain.{are_same_stamps}
use Rattle.pg_delta.specs.Taking.{stamps_of}
use Rattle.pg_server.specs.pg_pieces.pg_msg.declared.message.Delta.{Delta}
use Rattle.pg_server.specs.pg_pieces.pg_msg.declared.message.Ends.{Ends}
use Rattle.pg_server.specs.pg_pieces.pg_msg.declared.message.Granted.{Granted}
use Rattle.pg_server.specs.pg_pieces.pg_msg.declared.message.Message.{Message}
use Rattle.pg_server.specs.pg_pieces.pg_msg.declared.message.Message.TheVariants as message
use Rattle.pg_server.specs.pg_pieces.pg_msg.declared.message.Piece.{Piece}
use Rattle.pg_server.specs.pg_pieces.pg_msg.Work.{new_work}
use Rattle.pg_server.specs.pg_pieces.pg_call.declared.call.Call.{Call}
use Rattle.pg_server.specs.pg_pieces.pg_call.declared.call.Call.TheVariants as call
use Rattle.pg_server.specs.pg_pieces.pg_call.declared.reply.Reply.{Reply}
use Rattle.pg_server.specs.pg_pieces.pg_call.declared.reply.Reply.TheVariants as reply
use Rattle.pg_server.specs.pg_pieces.pg_house.Returning.{is_root}
use Rattle.pg_server.specs.pg_pieces.pg_names.Names.{is_dir}
use Rattle.pg_register.specs.declared.place.Place.{Place}
use Rattle.pg_server.specs.pg_pieces.pg_store.declared.store.Store.{Store}
use Rattle.pg_server.specs.pg_pieces.pg_store.Births.{is_pending}
use Rattle.pg_server.specs.pg_pieces.pg_store.Store.{content_of, is_held}
use Rattle.pg_server.specs.pg_pieces.declared.accepting.EdgeUse.TheVariants as manner
use Rattle.pg_server.specs.pg_pieces.Accepting.{is_accepted, is_current}
use Rattle.pg_server.specs.pg_cells.Cells.{fits}
use Rattle.pg_server.specs.pg_checks.Asking.{latest}
use Rattle.pg_server.specs.pg_calls.Forgetting.{dead_at, dirs_of, is_wanted, last_place, lists_in, lost_at}
use Rattle.pg_server.specs.pg_graph.Leaving.{goes_now}
use Rattle.pg_server.specs.declared.input.Input.{Input}
use Rattle.pg_server.specs.declared.input.Input.TheVariants as input
use Rattle.pg_server.specs.pg_checks.pg_lookup.declared.paths.LookupError.{LookupError}
use Rattle.pg_server.specs.Local.{reply_to}
use Rattle.pg_run.specs.Asking.{Asked, is_asked_at, is_asked_of}
use Rattle.pg_run.specs.Took.{Take, entry_takes, flags_of, places_of, takes_in}
use Rattle.pg_run.specs.Took.Take.{Began, TookPlace, TookVersion}
use Rattle.pg_run.specs.Took.Taker.{InDir, Itself}

-- ---- cells

-- a cell of a thing that may have it, where the receiver has the replica of the birth that the
-- message names, and does not know of a later one of the sender. No edge is asked for: it is made
abbrev pub cell_carried : Store → ℕ → Ends → Cell → List Take
cell_carried store from ends c =
    if is_current store from ends && fits ends.file c then takes_in ends.file c else []

-- ---- bodies

-- an answer about a file, along an edge that is there
abbrev pub answers_here : Store → ℕ → Ends → Bool
answers_here store from ends =
    not (is_dir ends.file) && is_accepted store from manner.Answers ends

-- from who was asked for the version, a change of just what the heads show
abbrev pub delta_carried : Store → Asked → ℕ → Ends → Delta → List Take
delta_carried store wants from ends d = if answers_here store from ends
    && (is_asked_of from (wants ends.file d.head.stamp)
    && are_same_stamps (stamps_of (content_of store ends.file)) d.from)
    then TookVersion ends.file d.head.stamp ∷ [] else []

-- from who was asked for the version from this byte on, all that is still missing of its body
abbrev pub piece_carried : Store → Asked → ℕ → Ends → Piece → List Take
piece_carried store wants from ends p = if answers_here store from ends
    && (is_asked_at from p.offset (wants ends.file p.head.stamp)
    && (p.offset + length p.bytes == p.head.length))
    then TookVersion ends.file p.head.stamp ∷ [] else []

-- ---- replicas that begin

-- a directory that begins takes the entries of its Patches, in the order in which these began
abbrev pub patch_taken : FileId → Intent → List Take
patch_taken dir (intent.Bye file birth peer peer_birth) = []
patch_taken dir (intent.Seek file target) = []
patch_taken dir (intent.Fill file birth target) = []
patch_taken dir (intent.Patch to entry target) =
    if is_same_file to dir then entry_takes dir entry else []
patch_taken dir (intent.Confirm to child target) = []
patch_taken dir (intent.Leave file peer peer_birth) = []

abbrev pub patches_taken : Store → FileId → List Take
patches_taken store dir = flat_map (patch_taken dir) store.intents

-- what is granted: the replica begins, and takes the place and the flags; a directory that of its
-- Patches too
abbrev pub granted_takes : Store → FileId → Granted → List Take
granted_takes store file granted =
    Began file ∷ places_of Itself file granted.place
    ++ (flags_of Itself file granted.flags ++ patches_taken store file)

-- to a birth that was given out for it, and to no other
abbrev pub grant_carried : Store → Ends → Granted → List Take
grant_carried store ends granted =
    if is_pending store ends.file ends.receiver
    then granted_takes store ends.file granted else []

-- ---- what is told of a child

-- a holder of the child takes what a directory lists; the root has no place to take
abbrev pub confirm_carried : Store → Entry → List Take
confirm_carried store entry =
    if is_held store entry.child
    then (if is_root entry.child then [] else places_of Itself entry.child entry.place)
    ++ flags_of Itself entry.child entry.flags
    else []

-- a holder of the directory takes the place and flags of the child
abbrev pub told_carried : Store → FileId → Entry → List Take
told_carried store dir entry =
    if is_held store dir then entry_takes dir entry else []

-- ---- messages

-- what a message from a server carries, by what its receiver holds before it, and
-- whom it asked last
abbrev pub carried : Store → Asked → ℕ → Message → List Take
carried store wants from (message.Cell ends tag c) = cell_carried store from ends c
carried store wants from (message.Ack ends k tag) = []
carried store wants from (message.Harbinger ends tag head) = []
carried store wants from (message.Want ends wanted) = []
carried store wants from (message.Delta ends delta) = delta_carried store wants from ends delta
carried store wants from (message.Piece ends piece) = piece_carried store wants from ends piece
carried store wants from (message.Later ends stamp) = []
carried store wants from (message.Fetch file birth) = []
carried store wants from (message.Grant ends granted) = grant_carried store ends granted
carried store wants from (message.NoGrant file birth) = []
carried store wants from (message.Full ends) = []
carried store wants from (message.Seek file birth) = []
carried store wants from (message.Greet ends why) = []
carried store wants from (message.NoneHere ask file child) = []
carried store wants from (message.Gone file birth) = []
carried store wants from (message.Bye ends) = []
carried store wants from (message.ByeOk file birth) = []
carried store wants from (message.Confirm dir entry) = confirm_carried store entry
carried store wants from (message.PlaceIs dir entry) = told_carried store dir entry
carried store wants from (message.Tell dir entry) = told_carried store dir entry
carried store wants from (message.TellOk dir child stamp) = []
carried store wants from (message.Leave ends stamp) = []
carried store wants from (message.LeaveOk ends stamp) = []
carried store wants from (message.Invite ends) = []
carried store wants from (message.Walk ends origin birth hops word) = []

-- ---- any input

-- the replica of a thing that a call made begins
abbrev pub begun_by : Option Reply → List Take
begun_by None = []
begun_by (Some reply.Done) = []
begun_by (Some (reply.Made id)) = Began id ∷ []
begun_by (Some (reply.Wrote stamp)) = []
begun_by (Some (reply.Bytes bytes)) = []
begun_by (Some (reply.Names total rows)) = []
begun_by (Some (reply.Stat stat)) = []
begun_by (Some (reply.Leaving server)) = []
begun_by (Some (reply.Status counts)) = []
begun_by (Some (reply.Refused why)) = []

-- ---- what was lost

-- a directory that begins anew, where it is known to be live
abbrev pub known_takes : FileId → Option Place → List Take
known_takes id None = []
known_takes id (Some place) = TookPlace Itself id place ∷ []

-- and it takes what Patches of it carry
abbrev pub anew_takes : Store → FileId → List Take
anew_takes store id = if is_wanted store id
    then Began id ∷ known_takes id (last_place store.names id) ++ patches_taken store id
    else []

abbrev pub struck_by : Store → ℕ → FileId → Option FileId → List Take
struck_by store moment id None = []
struck_by store moment id (Some dir) =
    map (λ d. TookPlace (InDir d) id (dead_at store moment id dir)) (dirs_of store.names id)

-- each directory that has a cell for a file takes its dead place
abbrev pub struck_takes : Store → ℕ → FileId → List Take
struck_takes store moment id = struck_by store moment id
    (latest store.names id None (filter (lists_in store.names id) (dirs_of store.names id)))

-- of what is held nothing comes but what is made
abbrev pub lost_takes : Store → ℕ → FileId → List Take
lost_takes store moment id = if is_held store id then []
    else (if is_dir id then anew_takes store id else struck_takes store moment id)

-- what a forget brings besides what is made of what is held; one that is refused brings nothing
abbrev pub forgotten_takes : Store → ℕ → Result FileId LookupError → List Take
forgotten_takes store moment (Err stop) = []
forgotten_takes store moment (Ok id) = lost_takes store moment id

-- a forget makes a place of a file that is not held: no replica of the file takes it
abbrev pub strikes_out : Store → Result FileId LookupError → Bool
strikes_out store (Err stop) = false
strikes_out store (Ok id) = not (is_held store id) && not (is_dir id)

abbrev pub strikes_call : Store → Call → Bool
strikes_call store (call.Forget id) = strikes_out store (lost_at store id)
strikes_call store _ = false

abbrev pub strikes : Store → Input → Bool
strikes store (input.Call moment c) = strikes_call store c
strikes store _ = false

abbrev pub came_by : Store → ℕ → Call → List Take
came_by store moment (call.Forget id) = forgotten_takes store moment (lost_at store id)
came_by store moment c = begun_by (reply_to store (input.Call moment c))

abbrev pub came : Store → Asked → Input → List Take
came store wants (input.Call moment c) = came_by store moment c
came store wants (input.Tick moment word) = []
came store wants (input.Arrival packet) = carried store wants packet.from packet.message
came store wants input.Restart = []

-- ---- what goes

-- leave to go that a server hears, to which its replica goes: it is to what was asked, and nothing
-- keeps the replica there
abbrev pub goes_with : Store → ℕ → Ends → Stamp → Option FileId
goes_with store from ends stamp =
    if goes_now store ends stamp (new_work 0 from) then Some ends.file else None

abbrev pub gone_by : Store → ℕ → Message → Option FileId
gone_by store from (message.LeaveOk ends stamp) = goes_with store from ends stamp
gone_by store from _ = None

-- the thing of which the replica goes in an event, where one does
abbrev pub gone_in : Store → Input → Option FileId
gone_in store (input.Arrival packet) = gone_by store packet.from packet.message
gone_in store _ = None
