-- A replica asks a gold one for leave to go, and goes; and its peers hear of it.
use Rattle.std.specs.Prelude.{ℕ, Bool, ◌==◌, ◌&&◌, not, false, if◌then◌else◌, List, [], ◌∷◌, Option, None, Some, is_some}
use Rattle.pg_base.specs.declared.id.FileId.{FileId}
use Rattle.pg_base.specs.declared.stamp.Stamp.{Stamp}
use Rattle.pg_pieces.specs.pg_names.Same.{is_same_stamp}
use Rattle.pg_edges.specs.declared.edge.Edge.{Edge}
use Rattle.pg_pieces.specs.pg_intent.declared.intent.Intent.{Intent}
use Rattle.pg_pieces.specs.pg_intent.declared.intent.Intent.TheVariants as intent
use Rattle.pg_pieces.specs.pg_intent.declared.key.IntentKey.TheVariants as intent_key
use Rattle.pg_pieces.specs.pg_intent.Intents.{ended, intent_at}
use Rattle.pg_pieces.specs.pg_msg.declared.message.Ends.{Ends}
use Rattle.pg_pieces.specs.pg_msg.declared.message.Message.TheVariants as message
use Rattle.pg_pieces.specs.pg_msg.declared.work.Work.{Work}
use Rattle.pg_pieces.specs.pg_names.Names.{own_or_blank}
use Rattle.pg_pieces.specs.pg_store.declared.store.Store.{Store}
use Rattle.pg_pieces.specs.pg_store.Beginning.{let_go, with_intents}
use Rattle.pg_pieces.specs.pg_store.Births.{birth_of}
use Rattle.pg_pieces.specs.pg_store.Links.{is_linked, unlink}
use Rattle.pg_pieces.specs.pg_store.Store.{is_full, replica_of}
use Rattle.pg_pieces.specs.declared.accepting.EdgeUse.TheVariants as manner
use Rattle.pg_pieces.specs.Accepting.{accept, ends_to, is_accepted}
use Rattle.pg_pieces.specs.Done.{Done, idle}
use Rattle.pg_register.specs.Flag.{is_raised}
use Rattle.pg_pieces.specs.Golds.{flags_of, is_gold}
use Rattle.pg_pieces.specs.Intending.{begin_intent}
use Rattle.pg_pieces.specs.Parting.{stays_for}
use Rattle.pg_pieces.specs.Posting.{reply}

-- ---- leave is asked for

abbrev pub place_stamp : Store → FileId → Stamp
place_stamp store file = (own_or_blank store.names file).place.stamp

-- it is given where the replica here is full and gold, and its place has this stamp
abbrev pub gives_leave : Store → FileId → Stamp → Bool
gives_leave store file stamp = is_full store file
    && (is_gold store file && is_same_stamp (place_stamp store file) stamp)

abbrev pub leave_given : Ends → Stamp → Done → Done
leave_given ends stamp done = idle done.store
    (if gives_leave done.store ends.file stamp
    then reply done.store (message.LeaveOk (ends_to done.store ends.file ends.sender) stamp)
    done.work
    else done.work)

-- who asks is linked
abbrev pub leave : Store → Ends → Stamp → Work → Done
leave store ends stamp work =
    if is_accepted store work.from manner.Makes ends
    then leave_given ends stamp (accept store ends manner.Makes work)
    else accept store ends manner.Makes work

-- the peer is listed with this birth, and its flag of that birth is raised
abbrev pub may_still_leave : Store → FileId → ℕ → ℕ → Bool
may_still_leave store file peer birth = is_linked store file peer birth
    && is_raised (flags_of store file) peer birth

-- ---- leave is given

-- a Leave to this birth of this server's replica
abbrev pub is_leave_with : Intent → ℕ → ℕ → Bool
is_leave_with (intent.Leave file peer birth) from sender = peer == from && birth == sender
is_leave_with _ from sender = false

-- it stands
abbrev pub is_leave_to : Option Intent → ℕ → ℕ → Bool
is_leave_to None from sender = false
is_leave_to (Some i) from sender = is_leave_with i from sender

-- the answer is to what was asked, and the place is still the one that was told
abbrev pub may_leave : Store → Ends → Stamp → Work → Bool
may_leave store ends stamp work = is_accepted store work.from manner.Answers ends
    && (is_leave_to (intent_at store.intents (intent_key.Leave ends.file)) work.from ends.sender
    && is_same_stamp (place_stamp store ends.file) stamp)

-- the Leave has ended
abbrev pub without_leave : Store → FileId → Store
without_leave store file = with_intents store (ended store.intents (intent_key.Leave file))

-- the peers of a replica that went are told, by server
abbrev pub bye_to : FileId → ℕ → Edge → Intent
bye_to file birth e = intent.Bye file birth e.peer e.birth

abbrev pub begin_byes : FileId → ℕ → List Edge → Done → Done
begin_byes file birth [] done = done
begin_byes file birth (e ∷ es) done =
    begin_byes file birth es (begin_intent done.store (bye_to file birth e) done.work)

-- the replica goes
abbrev pub goes : Store → FileId → Work → Done
goes store file work = begin_byes file (birth_of store file) (replica_of store file).edges
    (idle (let_go store file) work)

-- where nothing keeps it here; else it stays
abbrev pub goes_or_stays : Store → FileId → Work → Done
goes_or_stays store file work =
    if is_some (stays_for store file) then idle store work else goes store file work

-- the replica goes in this event: what follows the answer, for those who want to know only that
abbrev pub goes_now : Store → Ends → Stamp → Work → Bool
goes_now store ends stamp work = may_leave store ends stamp work
    && not (is_some (stays_for (without_leave store ends.file) ends.file))

abbrev pub leave_ok : Store → Ends → Stamp → Work → Done
leave_ok store ends stamp work =
    if may_leave store ends stamp work
    then goes_or_stays (without_leave store ends.file) ends.file work
    else idle store work

-- ---- a replica has gone

-- the edge to it goes, whichever replica is here; it is answered in any case
abbrev pub bye : Store → Ends → Work → Done
bye store ends work = idle (unlink store ends.file work.from ends.sender)
    (reply store (message.ByeOk ends.file ends.sender) work)

-- who was told has answered
abbrev pub bye_ok : Store → FileId → ℕ → Work → Done
bye_ok store file birth work =
    idle (with_intents store (ended store.intents (intent_key.Bye file birth work.from))) work
