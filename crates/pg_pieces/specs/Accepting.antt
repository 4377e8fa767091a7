-- Messages along edges: which are accepted, and what the others come to.
use Rattle.std.specs.Prelude.{ℕ, Bool, true, false, ◌&&◌, ◌||◌, not, if◌then◌else◌}
use Rattle.pg_base.specs.declared.id.FileId.{FileId}
use Rattle.pg_store.specs.pg_replica.Replica.{has_edge}
use Rattle.pg_store.specs.pg_house.pg_msg.declared.message.Ends.{Ends}
use Rattle.pg_store.specs.pg_house.pg_msg.declared.message.Message.TheVariants as message
use Rattle.pg_store.specs.pg_house.pg_msg.declared.work.Work.{Work}
use Rattle.pg_store.specs.pg_house.pg_msg.Work.{with_linked}
use Rattle.pg_store.specs.declared.store.Store.{Store}
use Rattle.pg_store.specs.Births.{birth_of, has_birth, is_pending}
use Rattle.pg_store.specs.Links.{is_new_link, knows_later, link}
use Rattle.pg_store.specs.Store.{replica_of}
use Rattle.pg_pieces.specs.declared.accepting.EdgeUse.{EdgeUse}
use Rattle.pg_pieces.specs.declared.accepting.EdgeUse.TheVariants as manner
use Rattle.pg_pieces.specs.Done.{Done, idle, link_of}
use Rattle.pg_pieces.specs.Posting.{reply}

-- the edge from the replica here to one of this birth
abbrev pub ends_to : Store → FileId → ℕ → Ends
ends_to store file birth =
    record { file = file; sender = birth_of store file; receiver = birth }

-- ---- links

-- an edge is noted, where it was made
abbrev pub with_link : Bool → Work → FileId → ℕ → Work
with_link news work file peer = if news then with_linked work file peer else work

-- a birth of a peer is linked to the replica of a thing. Where that makes an edge, or one in place
-- of an older one, it is noted
abbrev pub link_peer : Store → FileId → ℕ → ℕ → Work → Done
link_peer store file peer birth work = record {
  store = link store file peer birth;
  work = with_link (is_new_link store file peer birth) work file peer;
}

-- ---- which messages are accepted

abbrev pub is_answer : EdgeUse → Bool
is_answer manner.Makes = false
is_answer manner.Needs = false
is_answer manner.Answers = true

-- the replica of the birth that the message names is here, and the sender is not listed with a
-- later birth than its own
abbrev pub is_current : Store → ℕ → Ends → Bool
is_current store from ends = has_birth store ends.file ends.receiver
    && not (knows_later store ends.file from ends.sender)

-- it links its sender, or comes along an edge that is there
abbrev pub meets : Store → ℕ → EdgeUse → Ends → Bool
meets store from manner.Makes ends = true
meets store from manner.Needs ends = has_edge (replica_of store ends.file) (link_of from ends)
meets store from manner.Answers ends = has_edge (replica_of store ends.file) (link_of from ends)

-- a message along an edge is accepted
abbrev pub is_accepted : Store → ℕ → EdgeUse → Ends → Bool
is_accepted store from manner ends =
    is_current store from ends && meets store from manner ends

-- ---- what comes of all this before the message itself is looked at

-- the sender of a message is told that its replica is not here, but not of an answer, nor where the
-- replica is still to come
abbrev pub with_gone : Store → Ends → EdgeUse → Work → Work
with_gone store ends manner work =
    if is_answer manner || is_pending store ends.file ends.receiver then work
    else reply store (message.Gone ends.file ends.receiver) work

-- where it links its sender it does
abbrev pub met : Store → Ends → EdgeUse → Work → Done
met store ends manner.Makes work = link_peer store ends.file work.from ends.sender work
met store ends manner.Needs work = idle store work
met store ends manner.Answers work = idle store work

-- first the replica is looked for, then a later birth of the sender, and then an edge
abbrev pub accept : Store → Ends → EdgeUse → Work → Done
accept store ends manner work =
    if has_birth store ends.file ends.receiver
    then (if knows_later store ends.file work.from ends.sender then idle store work
    else met store ends manner work)
    else idle store (with_gone store ends manner work)
