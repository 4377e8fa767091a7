-- The servers of a run, as replicas of one thing that go see them.
use Rattle.std.specs.Prelude.{ℕ, ◌≡◌, ◌≤◌, ◌++◌, ◌∷◌, [], true, if◌then◌else◌, Contains, List, Option, None, Some}
use Rattle.pg_run.specs.pg_base.declared.id.FileId.{FileId}
use Rattle.pg_run.specs.pg_base.Id.{is_same_file}
use Rattle.pg_run.specs.pg_edges.declared.key.Key.TheVariants as key
use Rattle.pg_run.specs.pg_entries.declared.cell.Cell.{Cell}
use Rattle.pg_run.specs.pg_entries.declared.cell.Cell.TheVariants as cell
use Rattle.pg_run.specs.pg_event.declared.event.Event.{Event}
use Rattle.pg_run.specs.pg_intent.declared.intent.Intent.TheVariants as intent
use Rattle.theory_leaving.specs.Protocol.{Protocol, Word}
use Rattle.theory_leaving.specs.Protocol.Word.{Gone, Bye, ByeOk, LeaveOk, Other}
use Rattle.theory_leaving.specs.Rule.{Turn}
use Rattle.pg_run.specs.pg_msg.declared.message.Message.{Message}
use Rattle.pg_run.specs.pg_msg.declared.message.Message.TheVariants as message
use Rattle.pg_run.specs.pg_msg.declared.message.Sent.{Sent}
use Rattle.pg_run.specs.pg_register.declared.flag.Flag.{Flag}
use Rattle.pg_run.specs.pg_register.Flag.{is_removed}
use Rattle.pg_run.specs.pg_server.declared.input.Input.{Input}
use Rattle.pg_run.specs.pg_server.declared.input.Input.TheVariants as input
use Rattle.pg_run.specs.pg_server.Local.{effect}
use Rattle.pg_run.specs.pg_store.Seen.{removed_of}
use Rattle.pg_run.specs.pg_store.Together.{birth_at}
use Rattle.pg_run.specs.Journal.{mail}
use Rattle.pg_run.specs.Laws.{store_after}
use Rattle.pg_run.specs.Run.{Taking, run}
use Rattle.law_leaving.specs.Gone.{WentAs}
use Rattle.law_leaving.specs.Taken.{Site, site, taking}

-- a word about this thing, where the message is about it
abbrev pub if_of : FileId → FileId → Word → Word
if_of file f word = if is_same_file f file then word else Other

-- what a message from one server to another says of replicas of the thing
abbrev pub word_of : FileId → ℕ → ℕ → Message → Word
word_of file from to (message.Gone f birth) = if_of file f (Gone from birth)
word_of file from to (message.Bye ends) = if_of file ends.file (Bye from ends.sender)
word_of file from to (message.ByeOk f birth) = if_of file f (ByeOk from to birth)
word_of file from to (message.LeaveOk ends stamp) =
    if_of file ends.file (LeaveOk from ends.sender to ends.receiver)
word_of file from to _ = Other

-- the flag among the cells of a server's key
abbrev pub flag_in : Option Cell → Option Flag
flag_in None = None
flag_in (Some (cell.Place place)) = None
flag_in (Some (cell.Flag flag)) = Some flag
flag_in (Some (cell.Entry entry sure)) = None
flag_in (Some (cell.Version version)) = None

-- what a server holds and took behind these events
abbrev pub site_after : ℕ → List Event → ℕ → Site
site_after servers events s = site (run servers events) s

-- moments are what happened so far
abbrev pub leaving : ℕ → FileId → Protocol (List Event) Site Sent Cell
leaving servers file = record {
  IsServer = λ s. (1 ≤ s) × (s ≤ servers);
  nodes = λ events s. site_after servers events s;
  Went = λ events s birth y. WentAs servers file events s birth y;
  mail = λ events. mail (run servers events).journal;
  edges = taking;
  file = file;
  says = λ m. word_of file m.packet.from m.to m.packet.message;
  flag = λ cells server. flag_in (cells (key.Flag server));
  Removed = λ a t. is_removed (removed_of a.store) t ≡ true;
  Owes = λ a own t birth. Contains a.store.intents (intent.Bye file own t birth);
  Leaves = λ a own t birth. Contains a.store.intents (intent.Leave file t birth)
      × (birth_at a.store file ≡ Some own);
}

-- what comes to a server in an event, if a message does
abbrev pub message_in : ℕ → Input → Option Sent
message_in s (input.Call moment call) = None
message_in s (input.Tick moment word) = None
message_in s (input.Arrival packet) = Some (record { to = s; packet = packet })
message_in s input.Restart = None

-- a server of a run takes an input in an event
abbrev pub turn : ℕ → List Event → Event → Taking → Turn Site Sent
turn servers events event t = record {
  server = t.server;
  next = site_after servers (events ++ event ∷ []) t.server;
  heard = message_in t.server t.asked;
  sent = (effect (store_after servers events t.server) t.asked).out.sent;
}
