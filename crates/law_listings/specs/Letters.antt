-- What servers hold, and the messages that they send, as directories see them.
use Rattle.std.specs.Prelude.{ℕ, ◌≡◌, ◌++◌, true, length, map, List, [], ◌∷◌, Option, None, Some}
use Rattle.pg_run.specs.pg_base.declared.id.FileId.{FileId}
use Rattle.pg_run.specs.pg_base.declared.stamp.Stamp.{Stamp}
use Rattle.pg_run.specs.pg_entries.declared.cell.Cell.{Cell}
use Rattle.pg_run.specs.pg_entries.declared.cell.Cell.TheVariants as cells
use Rattle.pg_run.specs.pg_event.declared.event.Event.{Event}
use Rattle.pg_run.specs.pg_intent.declared.intent.Intent.{Intent}
use Rattle.pg_run.specs.pg_intent.declared.intent.Intent.TheVariants as intent
use Rattle.pg_run.specs.pg_intent.declared.key.IntentKey.TheVariants as intent_key
use Rattle.pg_run.specs.pg_intent.Intents.{intent_at, stands}
use Rattle.theory_listing.specs.Protocol.{Protocol}
use Rattle.theory_listing.specs.World as listing
use Rattle.theory_listing.specs.World.Saying.{LeaveOk, Other, TellOk, Told}
use Rattle.theory_listing.specs.World.Way.{PlaceIs, SureCell, Tell}
use Rattle.pg_run.specs.pg_msg.declared.message.Message.{Message}
use Rattle.pg_run.specs.pg_msg.declared.message.Message.TheVariants as message
use Rattle.pg_run.specs.pg_msg.declared.message.Sent.{Sent}
use Rattle.pg_run.specs.pg_names.Names.{own_or_blank}
use Rattle.pg_run.specs.pg_register.declared.place.Place.{Place}
use Rattle.pg_run.specs.pg_server.Local.{effect}
use Rattle.theory_listing_house.specs.Listing.{Beside, listing_of}
use Rattle.pg_run.specs.pg_store.declared.store.Store.{Store}
use Rattle.pg_run.specs.pg_store.Births.{birth_of}
use Rattle.pg_run.specs.pg_store.Seen.{view_of}
use Rattle.pg_run.specs.pg_store.Together.{IsOver}
use Rattle.pg_run.specs.Journal.{removals}
use Rattle.pg_run.specs.Run.{Taking, World, is_live, next, start, taking_in, world_after}

-- the place that a Patch tells
abbrev pub patch_place : Option Intent → Option Place
patch_place (Some (intent.Patch dir entry target)) = Some entry.place
patch_place _ = None

-- What a server keeps beside names: the births of its replicas, of which those that are over are
-- past, its intentions, and how many removals it has entered
abbrev pub beside : Beside Store
beside = record {
  birth = λ a file. birth_of a file;
  IsPast = λ a file birth. IsOver a file birth;
  patch = λ a dir child. patch_place (intent_at a.intents (intent_key.Patch dir child));
  Confirms = λ a dir child. stands a.intents (intent_key.Confirm dir child) ≡ true;
  view = λ a. view_of a;
}

abbrev pub of_stores : Protocol Store FileId Place Stamp
of_stores = listing_of (λ a. a.names) beside

abbrev pub Saying : Type 0
Saying = listing.Saying FileId Place Stamp

-- a cell of which its sender is sure tells where the child stands
abbrev pub told_by : FileId → Cell → Saying
told_by dir (cells.Entry entry true) = Told SureCell dir entry.child entry.place
told_by dir _ = Other

-- the place that a server has of a thing
abbrev pub place_of : Store → FileId → Place
place_of a file = (own_or_blank a.names file).place

-- What a message tells where things stand, of a server that held this before the event in which it
-- was sent. A LeaveOk tells a stamp alone: its place is the sender's own, which no event changes in
-- which leave is given
abbrev pub says : Store → Message → Saying
says a (message.Cell ends tag c) = told_by ends.file c
says a (message.PlaceIs dir entry) = Told PlaceIs dir entry.child entry.place
says a (message.Tell dir entry) = Told Tell dir entry.child entry.place
says a (message.TellOk dir child stamp) = TellOk dir child stamp
says a (message.LeaveOk ends stamp) = LeaveOk ends.file ends.sender (place_of a ends.file)
says a _ = Other

abbrev pub Letter : Type 0
Letter = listing.Message FileId Place Stamp

abbrev pub letter : Store → Sent → Letter
letter a m =
    record { sender = m.packet.from; view = m.packet.view; says = says a m.packet.message }

-- the letters of what a server sends in an event, if one takes an input
abbrev pub letters_by : World → Option Taking → List Letter
letters_by w None = []
letters_by w (Some t) =
    map (letter (w.stores t.server)) (effect (w.stores t.server) t.asked).out.sent

-- those of these events, and of all before
abbrev pub letters_from : ℕ → World → List Letter → List Event → List Letter
letters_from servers w earlier [] = earlier
letters_from servers w earlier (event ∷ events) =
    letters_from servers (world_after w (next servers w event))
    (letters_by w (taking_in servers w event) ++ earlier) events

-- the letters of all messages that were ever sent in the run of these events
abbrev pub letters : ℕ → List Event → List Letter
letters servers events = letters_from servers (start servers) [] events

-- all servers of a run, of which those that are not removed are live, and these letters. Who has
-- entered as many removals as there were is current
abbrev pub listings : ℕ → World → List Letter → listing.World Store FileId Place Stamp
listings servers w sent = record {
  nodes = w.stores;
  live = is_live servers w;
  least = length (removals w.journal);
  messages = sent;
}
