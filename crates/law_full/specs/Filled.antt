-- Full replicas have places.
use Rattle.std.specs.Prelude.{ℕ, ◌≡◌, ◌⊎◌, true, false, All, List, Some}
use Rattle.law_frame.specs.pg_run.pg_base.declared.id.FileId.{FileId}
use Rattle.law_frame.specs.pg_run.pg_base.Id.{is_same_file}
use Rattle.law_frame.specs.pg_run.pg_base.Stamp.{is_before}
use Rattle.law_frame.specs.pg_run.pg_event.declared.event.Event.{Event}
use Rattle.law_frame.specs.pg_run.pg_msg.declared.message.Ends.{Ends}
use Rattle.law_frame.specs.pg_run.pg_msg.declared.message.Message.TheVariants as message
use Rattle.law_frame.specs.pg_run.pg_msg.declared.message.Sent.{Sent}
use Rattle.law_frame.specs.pg_run.pg_names.Names.{NamesValue, own_or_blank}
use Rattle.law_frame.specs.pg_run.pg_register.declared.place.Place.{Place}
use Rattle.law_frame.specs.pg_run.pg_register.Place.{first_stamp, root}
use Rattle.law_frame.specs.pg_run.pg_store.declared.store.Store.{Store}
use Rattle.law_frame.specs.pg_run.pg_store.Store.{is_full}
use Rattle.law_frame.specs.pg_run.pg_store.Together.{IsOver, birth_at}
use Rattle.law_frame.specs.pg_run.Journal.{mail}
use Rattle.law_frame.specs.pg_run.Laws.{AtEach, store_after}
use Rattle.law_frame.specs.pg_run.Run.{World, run}

-- a place with a later stamp than the first: it is not the blank one, nor one that is as old
abbrev pub IsLate : Place → Type 0
IsLate place = is_before first_stamp place.stamp ≡ true

-- the thing has such a place, so it is held
abbrev pub IsPlaced : NamesValue → FileId → Type 0
IsPlaced names file = IsLate (own_or_blank names file).place

-- each full replica but the root's
abbrev pub ArePlaced : Store → Type 0
ArePlaced a = (file : FileId) → is_full a file ≡ true → is_same_file file root ≡ false
    → IsPlaced a.names file

-- FULL REPLICAS HAVE PLACES: whatever is full has a place that some server made
abbrev pub FullPlaced : ℕ → Type 0
FullPlaced servers = (events : List Event)
    → AtEach servers (λ s. ArePlaced (store_after servers events s))

-- a server holds the thing with the birth that the message names, and with a place
pub record IsFilled (a : Store) (ends : Ends) : Type 0 where
  pub held : birth_at a ends.file ≡ Some ends.receiver
  pub placed : is_same_file ends.file root ≡ false → IsPlaced a.names ends.file

-- it is so where the message says that the receiver's replica is full, or the birth is over
abbrev pub SaysFull : World → Sent → Type 0
SaysFull w m = (ends : Ends) → m.packet.message ≡ message.Full ends
    → IsFilled (w.stores m.to) ends ⊎ IsOver (w.stores m.to) ends.file ends.receiver

-- WHAT IS SAID TO BE FULL IS HELD: of all messages ever sent
abbrev pub FullSays : ℕ → Type 0
FullSays servers = (events : List Event)
    → All (SaysFull (run servers events)) (mail (run servers events).journal)
