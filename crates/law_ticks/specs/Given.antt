-- What other laws say of every run, on which those of ticks and restarts rest.
use Rattle.std.specs.Prelude.{ℕ, ◌≡◌, [], All, List, Some}
use Rattle.std.specs.List.Sorted.{IsStrictlySortedBy}
use Rattle.std.specs.Map.{keys_of}
use Rattle.law_frame.specs.pg_run.pg_base.Id.{file_cmp}
use Rattle.law_frame.specs.pg_run.pg_event.declared.event.Event.{Event}
use Rattle.law_frame.specs.pg_run.pg_house.Facts.{AreOrdered}
use Rattle.law_frame.specs.pg_run.pg_msg.declared.message.Message.{Message}
use Rattle.law_frame.specs.pg_run.pg_msg.declared.work.Work.{Work}
use Rattle.law_frame.specs.pg_run.pg_store.declared.store.Store.{Store}
use Rattle.law_frame.specs.pg_run.pg_pieces.Done.{idle}
use Rattle.law_frame.specs.pg_run.theory_flood_pieces.Whole.{IsWhole}
use Rattle.law_frame.specs.pg_run.pg_intentions.Beginning.{begin_end}
use Rattle.law_frame.specs.pg_run.pg_intentions.Requests.{request}
use Rattle.law_frame.specs.pg_run.pg_server.Local.{without_sources, without_volatile}
use Rattle.law_frame.specs.pg_run.Golds.{FullReplicasSeeGold}
use Rattle.law_frame.specs.pg_run.Laws.{AtEach, HouseIsInOrder, names_after, store_after}

-- entries are by child
abbrev pub NamesAreOrdered : ℕ → Type 0
NamesAreOrdered servers = (events : List Event)
    → AtEach servers (λ s. AreOrdered (names_after servers events s))

-- things are by id
abbrev pub ThingsAreOrdered : ℕ → Type 0
ThingsAreOrdered servers = (events : List Event)
    → AtEach servers (λ s. IsStrictlySortedBy file_cmp
    (keys_of (names_after servers events s).held))

-- no intention ends or begins, where no place was replaced, no doubtful cell came and no edge was
-- made
abbrev pub StaysIntended : Store → Type 0
StaysIntended a = (work : Work) → work.left ≡ [] → work.unsure ≡ [] → work.linked ≡ []
    → begin_end a work ≡ idle a work

-- what an intention is about is here, so it has a message
abbrev pub HaveRequests : Store → Type 0
HaveRequests a = All (λ i. (m : Message) × (request a i ≡ Some m)) a.intents

-- intentions are as what is held asks, also without wishes, and where nobody is asked for a version
pub record IntentionsAreStill (servers : ℕ) : Type 0 where
  pub still : (events : List Event)
      → AtEach servers (λ s. StaysIntended (store_after servers events s))
  pub still_without : (events : List Event)
      → AtEach servers (λ s. StaysIntended (without_volatile (store_after servers events s)))
  pub still_released : (events : List Event)
      → AtEach servers (λ s. StaysIntended (without_sources (store_after servers events s)))
  pub asked : (events : List Event)
      → AtEach servers (λ s. HaveRequests (store_after servers events s))

-- each server of a run is whole
abbrev pub ServersAreWhole : ℕ → Type 0
ServersAreWhole servers = (events : List Event)
    → AtEach servers (λ s. IsWhole servers s (store_after servers events s))

pub record TidinessIsGiven (servers : ℕ) : Type 0 where
  pub order : HouseIsInOrder servers
  pub ordered : NamesAreOrdered servers
  pub things : ThingsAreOrdered servers
  pub golds : FullReplicasSeeGold servers
  pub intends : IntentionsAreStill servers
  pub whole : ServersAreWhole servers
