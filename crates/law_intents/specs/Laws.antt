-- What servers intend along every run.
use Rattle.std.specs.Prelude.{ℕ, ◌≡◌, [], All, List, Some}
use Rattle.law_frame.specs.pg_run.pg_event.declared.event.Event.{Event}
use Rattle.law_frame.specs.pg_run.pg_intent.declared.intent.Intent.{Intent}
use Rattle.law_frame.specs.pg_run.pg_msg.declared.message.Message.{Message}
use Rattle.law_frame.specs.pg_run.pg_msg.declared.work.Work.{Work}
use Rattle.law_frame.specs.pg_run.pg_store.declared.store.Store.{Store}
use Rattle.law_frame.specs.pg_run.pg_pieces.Done.{idle}
use Rattle.law_frame.specs.pg_run.pg_intentions.Beginning.{begin_end}
use Rattle.law_frame.specs.pg_run.pg_intentions.Requests.{request}
use Rattle.law_frame.specs.pg_run.pg_server.Local.{without_sources, without_volatile}
use Rattle.law_frame.specs.pg_run.Laws.{AtEach, store_after}

-- no intention ends or begins, where no place was replaced, no doubtful cell came and no edge was
-- made
abbrev pub StaysIntended : Store → Type 0
StaysIntended a = (work : Work) → work.left ≡ [] → work.unsure ≡ [] → work.linked ≡ []
    → begin_end a work ≡ idle a work

-- also without the wishes, as a restart leaves it, and where nobody is asked for any version, as a
-- tick does
abbrev pub IsStill : Store → Type 0
IsStill a = StaysIntended a
    × (StaysIntended (without_volatile a) × StaysIntended (without_sources a))

abbrev pub NothingIsLeftToDo : ℕ → Type 0
NothingIsLeftToDo servers = (events : List Event)
    → AtEach servers (λ s. IsStill (store_after servers events s))

-- what an intention is about is here, so it has a message
abbrev pub HasRequest : Store → Intent → Type 0
HasRequest a i = (m : Message) × (request a i ≡ Some m)

abbrev pub IntentionsHaveRequests : ℕ → Type 0
IntentionsHaveRequests servers = (events : List Event)
    → AtEach servers (λ s. All (HasRequest (store_after servers events s))
    (store_after servers events s).intents)
