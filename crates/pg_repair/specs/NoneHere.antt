-- A server that was asked does not hold what it was asked about.
use Rattle.std.specs.Prelude.{ℕ, Bool, ◌==◌, false, if◌then◌else◌, Option, None, Some}
use Rattle.pg_base.specs.declared.id.FileId.{FileId}
use Rattle.pg_pieces.specs.pg_intent.declared.intent.Intent.{Intent}
use Rattle.pg_pieces.specs.pg_intent.declared.key.IntentKey.{IntentKey}
use Rattle.pg_pieces.specs.pg_intent.declared.key.IntentKey.TheVariants as intent_key
use Rattle.pg_pieces.specs.pg_intent.Intent.{target_of}
use Rattle.pg_pieces.specs.pg_intent.Intents.{aimed, intent_at}
use Rattle.pg_pieces.specs.pg_msg.declared.message.Ask.{Ask}
use Rattle.pg_pieces.specs.pg_msg.declared.message.Ask.TheVariants as ask
use Rattle.pg_pieces.specs.pg_msg.declared.work.Work.{Work}
use Rattle.pg_pieces.specs.pg_store.declared.store.Store.{Store}
use Rattle.pg_pieces.specs.pg_store.Beginning.{with_intents}
use Rattle.pg_pieces.specs.pg_store.Servers.{next_target}
use Rattle.pg_pieces.specs.Done.{Done, idle}

-- which intention asked
abbrev pub asking_key : Ask → FileId → FileId → IntentKey
asking_key ask.Seek file child = intent_key.Seek file
asking_key ask.Confirm file child = intent_key.Confirm file child
asking_key ask.Patch file child = intent_key.Patch file child

-- it stands, and asks this server
abbrev pub does_ask : Option Intent → ℕ → Bool
does_ask None server = false
does_ask (Some i) server = target_of i == server

-- the next server is asked where this one was
abbrev pub turn : Store → IntentKey → ℕ → Store
turn store k from =
    if does_ask (intent_at store.intents k) from
    then with_intents store (aimed store.intents k (next_target store from))
    else store

abbrev pub none_here : Store → Ask → FileId → FileId → Work → Done
none_here store what file child work =
    idle (turn store (asking_key what file child) work.from) work
