-- Whom a server answers stays so while it works.
use Rattle.std.specs.Prelude.{◌≡◌}
use Rattle.pg_run.specs.pg_call.declared.call.Call.{Call}
use Rattle.pg_run.specs.pg_calls.Calls.{do_call}
use Rattle.pg_run.specs.pg_msg.declared.message.Message.{Message}
use Rattle.pg_run.specs.pg_msg.declared.work.Work.{Work}
use Rattle.pg_run.specs.pg_pieces.Done.{Done}
use Rattle.pg_run.specs.pg_server.Local.{intended, receive}
use Rattle.pg_run.specs.pg_store.declared.store.Store.{Store}

abbrev pub MessagesKeepAskers : Type 0
MessagesKeepAskers = (store : Store) (m : Message) (work : Work)
    → (receive store m work).work.from ≡ work.from

abbrev pub CallsKeepAskers : Type 0
CallsKeepAskers = (store : Store) (call : Call) (work : Work)
    → (do_call store call work).work.from ≡ work.from

abbrev pub IntentionsKeepAskers : Type 0
IntentionsKeepAskers = (done : Done) → (intended done).work.from ≡ done.work.from
