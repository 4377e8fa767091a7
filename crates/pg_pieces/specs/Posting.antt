-- Messages to other servers.
use Rattle.std.specs.Prelude.{ℕ}
use Rattle.pg_store.specs.pg_house.pg_msg.declared.message.Message.{Message}
use Rattle.pg_store.specs.pg_house.pg_msg.declared.message.Sent.{Sent}
use Rattle.pg_store.specs.pg_house.pg_msg.declared.work.Work.{Work}
use Rattle.pg_store.specs.pg_house.pg_msg.Work.{with_sent}
use Rattle.pg_store.specs.declared.store.Store.{Store}
use Rattle.pg_store.specs.Seen.{server_of, view_of}

-- a message on its way to a server, from this one and in its view
abbrev pub sent_to : Store → ℕ → Message → Sent
sent_to store to m = record {
  to = to;
  packet = record { from = server_of store; view = view_of store; message = m };
}

-- it is sent, behind those that are sent already
abbrev pub post : Store → ℕ → Message → Work → Work
post store to m work = with_sent work (sent_to store to m)

-- it answers the message that came
abbrev pub reply : Store → Message → Work → Work
reply store m work = post store work.from m work
