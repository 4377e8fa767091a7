-- What a handler leaves.
use Rattle.std.specs.Prelude.{ℕ}
use Rattle.pg_store.specs.pg_replica.declared.link.Link.{Link}
use Rattle.pg_store.specs.pg_house.pg_msg.declared.message.Ends.{Ends}
use Rattle.pg_store.specs.pg_house.pg_msg.declared.work.Work.{Work}
use Rattle.pg_store.specs.declared.store.Store.{Store}

-- what the server holds then, and what comes of the event so far
pub record Done : Type 0 where
  pub store : Store
  pub work : Work

-- nothing is done
abbrev pub idle : Store → Work → Done
idle store work = record { store = store; work = work }

-- the edge of a message from a server, as its receiver has it
abbrev pub link_of : ℕ → Ends → Link
link_of from ends = record { own = ends.receiver; peer = from; birth = ends.sender }
