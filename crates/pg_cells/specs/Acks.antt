-- An answer to a cell comes.
use Rattle.std.specs.Prelude.{ℕ}
use Rattle.pg_edges.specs.declared.key.Key.{Key}
use Rattle.pg_pieces.specs.pg_msg.declared.message.Ends.{Ends}
use Rattle.pg_pieces.specs.pg_msg.declared.work.Work.{Work}
use Rattle.pg_pieces.specs.pg_store.declared.store.Store.{Store}
use Rattle.pg_pieces.specs.pg_store.Store.{acknowledge}
use Rattle.pg_pieces.specs.Done.{Done, link_of}

-- the key goes off the sender's edge where there is that edge, and the tag is the present one there
abbrev pub ack : Store → Ends → Key → ℕ → Work → Done
ack store ends k tag work = record {
  store = acknowledge store ends.file (link_of work.from ends) k tag;
  work = work;
}
