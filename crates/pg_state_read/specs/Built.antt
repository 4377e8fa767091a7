-- The store that has the parts of a state, in plain words.
use Rattle.std.specs.Prelude.{◌≡◌, true, map}
use Rattle.pg_base.specs.declared.id.FileId.{FileId}
use Rattle.pg_entries.specs.declared.entry.Entry.{Entry}
use Rattle.pg_names.specs.Names.{InodeValue}
use Rattle.pg_replica.specs.declared.replica.Replica.{Replica}
use Rattle.pg_store.specs.declared.store.Store.{Store}
use Rattle.pg_state_read.specs.Whole.{AreParts, are_in_time}
use Rattle.pg_state_read.specs.declared.parts.Parts.{Parts}
use Rattle.pg_state_fields.specs.declared.replicas.Held.{Held}

-- each entry at its child
abbrev pub at_child : Entry → FileId × Entry
at_child e = (e.child, e)

-- what is known of the names of a thing
abbrev pub inode_of : Held → InodeValue
inode_of h = record { full = h.full; own = h.own; entries = map at_child h.entries }

abbrev pub named : Held → FileId × InodeValue
named h = (h.file, inode_of h)

abbrev pub replicated : Held → FileId × Replica
replicated h = (h.file, h.replica)

abbrev pub plain_store : Parts → Store
plain_store p = record {
  servers = p.servers.servers;
  tags = p.counters.tags;
  files = p.counters.files;
  births = p.counters.births;
  names = record {
    server = p.servers.server;
    last = p.counters.last;
    removed = p.servers.removed;
    held = map named p.held;
  };
  replicas = map replicated p.held;
  announced = p.waiting.announced;
  intents = p.waiting.intents;
  wishes = p.waiting.wishes;
}

-- a store that has the parts of a state, each as it can be read
pub record IsWholeState (store : Store) : Type 0 where
  pub parts : Parts
  pub whole : AreParts parts
  pub time : are_in_time parts ≡ true
  pub made : plain_store parts ≡ store
