-- What a server knows of who is in the run. Specs and proofs above this crate name these words, and
-- not the fields that they read.
use Rattle.std.specs.Prelude.{ℕ, List, length, map}
use Rattle.pg_store.specs.declared.store.Store.{Store}

-- the server whose store this is
abbrev pub server_of : Store → ℕ
server_of store = store.names.server

-- the servers that are removed in its view, the first of them first
abbrev pub removed_of : Store → List ℕ
removed_of store = store.names.removed

-- what a view has more than the one before it: one server less. A server that comes is one
-- constructor more
pub data Change : Type 0 where
  Removal : (server : ℕ) → Change

-- the view of a server: the changes that it knows of, in their order
abbrev pub changes_of : Store → List Change
changes_of store = map Removal (removed_of store)

-- in which view the server is: the number of those changes (`proofs/Counted`)
abbrev pub view_of : Store → ℕ
view_of store = length (removed_of store)
