-- Edges that are made and go.
use Rattle.std.specs.Prelude.{ℕ, Bool, if◌then◌else◌, List, [], ◌∷◌, ◌++◌, length, map, Option, None, Some}
use Rattle.std.specs.Map.{keys_of}
use Rattle.pg_base.specs.declared.id.FileId.{FileId}
use Rattle.pg_edges.specs.declared.key.Key.{Key}
use Rattle.pg_edges.specs.declared.key.Key.TheVariants as key
use Rattle.pg_register.specs.declared.flag.Flag.{Flag}
use Rattle.pg_names.specs.Names.{InodeValue, known}
use Rattle.pg_replica.specs.Replica as replica
use Rattle.pg_replica.specs.Replicas.{lists_peer, replicas_linked, replicas_unlinked, takes_link}
use Rattle.pg_store.specs.declared.store.Store.{Store}
use Rattle.pg_store.specs.Store.{content_of, replica_at, replica_of, with_drawn}

-- the peer is listed with a greater birth
abbrev pub knows_later : Store → FileId → ℕ → ℕ → Bool
knows_later store file peer birth = replica.knows_later (replica_of store file) peer birth

-- the peer is listed with this birth, and has acknowledged every key
abbrev pub is_clean : Store → FileId → ℕ → ℕ → Bool
is_clean store file peer birth = replica.is_clean_to (replica_of store file) peer birth

-- ---- the keys of the cells of a replica

abbrev pub flag_keys : List Flag → List Key
flag_keys flags = map (λ flag. key.Flag flag.server) flags

abbrev pub entry_keys : List FileId → List Key
entry_keys children = map (λ child. key.Entry child) children

-- the place, the flags by server, the entries by child
abbrev pub name_keys : Option InodeValue → List Key
name_keys None = []
name_keys (Some x) =
    key.Place ∷ (flag_keys x.own.flags ++ entry_keys (keys_of x.entries))

-- and the heads by stamp
abbrev pub keys : Store → FileId → List Key
keys store file =
    name_keys (known store.names file) ++ replica.keys (content_of store file).heads

-- ---- changes

-- a link to this birth of a peer makes an edge: the thing is held, and the peer is not listed, or
-- with a lesser birth
abbrev pub is_new_link : Store → FileId → ℕ → ℕ → Bool
is_new_link store file peer birth = takes_link (replica_at store file) peer birth

abbrev pub put_link : Store → FileId → ℕ → ℕ → Store
put_link store file peer birth = with_drawn store (length (keys store file))
    (replicas_linked store.replicas file peer birth (keys store file) store.tags
    (replica_at store file))

-- a birth of a peer is linked: on the edge that this makes each key of the replica has a fresh tag
abbrev pub link : Store → FileId → ℕ → ℕ → Store
link store file peer birth =
    if is_new_link store file peer birth then put_link store file peer birth else store

-- there is an edge to this birth of the peer
abbrev pub is_linked : Store → FileId → ℕ → ℕ → Bool
is_linked store file peer birth = lists_peer (replica_at store file) peer birth

-- then it goes
abbrev pub unlink : Store → FileId → ℕ → ℕ → Store
unlink store file peer birth = if is_linked store file peer birth
    then record store {
      replicas = replicas_unlinked store.replicas file peer birth (replica_at store file);
    }
    else store
