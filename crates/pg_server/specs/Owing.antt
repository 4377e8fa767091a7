-- What a server owes: its intentions, the keys that peers have not acknowledged, and the places
-- that it holds back. A wish is owed to nobody.
use Rattle.std.specs.Prelude.{ℕ, List, [], ◌++◌, map, Option, None, Some}
use Rattle.std.specs.List.{flat_map}
use Rattle.pg_base.specs.declared.id.FileId.{FileId}
use Rattle.pg_edges.specs.declared.edge.Edge.{Edge}
use Rattle.pg_event.specs.declared.quiet.OwedIntent.{OwedIntent}
use Rattle.pg_event.specs.declared.quiet.OwedKey.{OwedKey}
use Rattle.pg_event.specs.declared.quiet.Owing.{Owing}
use Rattle.pg_event.specs.declared.quiet.Owing.TheVariants as owing
use Rattle.pg_calls.specs.pg_house.Holding.{held_back}
use Rattle.pg_calls.specs.pg_intent.declared.intent.Intent.{Intent}
use Rattle.pg_calls.specs.pg_intent.Intent.{child_of, file_of, kind_of, target_of}
use Rattle.pg_calls.specs.pg_replica.declared.replica.Replica.{Replica}
use Rattle.pg_calls.specs.pg_store.declared.store.Store.{Store}
use Rattle.pg_calls.specs.pg_store.Seen.{server_of}

-- ---- intentions

-- an intention, as it is told: its kind, what it is about, and which server is asked, 0 for none
abbrev pub intent_owed : ℕ → Intent → OwedIntent
intent_owed server i = record {
  server = server;
  kind = kind_of i;
  file = file_of i;
  child = child_of i;
  target = target_of i;
}

-- all of a server, in the order in which they began
abbrev pub owed_intents : Store → List OwedIntent
owed_intents store = map (intent_owed (server_of store)) store.intents

-- ---- keys

-- the unacknowledged keys of an edge, of a replica, of a server: by file, peer and key
abbrev pub edge_owes : ℕ → FileId → Edge → List OwedKey
edge_owes server file e =
    map (λ k. record { server = server; file = file; peer = e.peer; key = k.0 }) e.keys

abbrev pub replica_owes : ℕ → FileId × Replica → List OwedKey
replica_owes server r = flat_map (edge_owes server r.0) r.1.edges

-- the same, where the file is held
abbrev pub file_owes : ℕ → FileId → Option Replica → List OwedKey
file_owes server file None = []
file_owes server file (Some x) = replica_owes server (file, x)

abbrev pub owed_keys : Store → List OwedKey
owed_keys store = flat_map (replica_owes (server_of store)) store.replicas

-- ---- places held back

-- by id
abbrev pub held_at : ℕ → FileId → Owing
held_at server id = owing.HeldBack server id

abbrev pub owed_places : Store → List Owing
owed_places store = map (held_at (server_of store)) (held_back store.names)

-- ---- all

-- first intentions, then keys, then places held back
abbrev pub owed : Store → List Owing
owed store = map owing.Intent (owed_intents store)
    ++ (map owing.Key (owed_keys store) ++ owed_places store)
