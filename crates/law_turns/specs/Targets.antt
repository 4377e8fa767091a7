-- Who is asked first, in its own words: a member of what is held, and no other that is less.
use Rattle.std.specs.Prelude.{ℕ, ◌≡◌, ◌≢◌, ◌≤◌, ◌<◌, true, Contains, Some}
use Rattle.pg_run.specs.pg_base.declared.id.FileId.{FileId}
use Rattle.pg_run.specs.pg_entries.declared.entry.Entry.{Entry}
use Rattle.pg_run.specs.pg_names.declared.attributes.Attributes.{Attributes}
use Rattle.pg_run.specs.pg_names.Names.{cell_at, own_at}
use Rattle.pg_run.specs.pg_register.declared.flag.Flag.{Flag}
use Rattle.pg_run.specs.pg_replica.declared.replica.Replica.{Replica}
use Rattle.pg_run.specs.pg_store.declared.store.Store.{Store}
use Rattle.pg_run.specs.pg_store.Seen.{removed_of, server_of}
use Rattle.pg_run.specs.pg_store.Store.{replica_at}
use Rattle.pg_run.specs.Golds.{NamesOne}

-- ---- the next behind a server

-- another server of the run, not removed in this server's view
pub record IsLiveOther (b : Store) (server : ℕ) : Type 0 where
  pub least : 1 ≤ server
  pub most : server ≤ b.servers
  pub other : server ≢ server_of b
  pub stays : ¬ (Contains (removed_of b) server)

-- above: where live other servers are above this one, the target is the least of these
-- around: where there are some and none is above, it is the least of all
-- nobody: where there is none, it is 0
pub record IsNextBehind (b : Store) (target : ℕ) : Type 0 where
  pub above : (server : ℕ) → IsLiveOther b server → server_of b < server
      → IsLiveOther b target × (server_of b < target) × (target ≤ server)
  pub around : ((server : ℕ) → IsLiveOther b server → server ≤ server_of b)
      → (server : ℕ) → IsLiveOther b server → IsLiveOther b target × (target ≤ server)
  pub nobody : ((server : ℕ) → ¬ (IsLiveOther b server)) → target ≡ 0

-- who sent the event's message, and where it brought none, 0, the next behind this server
pub record IsTellerOrNext (b : Store) (from target : ℕ) : Type 0 where
  pub teller : from ≢ 0 → target ≡ from
  pub next : from ≡ 0 → IsNextBehind b target

-- the least server that suits, and where none does the next behind this server
pub record IsLeastOrNext (b : Store) (Suits : ℕ → Type 0) (target : ℕ) : Type 0 where
  pub least : (server : ℕ) → Suits server → Suits target × (target ≤ server)
  pub next : ((server : ℕ) → ¬ (Suits server)) → IsNextBehind b target

-- ---- golds

-- the flag is raised, and of another server, not removed in this server's view
pub record IsOtherGold (b : Store) (flag : Flag) : Type 0 where
  pub raised : flag.raised ≡ true
  pub other : flag.server ≢ server_of b
  pub stays : ¬ (Contains (removed_of b) flag.server)

-- such a flag of the server stands among those of the thing, and no edge here names the replica
-- that it is of
pub record IsUnmatched (b : Store) (file : FileId) (server : ℕ) : Type 0 where
  pub own : Attributes
  pub held : own_at b.names file ≡ Some own
  pub flag : Flag
  pub there : Contains own.flags flag
  pub its : flag.server ≡ server
  pub gold : IsOtherGold b flag
  pub apart : (replica : Replica) → replica_at b file ≡ Some replica → ¬ (NamesOne replica flag)

-- such a flag of the server stands in the directory's entry of the child
pub record IsHolder (b : Store) (dir child : FileId) (server : ℕ) : Type 0 where
  pub entry : Entry
  pub noted : cell_at b.names dir child ≡ Some entry
  pub flag : Flag
  pub there : Contains entry.flags flag
  pub its : flag.server ≡ server
  pub gold : IsOtherGold b flag
