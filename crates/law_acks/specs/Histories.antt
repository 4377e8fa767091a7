-- What is known of contents in all runs, and what follows for the replicas of servers.
use Rattle.std.specs.Prelude.{ℕ, ◌≡◌, List, Some}
use Rattle.pg_run.specs.pg_base.declared.id.FileId.{FileId}
use Rattle.pg_run.specs.pg_event.declared.event.Event.{Event}
use Rattle.pg_run.specs.theory_flood_pieces.Histories.{IsOfHistory}
use Rattle.pg_run.specs.pg_replica.declared.replica.Replica.{Replica}
use Rattle.pg_run.specs.pg_store.Store.{replica_at}
use Rattle.pg_run.specs.Histories.{CarriesHistory, MakesHistories, StateIsItsHeads}
use Rattle.pg_run.specs.Journal.{versions}
use Rattle.pg_run.specs.Laws.{AtEach, HoldsWhatItTook, store_after}
use Rattle.pg_run.specs.Run.{World, run}
use Rattle.pg_run.specs.State.{policy_made}

-- versions are histories, messages carry versions of them, and what a replica holds are the heads
-- of what it took
pub record HaveHistories (servers : ℕ) : Type 0 where
  pub made : MakesHistories servers
  pub carried : CarriesHistory servers
  pub heads : StateIsItsHeads servers
  pub held : HoldsWhatItTook servers

-- the heads of a replica are versions of its file's history, and it has the file's policy
pub record IsContentOf (w : World) (file : FileId) (x : Replica) : Type 0 where
  pub history : IsOfHistory (versions file w.history) x.content
  pub policy : x.content.policy ≡ policy_made file w.journal

abbrev pub HoldHistories : ℕ → Type 0
HoldHistories servers = (events : List Event) → AtEach servers (λ s.
    (file : FileId) (x : Replica) → replica_at (store_after servers events s) file ≡ Some x
    → IsContentOf (run servers events) file x)
