-- Runs by which the definitions are tried: one in which a thing is kept though a server is removed,
-- one in which the one gold replica of each of two things goes between two moments, and one in
-- which replicas are parted by such a loss.
use Rattle.std.specs.Prelude.{ℕ, ◌≡◌, ◌+◌, zero, suc, List, [], ◌∷◌, ◌++◌}
use Rattle.pg_run.specs.pg_base.declared.id.FileId.{FileId}
use Rattle.pg_run.specs.pg_base.declared.id.Kind.TheVariants.{Dir, File}
use Rattle.pg_run.specs.pg_base.declared.policy.Policy.TheVariants.{Last}
use Rattle.pg_run.specs.pg_call.declared.call.Call.TheVariants.{Create, Forget, Giveup, Ls, Mkdir, Read, Rename, Rmdir}
use Rattle.pg_run.specs.pg_event.declared.event.Event.{Event}
use Rattle.pg_run.specs.pg_event.declared.event.Event.TheVariants.{Call, Deliver, Lose, Remove, Tick}
use Rattle.pg_run.specs.pg_names.Names.{own_at}
use Rattle.pg_run.specs.pg_register.Place.{root}
use Rattle.pg_run.specs.Graphs.{AreConnected, IsConnected}
use Rattle.pg_run.specs.Quiet.{IsQuiet}
use Rattle.pg_run.specs.Run.{run}
use Rattle.law_repair.specs.Kept.{IsKept}

-- ---- a server is removed, and the others give it up

abbrev pub removal : List Event
removal = Remove 3 ∷ Call 1 10 (Giveup 1 3) ∷ Call 2 10 (Giveup 1 3) ∷ []

-- three servers: all is quiet behind it, and the root was kept
pub record RemovalKeepsTheRoot : Type 0 where
  pub quiet : IsQuiet 3 (run 3 removal)
  pub kept : IsKept 3 root removal

-- ---- a file and a directory that were on one server alone

abbrev pub lost_file : FileId
lost_file = record { kind = File; server = 1; number = 1 }

abbrev pub lost_dir : FileId
lost_dir = record { kind = Dir; server = 1; number = 2 }

-- they are made, as `/y` and `/d`, and the other server hears of both by their entries
abbrev pub made : List Event
made = Call 1 10 (Create (47 ∷ 121 ∷ []) Last) ∷ Call 1 12 (Mkdir (47 ∷ 100 ∷ [])) ∷ []

abbrev pub heard : List Event
heard = Deliver 1 ∷ Deliver 1 ∷ Deliver 1 ∷ Deliver 1 ∷ Deliver 1 ∷ Deliver 1 ∷ Deliver 1
    ∷ Deliver 1 ∷ []

-- their server goes, the other gives it up and asks in vain, until it is told to forget them
abbrev pub forgotten : List Event
forgotten = Remove 1 ∷ Call 2 21 (Giveup 1 1) ∷ Tick 2 30 0 ∷ Tick 2 30 0
    ∷ Call 2 31 (Read (47 ∷ 121 ∷ []) 0 1) ∷ Call 2 32 (Forget lost_file)
    ∷ Call 2 33 (Forget lost_dir) ∷ []

-- the file's name is gone, and the directory, which began anew, is removed
abbrev pub looked_at : List Event
looked_at = Call 2 34 (Ls (47 ∷ []) 0) ∷ Call 2 35 (Rmdir (47 ∷ 100 ∷ []))
    ∷ Call 2 36 (Giveup 1 1) ∷ Deliver 1 ∷ []

-- the events of `what-was-lost-is-forgotten` among the examples
abbrev pub loss : List Event
loss = ((made ++ heard) ++ forgotten) ++ looked_at

-- two servers: all is quiet behind it, and neither the file nor the directory was kept
pub record LossIsNotKept : Type 0 where
  pub quiet : IsQuiet 2 (run 2 loss)
  pub file : IsKept 2 lost_file loss → ⊥
  pub directory : IsKept 2 lost_dir loss → ⊥

-- ---- a file that moves while its gold replicas go

abbrev pub moved : FileId
moved = record { kind = File; server = 1; number = 3 }

-- two directories, `/d` and `/e`, and the file `/e/x`: one of the other servers hears of each
-- directory
abbrev pub begun : List Event
begun = Call 1 10 (Mkdir (47 ∷ 100 ∷ [])) ∷ Call 1 12 (Mkdir (47 ∷ 101 ∷ []))
    ∷ Call 1 14 (Create (47 ∷ 101 ∷ 47 ∷ 120 ∷ []) Last) ∷ Deliver 1 ∷ Deliver 3 ∷ []

-- what is asked for comes: a Fetch, a Grant and three cells, their answers, a Fetch again and a
-- Full
abbrev pub fetched : ℕ → List Event
fetched n = Deliver n ∷ Deliver n ∷ Deliver n ∷ Deliver n ∷ Deliver n
    ∷ Deliver (n + 3) ∷ Deliver (n + 3) ∷ Deliver (n + 3) ∷ Deliver (n + 2) ∷ Deliver (n + 3) ∷ []

-- the third server gets `/e` and the file
abbrev pub got_there : List Event
got_there = (Call 3 20 (Ls (47 ∷ 101 ∷ []) 0) ∷ fetched 9)
    ++ (Call 3 21 (Read (47 ∷ 101 ∷ 47 ∷ 120 ∷ []) 0 1) ∷ fetched 15)

-- it moves to `/d`, and the second server gets `/d` and the file
abbrev pub moved_on : List Event
moved_on = Call 1 30 (Rename (47 ∷ 101 ∷ 47 ∷ 120 ∷ []) (47 ∷ 100 ∷ 47 ∷ 120 ∷ []))
    ∷ (Call 2 31 (Ls (47 ∷ 100 ∷ []) 0) ∷ fetched 22)
    ++ (Call 2 32 (Read (47 ∷ 100 ∷ 47 ∷ 120 ∷ []) 0 1) ∷ fetched 28)

-- all that is under way is lost
abbrev pub lost_all : ℕ → List Event
lost_all zero = []
lost_all (suc k) = Lose 1 ∷ lost_all k

-- the first server goes, both others give it up, and tell each other of the directories
abbrev pub given_up : List Event
given_up = Remove 1 ∷ Call 2 40 (Giveup 1 1) ∷ Call 3 40 (Giveup 1 1) ∷ Tick 2 50 0 ∷ Tick 3 50 0
    ∷ heard

-- the events of `a-file-in-two-directories` among the examples
abbrev pub parting : List Event
parting = begun ++ (got_there ++ (moved_on ++ (lost_all 32 ++ given_up)))

-- all is quiet behind these events, and the thing is not connected: two servers hold it with other
-- places
pub record ArePartedBy (servers : ℕ) (file : FileId) (events : List Event) : Type 0 where
  pub quiet : IsQuiet servers (run servers events)
  pub apart : IsConnected servers (run servers events) file → ⊥
  pub here : ℕ
  pub there : ℕ
  pub differ : own_at ((run servers events).stores here).names file
      ≡ own_at ((run servers events).stores there).names file → ⊥

-- so it is with the file, of which no gold replica stayed: that a thing was kept is a premise that
-- is needed
abbrev pub LossParts : Type 0
LossParts = ArePartedBy 3 moved parting

-- ---- the start

-- where the start is quiet, the graphs of all things are connected there
abbrev pub StartIsConnected : ℕ → Type 0
StartIsConnected servers = IsQuiet servers (run servers []) → AreConnected servers (run servers [])
