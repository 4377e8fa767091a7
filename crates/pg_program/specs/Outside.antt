-- What a node and a call do on a net, a disk and a clock.
use Rattle.std.specs.Prelude.{ℕ, ◌≡◌, ◌+◌, ◌⊎◌, List, [], ◌∷◌, ◌++◌, take, None}
use Rattle.std.specs.declared.option.Option.{Option}
use Rattle.pg_client.specs.Asks as client
use Rattle.pg_command.specs.declared.command.Command.{Command}
use Rattle.pg_command.specs.declared.command.Command.TheVariants.{Replay, Make, Soak, Node, Call, Help}
use Rattle.pg_disk.specs.Disk.{IsImage, IsSettled}
use Rattle.pg_disk.specs.Moments.{LeavesOnly}
use Rattle.pg_disk.specs.Told.{Told as DiskTold, given_of, steps_of}
use Rattle.pg_event.specs.declared.status.Status.{Status}
use Rattle.pg_event.specs.declared.status.Status.TheVariants as status
use Rattle.pg_host.specs.Causes.{IsFault}
pub use Rattle.pg_host.specs.Causes.{IsEnd}
use Rattle.pg_host.specs.Entries.{entries_for}
use Rattle.pg_host.specs.Host.{AreRead, IsAnswered, Served}
use Rattle.pg_host.specs.declared.asking.Asked.{Asked}
use Rattle.pg_host.specs.Logs.{IsFound, Old, OpensToSome, begin_entry, begun, is_empty}
use Rattle.pg_host.specs.Slots.{Agree, FilesLeave}
use Rattle.pg_host.specs.Sends.{sends}
use Rattle.pg_log.specs.Bytes.{OpensTo}
use Rattle.pg_net.specs.Clock.{Told as ClockTold}
use Rattle.pg_net.specs.Net.{Told as NetTold}
use Rattle.pg_saving.specs.declared.loading.Checkpoint.{Checkpoint}

-- the files of this name are spoken of from now on
abbrev pub choosing : List ℕ → DiskTold → DiskTold
choosing name told = record { chosen = name; history = told.history }

-- nothing was done, for want of memory or for a fault of the disk
pub record IsIdle (dt : Type 0) (s : Status) (n0 n1 : NetTold) (t0 t1 : ℕ) (c0 c1 : ClockTold)
    (d0 d1 : DiskTold) : Type 0 where
  pub ends : (s ≡ status.OutOfMemory) ⊎ (s ≡ status.DiskFault)
  pub net : n1 ≡ n0
  pub takes : t1 ≡ t0
  pub clock : c1 ≡ c0
  pub disk : dt → d1 ≡ d0

-- the files of this name were chosen, and then it was served
abbrev pub ServesNamed : (nt ct dt : Type 0) (server servers port turns : ℕ) → Status → NetTold
    → NetTold → ℕ → ℕ → ClockTold → ClockTold → List ℕ → DiskTold → DiskTold → Type 0
ServesNamed nt ct dt server servers port turns s n0 n1 t0 t1 c0 c1 name d0 d1 =
    (chosen : DiskTold) × (dt → chosen ≡ choosing name d0)
    × Served nt ct dt server servers port turns s n0 n1 t0 t1 c0 c1 chosen d1

-- A node serves over the files of its name, or nothing was done; and a call asks a server. Each
-- server's port stands so far behind the one of the words. `nt`, `ct` and `dt` say that net, clock
-- and disk tell; before and after are given: what the net told, how many takes answered, what
-- clock and disk told, and what the sink held.
abbrev pub Does : (nt ct dt : Type 0) → Command → Status → NetTold → NetTold → ℕ → ℕ → ClockTold
    → ClockTold → DiskTold → DiskTold → Option (List ℕ) → Option (List ℕ) → Type 0
Does nt ct dt (Replay metered) s n0 n1 t0 t1 c0 c1 d0 d1 k0 k1 = Unit {0}
Does nt ct dt (Make numbers) s n0 n1 t0 t1 c0 c1 d0 d1 k0 k1 = Unit {0}
Does nt ct dt (Soak numbers) s n0 n1 t0 t1 c0 c1 d0 d1 k0 k1 = Unit {0}
Does nt ct dt (Node server servers port name turns) s n0 n1 t0 t1 c0 c1 d0 d1 k0 k1 =
    IsIdle dt s n0 n1 t0 t1 c0 c1 d0 d1
    ⊎ ServesNamed nt ct dt server servers port turns s n0 n1 t0 t1 c0 c1 name d0 d1
Does nt ct dt (Call server port request) s n0 n1 t0 t1 c0 c1 d0 d1 k0 k1 =
    client.Asks nt (port + server) request s n0 n1 t0 t1 k0 k1
Does nt ct dt (Help help) s n0 n1 t0 t1 c0 c1 d0 d1 k0 k1 = Unit {0}

-- ---- a crash

-- THE FIFTH PROMISE. The log of this name was good as the node began, and a crash would have left
-- just it. At each moment since, within a write too, a crash leaves a log with all old entries and
-- the first of what the node appended: the entry of its begin, and those of its inputs. As it
-- ends, with whatever status, a crash leaves the entry of each input of which a packet was sent.
-- Where it took any, it went on with the log that it found; and the entries are read again as the
-- inputs, so who starts on what a crash left takes up these.
--
-- What it began with is fixed by what it found: where the slots of the name load to a checkpoint
-- that is usable over its log, whoever made it, it folded the entries behind that on it, and else
-- all. Where the slots agreed with the log, this is the fold of the log; and then they agree with
-- it at each moment since, whatever a crash leaves of the three files.
pub record Survives (nt dt : Type 0) (server servers port : ℕ) (name : List ℕ) (n0 n1 : NetTold)
    (d0 d1 : DiskTold) : Type 0 where
  pub old : Old
  pub checkpoint : Option Checkpoint
  pub inputs : List Asked
  pub is_old : (inputs ≡ []) ⊎ (dt → IsFound server servers checkpoint old
      (given_of name 0 d0.history) (given_of name 1 d0.history) (given_of name 2 d0.history))
  pub folds : dt → Agree server servers (given_of name 0 d0.history)
      (given_of name 1 d0.history) (given_of name 2 d0.history)
      → begun server servers checkpoint old ≡ begun server servers None old
  pub read : AreRead inputs
  pub leaves : dt → IsSettled (steps_of name 0 d0.history) → (entries : List (List ℕ))
      → OpensTo (given_of name 0 d0.history) entries
      → LeavesOnly name 0 d0.history d1.history (OpensToSome entries
      (begin_entry server servers (is_empty entries) ∷ entries_for inputs))
  pub kept : nt → dt → IsSettled (steps_of name 0 d0.history) → (entries : List (List ℕ))
      → OpensTo (given_of name 0 d0.history) entries
      → (image : List ℕ) → IsImage (steps_of name 0 d1.history) image
      → (n1.sent ≡ n0.sent) ⊎ ((k : ℕ)
      × OpensTo image (entries ++ begin_entry server servers (is_empty entries)
      ∷ entries_for (take k inputs))
      × ((n : ℕ) × (n1.sent ≡ n0.sent
      ++ take n (sends port (begun server servers checkpoint old) (take k inputs)))))
  pub agree : dt → IsSettled (steps_of name 0 d0.history) → IsSettled (steps_of name 1 d0.history)
      → IsSettled (steps_of name 2 d0.history) → (entries : List (List ℕ))
      → OpensTo (given_of name 0 d0.history) entries
      → Agree server servers (given_of name 0 d0.history)
      (given_of name 1 d0.history) (given_of name 2 d0.history)
      → FilesLeave name d0.history d1.history (Agree server servers)

abbrev pub IsSafe : (nt dt : Type 0) → Command → NetTold → NetTold → DiskTold → DiskTold → Type 0
IsSafe nt dt (Replay metered) n0 n1 d0 d1 = Unit {0}
IsSafe nt dt (Make numbers) n0 n1 d0 d1 = Unit {0}
IsSafe nt dt (Soak numbers) n0 n1 d0 d1 = Unit {0}
IsSafe nt dt (Node server servers port name turns) n0 n1 d0 d1 =
    Survives nt dt server servers port name n0 n1 d0 d1
IsSafe nt dt (Call server port request) n0 n1 d0 d1 = Unit {0}
IsSafe nt dt (Help help) n0 n1 d0 d1 = Unit {0}

-- why a node goes on with the log of its name, or does not, and back: but for memory and for calls
-- that failed, which were so many before and are so many now
abbrev pub Answers : Command → (n0 n1 d0 d1 : ℕ) → DiskTold → Status → Type 0
Answers (Replay metered) n0 n1 d0 d1 told s = Unit {0}
Answers (Make numbers) n0 n1 d0 d1 told s = Unit {0}
Answers (Soak numbers) n0 n1 d0 d1 told s = Unit {0}
Answers (Node server servers port name turns) n0 n1 d0 d1 told s =
    IsAnswered server servers n0 n1 d0 d1 (given_of name 0 told.history) s
Answers (Call server port request) n0 n1 d0 d1 told s = Unit {0}
Answers (Help help) n0 n1 d0 d1 told s = Unit {0}
